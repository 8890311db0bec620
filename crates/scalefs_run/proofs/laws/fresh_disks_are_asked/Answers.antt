use Rattle.scalefs_run.proofs.Complete.{fresh_disks_are_asked, fresh_disks_count_on}
use Rattle.scalefs_run.proofs.laws.fresh_disks_are_asked.Goals as goal

pub returns : goal.returns
returns c = record { asked = fresh_disks_are_asked; count_on = fresh_disks_count_on }
