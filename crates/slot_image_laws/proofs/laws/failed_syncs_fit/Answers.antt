use Rattle.slot_image_laws.proofs.Running.{failed_syncs_fit as law}
use Rattle.slot_image_laws.proofs.laws.failed_syncs_fit.Goals as goal

pub returns : goal.returns
returns g c = law (g.D.Disk.view c.args.old.now) (g.D.Disk.view c.args.new.now)
