use Rattle.disk_change.proofs.Differing.{only_what_differs as law}
use Rattle.disk_change.proofs.laws.only_what_differs_is_written.Goals as goal

pub returns : goal.returns
returns c = law
