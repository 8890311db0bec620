use Rattle.end_laws.proofs.Rests.{closed_disks_began as law}
use Rattle.end_laws.proofs.laws.closed_disks_began.Goals as goal

pub returns : goal.returns
returns g c = law g.D.Disk.view
