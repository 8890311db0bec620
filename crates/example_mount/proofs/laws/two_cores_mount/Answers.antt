use Rattle.example_mount.proofs.Mounted.{two_cores_mount as law}
use Rattle.example_mount.proofs.laws.two_cores_mount.Goals as goal

pub returns : goal.returns
returns g c = law _
