use Rattle.volume_laws.proofs.Told.{told_mounts_leave as law}
use Rattle.volume_laws.proofs.laws.told_mounts_leave.Goals as goal

pub returns : goal.returns
returns g c = law (g.D.Disk.view c.args.disk.now) (g.D.Disk.view c.args.later.now)
