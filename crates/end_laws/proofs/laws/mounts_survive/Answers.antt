use Rattle.end_laws.proofs.Survives.{mounts_survive as law}
use Rattle.end_laws.proofs.laws.mounts_survive.Goals as goal

pub returns : goal.returns
returns g c = law _ (g.D.Disk.view c.args.disk.now)
