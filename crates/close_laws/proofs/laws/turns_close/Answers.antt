use Rattle.close_laws.proofs.Mounts.{turns_close as law}
use Rattle.close_laws.proofs.laws.turns_close.Goals as goal

pub returns : goal.returns
returns g c = law (g.D.Disk.view c.args.disk.now)
