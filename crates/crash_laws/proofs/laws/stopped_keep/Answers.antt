use Rattle.crash_laws.proofs.Steps.{stopped_keep as law}
use Rattle.crash_laws.proofs.laws.stopped_keep.Goals as goal

pub returns : goal.returns
returns g c = law (g.D.Disk.view c.args.disk.now)
