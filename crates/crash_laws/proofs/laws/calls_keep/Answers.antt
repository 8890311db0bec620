use Rattle.crash_laws.proofs.Steps.{calls_keep as law}
use Rattle.crash_laws.proofs.laws.calls_keep.Goals as goal

pub returns : goal.returns
returns g c = law (g.D.Disk.view c.args.disk.now) (g.D.Disk.view c.args.later.now)
