use Rattle.crash_laws.proofs.Begins.{runs_begin as law}
use Rattle.crash_laws.proofs.laws.runs_begin.Goals as goal

pub returns : goal.returns
returns g c = law (g.D.Disk.view c.args.disk.now)
