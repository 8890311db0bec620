use Rattle.crash_laws.proofs.Ends.{runs_read_back as law}
use Rattle.crash_laws.proofs.laws.runs_read_back.Goals as goal

pub returns : goal.returns
returns g c = law (g.D.Disk.view c.args.disk.now)
