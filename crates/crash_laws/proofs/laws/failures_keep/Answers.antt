use Rattle.crash_laws.proofs.Commits.{failures_keep as law}
use Rattle.crash_laws.proofs.laws.failures_keep.Goals as goal

pub returns : goal.returns
returns g c = law (g.D.Disk.view c.args.disk.now) (g.D.Disk.view c.args.later.now)
