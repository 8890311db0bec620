use Rattle.crash_laws.proofs.Untouched.{nothing_is_a_commit as law}
use Rattle.crash_laws.proofs.laws.nothing_is_a_commit.Goals as goal

pub returns : goal.returns
returns g c = law (g.D.Disk.view c.args.disk.now) (g.D.Disk.view c.args.later.now)
