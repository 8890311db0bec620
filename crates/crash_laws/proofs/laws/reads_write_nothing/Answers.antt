use Rattle.crash_laws.proofs.Untouched.{reads_write_nothing as law}
use Rattle.crash_laws.proofs.laws.reads_write_nothing.Goals as goal

pub returns : goal.returns
returns g c = law (g.D.Disk.view c.args.disk.now) (g.D.Disk.view c.args.later.now)
