use Rattle.crash_laws.proofs.Untouched.{past_is_kept as law}
use Rattle.crash_laws.proofs.laws.past_is_kept.Goals as goal

pub returns : goal.returns
returns g c = law (g.D.Disk.view c.args.disk.now) (g.D.Disk.view c.args.later.now)
