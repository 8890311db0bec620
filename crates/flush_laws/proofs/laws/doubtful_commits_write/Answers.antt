use Rattle.flush_laws.proofs.Carried.{doubtful_commits_write as law}
use Rattle.flush_laws.proofs.laws.doubtful_commits_write.Goals as goal

pub returns : goal.returns
returns g c = law (g.D.Disk.view c.args.disk.now) (g.D.Disk.view c.args.later.now)
