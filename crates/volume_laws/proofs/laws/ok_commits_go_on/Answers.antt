use Rattle.volume_laws.proofs.Commits.{ok_commits_go_on as law}
use Rattle.volume_laws.proofs.laws.ok_commits_go_on.Goals as goal

pub returns : goal.returns
returns g c = law (g.D.Disk.view c.args.disk.now) (g.D.Disk.view c.args.later.now)
