use Rattle.volume_laws.proofs.Commits.{empty_commits_write as law}
use Rattle.volume_laws.proofs.laws.empty_commits_write.Goals as goal

pub returns : goal.returns
returns g c = law (g.D.Disk.view c.args.disk.now)
