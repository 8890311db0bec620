use Rattle.commit_laws.proofs.CommitMade.{changes_make_commits as law}
use Rattle.commit_laws.proofs.laws.changes_make_commits.Goals as goal

pub returns : goal.returns
returns c = law
