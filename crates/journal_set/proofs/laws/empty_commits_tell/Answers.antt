use Rattle.journal_set.proofs.TiedCommits.{empty_commits_tell as law}
use Rattle.journal_set.proofs.laws.empty_commits_tell.Goals as goal

pub returns : goal.returns
returns c = law
