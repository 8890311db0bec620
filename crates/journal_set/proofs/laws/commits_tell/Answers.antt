use Rattle.journal_set.proofs.TiedCommits.{commits_tell as law}
use Rattle.journal_set.proofs.laws.commits_tell.Goals as goal

pub returns : goal.returns
returns c = law
