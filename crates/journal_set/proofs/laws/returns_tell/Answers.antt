use Rattle.journal_set.proofs.TiedCommits.{returns_tell as law}
use Rattle.journal_set.proofs.laws.returns_tell.Goals as goal

pub returns : goal.returns
returns c = law
