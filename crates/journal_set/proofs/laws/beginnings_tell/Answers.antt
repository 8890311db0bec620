use Rattle.journal_set.proofs.TiedCommits.{beginnings_tell as law}
use Rattle.journal_set.proofs.laws.beginnings_tell.Goals as goal

pub returns : goal.returns
returns c = law
