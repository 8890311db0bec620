use Rattle.journal_set.proofs.TiedCommits.{reservings_tell as law}
use Rattle.journal_set.proofs.laws.reservings_tell.Goals as goal

pub returns : goal.returns
returns c = law
