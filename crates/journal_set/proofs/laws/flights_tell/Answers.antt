use Rattle.journal_set.proofs.TiedCommits.{flights_tell as law}
use Rattle.journal_set.proofs.laws.flights_tell.Goals as goal

pub returns : goal.returns
returns c = law
