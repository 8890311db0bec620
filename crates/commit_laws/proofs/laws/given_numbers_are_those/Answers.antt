use Rattle.commit_laws.proofs.NumbersGiven.{given_numbers_are_those as law}
use Rattle.commit_laws.proofs.laws.given_numbers_are_those.Goals as goal

pub returns : goal.returns
returns c = law
