use Rattle.turn_ties.proofs.Needs.{needs_are_the_books as law}
use Rattle.turn_ties.proofs.laws.needs_are_the_books.Goals as goal

pub returns : goal.returns
returns c = law
