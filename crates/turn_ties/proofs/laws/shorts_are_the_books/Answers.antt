use Rattle.turn_ties.proofs.Fits.{shorts_are_the_books as law}
use Rattle.turn_ties.proofs.laws.shorts_are_the_books.Goals as goal

pub returns : goal.returns
returns c = law
