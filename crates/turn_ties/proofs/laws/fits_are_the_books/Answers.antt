use Rattle.turn_ties.proofs.Fits.{fits_are_the_books as law}
use Rattle.turn_ties.proofs.laws.fits_are_the_books.Goals as goal

pub returns : goal.returns
returns c = law
