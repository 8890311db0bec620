use Rattle.book_laws.proofs.Again.{concerns_stay as law}
use Rattle.book_laws.proofs.laws.concerns_stay.Goals as goal

pub returns : goal.returns
returns c = law
