use Rattle.book_laws.proofs.Brings.{bringings_stay as law}
use Rattle.book_laws.proofs.laws.bringings_stay.Goals as goal

pub returns : goal.returns
returns c = law
