use Rattle.book_laws.proofs.Parts.{parts_stay as law}
use Rattle.book_laws.proofs.laws.parts_stay.Goals as goal

pub returns : goal.returns
returns c = law
