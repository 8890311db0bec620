use Rattle.book_laws.proofs.Blocks.{grants_stay as law}
use Rattle.book_laws.proofs.laws.grants_stay.Goals as goal

pub returns : goal.returns
returns c = law
