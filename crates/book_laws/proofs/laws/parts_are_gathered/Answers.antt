use Rattle.book_laws.proofs.Parts.{parts_are_gathered as law}
use Rattle.book_laws.proofs.laws.parts_are_gathered.Goals as goal

pub returns : goal.returns
returns c = law
