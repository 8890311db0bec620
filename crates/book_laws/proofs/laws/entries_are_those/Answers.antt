use Rattle.book_laws.proofs.Left.{entries_are_those as law}
use Rattle.book_laws.proofs.laws.entries_are_those.Goals as goal

pub returns : goal.returns
returns c = law
