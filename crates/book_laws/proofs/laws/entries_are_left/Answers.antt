use Rattle.book_laws.proofs.Kept.{entries_are_left as law}
use Rattle.book_laws.proofs.laws.entries_are_left.Goals as goal

pub returns : goal.returns
returns c = law
