use Rattle.book_laws.proofs.Left.{entries_go_on as law}
use Rattle.book_laws.proofs.laws.entries_go_on.Goals as goal

pub returns : goal.returns
returns c = law
