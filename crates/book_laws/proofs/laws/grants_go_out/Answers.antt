use Rattle.book_laws.proofs.Gone.{grants_go_out as law}
use Rattle.book_laws.proofs.laws.grants_go_out.Goals as goal

pub returns : goal.returns
returns c = law
