use Rattle.book_laws.proofs.Worked.{two_pens_are_kept as law}
use Rattle.book_laws.proofs.laws.two_pens_are_kept.Goals as goal

pub returns : goal.returns
returns c = law
