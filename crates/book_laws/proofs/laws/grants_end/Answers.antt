use Rattle.book_laws.proofs.Gone.{grants_end as law}
use Rattle.book_laws.proofs.laws.grants_end.Goals as goal

pub returns : goal.returns
returns c = law
