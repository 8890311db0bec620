use Rattle.book_laws.proofs.Gone.{grants_come_back as law}
use Rattle.book_laws.proofs.laws.grants_come_back.Goals as goal

pub returns : goal.returns
returns c = law
