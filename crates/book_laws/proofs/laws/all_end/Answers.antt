use Rattle.book_laws.proofs.Imagined.{all_end as law}
use Rattle.book_laws.proofs.laws.all_end.Goals as goal

pub returns : goal.returns
returns c = law
