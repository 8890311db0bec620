use Rattle.book_laws.proofs.Left.{planned_with_each as law}
use Rattle.book_laws.proofs.laws.planned_with_each.Goals as goal

pub returns : goal.returns
returns c = law
