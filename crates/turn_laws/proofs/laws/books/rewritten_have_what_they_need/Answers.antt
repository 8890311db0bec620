use Rattle.turn_laws.proofs.Left.{rewritten_have_what_they_need as law}
use Rattle.turn_laws.proofs.laws.books.rewritten_have_what_they_need.Goals as goal

pub returns : goal.returns
returns c = law
