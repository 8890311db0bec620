use Rattle.turn_laws.proofs.Left.{granted_are_given_in_order as law}
use Rattle.turn_laws.proofs.laws.books.granted_are_given_in_order.Goals as goal

pub returns : goal.returns
returns c = law
