use Rattle.tree_laws.proofs.Orders.{conditions_have_their_order as law}
use Rattle.tree_laws.proofs.laws.conditions_have_their_order.Goals as goal

pub returns : goal.returns
returns c = law
