use Rattle.tree_laws.proofs.KeepsRest.{calls_keep_the_rest as law}
use Rattle.tree_laws.proofs.laws.calls_keep_the_rest.Goals as goal

pub returns : goal.returns
returns c = law
