use Rattle.tree_laws.proofs.CoreLists.{cores_make_the_history as law}
use Rattle.tree_laws.proofs.laws.cores_make_the_history.Goals as goal

pub returns : goal.returns
returns c = law
