use Rattle.tree_laws.proofs.OwnEffects.{does_its_own as law}
use Rattle.tree_laws.proofs.laws.calls_do_their_own.Goals as goal

pub returns : goal.returns
returns c = law
