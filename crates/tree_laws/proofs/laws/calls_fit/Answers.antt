use Rattle.tree_laws.proofs.SoundTrees.{calls_fit as law}
use Rattle.tree_laws.proofs.laws.calls_fit.Goals as goal

pub returns : goal.returns
returns c = law
