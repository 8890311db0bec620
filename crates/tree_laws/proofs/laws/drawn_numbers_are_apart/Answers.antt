use Rattle.tree_laws.proofs.SoundTrees.{drawn_numbers_are_apart as law}
use Rattle.tree_laws.proofs.laws.drawn_numbers_are_apart.Goals as goal

pub returns : goal.returns
returns c = law
