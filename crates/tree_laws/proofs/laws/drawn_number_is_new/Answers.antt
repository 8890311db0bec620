use Rattle.tree_laws.proofs.SoundTrees.{drawn_number_is_new as law}
use Rattle.tree_laws.proofs.laws.drawn_number_is_new.Goals as goal

pub returns : goal.returns
returns c = law
