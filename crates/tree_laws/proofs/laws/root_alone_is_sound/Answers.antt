use Rattle.tree_laws.proofs.SoundTrees.{root_alone_is_sound as law}
use Rattle.tree_laws.proofs.laws.root_alone_is_sound.Goals as goal

pub returns : goal.returns
returns c = law
