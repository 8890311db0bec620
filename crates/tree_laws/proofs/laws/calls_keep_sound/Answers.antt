use Rattle.tree_laws.proofs.SoundTrees.{calls_keep_sound as law}
use Rattle.tree_laws.proofs.laws.calls_keep_sound.Goals as goal

pub returns : goal.returns
returns c = law
