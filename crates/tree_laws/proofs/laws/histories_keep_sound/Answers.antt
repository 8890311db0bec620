use Rattle.tree_laws.proofs.FileHistories.{histories_keep_sound as law}
use Rattle.tree_laws.proofs.laws.histories_keep_sound.Goals as goal

pub returns : goal.returns
returns c = law
