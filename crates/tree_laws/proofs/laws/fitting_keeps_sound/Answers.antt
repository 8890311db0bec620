use Rattle.tree_laws.proofs.Kept.{fitting_keeps_sound as law}
use Rattle.tree_laws.proofs.laws.fitting_keeps_sound.Goals as goal

pub returns : goal.returns
returns c = law
