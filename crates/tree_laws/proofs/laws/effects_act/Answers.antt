use Rattle.tree_laws.proofs.Acts.{effects_act as law}
use Rattle.tree_laws.proofs.laws.effects_act.Goals as goal

pub returns : goal.returns
returns c = law
