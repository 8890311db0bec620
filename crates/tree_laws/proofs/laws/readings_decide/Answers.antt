use Rattle.tree_laws.proofs.Readings.{readings_decide as law}
use Rattle.tree_laws.proofs.laws.readings_decide.Goals as goal

pub returns : goal.returns
returns c = law
