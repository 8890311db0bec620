use Rattle.tree_laws.proofs.Touches.{calls_touch_one as law}
use Rattle.tree_laws.proofs.laws.calls_touch_one.Goals as goal

pub returns : goal.returns
returns c = law
