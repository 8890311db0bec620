use Rattle.turn_laws.proofs.Causes.{replies_have_causes as law}
use Rattle.turn_laws.proofs.laws.turns.replies_have_causes.Goals as goal

pub returns : goal.returns
returns c = law
