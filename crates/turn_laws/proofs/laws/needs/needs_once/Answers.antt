use Rattle.turn_laws.proofs.NeedsOnce.{needs_once as law}
use Rattle.turn_laws.proofs.laws.needs.needs_once.Goals as goal

pub returns : goal.returns
returns c = law
