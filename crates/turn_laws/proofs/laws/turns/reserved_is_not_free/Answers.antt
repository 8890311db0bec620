use Rattle.turn_laws.proofs.Behind.{reserved_is_not_free as law}
use Rattle.turn_laws.proofs.laws.turns.reserved_is_not_free.Goals as goal

pub returns : goal.returns
returns c = law
