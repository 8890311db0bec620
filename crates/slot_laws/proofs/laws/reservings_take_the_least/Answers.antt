use Rattle.slot_laws.proofs.GrantsTold.{reservings_take_the_least}
use Rattle.slot_laws.proofs.laws.reservings_take_the_least.Goals as goal

pub returns : goal.returns
returns c = reservings_take_the_least
