use Rattle.slot_laws.proofs.Rings.{slots_close_in_order as law}
use Rattle.slot_laws.proofs.laws.slots_close_in_order.Goals as goal

pub returns : goal.returns
returns c = law
