use Rattle.slot_laws.proofs.WorkedAlong.{lingering_slots_can_be_met}
use Rattle.slot_laws.proofs.laws.lingering_slots_can_be_met.Goals as goal

pub returns : goal.returns
returns c = lingering_slots_can_be_met
