use Rattle.slot_laws.proofs.Counting.{slots_count_until_synced}
use Rattle.slot_laws.proofs.laws.slots_count_until_synced.Goals as goal

pub returns : goal.returns
returns c = slots_count_until_synced
