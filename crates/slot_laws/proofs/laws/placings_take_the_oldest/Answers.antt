use Rattle.slot_laws.proofs.Counting.{placings_take_the_oldest}
use Rattle.slot_laws.proofs.laws.placings_take_the_oldest.Goals as goal

pub returns : goal.returns
returns c = placings_take_the_oldest
