use Rattle.slot_laws.proofs.GrantsTold.{grants_are_ones}
use Rattle.slot_laws.proofs.laws.grants_are_ones.Goals as goal

pub returns : goal.returns
returns c = grants_are_ones
