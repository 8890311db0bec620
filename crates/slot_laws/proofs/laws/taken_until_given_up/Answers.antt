use Rattle.slot_laws.proofs.GrantsTold.{taken_until_given_up}
use Rattle.slot_laws.proofs.laws.taken_until_given_up.Goals as goal

pub returns : goal.returns
returns c = taken_until_given_up
