use Rattle.slot_laws.proofs.Few.{stamps_are_left as law}
use Rattle.slot_laws.proofs.laws.stamps_are_left.Goals as goal

pub returns : goal.returns
returns c = law
