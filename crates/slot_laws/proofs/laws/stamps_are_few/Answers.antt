use Rattle.slot_laws.proofs.Few.{stamps_are_few as law}
use Rattle.slot_laws.proofs.laws.stamps_are_few.Goals as goal

pub returns : goal.returns
returns c = law
