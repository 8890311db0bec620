use Rattle.slot_laws.proofs.Follow.{greater_stamps_are_newer as law}
use Rattle.slot_laws.proofs.laws.greater_stamps_are_newer.Goals as goal

pub returns : goal.returns
returns c = law
