use Rattle.mem_values.proofs.Places.{places_ascend as law}
use Rattle.mem_values.proofs.laws.places_ascend.Goals as goal

pub returns : goal.returns
returns c = law
