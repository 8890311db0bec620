use Rattle.mem_values.proofs.Places.{places_apart as law}
use Rattle.mem_values.proofs.laws.places_apart.Goals as goal

pub returns : goal.returns
returns c = law
