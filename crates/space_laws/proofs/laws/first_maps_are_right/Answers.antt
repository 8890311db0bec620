use Rattle.space_laws.proofs.Mapped.{first_maps_are_right as law}
use Rattle.space_laws.proofs.laws.first_maps_are_right.Goals as goal

pub returns : goal.returns
returns c = law
