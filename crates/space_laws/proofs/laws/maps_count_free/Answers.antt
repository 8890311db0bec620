use Rattle.space_laws.proofs.Counted.{maps_count_free as law}
use Rattle.space_laws.proofs.laws.maps_count_free.Goals as goal

pub returns : goal.returns
returns c = law
