use Rattle.close_laws.proofs.AlongLabels.{maps_are_drawn as law}
use Rattle.close_laws.proofs.laws.maps_are_drawn.Goals as goal

pub returns : goal.returns
returns c = law
