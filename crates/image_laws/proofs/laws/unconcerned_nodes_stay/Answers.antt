use Rattle.image_laws.proofs.Elsewhere.{unconcerned_nodes_stay as law}
use Rattle.image_laws.proofs.laws.unconcerned_nodes_stay.Goals as goal

pub returns : goal.returns
returns c = law
