use Rattle.space_map.proofs.Others.{grants_are_apart as law}
use Rattle.space_map.proofs.laws.grants_are_apart.Goals as goal

pub returns : goal.returns
returns c = law
