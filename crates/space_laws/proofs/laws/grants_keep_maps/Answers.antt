use Rattle.space_laws.proofs.Mapped.{grants_keep_maps as law}
use Rattle.space_laws.proofs.laws.grants_keep_maps.Goals as goal

pub returns : goal.returns
returns c = law
