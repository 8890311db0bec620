use Rattle.space_laws.proofs.Mapped.{returns_keep_maps as law}
use Rattle.space_laws.proofs.laws.returns_keep_maps.Goals as goal

pub returns : goal.returns
returns c = law
