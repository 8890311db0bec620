use Rattle.volume_laws.proofs.ReadParts.{read_parts_stand as law}
use Rattle.volume_laws.proofs.laws.read_parts_stand.Goals as goal

pub returns : goal.returns
returns c = law
