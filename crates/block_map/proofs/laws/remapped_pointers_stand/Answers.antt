use Rattle.block_map.proofs.Left.{remapped_pointers_stand as law}
use Rattle.block_map.proofs.laws.remapped_pointers_stand.Goals as goal

pub returns : goal.returns
returns c = law
