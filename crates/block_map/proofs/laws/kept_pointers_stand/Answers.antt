use Rattle.block_map.proofs.KeptPointers.{kept_pointer as law}
use Rattle.block_map.proofs.laws.kept_pointers_stand.Goals as goal

pub returns : goal.returns
returns c = law
