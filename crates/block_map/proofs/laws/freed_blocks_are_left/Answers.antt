use Rattle.block_map.proofs.Left.{freed_blocks_are_left as law}
use Rattle.block_map.proofs.laws.freed_blocks_are_left.Goals as goal

pub returns : goal.returns
returns c = law
