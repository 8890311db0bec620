use Rattle.std.proofs.Common.{arith}
use Rattle.block_map.proofs.Tables.{tabulated}
use Rattle.block_map.proofs.remapping.direct_after.Goals as goal

pub returns : goal.returns
returns c = tabulated 108 _ c.loop-n.direct c.loop-n.invariant.count (λ j d within. c.loop-n.invariant.each j d (omega arith))
