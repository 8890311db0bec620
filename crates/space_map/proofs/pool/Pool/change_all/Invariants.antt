use Rattle.std.proofs.Common.{take}
use Rattle.space_map.specs.Change.{changed}
use Rattle.space_map.specs.Pool.{Changes}
use Rattle.space_map.proofs.pool.Pool.change_all.Given as goal

abbrev pub invariant-loop-number : goal.invariant-loop-number
invariant-loop-number l = Changes (changed l.change) (take l.number-index l.numbers) l.fn.self l.self
