use Rattle.std.proofs.Common.{◌≡◌, count_by, take}
use Rattle.block_map.specs.Remap.{takes_fresh}
use Rattle.block_map.proofs.rewrite.data_needed.Given as goal

abbrev pub invariant-loop-one : goal.invariant-loop-one
invariant-loop-one l = l.count ≡ count_by takes_fresh (take l.one-index l.changed.items)
