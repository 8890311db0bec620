use Rattle.std.proofs.Common.{◌≡◌, ◌++◌, take}
use Rattle.std.specs.List.{flat_map}
use Rattle.block_map.specs.Remap.{there}
use Rattle.disk_change.proofs.given_up.push_pointers.Given as goal

abbrev pub invariant-loop-pointer : goal.invariant-loop-pointer
invariant-loop-pointer l = l.blocks.items ≡ l.fn.blocks.items ++ flat_map there (take l.pointer-index l.pointers)
