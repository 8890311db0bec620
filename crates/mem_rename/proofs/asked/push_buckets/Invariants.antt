use Rattle.std.proofs.Common.{◌≡◌, ◌++◌, take}
use Rattle.mem_rename.specs.Cells.{buckets_of}
use Rattle.mem_rename.proofs.asked.push_buckets.Given as goal

abbrev pub invariant-loop-bucket : goal.invariant-loop-bucket
invariant-loop-bucket l = l.cells.items ≡ l.initial.cells.items ++ take l.bucket (buckets_of l.node)
