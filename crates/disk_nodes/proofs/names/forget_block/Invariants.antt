use Rattle.std.proofs.Common.{◌≡◌, ◌<◌, ◌-◌, ◌^◌, ℕ, length, get_or, false, None, Some}
use Rattle.sfs_image.specs.Slot.{Row}
use Rattle.disk_nodes.specs.Names.{TellOnBut, bucket_with, is_noted}
use Rattle.disk_nodes.proofs.names.forget_block.Given as goal

abbrev pub invariant-loop-k : goal.invariant-loop-k
invariant-loop-k l = record {
  others : TellOnBut l.place l.fn.buckets.items l.buckets.items;
  gone : l.place < 2 ^ 32 - 1 → (j : ℕ) (row : Row) → j < l.k → get_or l.block j None ≡ Some row
      → is_noted (bucket_with l.buckets.items row.name) l.place ≡ false;
  count : length l.buckets.items ≡ length l.fn.buckets.items;
}
