use Rattle.std.proofs.Common.{◌≡◌, ◌<◌, ℕ, List, length, get_or, true, None, Some}
use Rattle.sfs_image.specs.Slot.{Row}
use Rattle.disk_nodes.specs.Names.{SharesNone, TellOn, bucket_with, tells}
use Rattle.disk_nodes.proofs.names.note_block.Given as goal

abbrev pub invariant-loop-k : goal.invariant-loop-k
invariant-loop-k l = record {
  told : (j : ℕ) (row : Row) → j < l.k → get_or l.block j None ≡ Some row → tells (bucket_with l.buckets.items row.name) l.place ≡ true;
  others : TellOn l.fn.buckets.items l.buckets.items;
  apart : (other : List ℕ) → SharesNone (length l.fn.buckets.items) l.block other
      → bucket_with l.buckets.items other ≡ bucket_with l.fn.buckets.items other;
  count : length l.buckets.items ≡ length l.fn.buckets.items;
}
