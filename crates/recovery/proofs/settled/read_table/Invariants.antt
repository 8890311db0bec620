use Rattle.std.proofs.Common.{◌≡◌, ◌<◌, ◌*◌, ℕ, [], length}
use Rattle.std.specs.Prelude.{slice_index_or}
use Rattle.sfs_image.specs.Bytes.{part}
use Rattle.recovery.proofs.settled.read_table.Given as goal

abbrev pub invariant-loop-i : goal.invariant-loop-i
invariant-loop-i g l = record {
  count : length l.records.items ≡ l.inodes;
  copied : (i : ℕ) → i < l.i → slice_index_or l.records.items i [] ≡ part (512 * i) 512 l.bytes.items;
}
