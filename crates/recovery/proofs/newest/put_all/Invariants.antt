use Rattle.std.proofs.Common.{◌≡◌, ℕ, List, Option, length}
use Rattle.sfs_image.specs.Settled.{Stamped}
use Rattle.recovery.specs.Settling.{AreSettled, with_body, packed_entries}
use Rattle.recovery.proofs.newest.put_all.Given as goal

abbrev pub invariant-loop-k : goal.invariant-loop-k
invariant-loop-k l = record {
  settled : (table : ℕ → List ℕ) (best : ℕ → Option (Stamped (List ℕ))) → AreSettled (length l.fn.newest.stamps.items) table best l.fn.newest
      → AreSettled (length l.fn.newest.stamps.items) table
      (with_body (record { stamp = l.stamp; entries = packed_entries l.numbers l.bytes l.k }) best) l.newest;
  stamps : length l.newest.stamps.items ≡ length l.fn.newest.stamps.items;
  records : length l.newest.records.items ≡ length l.fn.newest.records.items;
}
