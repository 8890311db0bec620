use Rattle.std.proofs.Common.{◌≡◌, length}
use Rattle.recovery.specs.Freed.{unlinked_below}
use Rattle.recovery.proofs.orphans.unlinked_in.Given as goal

abbrev pub invariant-loop-place : goal.invariant-loop-place
invariant-loop-place l = record {
  end : l.place-end ≡ length l.records;
  so_far : l.inodes.items ≡ unlinked_below l.records l.place;
}
