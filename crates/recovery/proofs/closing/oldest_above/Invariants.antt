use Rattle.std.proofs.Common.{◌≡◌, length}
use Rattle.recovery.specs.Recovering.{FindsOldest}
use Rattle.recovery.proofs.closing.oldest_above.Given as goal

abbrev pub invariant-loop-place : goal.invariant-loop-place
invariant-loop-place l = record {
  end : l.place-end ≡ length l.found;
  so_far : FindsOldest l.found l.place l.last l.oldest;
}
