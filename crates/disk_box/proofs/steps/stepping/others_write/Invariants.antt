use Rattle.std.proofs.Common.{◌≡◌, length}
use Rattle.disk_box.proofs.NextOldest.{NoneBefore}
use Rattle.disk_box.proofs.steps.stepping.others_write.Given as goal

abbrev pub invariant-loop-k : goal.invariant-loop-k
invariant-loop-k g l = record {
  none : NoneBefore l.desk.slots.items (length l.desk.waits.items) l.own l.k;
  own : l.own ≡ l.fn.core.0;
}
