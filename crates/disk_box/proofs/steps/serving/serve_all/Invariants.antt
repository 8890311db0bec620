use Rattle.std.proofs.Common.{◌≡◌, length}
use Rattle.disk_box.specs.Serving.{GoesBeside, IsServing}
use Rattle.disk_box.proofs.ServedAll.{AreServedBelow}
use Rattle.disk_box.proofs.steps.serving.serve_all.Given as goal

abbrev pub invariant-loop-k : goal.invariant-loop-k
invariant-loop-k g l = record {
  serving : IsServing g.D.Disk.view l.table l.pen l.desk l.k;
  beside : GoesBeside l.fn.pen l.pen;
  told : AreServedBelow l.k l.fn.pen l.pen;
  count : length l.desk.slots.items ≡ l.k-end;
}
