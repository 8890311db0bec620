use Rattle.std.proofs.Common.{◌≡◌, length}
use Rattle.disk_box.proofs.Sealing.{IsSealedTo}
use Rattle.disk_box.proofs.steps.serving.seal_all.Given as goal

abbrev pub invariant-loop-k : goal.invariant-loop-k
invariant-loop-k g l = record { sealed : IsSealedTo l.k l.fn.desk l.desk; end : l.k-end ≡ length l.fn.desk.slots.items }
