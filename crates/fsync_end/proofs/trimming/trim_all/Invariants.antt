use Rattle.mem_values.specs.Start.{given_by}
use Rattle.fsync_end.specs.Trimming.{IsFlushing, TrimsAll}
use Rattle.fsync_end.proofs.trimming.trim_all.Given as goal

abbrev pub invariant-loop-part : goal.invariant-loop-part
invariant-loop-part g l = record {
  at : IsFlushing l.shared l.core;
  trims : TrimsAll (given_by l.shared) l.number l.part l.initial.core l.core;
}
