use Rattle.std.proofs.Common.{◌<◌}
use Rattle.stamp_table.specs.Table.{IsBetweenCalls}
use Rattle.bench_table.proofs.rounds.hold_often.Given as goal

abbrev pub invariant-loop : goal.invariant-loop
invariant-loop g l = record {
  between : IsBetweenCalls l.shared l.core;
  room : 0 < l.core.room;
}
