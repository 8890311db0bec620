use Rattle.stamp_table.specs.Table.{IsBetweenCalls}
use Rattle.bench_calls.proofs.workers.call_each.Given as goal

abbrev pub invariant-loop-round : goal.invariant-loop-round
invariant-loop-round g l = IsBetweenCalls l.table l.worker.core
