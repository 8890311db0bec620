use Rattle.stamp_table.specs.Table.{IsBetweenCalls}
use Rattle.bench_calls.proofs.directories.make_many.Given as goal

abbrev pub invariant-loop-round : goal.invariant-loop-round
invariant-loop-round g l = IsBetweenCalls l.table l.core
