use Rattle.std.specs.Prelude.{All}
use Rattle.stamp_table.specs.Table.{IsBetweenCalls}
use Rattle.bench_calls.specs.Ready.{IsReady}
use Rattle.bench_calls.proofs.runs.workers_of.Given as goal

abbrev pub invariant-loop-core : goal.invariant-loop-core
invariant-loop-core l = record {
  rest : All (IsBetweenCalls l.table) l.core-iterator.rest.items;
  ready : All (IsReady l.table) l.workers.items;
}
