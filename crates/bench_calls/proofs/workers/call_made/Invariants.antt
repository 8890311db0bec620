use Rattle.std.specs.Prelude.{All}
use Rattle.tree_laws.specs.Step.{IsReadable}
use Rattle.stamp_table.specs.Table.{IsBetweenCalls}
use Rattle.bench_calls.proofs.workers.call_made.Given as goal

abbrev pub invariant-loop : goal.invariant-loop
invariant-loop g l = record {
  core : IsBetweenCalls l.table l.worker.core;
  readable : All IsReadable l.worker.calls.items;
}
