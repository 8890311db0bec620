-- Threads that can begin.
use Rattle.std.specs.Prelude.{All}
use Rattle.tree_laws.specs.Step.{IsReadable}
use Rattle.stamp_table.specs.Table.{IsBetweenCalls}
use Rattle.mem_values.specs.Start.{FileState}
use Rattle.bench_calls.specs.declared.workers.Worker.{Worker}
use Rattle.bench_calls.specs.declared.owns.Own.{Own}

-- A thread can begin at a table: its core is between two calls, and a table takes the calls that it has.
pub record IsReady (t : FileState) (worker : Worker) : Type 0 where
  pub between : IsBetweenCalls t worker.core
  pub readable : All IsReadable worker.calls.items

-- A thread can begin at its own table.
abbrev pub IsReadyAlone : Own → Type 0
IsReadyAlone own = IsReady own.table own.worker
