-- Workers that are made of cores.
use Rattle.std.specs.Prelude.{◌<◌, ℕ, false, List, length, slice_index_or}
use Rattle.stamp_table.specs.Table.{IsSameCore}
use Rattle.mem_values.specs.Start.{FileHand}
use Rattle.workers.specs.declared.worker.Worker.{Worker}

-- a core as a worker that has not run yet
abbrev pub new_worker : FileHand → Worker (Unit {0})
new_worker core = record { core = core; pen = tt; refused = false; until = 0 }

-- a worker's core
abbrev pub worker_core : Worker (Unit {0}) → FileHand
worker_core worker = worker.core

-- workers with the same cores as before
abbrev pub AreSameCores : List (Worker (Unit {0})) → List (Worker (Unit {0})) → Type 0
AreSameCores before after = (place : ℕ) (d : Worker (Unit {0})) → place < length before
    → IsSameCore (slice_index_or before place d).core (slice_index_or after place d).core
