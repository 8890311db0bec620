-- What the workers of a volume make of the phases of a script.
use Rattle.std.specs.Prelude.{ℕ, ◌<◌, List, [], Option, None, Some, slice_get}
use Rattle.std.specs.List.{AllByRecursion}
use Rattle.tree_laws.specs.declared.history.Entry.{Entry}
use Rattle.script.specs.declared.commands.Line.{Line}
use Rattle.workers.specs.declared.worker.Worker.{Worker}

-- the entries of a worker, where there is one
abbrev pub entries_of : {P : Type 0} → Option (Worker P) → List Entry
entries_of None = []
entries_of (Some worker) = worker.core.entries

-- the entries of each core, by its worker
abbrev pub own_of : {P : Type 0} → List (Worker P) → ℕ → List Entry
own_of workers core = entries_of (slice_get workers core)

-- each line of a phase is of one of so many workers
abbrev pub HaveWorkers : ℕ → List Line → Type 0
HaveWorkers cores phase = AllByRecursion (λ line. line.worker < cores) phase
