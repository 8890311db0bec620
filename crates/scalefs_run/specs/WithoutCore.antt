-- Workers for which there is no core.
use Rattle.std.specs.Prelude.{ℕ, List, [], ◌∷◌, Option, None, option_map, nat_le}
use Rattle.std.specs.Option.{option_or}
use Rattle.std.specs.List.{find}
use Rattle.script.specs.declared.commands.Line.{Line}

-- the worker of the first line of a phase that has no core, where there are so many
abbrev pub worker_without_core_in : ℕ → List Line → Option ℕ
worker_without_core_in cores phase = option_map (λ line. line.worker) (find (λ line. nat_le cores line.worker) phase)

-- the worker of the first line of a script that has no core
abbrev pub worker_without_core : ℕ → List (List Line) → Option ℕ
worker_without_core cores [] = None
worker_without_core cores (phase ∷ phases) = option_or (worker_without_core_in cores phase) (worker_without_core cores phases)
