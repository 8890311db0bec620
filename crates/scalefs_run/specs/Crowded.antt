-- Which worker of a made script has no core.
use Rattle.std.specs.Prelude.{◌≡◌, ℕ, ◌≤◌, nat_lt, Some, None, if◌then◌else◌}
use Rattle.made_script.specs.Made.{made}
use Rattle.scalefs_run.specs.WithoutCore.{worker_without_core}

-- Exactly where there are more workers than cores one has none, and the first is that behind the last core.
abbrev pub LoadsAskForCores : Type 0
LoadsAskForCores = (seed count workers cores : ℕ) → 1 ≤ count → 1 ≤ cores
    → worker_without_core cores (made seed count workers) ≡ (if nat_lt cores workers then Some cores else None)
