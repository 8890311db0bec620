use Rattle.std.proofs.Common.{◌≡◌, ◌≤◌, ℕ, length}
use Rattle.std.specs.Prelude.{slice_index_or}
use Rattle.core_logs.specs.Logs.{blank_part}
use Rattle.core_logs.proofs.logs.CoreLogs.new.Given as goal

abbrev pub invariant-loop : goal.invariant-loop
invariant-loop l = record {
  each : (core : ℕ) → slice_index_or l.parts.items core blank_part ≡ blank_part;
  count : length l.parts.items ≡ l.counter;
}
