use Rattle.std.proofs.Common.{◌≡◌, ◌<◌, ◌≤◌, ℕ, length}
use Rattle.std.specs.Prelude.{slice_index_or}
use Rattle.mem_cells.specs.Part.{IsTrimmedOrBlank}
use Rattle.core_logs.specs.Logs.{blank_part}
use Rattle.core_logs.proofs.trimming.trim_parts.Given as goal

abbrev pub invariant-loop-core : goal.invariant-loop-core
invariant-loop-core l = record {
  count : length l.parts.items ≡ length l.fn.parts.items;
  done : (core : ℕ) → core < l.core
      → IsTrimmedOrBlank (slice_index_or l.fn.parts.items core blank_part) l.directory.0 l.below.0 (slice_index_or l.parts.items core blank_part);
  rest : (core : ℕ) → l.core ≤ core → slice_index_or l.parts.items core blank_part ≡ slice_index_or l.fn.parts.items core blank_part;
}
