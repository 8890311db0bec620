use Rattle.std.proofs.Common.{◌≡◌, ◌+◌, ◌≤◌, ℕ, filter, length}
use Rattle.std.specs.HashMap.{spare}
use Rattle.mem_cells.specs.Log.{is_from}
use Rattle.mem_cells.specs.Named.{namings_of, naming_count}
use Rattle.mem_cells.proofs.part.trim_log.Given as goal

abbrev pub invariant-loop-change : goal.invariant-loop-change
invariant-loop-change l = record {
  left : filter (is_from l.below.0) l.log.changes ≡ filter (is_from l.below.0) l.initial.log.changes;
  mark : l.log.mark ≡ l.initial.log.mark;
  room : l.log.room ≡ l.initial.log.room;
  named : (node : ℕ)
      → naming_count l.namings node + namings_of l.initial.log.changes node ≡ naming_count l.initial.namings node + namings_of l.log.changes node;
  spared : spare l.initial.namings ≤ spare l.namings;
  dropped : l.dropped + length l.log.changes ≡ length l.initial.log.changes;
}

abbrev pub decreases-loop-change : goal.decreases-loop-change
decreases-loop-change l = length l.log.changes
