use Rattle.std.proofs.Common.{◌≡◌, ℕ, ◌+◌, ◌*◌, ◌<◌, true}
use Rattle.std.specs.Prelude.{slice_index}
use Rattle.disk_tree.specs.Pointers.{points_well}
use Rattle.disk_tree.proofs.pointers.table_breaks.Given as goal

abbrev pub invariant-loop-entry : goal.invariant-loop-entry
invariant-loop-entry l =
    (k : ℕ) → k < l.entry → points_well l.layout l.size (slice_index l.table.pointers k) (4096 * (108 + 1024 * l.table.place) + 4096 * k) ≡ true
