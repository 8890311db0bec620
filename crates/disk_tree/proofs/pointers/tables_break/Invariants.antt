use Rattle.std.proofs.Common.{◌≡◌, ℕ, ◌<◌, eqb, false}
use Rattle.std.specs.List.{find}
use Rattle.disk_tree.specs.Pointers.{table_points_badly}
use Rattle.disk_tree.proofs.pointers.tables_break.Given as goal

abbrev pub invariant-loop-place : goal.invariant-loop-place
invariant-loop-place l = (k : ℕ) → k < l.place → table_points_badly l.layout l.size (find (λ table. eqb table.place k) l.tables.items) ≡ false
