use Rattle.std.proofs.Common.{◌≡◌}
use Rattle.stamp_table.proofs.Exchanging.{cells_until, values_until}
use Rattle.stamp_table.proofs.values.swap_all.Given as goal

abbrev pub invariant-loop-at : goal.invariant-loop-at
invariant-loop-at g l =
    (l.cells ≡ cells_until l.at l.fn.values l.fn.cells) × (l.values ≡ values_until l.at l.fn.values l.fn.cells)
