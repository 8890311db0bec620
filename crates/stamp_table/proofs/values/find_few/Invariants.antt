use Rattle.std.proofs.Common.{◌≡◌, ◌+◌, drop, IsSome}
use Rattle.stamp_table.specs.Table.{cell_at, cells_before}
use Rattle.stamp_table.proofs.values.find_few.Given as goal

abbrev pub invariant-loop-at : goal.invariant-loop-at
invariant-loop-at g l = (l.at + cells_before l.place (drop l.at l.cells) ≡ cells_before l.place l.cells) × IsSome (cell_at l.place (drop l.at l.cells))
