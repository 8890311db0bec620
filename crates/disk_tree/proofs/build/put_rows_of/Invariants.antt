use Rattle.std.proofs.Common.{◌≡◌}
use Rattle.disk_tree.specs.Built.{with_entries, entries_to}
use Rattle.disk_tree.proofs.RowsSorted.{reordered}
use Rattle.disk_tree.proofs.build.put_rows_of.Given as goal

abbrev pub invariant-loop-row : goal.invariant-loop-row
invariant-loop-row l = l.tree ≡ with_entries l.initial.tree (entries_to (reordered l.rows l.directory l.row-items) l.directory l.row-index)
