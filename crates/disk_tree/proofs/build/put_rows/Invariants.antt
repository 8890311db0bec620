use Rattle.std.proofs.Common.{◌≡◌}
use Rattle.disk_tree.specs.Built.{with_entries, row_entries}
use Rattle.disk_tree.proofs.build.put_rows.Given as goal

abbrev pub invariant-loop-place : goal.invariant-loop-place
invariant-loop-place l = l.tree ≡ with_entries l.initial.tree (row_entries l.rows l.place)
