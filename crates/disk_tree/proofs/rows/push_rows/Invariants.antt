use Rattle.std.proofs.Common.{◌≡◌, ◌++◌, take}
use Rattle.disk_tree.specs.Rows.{rows_in_slots}
use Rattle.disk_tree.proofs.rows.push_rows.Given as goal

abbrev pub invariant-loop-slot : goal.invariant-loop-slot
invariant-loop-slot l = l.rows.items ≡ l.initial.rows.items ++ rows_in_slots (take l.slot-index l.slot-items)
