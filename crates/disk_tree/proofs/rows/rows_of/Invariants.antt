use Rattle.std.proofs.Common.{◌≡◌, take}
use Rattle.disk_tree.specs.Rows.{rows_in_slots, slots_together}
use Rattle.disk_tree.proofs.rows.rows_of.Given as goal

abbrev pub invariant-loop-block : goal.invariant-loop-block
invariant-loop-block l = l.rows.items ≡ rows_in_slots (slots_together (take l.block-index l.blocks))
