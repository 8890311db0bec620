use Rattle.disk_tree.specs.Rows.{AreRowLists}
use Rattle.disk_tree.proofs.rows.gather_rows.Given as goal

abbrev pub invariant-loop-blocks : goal.invariant-loop-blocks
invariant-loop-blocks l = AreRowLists l.slots l.blocks-index l.list.items
