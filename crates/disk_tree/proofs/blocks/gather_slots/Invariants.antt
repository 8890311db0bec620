use Rattle.disk_tree.specs.Blocks.{AreSlotLists}
use Rattle.disk_tree.proofs.blocks.gather_slots.Given as goal

abbrev pub invariant-loop-place : goal.invariant-loop-place
invariant-loop-place l = AreSlotLists l.inodes l.contents l.place l.list.items
