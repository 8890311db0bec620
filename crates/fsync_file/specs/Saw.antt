-- That a core has seen a file with an inode.
use Rattle.std.specs.Prelude.{◌≡◌, ℕ, true, List, Option}
use mathlib.Core.List.{IsPrefix}
use Rattle.sfs_base.specs.declared.numbers.NodeId.{NodeId}
use Rattle.disk_nodes.specs.OldKept.{OldKept}
use Rattle.stamp_table.specs.declared.event.Event.{Event}
use Rattle.mem_values.specs.declared.cell.Cell.{Cell}
use Rattle.mem_values.specs.declared.cell_id.CellId.TheVariants.{Pending}
use Rattle.mem_values.specs.declared.fact.Fact.{Fact}
use Rattle.mem_values.specs.Inode.{has_inode_kept}
use Rattle.mem_values.specs.Places.{cell_place}
use Rattle.mem_values.specs.Stands.{StandsAt}
use Rattle.mem_values.specs.Start.{FileHand}

-- At some moment of what a core has seen, a value stood for what was flushed of a node by which it is a file that has an inode.
pub record HasSeenInode (given : ℕ → Option OldKept) (nodes : ℕ) (node : NodeId) (hand : FileHand) : Type 0 where
  pub log : List (Event Fact)
  pub began : IsPrefix log hand.view.seen
  pub value : Cell
  pub stood : StandsAt given hand.view.first log (cell_place nodes (Pending node)) value
  pub inode : has_inode_kept value ≡ true
