-- A core with a number and a grant, about to commit.
use Rattle.std.specs.Prelude.{◌≡◌, ◌<◌, ◌≤◌, ℕ, false, None, Some, length, count_by, Contains}
use Rattle.sfs_image.specs.Super.{Layout}
use Rattle.space_map.specs.Space.{GrantedNumbers}
use Rattle.keyed_list.specs.Ascending.{AscendBy}
use Rattle.disk_nodes.specs.Nodes.{entry_node}
use Rattle.disk_change.specs.AllBuilt.{after_commit}
use Rattle.disk_change.specs.Planned.{Planned, enters}
use Rattle.disk_change.specs.Written.{IsTransactionOf}
use Rattle.disk_change.specs.declared.transaction.Built.{Built as BuiltNodes}
use Rattle.stamp_table.specs.Table.{TableState}
use Rattle.disk_box.specs.declared.key.BoxKey.{BoxKey}
use Rattle.disk_box.specs.Pens.{IsOutside, PenHand, own_at}
use Rattle.journal_set.specs.Grants.{grant_at}
use Rattle.fsync_commit.specs.Asked.{LiesInArea}

-- A pen outside of the box, with room for it, that has a grant for its next commit; no failure has stopped it.
pub record IsGranted {D : Type 0} (t : TableState (BoxKey D)) (pen : PenHand D) (grant : GrantedNumbers) : Type 0 where
  pub outside : IsOutside t pen
  pub room : 0 < pen.room
  pub grant_is : grant_at pen ≡ Some grant
  pub goes_on : (own_at pen).over ≡ false
  pub no_flight : (own_at pen).flight ≡ None

-- A grant is of a disk of this layout: its inodes are among the disk's, and its blocks lie in the data area. It has an inode for each node that enters.
pub record IsGrantOn (layout : Layout) (change : Planned) (grant : GrantedNumbers) : Type 0 where
  pub inodes : (number : ℕ) → Contains grant.inodes number → number < layout.inodes
  pub blocks : (number : ℕ) → Contains grant.blocks number → LiesInArea layout number
  pub enough : count_by enters change.seats ≤ length grant.inodes

-- What was built is of a change with a grant: its transaction, what the disk has of the nodes, and what it has of them once the commit is durable.
pub record IsBuiltOf (change : Planned) (grant : GrantedNumbers) (built : BuiltNodes) : Type 0 where
  pub tx : IsTransactionOf change grant built.tx
  pub old : built.nodes.old ≡ change.old
  pub after : built.nodes.after ≡ after_commit change grant
  pub ascends : AscendBy entry_node built.nodes.after
