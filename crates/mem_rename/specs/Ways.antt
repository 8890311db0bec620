-- How the directories above another one are read under the lock of the tree: one bucket of each, held and let go one by one.
use Rattle.std.specs.Prelude.{◌≡◌, ℕ, List, [], ◌∷◌, Option}
use Rattle.tree_laws.specs.Tree.{TreeState}
use Rattle.tree_laws.specs.Lock.{AreHolders}
use Rattle.tree_laws.specs.History.{tree_after, IsLegal}
use Rattle.disk_nodes.specs.OldKept.{OldKept}
use Rattle.stamp_table.specs.declared.event.Event.{Event}
use Rattle.stamp_table.specs.declared.view.View.{View}
use Rattle.stamp_table.specs.declared.held.HeldCell.{HeldCell}
use Rattle.stamp_table.specs.Events.{calls_in}
use Rattle.mem_values.specs.declared.fact.Fact.{Fact}
use Rattle.mem_values.specs.declared.cell.Cell.{Cell}
use Rattle.mem_values.specs.declared.cell_id.CellId.TheVariants as id
use Rattle.mem_values.specs.Places.{node_count, cell_place}
use Rattle.mem_values.specs.Laws.{KnowsCell, MayMeet}
use Rattle.mem_values.specs.Stands.{ShowsBucket}
use Rattle.mem_values.specs.declared.bucket.Bucket.{Bucket}
use Rattle.sfs_base.specs.declared.numbers.NodeId.{NodeId}
use Rattle.mem_calls.specs.Working.{IsOfKind}
use Rattle.mem_rename.specs.Sights.{IsWay}
use mathlib.Core.List.{IsPrefix}
use Rattle.mem_values.specs.Start.{FileHand}

-- the last of the directories read above a node, and the node itself where none is read yet: the one of which a bucket is read next
abbrev pub last_read : ℕ → List ℕ → ℕ
last_read node [] = node
last_read node (holder ∷ holders) = last_read holder holders

-- A core has read directories above a node: it holds the lock, and in the tree after all that it has seen they are the holders.
pub record HasRead (given : ℕ → Option OldKept) (view : View TreeState (Event Fact)) (node : ℕ) (above : List ℕ) : Type 0 where
  pub lock : HeldCell Cell
  pub knows : KnowsCell given view lock
  pub there : cell_place (node_count view.first) id.Lock ≡ lock.place
  pub holders : AreHolders (tree_after view.first (calls_in view.seen)) node above

-- A core holds the lock of the tree, and no other cell.
pub record HoldsLock (hand : FileHand) : Type 0 where
  pub lock : HeldCell Cell
  pub alone : hand.held ≡ lock ∷ []
  pub place : lock.place ≡ 0
  pub kind : IsOfKind id.Lock lock.value

-- A core has seen more of the history, and is as before otherwise.
pub record ReadsOn (before after : FileHand) : Type 0 where
  pub frame : record after { view = before.view } ≡ before
  pub view : record after.view { seen = before.view.seen } ≡ before.view
  pub seen : IsPrefix before.view.seen after.view.seen
  pub legal : IsLegal before.view.first (calls_in after.view.seen)

-- the tree after all that a core has seen
abbrev pub tree_seen : FileHand → TreeState
tree_seen hand = tree_after hand.view.first (calls_in hand.view.seen)

-- What a core has seen is legal, and the tree after it is one that the core may meet.
pub record HasMet (hand : FileHand) : Type 0 where
  pub legal : IsLegal hand.view.first (calls_in hand.view.seen)
  pub met : MayMeet hand.view hand.held (tree_seen hand)

-- A core has read on, and found where a directory stands, by a bucket of it.
pub record SawStanding (node : ℕ) (before : FileHand) (found : Option NodeId) (after : FileHand) : Type 0 where
  pub on : ReadsOn before after
  pub met : MayMeet after.view [] (tree_seen after)
  pub bucket : Bucket
  pub shows : ShowsBucket (tree_seen after) node 0 bucket
  pub stands : found ≡ bucket.stands

-- The directories above one have been read up to the root.
abbrev pub HasReadAll : FileHand → ℕ → List ℕ → Type 0
HasReadAll hand node above = IsWay (tree_seen hand) node above
