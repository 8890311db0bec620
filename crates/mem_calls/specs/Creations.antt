-- A node that is made: its number, what a core holds for it, and what becomes of its cells.
use Rattle.std.specs.Prelude.{◌≡◌, ◌≢◌, ℕ, ◌+◌, ◌*◌, ◌<◌, ◌≤◌, ◌==◌, ◌||◌, Bool, true, false, List, length, Option, Some, None, IsSome}
use Rattle.sfs_base.specs.Name.{bucket}
use Rattle.sfs_base.specs.declared.numbers.NodeId.{NodeId}
use Rattle.sfs_base.specs.declared.numbers.Kind.{Kind}
use Rattle.sfs_base.specs.declared.numbers.Kind.TheVariants.{File, Directory}
use Rattle.tree_laws.specs.declared.reply.Reply.TheVariants as reply
use Rattle.tree_laws.specs.Effect.{Adds}
use Rattle.tree_laws.specs.Verdict.{Verdict}
use Rattle.stamp_table.specs.declared.held.HeldCell.{HeldCell}
use Rattle.stamp_table.specs.Hand.{places_of}
use Rattle.mem_values.specs.Start.{FileHand}
use Rattle.mem_values.specs.declared.cell.Cell.{Cell}
use Rattle.mem_values.specs.declared.cell.Cell.TheVariants as cell
use Rattle.mem_values.specs.declared.cell.PartCell.{PartCell}
use Rattle.mem_values.specs.declared.cell_id.CellId.{CellId}
use Rattle.mem_values.specs.declared.cell_id.CellId.TheVariants as id
use Rattle.mem_values.specs.Places.{IsCell}
use Rattle.mem_calls.specs.Held.{value_held, file_held, part_held, pending_held, HoldsDirectory}
use Rattle.mem_calls.specs.Sums.{HoldsBuckets}
use Rattle.mem_calls.specs.Changes.{IsFreePlace}
use Rattle.mem_calls.specs.Ends.{IsPlacedBucket}

-- a node of this number and kind comes with a row, and is the reply
abbrev pub creates : NodeId → NodeId → List ℕ → Kind → Verdict
creates child dir name kind = record { reply = reply.Node child kind; effect = Adds dir.0 name child.0; makes = Some kind }

-- the number that a core gives next, by the first of all, the share of each and how many it has given; none once its share is given
abbrev pub IsNextNumber : ℕ → ℕ → ℕ → ℕ → Option NodeId → Type 0
IsNextNumber first share core made None = share ≤ made
IsNextNumber first share core made (Some node) = (made < share) × (node.0 ≡ first + core * share + made)

-- This is the number that a core gives next by its own log, which it holds.
pub record HasNext (nodes : ℕ) (hand : FileHand) (next : Option NodeId) : Type 0 where
  pub known : hand.view.core < length hand.view.first.made
  pub part : PartCell
  pub held : part_held nodes hand.held hand.view.core ≡ Some part
  pub next_is : IsNextNumber hand.view.first.first hand.view.first.share hand.view.core part.made next

-- the file of a node is held, or its buckets
abbrev pub HoldsOwn : ℕ → List (HeldCell Cell) → NodeId → Kind → Type 0
HoldsOwn nodes held node File = IsSome (file_held nodes held node)
HoldsOwn nodes held node Directory = HoldsBuckets nodes held node

-- All cells are held that a creation changes of the node that it makes.
pub record HoldsCreated (nodes : ℕ) (held : List (HeldCell Cell)) (child : NodeId) (kind : Kind) : Type 0 where
  pub within : child.0 < nodes
  pub own : HoldsOwn nodes held child kind
  pub pending : IsSome (pending_held nodes held child)

-- The place of a name is held, and of the node that is made there what the creation changes, where the directory is another node.
pub record HoldsCreation (nodes : ℕ) (held : List (HeldCell Cell)) (dir : NodeId) (name : List ℕ) (kind : Kind) (next : Option NodeId) : Type 0 where
  pub place : HoldsDirectory nodes held dir (bucket name)
  pub new : (child : NodeId) → next ≡ Some child → dir.0 < nodes → child.0 ≢ dir.0 → HoldsCreated nodes held child kind

-- A node may be made: the place of its name is free, its cells are held, it is not the directory itself, and the core counts fewer nodes
-- than it can.
pub record MayMake (nodes : ℕ) (hand : FileHand) (dir : NodeId) (name : List ℕ) (child : NodeId) (kind : Kind) : Type 0 where
  pub place : IsFreePlace nodes hand.held dir name
  pub new : HoldsCreated nodes hand.held child kind
  pub apart : child.0 ≢ dir.0
  pub few : (part : PartCell) → part_held nodes hand.held hand.view.core ≡ Some part → part.made < 4294967295

-- whether a cell is the file of a node, or one of its buckets
abbrev pub is_own_cell : NodeId → Kind → CellId → Bool
is_own_cell child Directory (id.Bucket node number) = child.0 == node.0
is_own_cell child File (id.File node) = child.0 == node.0
is_own_cell child kind _ = false

-- whether a cell tells what was flushed of a node
abbrev pub is_flushed_cell : NodeId → CellId → Bool
is_flushed_cell child (id.Pending node) = child.0 == node.0
is_flushed_cell child _ = false

-- whether a creation changes a cell: one of these of the node that it makes
abbrev pub is_new_cell : NodeId → Kind → CellId → Bool
is_new_cell child kind which = is_own_cell child kind which || is_flushed_cell child which

-- what a creation in a directory makes of the value of such a cell
abbrev pub IsSettled : NodeId → Cell → Cell → Type 0
IsSettled dir (cell.Bucket old) (cell.Bucket new) = IsPlacedBucket (Some dir) old.value new.value
IsSettled dir (cell.File old) (cell.File new) = (new.value.links ≡ old.value.links + 1) × (new.value.file ≡ old.value.file)
IsSettled dir (cell.Pending old) (cell.Pending new) = new.value ≡ record old.value { made_in = Some dir }
IsSettled dir _ _ = ⊥

-- Cells that pass a test get what a creation in a directory makes of them, and nothing else changes.
pub record SettlesCreation (nodes : ℕ) (test : CellId → Bool) (dir : NodeId) (before after : FileHand) : Type 0 where
  pub frame : record after { held = before.held } ≡ before
  pub places : places_of after.held ≡ places_of before.held
  pub settled : (cores : ℕ) (which : CellId) (old : Cell) → IsCell nodes cores which → test which ≡ true → value_held nodes before.held which ≡ Some old
      → (new : Cell) × (value_held nodes after.held which ≡ Some new) × IsSettled dir old new
  pub rest : (cores : ℕ) (which : CellId) → IsCell nodes cores which → test which ≡ false
      → value_held nodes after.held which ≡ value_held nodes before.held which
