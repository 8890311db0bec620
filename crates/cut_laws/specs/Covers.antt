-- When a cut covers an fsync that was answered Ok.
use Rattle.std.specs.Prelude.{◌≡◌, ℕ, ◌≤◌, Bool, true, List, Some}
use Rattle.sfs_base.specs.declared.numbers.NodeId.{NodeId}
use Rattle.tree_laws.specs.declared.call.Call.TheVariants as call
use Rattle.tree_laws.specs.declared.history.Entry.{Entry}
use Rattle.tree_laws.specs.declared.reply.Reply.TheVariants as reply
use Rattle.tree_laws.specs.Tree.{TreeState}
use Rattle.tree_laws.specs.Changes.{RowChange}
use Rattle.cut_laws.specs.Cut.{Cut, cut_of, IsWithin}
use Rattle.cut_laws.specs.Rules.{IsOneOf, IsChange, Birth, births_of}
use Rattle.cut_laws.specs.Closure.{Flush}

-- Some change that places a node lies below its directory's cut.
pub record IsPlacedByCut (first : TreeState) (history : List Entry) (cut : Cut) (node : ℕ) : Type 0 where
  pub change : RowChange
  pub is_change : IsChange first history change
  pub places : change.places ≡ true
  pub child : change.child ≡ node
  pub within : IsWithin cut change

-- A cut covers an fsync: its node's stamp is that of the fsync at least, and where the node was made in the history, some change
-- that places it lies below its directory's cut.
pub record IsCovered (first : TreeState) (history : List Entry) (cut : Cut) (flush : Flush) : Type 0 where
  pub stamp : flush.stamp ≤ cut_of cut flush.node
  pub placed : (birth : Birth) → IsOneOf (births_of first history) birth → birth.node ≡ flush.node → IsPlacedByCut first history cut flush.node

-- Each node with an inode that was made in the history is placed by a change below its directory's cut.
abbrev pub ArePlaced : TreeState → List Entry → Cut → (ℕ → Bool) → Type 0
ArePlaced first history cut inodes =
    (birth : Birth) → IsOneOf (births_of first history) birth → inodes birth.node ≡ true → IsPlacedByCut first history cut birth.node

-- What an fsync leaves: it is covered, so is what was covered before, and each node with an inode is placed.
pub record CoversMore (first : TreeState) (history : List Entry) (cut raised : Cut) (after : ℕ → Bool) (flush : Flush) : Type 0 where
  pub own : IsCovered first history raised flush
  pub earlier : (other : Flush) → IsCovered first history cut other → IsCovered first history raised other
  pub placed : ArePlaced first history raised after

-- An fsync of a history was answered Ok, and was acknowledged at a moment.
pub record IsAcknowledged (history : List Entry) (flush : Flush) (ack : ℕ) : Type 0 where
  pub entry : Entry
  pub among : IsOneOf history entry
  pub node : NodeId
  pub asked : entry.call ≡ call.Fsync node
  pub own : flush ≡ record { node = node.0; stamp = entry.stamp.0 }
  pub answered : entry.reply ≡ reply.Ok
  pub moment : entry.ack ≡ Some ack

-- A cut covers a history at a moment: it covers each fsync that was acknowledged by then.
abbrev pub Covers : TreeState → List Entry → Cut → ℕ → Type 0
Covers first history cut moment = (flush : Flush) (ack : ℕ) → IsAcknowledged history flush ack → ack ≤ moment → IsCovered first history cut flush
