-- The tree at a cut before one fsync more, and the tree at the cut that it raises.
use Rattle.std.specs.Prelude.{◌≡◌, ◌↔◌, ℕ, Bool, true, List, Some}
use Rattle.tree_laws.specs.declared.history.Entry.{Entry}
use Rattle.tree_laws.specs.Laws.{IsSoundTree}
use Rattle.tree_laws.specs.History.{IsLegal}
use Rattle.tree_laws.specs.Sound.{IsSound, IsWithinLimits}
use Rattle.tree_laws.specs.Tree.{TreeState, names_of, bytes_of}
use Rattle.image_laws.specs.Commit.{IsAside, MayFollow}
use Rattle.image_laws.specs.Renamed.{Numbering, HasNumber}
use Rattle.image_laws.specs.Stands.{IsStorable}
use Rattle.cut_laws.specs.Closure.{every_entry, Flush, IsConcerned, IsRaised, AreInodesAfter, AreFlushed}
use Rattle.cut_laws.specs.Cut.{Cut, cut_of, tree_at_cut}
use Rattle.cut_laws.specs.LawsInodes.{AreAllAlive}

-- A first tree from which a mount may begin, and a legal history from it: the tree is sound and within its limits, and each of its nodes
-- is alive.
pub record IsMountedHistory (first : TreeState) (history : List Entry) : Type 0 where
  pub sound : IsSoundTree first
  pub limits : IsWithinLimits first
  pub alive : AreAllAlive first
  pub legal : IsLegal first history

-- A numbering numbers exactly the nodes with an inode, the root with 0.
pub record NumbersInodes (num : Numbering) (inodes : ℕ → Bool) : Type 0 where
  pub root : num 0 ≡ Some 0
  pub each : (node : ℕ) → (inodes node ≡ true) ↔ HasNumber num node

-- The tree at a cut that a list of fsyncs leaves is sound, and such that an image may stand for it.
pub record IsStorableAtCut (num : Numbering) (first : TreeState) (history : List Entry) (cut : Cut) : Type 0 where
  pub sound : IsSound (tree_at_cut first history cut)
  pub storable : IsStorable num (tree_at_cut first history cut)

abbrev pub CutTreesAreStorable : Type 0
CutTreesAreStorable =
    (first : TreeState) (history : List Entry) (flushes : List Flush) (cut : Cut) (inodes : ℕ → Bool) (num : Numbering) → IsMountedHistory first history
    → AreFlushed first history every_entry flushes cut inodes → NumbersInodes num inodes → IsStorableAtCut num first history cut

-- One fsync behind a list of others, with the cut and the inodes that it leaves.
pub record IsOneMore (first : TreeState) (history : List Entry) (flushes : List Flush) (cut : Cut) (inodes : ℕ → Bool) (flush : Flush) (raised : Cut)
    (after : ℕ → Bool) : Type 0 where
  pub history_is : IsMountedHistory first history
  pub before : AreFlushed first history every_entry flushes cut inodes
  pub raises : IsRaised first history every_entry cut inodes flush raised
  pub inodes_after : AreInodesAfter first history every_entry cut inodes flush raised after

-- The tree at the raised cut may follow the one before under each numbering of the nodes that then have an inode.
abbrev pub RaisedTreesFollow : Type 0
RaisedTreesFollow =
    (first : TreeState) (history : List Entry) (flushes : List Flush) (cut : Cut) (inodes : ℕ → Bool) (flush : Flush) (raised : Cut) (after : ℕ → Bool)
    (num : Numbering)
    → IsOneMore first history flushes cut inodes flush raised after → NumbersInodes num after
    → MayFollow num (tree_at_cut first history cut) (tree_at_cut first history raised)

-- A node that the fsync does not concern is left as it is.
abbrev pub OthersAreAside : Type 0
OthersAreAside =
    (first : TreeState) (history : List Entry) (flushes : List Flush) (cut : Cut) (inodes : ℕ → Bool) (flush : Flush) (raised : Cut) (after : ℕ → Bool)
    (node : ℕ)
    → IsOneMore first history flushes cut inodes flush raised after → (IsConcerned first history every_entry cut inodes flush node → ⊥)
    → IsAside (tree_at_cut first history cut) (tree_at_cut first history raised) node

-- A node whose stamp stays keeps its rows and its bytes.
pub record KeepsItsOwn (old new : TreeState) (node : ℕ) : Type 0 where
  pub rows : names_of node new.rows ≡ names_of node old.rows
  pub bytes : bytes_of new node ≡ bytes_of old node

abbrev pub SameStampsKeep : Type 0
SameStampsKeep = (first : TreeState) (history : List Entry) (cut raised : Cut) (node : ℕ) → cut_of raised node ≡ cut_of cut node
    → KeepsItsOwn (tree_at_cut first history cut) (tree_at_cut first history raised) node
