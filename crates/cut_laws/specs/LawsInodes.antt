-- The laws of members and of nodes with an inode, each of which a function of the module laws proves.
use Rattle.std.specs.Prelude.{◌≡◌, ◌⊎◌, ◌↔◌, ℕ, Bool, true, false, List, [], Some, None, IsSome}
use Rattle.std.specs.FinMap.{get}
use Rattle.tree_laws.specs.declared.history.Entry.{Entry}
use Rattle.tree_laws.specs.Tree.{TreeState, is_alive, is_directory, bytes_of}
use Rattle.tree_laws.specs.Changes.{RowChange}
use Rattle.tree_laws.specs.History.{tree_after, IsLegal}
use Rattle.tree_laws.specs.Laws.{IsSoundTree}
use Rattle.cut_laws.specs.Cut.{Cut, cut_of, IsWithin, rows_at_cut, tree_at_cut}
use Rattle.cut_laws.specs.Rules.{IsOneOf, IsChange, Birth, births_of}
use Rattle.cut_laws.specs.Closure.{Counts, every_entry, Flush, HasLiveNode, Closure, IsConcerned, IsNamedIn, IsRaised, IsDead, AreInodesAfter, KeepsCut, AreFlushed}

-- Each member of an fsync's closure is the fsync's own node or a directory.
abbrev pub MembersAreDirectories : Type 0
MembersAreDirectories = (first : TreeState) (history : List Entry) (counts : Counts) (cut : Cut) (inodes : ℕ → Bool) (flush : Flush) (node : ℕ)
    → IsSoundTree first → IsLegal first history
    → Closure first history counts cut inodes flush node
    → (node ≡ flush.node) ⊎ (is_directory (tree_after first history) node ≡ true)

-- An fsync of a file that has an inode concerns that file alone.
abbrev pub FilesFlushThemselves : Type 0
FilesFlushThemselves = (first : TreeState) (history : List Entry) (counts : Counts) (cut : Cut) (inodes : ℕ → Bool) (flush : Flush) (node : ℕ)
    → IsSoundTree first → IsLegal first history
    → is_directory (tree_after first history) flush.node ≡ false → inodes flush.node ≡ true
    → IsConcerned first history counts cut inodes flush node → node ≡ flush.node

-- A node is after an fsync as it was before: its stamp, whether it has an inode, which of its namings are flushed, and which rows at
-- the cut name it.
pub record StaysAsItWas (first : TreeState) (history : List Entry) (cut raised : Cut) (inodes after : ℕ → Bool) (node : ℕ) : Type 0 where
  pub stamp : cut_of raised node ≡ cut_of cut node
  pub inode : after node ≡ inodes node
  pub flushed : (change : RowChange) → IsChange first history change → change.child ≡ node → IsWithin raised change ↔ IsWithin cut change
  pub rows : (directory : ℕ) (name : List ℕ)
      → (get (rows_at_cut first history raised) (directory, name) ≡ Some node) ↔ (get (rows_at_cut first history cut) (directory, name) ≡ Some node)

-- So is each node that the fsync does not concern.
abbrev pub OthersStay : Type 0
OthersStay = (first : TreeState) (history : List Entry) (cut raised : Cut) (inodes after : ℕ → Bool) (flush : Flush) (node : ℕ) → IsSoundTree first
    → IsLegal first history
    → IsRaised first history every_entry cut inodes flush raised → AreInodesAfter first history every_entry cut inodes flush raised after
    → (IsConcerned first history every_entry cut inodes flush node → ⊥) → StaysAsItWas first history cut raised inodes after node

-- No row of the first tree names a node, and no change does.
pub record IsNeverNamed (first : TreeState) (history : List Entry) (node : ℕ) : Type 0 where
  pub rows : IsNamedIn first.rows node → ⊥
  pub changes : (change : RowChange) → IsChange first history change → change.child ≡ node → ⊥

-- After a list of fsyncs no node with an inode is dead, but one that nothing ever names.
abbrev pub NoneIsDead : Type 0
NoneIsDead = (first : TreeState) (history : List Entry) (flushes : List Flush) (cut : Cut) (inodes : ℕ → Bool) (node : ℕ) → IsSoundTree first
    → IsLegal first history
    → AreFlushed first history every_entry flushes cut inodes → inodes node ≡ true
    → IsDead first history every_entry cut node → IsNeverNamed first history node

-- After a list of fsyncs each directory with an inode is the root, or a row at the cut names it, or nothing ever names it.
abbrev pub DirectoriesAreNamed : Type 0
DirectoriesAreNamed = (first : TreeState) (history : List Entry) (flushes : List Flush) (cut : Cut) (inodes : ℕ → Bool) (node : ℕ) → IsSoundTree first
    → IsLegal first history
    → AreFlushed first history every_entry flushes cut inodes → inodes node ≡ true
    → is_directory (tree_after first history) node ≡ true
    → (node ≡ 0) ⊎ IsNamedIn (rows_at_cut first history cut) node ⊎ IsNeverNamed first history node

-- Each node of a tree is alive.
abbrev pub AreAllAlive : TreeState → Type 0
AreAllAlive tree = (node : ℕ) → IsSome (get tree.nodes node) → is_alive tree node ≡ true

-- Where each node of the first tree is alive, the root is the only node with an inode, after a list of fsyncs, that nothing ever names.
abbrev pub InodesAreNamed : Type 0
InodesAreNamed =
    (first : TreeState) (history : List Entry) (flushes : List Flush) (cut : Cut) (inodes : ℕ → Bool) (node : ℕ) → IsSoundTree first → IsLegal first history
    → AreAllAlive first
    → AreFlushed first history every_entry flushes cut inodes → inodes node ≡ true
    → IsNeverNamed first history node → node ≡ 0

-- An fsync leaves a directory named that a row at the cut names and that keeps its inode.
abbrev pub DirectoriesStayNamed : Type 0
DirectoriesStayNamed = (first : TreeState) (history : List Entry) (cut raised : Cut) (inodes after : ℕ → Bool) (flush : Flush) (node : ℕ) → IsSoundTree first
    → IsLegal first history → KeepsCut first history cut inodes
    → IsRaised first history every_entry cut inodes flush raised → AreInodesAfter first history every_entry cut inodes flush raised after
    → is_directory (tree_after first history) node ≡ true → IsNamedIn (rows_at_cut first history cut) node
    → inodes node ≡ true → after node ≡ true → IsNamedIn (rows_at_cut first history raised) node

-- An fsync of a file leaves it with an inode, or dead.
abbrev pub FilesSettle : Type 0
FilesSettle = (first : TreeState) (history : List Entry) (cut raised : Cut) (inodes after : ℕ → Bool) (flush : Flush) → IsSoundTree first
    → IsLegal first history
    → IsRaised first history every_entry cut inodes flush raised → AreInodesAfter first history every_entry cut inodes flush raised after
    → is_directory (tree_after first history) flush.node ≡ false
    → (after flush.node ≡ true) ⊎ IsDead first history every_entry raised flush.node

-- Behind a list of fsyncs one of a live file that has an inode leaves every node with its inode, or without.
abbrev pub FilesKeepInodes : Type 0
FilesKeepInodes = (first : TreeState) (history : List Entry) (flushes : List Flush) (cut raised : Cut) (inodes after : ℕ → Bool) (flush : Flush) (node : ℕ)
    → IsSoundTree first → IsLegal first history
    → AreFlushed first history every_entry flushes cut inodes
    → IsRaised first history every_entry cut inodes flush raised → AreInodesAfter first history every_entry cut inodes flush raised after
    → HasLiveNode first history flush → is_directory (tree_after first history) flush.node ≡ false → inodes flush.node ≡ true
    → after node ≡ inodes node

-- A node has the stamp 0 and no bytes at a cut.
pub record IsBlank (first : TreeState) (history : List Entry) (cut : Cut) (node : ℕ) : Type 0 where
  pub stamp : cut_of cut node ≡ 0
  pub bytes : bytes_of (tree_at_cut first history cut) node ≡ []

-- A file that an fsync behind others gives an inode was blank before it.
abbrev pub FilesEnterBlank : Type 0
FilesEnterBlank = (first : TreeState) (history : List Entry) (flushes : List Flush) (cut raised : Cut) (inodes after : ℕ → Bool) (flush : Flush) (node : ℕ)
    → IsSoundTree first → IsLegal first history
    → AreFlushed first history every_entry flushes cut inodes
    → IsRaised first history every_entry cut inodes flush raised → AreInodesAfter first history every_entry cut inodes flush raised after
    → is_directory (tree_after first history) node ≡ false → inodes node ≡ false → after node ≡ true
    → IsBlank first history cut node

-- A node is made in a legal history exactly where the tree after it has the node and the first tree has not.
abbrev pub BirthsAreNewNodes : Type 0
BirthsAreNewNodes = (first : TreeState) (history : List Entry) (node : ℕ) → IsSoundTree first → IsLegal first history
    → ((birth : Birth) × IsOneOf (births_of first history) birth × (birth.node ≡ node))
    ↔ (IsSome (get (tree_after first history).nodes node) × (get first.nodes node ≡ None))
