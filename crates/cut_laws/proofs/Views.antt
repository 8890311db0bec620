-- What the laws of runs are made of: when views give one commit, said of one whole history.
use Rattle.std.specs.Prelude.{◌≡◌, ◌↔◌, ℕ, ◌<◌, ◌≤◌, Bool, true, List, length, take, Some, nat_lt}
use Rattle.std.specs.FinMap.{get}
use Rattle.tree_laws.specs.declared.history.Entry.{Entry}
use Rattle.tree_laws.specs.Tree.{TreeState}
use Rattle.tree_laws.specs.Changes.{RowChange}
use Rattle.tree_laws.specs.History.{IsLegal}
use Rattle.tree_laws.specs.Laws.{IsSoundTree}
use Rattle.cut_laws.specs.Cut.{Cut, cut_of, IsWithin, rows_at_cut, counted_rows_at_cut}
use Rattle.cut_laws.specs.Rules.{IsChange}
use Rattle.cut_laws.specs.Closure.{Counts, every_entry, Flush, HasLiveNode, Closure, IsNamedIn, IsRaised, IsReached, IsDead, AreInodesAfter, KeepsCut}
use Rattle.cut_laws.specs.Runs.{CommitView, Concerns, Raises, IsOneCommit, view_by}

-- the entries below a stamp count
abbrev pub below : ℕ → Counts
below n t = nat_lt t n

-- Two views that go by the same cut and the same inodes, and in which an fsync does the same.
pub record AreAlike (first : TreeState) (flush : Flush) (view other : CommitView) : Type 0 where
  pub cuts : view.cut ≡ other.cut
  pub inodes : (node : ℕ) → view.inodes node ≡ other.inodes node
  pub members : (node : ℕ)
      → Closure first view.history view.counts view.cut view.inodes flush node ↔ Closure first other.history other.counts other.cut other.inodes flush node
  pub concerned : (node : ℕ) → Concerns first flush view node ↔ Concerns first flush other node
  pub raises : (raised : Cut) → Raises first flush view raised ↔ Raises first flush other raised
  pub rows : (raised : Cut) → Raises first flush view raised → (directory : ℕ) (name : List ℕ)
      → get (counted_rows_at_cut first view.history view.counts raised) (directory, name)
      ≡ get (counted_rows_at_cut first other.history other.counts raised) (directory, name)
  pub reached : (raised : Cut) → Raises first flush view raised → (node : ℕ) → Concerns first flush view node
      → IsReached first view.history view.counts flush raised node ↔ IsReached first other.history other.counts flush raised node
  pub dead : (raised : Cut) → Raises first flush view raised → (node : ℕ) → Concerns first flush view node
      → IsDead first view.history view.counts raised node ↔ IsDead first other.history other.counts raised node

-- what runs keep: the cut is closed, directories with an inode are born, and what the tree at the cut names has an inode
pub record IsHeld (first : TreeState) (history : List Entry) (cut : Cut) (inodes : ℕ → Bool) : Type 0 where
  pub kept : KeepsCut first history cut inodes
  pub named : (node : ℕ) → IsNamedIn (rows_at_cut first history cut) node → inodes node ≡ true

-- A prefix of a history, and the whole with the entries of the prefix counted.
abbrev pub PrefixesCount : Type 0
PrefixesCount =
    (first : TreeState) (history : List Entry) (n : ℕ) (flush : Flush) (cut : Cut) (inodes : ℕ → Bool) → IsSoundTree first → IsLegal first history
    → n ≤ length history
    → flush.stamp ≤ n → HasLiveNode first history flush
    → AreAlike first flush (view_by (take n history) every_entry cut inodes) (view_by history (below n) cut inodes)

-- Two ways to count that both count all below a stamp, up to which all cuts and the fsync lie.
abbrev pub Recounts : Type 0
Recounts =
    (first : TreeState) (history : List Entry) (k : ℕ) (counts other : Counts) (flush : Flush) (cut : Cut) (inodes : ℕ → Bool) → IsSoundTree first
    → IsLegal first history
    → ((t : ℕ) → t < k → counts t ≡ true) → ((t : ℕ) → t < k → other t ≡ true)
    → ((node : ℕ) → cut_of cut node ≤ k) → flush.stamp ≤ k → HasLiveNode first history flush
    → IsHeld first history cut inodes
    → AreAlike first flush (view_by history counts cut inodes) (view_by history other cut inodes)

-- what a raise keeps, over the whole history
abbrev pub RaisesHold : Type 0
RaisesHold =
    (first : TreeState) (history : List Entry) (n : ℕ) (flush : Flush) (cut raised : Cut) (inodes after : ℕ → Bool) → IsSoundTree first → IsLegal first history
    → ((node : ℕ) → cut_of cut node ≤ n) → flush.stamp ≤ n → HasLiveNode first history flush → IsHeld first history cut inodes
    → IsRaised first history (below n) cut inodes flush raised → AreInodesAfter first history (below n) cut inodes flush raised after
    → IsHeld first history raised after

-- A row names a node by the changes that name it alone.
abbrev pub NamesDecideRows : Type 0
NamesDecideRows =
    (first : TreeState) (history : List Entry) (n : ℕ) (cut other : Cut) (node directory : ℕ) (name : List ℕ) → IsSoundTree first → IsLegal first history
    → ((change : RowChange) → IsChange first history change → change.stamp < n → change.child ≡ node → change.directory ≡ directory
    → IsWithin cut change ↔ IsWithin other change)
    → (get (counted_rows_at_cut first history (below n) cut) (directory, name) ≡ Some node) ↔
    (get (counted_rows_at_cut first history (below n) other) (directory, name) ≡ Some node)

-- Two cuts with their inodes agree on a node, as far as the entries below a stamp go.
pub record Agree (first : TreeState) (history : List Entry) (n : ℕ) (cut other : Cut) (inodes other_inodes : ℕ → Bool) (node : ℕ) : Type 0 where
  pub cuts : cut_of cut node ≡ cut_of other node
  pub inode : inodes node ≡ other_inodes node
  pub unflushed : (change : RowChange) → IsChange first history change → change.stamp < n → change.child ≡ node
      → (cut_of cut change.directory ≤ change.stamp) ↔ (cut_of other change.directory ≤ change.stamp)

-- Cuts that agree on what an fsync concerns.
abbrev pub Agrees : Type 0
Agrees =
    (first : TreeState) (history : List Entry) (n : ℕ) (flush : Flush) (cut other : Cut) (inodes other_inodes : ℕ → Bool) → IsSoundTree first
    → IsLegal first history
    → ((node : ℕ) → Concerns first flush (view_by history (below n) cut inodes) node → Agree first history n cut other inodes other_inodes node)
    → IsOneCommit first flush (view_by history (below n) cut inodes) (view_by history (below n) other other_inodes)
