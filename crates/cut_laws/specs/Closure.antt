-- What one fsync flushes, and what it makes of the cut and of the nodes that have an inode.
use Rattle.std.specs.Prelude.{◌≡◌, ◌≢◌, ◌⊎◌, ◌↔◌, ℕ, ◌<◌, ◌≤◌, Bool, true, false, List, [], ◌∷◌, ◌++◌, Some, IsSome, is_some, max, take}
use Rattle.tree_laws.specs.declared.history.Entry.{Entry}
use Rattle.std.specs.FinMap.{FinMap, get, empty}
use Rattle.tree_laws.specs.Order.{key_cmp}
use Rattle.tree_laws.specs.Tree.{TreeState, is_alive, is_directory}
use Rattle.tree_laws.specs.Sound.{Above}
use Rattle.tree_laws.specs.Changes.{RowChange}
use Rattle.tree_laws.specs.History.{tree_after}
use Rattle.cut_laws.specs.Cut.{Cut, cut_of, IsWithin, counted_rows_at_cut}
use Rattle.cut_laws.specs.Rules.{IsOneOf, IsChange, IsMove, Birth, births_of, IsClosed}

-- Which entries of a history count, by their stamps.
abbrev pub Counts : Type 0
Counts = ℕ → Bool

-- all of them
abbrev pub every_entry : Counts
every_entry _ = true

-- One fsync: of a node, at its stamp.
pub record Flush : Type 0 where
  pub node : ℕ
  pub stamp : ℕ

-- An fsync's node is there at its stamp.
abbrev pub HasNode : TreeState → List Entry → Flush → Type 0
HasNode first history flush = IsSome (get (tree_after first (take flush.stamp history)).nodes flush.node)

-- An fsync's node is alive at its stamp.
abbrev pub HasLiveNode : TreeState → List Entry → Flush → Type 0
HasLiveNode first history flush = is_alive (tree_after first (take flush.stamp history)) flush.node ≡ true

-- A change that counts in the span of its directory: from its cut to below the fsync's stamp.
pub record InSpan (first : TreeState) (history : List Entry) (counts : Counts) (cut : Cut) (stamp : ℕ) (change : RowChange) : Type 0 where
  pub is_change : IsChange first history change
  pub counted : counts change.stamp ≡ true
  pub from : cut_of cut change.directory ≤ change.stamp
  pub below : change.stamp < stamp

-- A node has a naming that is not flushed: a change that counts, names it and does not lie below its directory's cut.
pub record HasNaming (first : TreeState) (history : List Entry) (counts : Counts) (cut : Cut) (node : ℕ) : Type 0 where
  pub change : RowChange
  pub is_change : IsChange first history change
  pub counted : counts change.stamp ≡ true
  pub child : change.child ≡ node
  pub unflushed : cut_of cut change.directory ≤ change.stamp

-- The closure of an fsync: the least set of nodes that has its node and, with each member,
pub data Closure (first : TreeState) (history : List Entry) (counts : Counts) (cut : Cut) (inodes : ℕ → Bool) (flush : Flush) : ℕ → Type 0 where
  itself : Closure first history counts cut inodes flush flush.node
  -- for a change in its span by a rename between two directories, the other one
  other_side : (change : RowChange) (other : ℕ) → Closure first history counts cut inodes flush change.directory
      → InSpan first history counts cut flush.stamp change → change.other ≡ Some other → Closure first history counts cut inodes flush other
  -- a directory that a change in its span ends
  ended : (change : RowChange) → Closure first history counts cut inodes flush change.directory → InSpan first history counts cut flush.stamp change
      → change.ends ≡ true → Closure first history counts cut inodes flush change.child
  -- for a change in its span that places a directory by a rename between two, each of its ancestors at that stamp
  ancestor : (change : RowChange) (above : List ℕ) (node : ℕ) → Closure first history counts cut inodes flush change.directory
      → InSpan first history counts cut flush.stamp change → IsMove first history change
      → Above (tree_after first (take change.stamp history)) change.directory above → IsOneOf above node → Closure first history counts cut inodes flush node
  -- where it was made in the history, has no inode, and has a naming that is not flushed, the directory in which it was made
  birth_place : (birth : Birth) → Closure first history counts cut inodes flush birth.node → IsOneOf (births_of first history) birth → inodes birth.node ≡ false
      → HasNaming first history counts cut birth.node → Closure first history counts cut inodes flush birth.directory

-- A row names a node.
pub record IsNamedIn (rows : FinMap key_cmp ℕ) (node : ℕ) : Type 0 where
  pub directory : ℕ
  pub name : List ℕ
  pub row : get rows (directory, name) ≡ Some node

-- A node that an fsync concerns: a member, or the child of a change in a member's span.
pub data IsConcerned (first : TreeState) (history : List Entry) (counts : Counts) (cut : Cut) (inodes : ℕ → Bool) (flush : Flush) : ℕ → Type 0 where
  member : (node : ℕ) → Closure first history counts cut inodes flush node → IsConcerned first history counts cut inodes flush node
  named : (change : RowChange) → Closure first history counts cut inodes flush change.directory → InSpan first history counts cut flush.stamp change
      → IsConcerned first history counts cut inodes flush change.child

-- A cut raised by an fsync: each member's is its stamp at least, and no other moves.
pub record IsRaised (first : TreeState) (history : List Entry) (counts : Counts) (cut : Cut) (inodes : ℕ → Bool) (flush : Flush) (raised : Cut) : Type 0 where
  pub member : (node : ℕ) → Closure first history counts cut inodes flush node → cut_of raised node ≡ max (cut_of cut node) flush.stamp
  pub other : (node : ℕ) → (Closure first history counts cut inodes flush node) ⊎ (cut_of raised node ≡ cut_of cut node)

-- When a concerned node without an inode gets one: a row at the raised cut names it, or it is the fsync's own file and has a naming
-- that is not flushed.
abbrev pub IsReached : TreeState → List Entry → Counts → Flush → Cut → ℕ → Type 0
IsReached first history counts flush raised node =
    IsNamedIn (counted_rows_at_cut first history counts raised) node
    ⊎ ((node ≡ flush.node) × (is_directory (tree_after first history) node ≡ false) × HasNaming first history counts raised node)

-- When a concerned node with an inode loses it: it is not the root, no row at the raised cut names it, and each change that names
-- it lies below its directory's raised cut.
pub record IsDead (first : TreeState) (history : List Entry) (counts : Counts) (raised : Cut) (node : ℕ) : Type 0 where
  pub no_root : node ≢ 0
  pub unnamed : IsNamedIn (counted_rows_at_cut first history counts raised) node → ⊥
  pub flushed : (change : RowChange) → IsChange first history change → counts change.stamp ≡ true → change.child ≡ node → IsWithin raised change

-- The nodes that have an inode after an fsync: those that enter come, and those that leave go.
pub record AreInodesAfter (first : TreeState) (history : List Entry) (counts : Counts) (cut : Cut) (inodes : ℕ → Bool) (flush : Flush) (raised : Cut)
    (after : ℕ → Bool) : Type 0 where
  pub enters : (node : ℕ) → inodes node ≡ false
      → (after node ≡ true) ↔ (IsConcerned first history counts cut inodes flush node × IsReached first history counts flush raised node)
  pub leaves : (node : ℕ) → inodes node ≡ true
      → (after node ≡ false) ↔ (IsConcerned first history counts cut inodes flush node × IsDead first history counts raised node)

-- Each directory with an inode has its making below the cut of the directory in which it was made.
abbrev pub AreBorn : TreeState → List Entry → Cut → (ℕ → Bool) → Type 0
AreBorn first history cut inodes =
    (birth : Birth) → IsOneOf (births_of first history) birth → inodes birth.node ≡ true → is_directory (tree_after first history) birth.node ≡ true
    → birth.stamp < cut_of cut birth.directory

-- A cut and the nodes with an inode, as the fsyncs of a history leave them.
pub record KeepsCut (first : TreeState) (history : List Entry) (cut : Cut) (inodes : ℕ → Bool) : Type 0 where
  pub closed : IsClosed first history cut
  pub born : AreBorn first history cut inodes

-- The cut and the nodes with an inode after a list of fsyncs, one after the other.
pub data AreRaised (first : TreeState) (history : List Entry) (counts : Counts) (cut : Cut) (inodes : ℕ → Bool) : List Flush → Cut → (ℕ → Bool) → Type 0 where
  none : AreRaised first history counts cut inodes [] cut inodes
  one_more : (flushes : List Flush) (flush : Flush) (before raised : Cut) (inodes_before after : ℕ → Bool)
      → AreRaised first history counts cut inodes flushes before inodes_before → IsRaised first history counts before inodes_before flush raised
      → AreInodesAfter first history counts before inodes_before flush raised after
      → AreRaised first history counts cut inodes (flushes ++ flush ∷ []) raised after

-- The same from the cut 0 and the nodes of the first tree.
abbrev pub AreFlushed : TreeState → List Entry → Counts → List Flush → Cut → (ℕ → Bool) → Type 0
AreFlushed first history counts = AreRaised first history counts empty (λ node. is_some (get first.nodes node))
