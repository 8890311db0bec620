-- The law that what an fsync flushes is no more than its rules ask for.
use Rattle.std.specs.Prelude.{◌≡◌, ℕ, Bool, true, false, List, Some, take}
use Rattle.tree_laws.specs.declared.history.Entry.{Entry}
use Rattle.tree_laws.specs.Changes.{RowChange}
use Rattle.tree_laws.specs.History.{tree_after}
use Rattle.tree_laws.specs.Sound.{Above}
use Rattle.tree_laws.specs.Tree.{TreeState}
use Rattle.cut_laws.specs.Closure.{Counts, Flush, InSpan, HasNaming, Closure}
use Rattle.cut_laws.specs.Cut.{Cut}
use Rattle.cut_laws.specs.Rules.{IsOneOf, IsMove, Birth, births_of}

-- A set of nodes keeps the five rules of an fsync: it has its node; and of each node that it has, the other side of a rename between two
-- directories, the directories that end, the ancestors of what such a rename placed, and the birth place of one without an inode that has a
-- naming which is not flushed.
pub record KeepsFlushRules (first : TreeState) (history : List Entry) (counts : Counts) (cut : Cut) (inodes : ℕ → Bool) (flush : Flush)
    (has : ℕ → Bool) : Type 0 where
  pub itself : has flush.node ≡ true
  pub other_side : (change : RowChange) (other : ℕ) → has change.directory ≡ true → InSpan first history counts cut flush.stamp change
      → change.other ≡ Some other → has other ≡ true
  pub ended : (change : RowChange) → has change.directory ≡ true → InSpan first history counts cut flush.stamp change → change.ends ≡ true
      → has change.child ≡ true
  pub ancestor : (change : RowChange) (above : List ℕ) (node : ℕ) → has change.directory ≡ true → InSpan first history counts cut flush.stamp change
      → IsMove first history change → Above (tree_after first (take change.stamp history)) change.directory above → IsOneOf above node
      → has node ≡ true
  pub birth_place : (birth : Birth) → has birth.node ≡ true → IsOneOf (births_of first history) birth → inodes birth.node ≡ false
      → HasNaming first history counts cut birth.node → has birth.directory ≡ true

-- Each set that keeps the rules has each node of the closure.
abbrev pub ClosuresAreLeast : Type 0
ClosuresAreLeast = (first : TreeState) (history : List Entry) (counts : Counts) (cut : Cut) (inodes : ℕ → Bool) (flush : Flush) (has : ℕ → Bool)
    → KeepsFlushRules first history counts cut inodes flush has → (node : ℕ) → Closure first history counts cut inodes flush node → has node ≡ true
