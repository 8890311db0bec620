-- The laws of histories that grow, each of which a function of the module laws proves.
use Rattle.std.specs.Prelude.{◌≡◌, ℕ, ◌≤◌, Bool, List, length, take, Some, IsSome, slice_get}
use Rattle.std.specs.FinMap.{get}
use Rattle.tree_laws.specs.declared.history.Entry.{Entry}
use Rattle.tree_laws.specs.Tree.{TreeState}
use Rattle.tree_laws.specs.History.{tree_after, MayCome, IsLegal}
use Rattle.tree_laws.specs.Laws.{IsSoundTree}
use Rattle.cut_laws.specs.Cut.{Cut, cut_of, tree_at_cut}
use Rattle.cut_laws.specs.Rules.{IsOneOf}
use Rattle.cut_laws.specs.Closure.{every_entry, Flush, HasLiveNode, AreFlushed}

-- A tree has the rows of another one, and each of its nodes as it is there; it may have more nodes.
pub record HasMoreNodes (tree more : TreeState) : Type 0 where
  pub rows : more.rows ≡ tree.rows
  pub nodes : (node : ℕ) → IsSome (get tree.nodes node) → get more.nodes node ≡ get tree.nodes node

-- Fsyncs among the first entries of a history: their stamps are at most the count of these, and their nodes are alive at their stamps.
pub record AreAmongFirst (first : TreeState) (history : List Entry) (count : ℕ) (flushes : List Flush) : Type 0 where
  pub low : (flush : Flush) → IsOneOf flushes flush → flush.stamp ≤ count
  pub live : (flush : Flush) → IsOneOf flushes flush → HasLiveNode first history flush

-- What fsyncs among the first entries of a legal history raise over these they raise over the whole of it.
abbrev pub FlushesGrow : Type 0
FlushesGrow = (first : TreeState) (history : List Entry) (count : ℕ) (flushes : List Flush) (cut : Cut) (inodes : ℕ → Bool) → IsSoundTree first
    → IsLegal first history → count ≤ length history
    → AreAmongFirst first history count flushes
    → AreFlushed first (take count history) every_entry flushes cut inodes
    → AreFlushed first history every_entry flushes cut inodes

-- Where a cut has no stamp above the count of the first entries, the tree at it is that of the whole history but for more nodes.
abbrev pub CutTreesGrow : Type 0
CutTreesGrow = (first : TreeState) (history : List Entry) (count : ℕ) (cut : Cut) → IsSoundTree first → IsLegal first history
    → ((node : ℕ) → cut_of cut node ≤ count)
    → HasMoreNodes (tree_at_cut first (take count history) cut) (tree_at_cut first history cut)

-- An entry stands in a history at its stamp, and may come there.
pub record MayComeThere (first : TreeState) (history : List Entry) (entry : Entry) : Type 0 where
  pub stands : slice_get history entry.stamp.0 ≡ Some entry
  pub may : MayCome (tree_after first (take entry.stamp.0 history)) entry.stamp.0 entry

-- So does each entry of a legal history.
abbrev pub EntriesMayCome : Type 0
EntriesMayCome = (first : TreeState) (history : List Entry) (entry : Entry) → IsLegal first history → IsOneOf history entry → MayComeThere first history entry

-- Two entries of a legal history with one stamp are one entry.
abbrev pub StampsAreOnce : Type 0
StampsAreOnce = (first : TreeState) (history : List Entry) (entry other : Entry) → IsLegal first history → IsOneOf history entry → IsOneOf history other
    → entry.stamp.0 ≡ other.stamp.0 → entry ≡ other
