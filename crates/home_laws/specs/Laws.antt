-- What a log's changes name, and where nodes were made; each law is proved by a function of the module laws.
use Rattle.std.specs.Prelude.{◌≡◌, ℕ, List, ◌++◌, Some, IsSome, All}
use Rattle.std.specs.FinMap.{get}
use Rattle.sfs_base.specs.declared.numbers.NodeId.{NodeId}
use Rattle.tree_laws.specs.declared.changes.Change.{Change}
use Rattle.tree_laws.specs.declared.history.Entry.{Entry}
use Rattle.tree_laws.specs.Tree.{TreeState}
use Rattle.tree_laws.specs.History.{tree_after, IsLegal}
use Rattle.tree_laws.specs.Laws.{IsSoundTree}
use Rattle.mem_cells.specs.Part.{changes_kept}
use Rattle.mem_values.specs.Account.{Account}
use Rattle.mem_values.specs.Logs.{birthplace}
use Rattle.mem_values.specs.Stands.{StandsPart}
use Rattle.mem_values.specs.declared.cell.PartCell.{PartCell}

-- a number is that of a node of a tree
abbrev pub IsNodeOf : TreeState → ℕ → Type 0
IsNodeOf tree node = IsSome (get tree.nodes node)

-- A change names nodes of a tree: its directory, its child, the other directory of a rename between two, and the directories above.
pub record NamesNodes (tree : TreeState) (change : Change) : Type 0 where
  pub directory : IsNodeOf tree change.dir.0
  pub child : IsNodeOf tree change.child.0
  pub other : (node : NodeId) → change.other ≡ Some node → IsNodeOf tree node.0
  pub above : All (IsNodeOf tree) change.above

-- The directory in which a history made a node is the one in which a longer history made it, where the node is one of the tree after the first.
abbrev pub BirthplacesStay : Type 0
BirthplacesStay =
    (first : TreeState) (calls more : List Entry) (node : ℕ) → IsSoundTree first → IsLegal first (calls ++ more)
    → IsNodeOf (tree_after first calls) node → birthplace first (calls ++ more) node ≡ birthplace first calls node

-- Each change that a log keeps which stands for some calls names nodes of the tree after them.
abbrev pub LogsNameNodes : Type 0
LogsNameNodes =
    (first : TreeState) (account : Account) (core directory : ℕ) (part : PartCell) → IsSoundTree first → IsLegal first account.calls
    → StandsPart first account core part → All (NamesNodes (tree_after first account.calls)) (changes_kept part.log directory)
