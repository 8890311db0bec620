-- With what trees a table begins, and what is given of their nodes.
use Rattle.std.specs.Prelude.{◌≡◌, ℕ, ◌+◌, ◌-◌, ◌*◌, ◌<◌, ◌≤◌, List, length, Option, None}
use Rattle.std.specs.FinMap.{get}
use Rattle.tree_laws.specs.Tree.{TreeState, bytes_of, made_by}
use Rattle.tree_laws.specs.Sound.{IsSound}
use Rattle.tree_laws.specs.Verdict.{LARGEST_FILE}
use Rattle.disk_nodes.specs.OldKept.{OldKept}
use Rattle.disk_nodes.specs.declared.old.OldEntry.{OldEntry}
use Rattle.mem_values.specs.declared.bucket.Bucket.{Bucket}
use Rattle.mem_values.specs.declared.cell_id.CellId.{CellId}
use Rattle.mem_values.specs.declared.cell_id.CellId.TheVariants as id
use Rattle.mem_values.specs.Stands.{if_directory}
use Rattle.mem_values.specs.Start.{given_in}

-- A tree with which a table may begin: it is sound, no file is longer than one may be, and no core has made a node.
pub record CanBeginTable (tree : TreeState) : Type 0 where
  pub sound : IsSound tree
  pub short : (node : ℕ) → length (bytes_of tree node) ≤ LARGEST_FILE
  pub unmade : (core : ℕ) → made_by tree core ≡ 0

-- what the disk has of the node, where a cell is what was flushed of one
abbrev pub given_of : List OldEntry → CellId → Option OldKept
given_of entries (id.Pending node) = given_in entries node.0
given_of entries _ = None

-- where a cell is what was flushed of a node, this is what was given of the node
abbrev pub IsGivenOf : (ℕ → Option OldKept) → CellId → Option OldKept → Type 0
IsGivenOf given (id.Pending node) old = old ≡ given node.0
IsGivenOf given _ old = Unit {0}

-- the cell is what was flushed of this node
abbrev pub IsFlushedOf : ℕ → CellId → Type 0
IsFlushedOf number (id.Pending node) = node.0 ≡ number
IsFlushedOf number _ = ⊥

-- of how many nodes, where there may be so many, what was flushed lies below a place
abbrev pub nodes_below : ℕ → ℕ → ℕ
nodes_below nodes place = place - (16 + 9 * nodes)

-- A list of nodes has what was given of each node below a number.
abbrev pub HasGivenBelow : (ℕ → Option OldKept) → ℕ → List OldEntry → Type 0
HasGivenBelow given number entries = (node : ℕ) → node < number → given_in entries node ≡ given node

-- A bucket has those of its rows once more that name directories of the tree.
abbrev pub ShowsDirectories : TreeState → Bucket → Type 0
ShowsDirectories tree bucket = (name : List ℕ) → get bucket.directories name ≡ if_directory tree (get bucket.rows name)
