-- What an fsync gathers of the nodes that it holds, and what it asks of the logs.
use Rattle.std.specs.Prelude.{◌≡◌, ◌↔◌, ℕ, true, false, List, map, filter_map, Option, Some, None, IsSome, is_some, option_map, All, if◌then◌else◌}
use Rattle.sfs_base.specs.declared.numbers.NodeId.{NodeId}
use Rattle.sfs_base.specs.Listed.{is_listed}
use Rattle.tree_laws.specs.NameRow.{node_number, number_of}
use Rattle.cut_laws.specs.Rules.{IsOneOf}
use Rattle.mem_cells.specs.Part.{CoreLog, changes_kept}
use Rattle.dep_closure.specs.declared.gathered.Gathered.{Gathered}
use Rattle.dep_closure.specs.declared.gathered.NodeCut.{NodeCut}
use Rattle.dep_closure.specs.declared.gathered.NodeBirth.{NodeBirth}
use Rattle.dep_closure.specs.Gathered.{cut_in, born_as}
use Rattle.stamp_table.specs.declared.held.HeldCell.{HeldCell}
use Rattle.mem_values.specs.declared.cell.Cell.{Cell}
use Rattle.mem_values.specs.declared.cell.Pending.{Pending}
use Rattle.mem_calls.specs.Held.{pending_held}

-- Each change that a log keeps of a directory is one of this directory.
abbrev pub KeepOwn : List CoreLog → Type 0
KeepOwn parts = (log : CoreLog) (directory : ℕ) → IsOneOf parts log → All (λ change. change.dir.0 ≡ directory) (changes_kept log directory)

-- what was flushed of a node is held
abbrev pub IsHeldOf : ℕ → List (HeldCell Cell) → NodeId → Type 0
IsHeldOf nodes cells node = IsSome (pending_held nodes cells node)

-- A node, and what was flushed of it as its core holds it.
pub record SeenNode : Type 0 where
  pub node : NodeId
  pub value : Pending

-- a node with its value, where that is held
abbrev pub node_seen : ℕ → List (HeldCell Cell) → NodeId → Option SeenNode
node_seen nodes cells node = option_map (λ value. record { node = node; value = value }) (pending_held nodes cells node)

-- those of some nodes whose values are held
abbrev pub nodes_seen : ℕ → List (HeldCell Cell) → List NodeId → List SeenNode
nodes_seen nodes cells list = filter_map (node_seen nodes cells) list

-- the cut of a node; each has one
abbrev pub cut_seen : SeenNode → Option NodeCut
cut_seen seen = Some (record { node = seen.node; cut = seen.value.cut })

-- where a node was made, where that was in this mount
abbrev pub birth_seen : SeenNode → Option NodeBirth
birth_seen seen = option_map (λ directory. record { node = seen.node; dir = directory }) seen.value.made_in

-- a node that has an inode
abbrev pub inode_seen : SeenNode → Option NodeId
inode_seen seen = if is_some seen.value.old then Some seen.node else None

-- What was gathered of a node is what is held of it: its cut, whether it has an inode, and where it was made.
pub record GathersNode (nodes : ℕ) (cells : List (HeldCell Cell)) (gathered : Gathered) (node : ℕ) : Type 0 where
  pub value : Pending
  pub held : pending_held nodes cells (record { 0 = node }) ≡ Some value
  pub cut : cut_in gathered.cuts.items node ≡ value.cut.0
  pub inode : is_listed (map node_number gathered.inodes.items) node ≡ is_some value.old
  pub born : (directory : ℕ) → IsOneOf (map born_as gathered.births.items) (record { node = node; directory = directory })
      ↔ (number_of value.made_in ≡ Some directory)

-- So it is of each of some nodes, and of any other nothing was gathered: its cut is 0, it has no inode, and it was made nowhere.
pub record GathersNodes (nodes : ℕ) (cells : List (HeldCell Cell)) (list : List NodeId) (gathered : Gathered) : Type 0 where
  pub each : (node : ℕ) → is_listed (map node_number list) node ≡ true → GathersNode nodes cells gathered node
  pub other_cuts : (node : ℕ) → is_listed (map node_number list) node ≡ false → cut_in gathered.cuts.items node ≡ 0
  pub other_inodes : (node : ℕ) → is_listed (map node_number list) node ≡ false → is_listed (map node_number gathered.inodes.items) node ≡ false
  pub other_births : (node directory : ℕ) → is_listed (map node_number list) node ≡ false
      → IsOneOf (map born_as gathered.births.items) (record { node = node; directory = directory }) → ⊥
