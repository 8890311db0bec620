-- What a core holds by a plan.
use Rattle.std.specs.Prelude.{◌≡◌, ℕ, ◌+◌, ◌*◌, ◌<◌, true, List, map, Option, Some, is_some}
use Rattle.sfs_base.specs.declared.numbers.NodeId.{NodeId}
use Rattle.disk_nodes.specs.OldKept.{OldKept}
use Rattle.tree_laws.specs.Lock.{EndsAtRoot}
use Rattle.tree_laws.specs.NameRow.{node_number}
use Rattle.stamp_table.specs.declared.held.HeldCell.{HeldCell}
use Rattle.stamp_table.specs.Ascending.{LiesAbove}
use Rattle.mem_values.specs.Start.{FileHand, FileState}
use Rattle.mem_values.specs.declared.cell.Cell.{Cell}
use Rattle.mem_values.specs.declared.cell_id.CellId.TheVariants as id
use Rattle.mem_values.specs.Laws.{MayMeet}
use Rattle.mem_calls.specs.Outcome.{IsRefusedMemory}
use Rattle.mem_rename.specs.Sights.{Sight}
use Rattle.mem_rename.specs.Decisions.{look_seen}
use Rattle.mem_rename.specs.Ready.{sight_of, HoldsRename}
use Rattle.mem_calls.specs.Working.{IsWorking, WorksOn}
use Rattle.mem_rename.specs.declared.sides.Move.{Move}
use Rattle.mem_rename.specs.declared.plans.Plan.{Plan}
use Rattle.mem_rename.specs.declared.settling.Settled.{Settled}
use Rattle.mem_rename.specs.Plans.{asked_cells}
use Rattle.mem_rename.specs.Holding.{HoldsCell, HoldsCells}
use Rattle.mem_rename.specs.Ways.{HasRead, tree_seen}

-- the nodes of a plan have numbers of the table
pub record IsPlanWithin (nodes : ℕ) (plan : Plan) : Type 0 where
  pub comes : (node : NodeId) → plan.comes ≡ Some node → node.0 < nodes
  pub directory : (node : NodeId) → plan.directory ≡ Some node → node.0 < nodes
  pub file : (node : NodeId) → plan.file ≡ Some node → node.0 < nodes

-- A core holds what a rename asks for by a plan but for its log, for which it has room, and has read the way up where it needs that. It may meet
-- the tree that it has seen.
pub record HoldsRound (given : ℕ → Option OldKept) (t : FileState) (nodes : ℕ) (move : Move) (plan : Plan) (above : List ℕ)
    (before after : FileHand) : Type 0 where
  pub work : IsWorking given t after
  pub on : WorksOn before after
  pub cells : HoldsCells nodes after.held (asked_cells move plan)
  pub lock : is_some plan.comes ≡ true → HoldsCell nodes after.held id.Lock
  pub read : is_some plan.comes ≡ true → HasRead given after.view move.to_directory.0 above
  pub ends : is_some plan.comes ≡ true → EndsAtRoot move.to_directory.0 above
  pub met : MayMeet after.view after.held (tree_seen after)
  pub below : LiesAbove (32 + 10 * nodes) after.view.held
  pub room : 0 < after.room

-- the directories above the new one that a core has read
abbrev pub way_read : Settled → List ℕ
way_read settled = map node_number settled.above.items

-- what a rename reads of what is held, by its plan and the way that its core has read
abbrev pub sight_settled : ℕ → List (HeldCell Cell) → Move → Settled → Sight
sight_settled nodes held move settled = sight_of nodes held move settled.plan (way_read settled)

-- What a core keeps of the two buckets is what they tell that it holds.
abbrev pub KeepsLook : ℕ → List (HeldCell Cell) → Move → Settled → Type 0
KeepsLook nodes held move settled = settled.look ≡ look_seen (sight_settled nodes held move settled) move

-- A core has come to hold all that its rename asks for. It may have let go of all and begun again before.
pub record SettlesRename (given : ℕ → Option OldKept) (t : FileState) (nodes : ℕ) (move : Move) (settled : Settled)
    (before after : FileHand) : Type 0 where
  pub begun : FileHand
  pub again : IsRefusedMemory t before begun
  pub on : WorksOn begun after
  pub within : IsPlanWithin nodes settled.plan
  pub look : KeepsLook nodes after.held move settled
  pub ready : HoldsRename given t nodes move settled.plan (way_read settled) after
