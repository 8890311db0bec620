-- What a core looks at for an fsync: what was flushed of the nodes that it holds, and the logs of all cores.
use Rattle.std.specs.Prelude.{◌≡◌, ℕ, ◌<◌, List, length, map, slice_get, Option, Some}
use mathlib.Core.List.{IsPrefix}
use Rattle.sfs_base.specs.declared.numbers.NodeId.{NodeId}
use Rattle.disk_nodes.specs.OldKept.{OldKept}
use Rattle.mem_cells.specs.Part.{CoreLog}
use Rattle.log_copy.specs.Copies.{is_one_of, KeepsFor}
use Rattle.stamp_table.specs.declared.event.Event.{Event}
use Rattle.stamp_table.specs.Hand.{places_of}
use Rattle.mem_values.specs.Start.{FileHand}
use Rattle.mem_values.specs.declared.fact.Fact.{Fact}
use Rattle.mem_values.specs.declared.cell.Pending.{Pending}
use Rattle.mem_values.specs.declared.cell_id.CellId.TheVariants as id
use Rattle.mem_values.specs.Places.{cell_place}
use Rattle.mem_values.specs.Account.{account_of}
use Rattle.mem_values.specs.Stands.{StandsPart, StandsPending}
use Rattle.mem_calls.specs.Held.{pending_held}

-- a node of a table of so many
abbrev pub IsBelow : ℕ → NodeId → Type 0
IsBelow nodes node = node.0 < nodes

-- the place of what was flushed of a node
abbrev pub flushed_place : ℕ → NodeId → ℕ
flushed_place nodes node = cell_place nodes (id.Pending node)

-- what a core holds is what was flushed of these nodes, in their order
abbrev pub HoldsNodes : ℕ → List NodeId → FileHand → Type 0
HoldsNodes nodes list hand = places_of hand.held ≡ map (flushed_place nodes) list

-- A core has seen more of the history, and is as before otherwise.
pub record SawMore (before after : FileHand) : Type 0 where
  pub frame : record after { view = before.view } ≡ before
  pub view : record after.view { seen = before.view.seen } ≡ before.view
  pub seen : IsPrefix before.view.seen after.view.seen

-- A copy of what a core's log keeps for some nodes, from a look that began and ended so: the log stood for what the core had seen at a moment between, and
-- so did then what it holds that was flushed of nodes.
pub record IsCopyOf (given : ℕ → Option OldKept) (nodes : ℕ) (list : List NodeId) (before after : FileHand) (number : ℕ) (copy : CoreLog) : Type 0 where
  pub log : CoreLog
  pub keeps : KeepsFor (is_one_of list) log copy
  pub at : List (Event Fact)
  pub since : IsPrefix before.view.seen at
  pub until : IsPrefix at after.view.seen
  pub made : ℕ
  pub stands : StandsPart before.view.first (account_of at) number (record { log = log; made = made })
  pub kept : (node : NodeId) (pending : Pending) → node.0 < nodes → pending_held nodes before.held node ≡ Some pending
      → StandsPending given before.view.first (account_of at) node.0 pending

-- such copies of the first cores' logs, so many of them, in their order
pub record AreCopies (given : ℕ → Option OldKept) (nodes cores : ℕ) (list : List NodeId) (before after : FileHand) (copies : List CoreLog) : Type 0 where
  pub count : length copies ≡ cores
  pub each : (number : ℕ) (copy : CoreLog) → slice_get copies number ≡ Some copy → IsCopyOf given nodes list before after number copy
