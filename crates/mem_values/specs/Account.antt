-- What the log of a table has: its calls, the commits that cores made, and which parts they trimmed for them.
use Rattle.std.specs.Prelude.{◌==◌, ◌∷◌, ℕ, Bool, List, [], Option, Some, None, option_map, map, filter_map}
use Rattle.std.specs.List.{find}
use Rattle.std.specs.Option.{option_or}
use Rattle.tree_laws.specs.declared.history.Entry.{Entry}
use Rattle.tree_laws.specs.NameRow.{node_number}
use Rattle.stamp_table.specs.declared.event.Event.{Event}
use Rattle.stamp_table.specs.declared.event.Event.TheVariants.{Called, Told}
use Rattle.stamp_table.specs.Events.{calls_in}
use Rattle.mem_values.specs.declared.fact.Fact.{Fact}
use Rattle.mem_values.specs.declared.fact.Fact.TheVariants.{Committed, Trimmed}
use Rattle.mem_values.specs.declared.fact.HeldNode.{HeldNode}

-- A commit as its core told it: whose it is, its number, the node and the stamp of its fsync, its members, and all nodes that it holds.
pub record Commitment : Type 0 where
  pub core : ℕ
  pub number : ℕ
  pub node : ℕ
  pub stamp : ℕ
  pub members : List ℕ
  pub held : List HeldNode

-- A core has trimmed a part for its commit of this number.
pub record Trimming : Type 0 where
  pub core : ℕ
  pub number : ℕ
  pub part : ℕ

-- the commit that an event tells
abbrev pub commit_told : Event Fact → Option Commitment
commit_told (Called entry) = None
commit_told (Told core (Committed number node stamp members held)) = Some (record {
  core = core.0;
  number = number;
  node = node.0;
  stamp = stamp.0;
  members = map node_number members.items;
  held = held.items;
})
commit_told (Told core (Trimmed number part)) = None

-- the trimming that an event tells
abbrev pub trimming_told : Event Fact → Option Trimming
trimming_told (Called entry) = None
trimming_told (Told core (Committed number node stamp members held)) = None
trimming_told (Told core (Trimmed number part)) = Some (record { core = core.0; number = number; part = part.0 })

-- The calls, the commits and the trimmings of a log, each in their order.
pub record Account : Type 0 where
  pub calls : List Entry
  pub commits : List Commitment
  pub trimmings : List Trimming

abbrev pub account_of : List (Event Fact) → Account
account_of log = record { calls = calls_in log; commits = filter_map commit_told log; trimmings = filter_map trimming_told log }

-- whether this is what a commit holds of a node
abbrev pub is_held_of : ℕ → HeldNode → Bool
is_held_of node held = held.node.0 == node

-- what a commit holds of a node
abbrev pub held_by : Commitment → ℕ → Option HeldNode
held_by commit node = find (is_held_of node) commit.held

-- a commit with what it holds of a node
abbrev pub writes_by : Commitment → Option HeldNode → Option (Commitment × HeldNode)
writes_by commit held = option_map (λ h. (commit, h)) held

-- the last commit that holds a node, with what it holds of it
abbrev pub last_writer : ℕ → List Commitment → Option (Commitment × HeldNode)
last_writer node [] = None
last_writer node (commit ∷ commits) = option_or (last_writer node commits) (writes_by commit (held_by commit node))
