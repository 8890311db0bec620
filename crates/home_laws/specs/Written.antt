-- With what value what was flushed of a node goes home at the end of an fsync.
use Rattle.std.specs.Prelude.{◌≡◌, ℕ, ◌<◌, List, length, Option, Some}
use mathlib.Core.List.{IsPrefix}
use Rattle.tree_laws.specs.Tree.{TreeState}
use Rattle.tree_laws.specs.History.{tree_after, IsLegal}
use Rattle.tree_laws.specs.Laws.{IsSoundTree}
use Rattle.tree_laws.specs.NameRow.{number_of}
use Rattle.cut_laws.specs.Rules.{IsOneOf}
use Rattle.disk_nodes.specs.OldKept.{OldKept}
use Rattle.stamp_table.specs.declared.event.Event.{Event}
use Rattle.stamp_table.specs.Events.{calls_in}
use Rattle.mem_values.specs.declared.fact.Fact.{Fact}
use Rattle.mem_values.specs.declared.fact.HeldNode.{HeldNode}
use Rattle.mem_values.specs.declared.cell.Pending.{Pending}
use Rattle.mem_values.specs.Account.{Commitment, account_of, last_writer}
use Rattle.mem_values.specs.Stands.{Flushed, IsTrimmedFor, StandsPending}
use Rattle.home_laws.specs.Laws.{IsNodeOf}

-- A node of a table that a core writes: what the core has seen as it looks at the node and as it puts it home, its value then and now, the
-- commit that is the last one of the node, and what that holds of it.
pub record WrittenNode : Type 0 where
  pub given : ℕ → Option OldKept
  pub first : TreeState
  pub seen : List (Event Fact)
  pub later : List (Event Fact)
  pub node : ℕ
  pub old : Pending
  pub new : Pending
  pub commit : Commitment
  pub what : HeldNode

-- The value is the one that the commit wrote, of the directory in which the old one says that the node was made; the old one stood for what the
-- core had seen, which had the node; and every part is trimmed for the commit where that has a member.
pub record IsReadyToGoHome (w : WrittenNode) : Type 0 where
  pub sound : IsSoundTree w.first
  pub legal : IsLegal w.first (calls_in w.later)
  pub begins : IsPrefix w.seen w.later
  pub stood : StandsPending w.given w.first (account_of w.seen) w.node w.old
  pub is_node : IsNodeOf (tree_after w.first (calls_in w.seen)) w.node
  pub last : last_writer w.node (account_of w.later).commits ≡ Some (w.commit, w.what)
  pub trimmed : (member part : ℕ) → IsOneOf w.commit.members member → part < length w.first.made → IsTrimmedFor (account_of w.later) w.commit part
  pub wrote : ◌≡◌ {A = Flushed} (record { cut = w.new.cut.0; last = w.new.last; old = w.new.old })
      (record { cut = w.what.new_cut.0; last = w.commit.number; old = w.what.new })
  pub made_in : number_of w.new.made_in ≡ number_of w.old.made_in

-- Such a value stands for what the core has seen then.
abbrev pub WrittenValuesStand : Type 0
WrittenValuesStand = (w : WrittenNode) → IsReadyToGoHome w → StandsPending w.given w.first (account_of w.later) w.node w.new
