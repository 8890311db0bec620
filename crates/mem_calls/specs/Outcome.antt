-- What a call on a table comes to.
use Rattle.std.specs.Prelude.{MatchResult, Result, ◌≡◌, ◌+◌, List, [], ◌∷◌, ◌++◌, length}
use mathlib.Core.List.{IsPrefix}
use Rattle.sfs_base.specs.declared.fault.NoMemory.{NoMemory}
use Rattle.tree_laws.specs.declared.call.Call.{Call}
use Rattle.tree_laws.specs.declared.reply.Reply.{Reply}
use Rattle.tree_laws.specs.declared.history.Entry.{Entry}
use Rattle.tree_laws.specs.History.{tree_after}
use Rattle.tree_laws.specs.Verdict.{verdict}
use Rattle.stamp_table.specs.declared.event.Event.{Event}
use Rattle.stamp_table.specs.declared.event.Event.TheVariants.{Called}
use Rattle.stamp_table.specs.Events.{calls_in}
use Rattle.stamp_table.specs.Table.{entry_numbered, IsBetweenCalls, IsSameCore}
use Rattle.mem_values.specs.Start.{FileHand, FileState}
use Rattle.mem_values.specs.declared.fact.Fact.{Fact}

-- A call stands in the history right behind a log that begins with all that its core had seen: its number is the count of the calls in
-- the log, and its reply is that of the tree after them.
pub record StandsBehind (t : FileState) (c : Call) (reply : Reply) (before after : FileHand) (log : List (Event Fact)) (entry : Entry) : Type 0 where
  pub entry_is : entry ≡ entry_numbered before.view.core c reply (length (calls_in log))
  pub began : IsPrefix before.view.seen log
  pub seen : after.view.seen ≡ log ++ Called entry ∷ []
  pub due : reply ≡ (verdict (tree_after t.first (calls_in log)) before.view.core c).reply

-- A core has made a call: it has one entry more, which stands in the history, and is between two calls. The cells that it held are home.
pub record IsAnswered (t : FileState) (c : Call) (reply : Reply) (before after : FileHand) : Type 0 where
  pub between : IsBetweenCalls t after
  pub same : IsSameCore before after
  pub room : after.room ≡ before.room + length before.held
  pub spare : after.spare + 1 ≡ before.spare
  pub stands : (log : List (Event Fact)) × (entry : Entry) × StandsBehind t c reply before after log entry
      × (after.entries ≡ before.entries ++ entry ∷ []) × (after.view.mine ≡ before.view.mine ++ Called entry ∷ [])

-- A core was refused memory for a call: it is between two calls, and has no further entry. It may have seen more of the history.
pub record IsRefusedMemory (t : FileState) (before after : FileHand) : Type 0 where
  pub between : IsBetweenCalls t after
  pub same : IsSameCore before after
  pub room : after.room ≡ before.room + length before.held
  pub spare : after.spare ≡ before.spare
  pub seen : IsPrefix before.view.seen after.view.seen
  pub entries : after.entries ≡ before.entries
  pub mine : after.view.mine ≡ before.view.mine

-- what a call comes to, by its result
abbrev pub ComesTo : FileState → Call → FileHand → FileHand → Result Reply NoMemory → Type 0
ComesTo t c before after result = MatchResult result (λ reply. IsAnswered t c reply before after) (λ fault. IsRefusedMemory t before after)
