-- What a call of whatever kind adds to a core.
use Rattle.std.specs.Prelude.{◌≡◌, ℕ, ◌<◌, ◌≤◌, [], ◌∷◌, ◌++◌, length}
use mathlib.Core.List.{IsPrefix}
use Rattle.tree_laws.specs.declared.call.Call.{Call}
use Rattle.tree_laws.specs.declared.history.Entry.{Entry}
use Rattle.tree_laws.specs.declared.reply.Reply.{Reply}
use Rattle.stamp_table.specs.Events.{calls_in}
use Rattle.mem_values.specs.Start.{FileHand}

-- how many calls a core has seen
abbrev pub calls_seen : FileHand → ℕ
calls_seen hand = length (calls_in hand.view.seen)

-- A core has one entry more, which has this call and this reply. Its stamp is above all that the core had seen, and it has seen it now.
pub record AddsCall (c : Call) (reply : Reply) (before after : FileHand) : Type 0 where
  pub entry : Entry
  pub entries : after.entries ≡ before.entries ++ entry ∷ []
  pub call_is : entry.call ≡ c
  pub reply_is : entry.reply ≡ reply
  pub late : calls_seen before ≤ entry.stamp.0
  pub early : entry.stamp.0 < calls_seen after
  pub seen : IsPrefix before.view.seen after.view.seen
