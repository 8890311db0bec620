-- What calls leave alone of a core and its pen.
use Rattle.std.specs.Prelude.{◌≡◌, Bool, true, Result, MatchResult, filter}
use mathlib.Core.List.{IsPrefix}
use Rattle.sfs_base.specs.declared.fault.NoMemory.{NoMemory}
use Rattle.tree_laws.specs.declared.call.Call.{Call}
use Rattle.tree_laws.specs.declared.history.Entry.{Entry}
use Rattle.tree_laws.specs.declared.reply.Reply.{Reply}
use Rattle.stamp_table.specs.declared.event.Event.{Event}
use Rattle.stamp_table.specs.declared.event.Event.TheVariants.{Called, Told}
use Rattle.stamp_table.specs.Answered.{asks_fsync}
use Rattle.stamp_table.specs.Table.{IsSameCore}
use Rattle.mem_values.specs.Start.{FileHand}
use Rattle.mem_values.specs.declared.fact.Fact.{Fact}
use Rattle.fsync_stamp.specs.Adding.{AddsCall}

-- whether an event is one that fsyncs bring: the call of one, or a fact that was told
abbrev pub is_of_fsync : Event Fact → Bool
is_of_fsync (Called entry) = asks_fsync entry.call
is_of_fsync (Told core fact) = true

-- whether an entry is an fsync's
abbrev pub is_fsync_entry : Entry → Bool
is_fsync_entry entry = asks_fsync entry.call

-- A core has made no fsync and has told nothing: its fsyncs, with their answers, and what it told are those of before. It may have seen more of the history.
pub record KeepsFsyncs (before after : FileHand) : Type 0 where
  pub same : IsSameCore before after
  pub first : after.view.first ≡ before.view.first
  pub events : filter is_of_fsync after.view.mine ≡ filter is_of_fsync before.view.mine
  pub entries : filter is_fsync_entry after.entries ≡ filter is_fsync_entry before.entries
  pub seen : IsPrefix before.view.seen after.view.seen

-- A core was refused memory before a stamp: it has no further entry. It may have seen more of the history.
pub record AddsNone (before after : FileHand) : Type 0 where
  pub entries : after.entries ≡ before.entries
  pub seen : IsPrefix before.view.seen after.view.seen

-- what a worker's call comes to, by its result: its core has made it, or was refused memory before its stamp
abbrev pub AddsOrRefused : Call → FileHand → FileHand → Result Reply NoMemory → Type 0
AddsOrRefused c before after result = MatchResult result (λ reply. AddsCall c reply before after) (λ fault. AddsNone before after)

-- what a core and a pen without meaning agree in: nothing
abbrev pub agree_always : {P : Type 0} → FileHand → P → Type 0
agree_always core pen = Unit {0}
