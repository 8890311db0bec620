-- How cores and their pens come to agree and go on agreeing; each law is proved by a function of the module laws.
use Rattle.std.specs.Prelude.{◌≡◌, ◌⊎◌, ℕ, true, false, List, [], ◌∷◌, ◌++◌, filter}
use mathlib.Core.List.{IsPrefix}
use Rattle.sfs_base.specs.declared.numbers.NodeId.{NodeId}
use Rattle.tree_laws.specs.declared.call.Call.{Call}
use Rattle.tree_laws.specs.declared.call.Call.TheVariants as call
use Rattle.tree_laws.specs.declared.history.Entry.{Entry}
use Rattle.tree_laws.specs.declared.reply.Reply.{Reply}
use Rattle.tree_laws.specs.declared.reply.Reply.TheVariants as reply
use Rattle.tree_laws.specs.declared.turns.Turn.{Turn}
use Rattle.tree_laws.specs.History.{IsLegal}
use Rattle.tree_laws.specs.Merged.{is_core}
use Rattle.tree_laws.specs.Tree.{TreeState}
use Rattle.merge_laws.specs.Pens.{FsyncTurns, PenAgrees}
use Rattle.stamp_table.specs.Answered.{asks_fsync, is_refusal}
use Rattle.mem_values.specs.Start.{FileHand}
use Rattle.fsync_stamp.specs.Adding.{AddsCall}
use Rattle.pen_laws.specs.Agreement.{Agree, HasTurnsOf}

-- A core without entries agrees with a pen that has turns of no fsync, whatever either has seen.
abbrev pub NewCoresAgree : Type 0
NewCoresAgree = (hand : FileHand) (seen : List Turn) → hand.entries ≡ [] → Agree hand seen []

-- A core has seen more of the history, and made no call.
pub record SeesOn (before after : FileHand) : Type 0 where
  pub entries : after.entries ≡ before.entries
  pub seen : IsPrefix before.view.seen after.view.seen

-- Then it agrees as before, and so it does where its pen has seen more turns.
abbrev pub AgreementLasts : Type 0
AgreementLasts = (before after : FileHand) (old new : List Turn) (fsyncs : List FsyncTurns) → SeesOn before after → IsPrefix old new
    → Agree before old fsyncs → Agree after new fsyncs

-- a call with this reply has no turns: it is no fsync, or one that was refused or answered NoMemory before its first turn
abbrev pub HasNoTurns : Call → Reply → Type 0
HasNoTurns c given = (asks_fsync c ≡ false) ⊎ (is_refusal given ≡ true) ⊎ (given ≡ reply.NoMemory)

-- Behind a call that has no turns they agree on the same fsyncs.
abbrev pub OtherCallsAgree : Type 0
OtherCallsAgree = (c : Call) (given : Reply) (before after : FileHand) (seen : List Turn) (fsyncs : List FsyncTurns) → AddsCall c given before after
    → HasNoTurns c given → Agree before seen fsyncs → Agree after seen fsyncs

-- A core has made an fsync, and its pen has turns of it.
pub record AddsFsync (node : NodeId) (given : Reply) (before after : FileHand) (seen : List Turn) (one : FsyncTurns) : Type 0 where
  pub adds : AddsCall (call.Fsync node) given before after
  pub served : is_refusal given ≡ false
  pub has : HasTurnsOf seen adds.entry node one

-- Then they agree on one fsync more.
abbrev pub FsyncsAgree : Type 0
FsyncsAgree = (node : NodeId) (given : Reply) (before after : FileHand) (seen : List Turn) (fsyncs : List FsyncTurns) (one : FsyncTurns)
    → AddsFsync node given before after seen one → Agree before seen fsyncs → Agree after seen (fsyncs ++ one ∷ [])

-- Where a core's entries are its part of a legal history, and its pen has seen a beginning of the record of turns, they agree on the whole of both.
abbrev pub AgreementsClose : Type 0
AgreementsClose = (first : TreeState) (history : List Entry) (core : ℕ) (hand : FileHand) (seen turns : List Turn) (fsyncs : List FsyncTurns)
    → IsLegal first history → hand.entries ≡ filter (is_core core) history → IsPrefix seen turns → Agree hand seen fsyncs
    → PenAgrees first history turns core fsyncs
