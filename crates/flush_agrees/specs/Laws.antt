-- How cores and their pens come to agree on fsyncs and go on agreeing; each law is proved by a function of the module laws.
use Rattle.std.specs.Prelude.{◌≡◌, ◌↔◌, ◌⊎◌, ◌≤◌, ◌^◌, ◌-◌, ◌++◌, ◌∷◌, [], filter_map, List, false, true, ℕ, filter}
use mathlib.Core.List.{IsPrefix}
use Rattle.sfs_base.specs.declared.numbers.NodeId.{NodeId}
use Rattle.tree_laws.specs.declared.history.Entry.{Entry}
use Rattle.tree_laws.specs.declared.call.Call.{Call}
use Rattle.tree_laws.specs.declared.reply.Reply.{Reply}
use Rattle.stamp_table.specs.Table.{TableState}
use Rattle.stamp_table.specs.Answered.{asks_fsync, is_refusal}
use Rattle.mem_values.specs.Start.{FileState, FileHand}
use Rattle.mem_values.specs.Account.{commit_told}
use Rattle.disk_box.specs.declared.key.BoxKey.{BoxKey}
use Rattle.disk_box.specs.Pens.{PenHand, PenGoes}
use Rattle.journal_set.specs.Making.{IsNewPen}
use Rattle.mem_calls.specs.Outcome.{IsAnswered, IsRefusedMemory}
use Rattle.fsync_dir.specs.Flush.{FlushComes}
use Rattle.fsync_dir.specs.Site.{IsSite, ToldAsReserved}
use Rattle.pen_laws.specs.Agreement.{IsServedFsync}
use Rattle.flush_agrees.specs.Agreement.{CoresAgree, FlushTold}

-- A core that has made no call and told nothing agrees with a new pen of its number on no fsync.
abbrev pub NewPairsAgree : Type 0 → Type 0
NewPairsAgree D = (t : FileState) (box : TableState (BoxKey D)) (hand : FileHand) (pen : PenHand D) → hand.entries ≡ [] → hand.view.mine ≡ []
    → IsNewPen box hand.view.core pen → CoresAgree t hand pen []

-- A core has gone on without an fsync that is served: it has told no commit, it has seen more, perhaps, and its served fsyncs are those of before.
pub record KeepsServed (before after : FileHand) : Type 0 where
  pub core : after.view.core ≡ before.view.core
  pub commits : filter_map commit_told after.view.mine ≡ filter_map commit_told before.view.mine
  pub seen : IsPrefix before.view.seen after.view.seen
  pub served : (entry : Entry) (node : NodeId) → IsServedFsync before entry node ↔ IsServedFsync after entry node

-- Then it agrees with its pen as before.
abbrev pub OtherCallsKeep : Type 0 → Type 0
OtherCallsKeep D = (t : FileState) (before after : FileHand) (pen : PenHand D) (fsyncs : List FlushTold) → KeepsServed before after
    → CoresAgree t before pen fsyncs → CoresAgree t after pen fsyncs

-- So it goes on by a call that is no fsync, or that is refused, and where memory for one was wanting.
abbrev pub AnswersKeepServed : Type 0
AnswersKeepServed = (t : FileState) (c : Call) (given : Reply) (before after : FileHand) → IsAnswered t c given before after
    → (asks_fsync c ≡ false) ⊎ (is_refusal given ≡ true) → KeepsServed before after

abbrev pub RefusedMemoryKeepsServed : Type 0
RefusedMemoryKeepsServed = (t : FileState) (before after : FileHand) → IsRefusedMemory t before after → KeepsServed before after

-- So it does where those of its entries that are fsyncs are those of before, with their answers.
abbrev pub SameFsyncsKeepServed : Type 0
SameFsyncsKeepServed = (before after : FileHand) → after.view.core ≡ before.view.core
    → filter_map commit_told after.view.mine ≡ filter_map commit_told before.view.mine → IsPrefix before.view.seen after.view.seen
    → filter (λ (entry : Entry). asks_fsync entry.call) after.entries ≡ filter (λ (entry : Entry). asks_fsync entry.call) before.entries
    → KeepsServed before after

-- Each commit that an agreeing core has told has a number that its pen reserved, as an fsync asks.
abbrev pub AgreeingCoresTell : Type 0 → Type 0
AgreeingCoresTell D = (t : FileState) (hand : FileHand) (pen : PenHand D) (fsyncs : List FlushTold) → CoresAgree t hand pen fsyncs → ToldAsReserved hand pen

-- An fsync of a node: the table and its numbers of nodes and cores, the node, and its core and the core's pen before it and behind it.
pub record FlushPlace (D : Type 0) : Type 0 where
  pub t : FileState
  pub nodes : ℕ
  pub cores : ℕ
  pub node : NodeId
  pub before : FileHand
  pub after : FileHand
  pub pen : PenHand D
  pub done : PenHand D

-- It was made where fsyncs are served, and this came of it.
pub record MakesFlush {D : Type 0} (at : FlushPlace D) (given : Reply) : Type 0 where
  pub site : IsSite at.t at.nodes at.cores at.pen.table.given
  pub few : at.nodes ≤ 2 ^ 32 - 1
  pub goes : PenGoes at.pen at.done
  pub comes : FlushComes at.t at.nodes at.node at.before at.after at.pen at.done given

-- behind it core and pen agree on the same fsyncs, or on one more
abbrev pub AgreeBehind : {D : Type 0} → FlushPlace D → List FlushTold → Type 0
AgreeBehind at fsyncs = CoresAgree at.t at.after at.done fsyncs ⊎ ((one : FlushTold) × CoresAgree at.t at.after at.done (fsyncs ++ one ∷ []))

abbrev pub FlushesAgree : Type 0 → Type 0
FlushesAgree D = (at : FlushPlace D) (given : Reply) (fsyncs : List FlushTold) → MakesFlush at given → CoresAgree at.t at.before at.pen fsyncs
    → AgreeBehind at fsyncs
