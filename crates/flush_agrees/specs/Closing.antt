-- What a core and its pen agree on where a mount ends, over all that was called, told and noted.
use Rattle.std.specs.Prelude.{◌++◌, ◌≤◌, ◌^◌, ◌-◌, ◌≡◌, ◌∷◌, count_by, List, filter, Bool, [], false, true, map, ℕ, Some, None, filter_map, flat_map, slice_get}
use mathlib.Core.List.{IsPrefix}
use Rattle.sfs_base.specs.declared.numbers.CoreId.{CoreId}
use Rattle.sfs_image.specs.Super.{Layout}
use Rattle.space_map.specs.Space.{Space, shortage}
use Rattle.space_map.specs.declared.fault.SpaceFault.TheVariants.{NoSpace}
use Rattle.tree_laws.specs.declared.history.Entry.{Entry}
use Rattle.tree_laws.specs.History.{IsLegal}
use Rattle.tree_laws.specs.Merged.{is_core}
use Rattle.tree_laws.specs.declared.turns.Turn.{Turn}
use Rattle.tree_laws.specs.declared.turns.TurnAct.TheVariants as act
use Rattle.disk_change.specs.Planned.{enters}
use Rattle.cut_laws.specs.Closure.{Flush}
use Rattle.cut_laws.specs.Rules.{IsOneOf}
use Rattle.turn_laws.specs.Books.{flush_at}
use Rattle.merge_laws.specs.Pens.{FsyncTurns, PenAgrees}
use Rattle.book_laws.specs.Along.{LackTold}
use Rattle.stamp_table.specs.declared.event.Event.TheVariants.{Told}
use Rattle.stamp_table.specs.Rule.{entries_by}
use Rattle.stamp_table.specs.declared.event.Event.{Event}
use Rattle.stamp_table.specs.Events.{event_core}
use Rattle.mem_values.specs.declared.fact.Fact.{Fact}
use Rattle.mem_values.specs.Start.{FileState, FileHand}
use Rattle.mem_values.specs.Account.{Commitment, held_by, commit_told}
use Rattle.mem_values.specs.declared.fact.HeldNode.{HeldNode}
use Rattle.note_laws.specs.Run.{IsTableRun, TableRun}
use Rattle.made_laws.specs.Made.{CoreMaking, making_flush, MadeEitherWay}
use Rattle.made_laws.specs.Own.{TellsMaking}
use Rattle.slot_laws.specs.declared.label.Label.TheVariants as label
use Rattle.slot_laws.specs.declared.label.Seen.{Seen}
use Rattle.slot_laws.specs.Nodes.{last_seen, last_ended}
use Rattle.slot_laws.specs.Grants.{SpaceGoes}
use Rattle.slot_laws.specs.Labels.{first_past, nothing_told}
use Rattle.slot_laws.specs.declared.label.Label.{Label}
use Rattle.slot_laws.specs.Telling.{BoxTurn, events_in, TellTurns, turns_in}
use Rattle.disk_box.specs.Pens.{PenHand}
use Rattle.disk_box.specs.Box.{LawfulBox, past_of}
use Rattle.disk_box.specs.declared.key.BoxKey.{BoxKey}
use Rattle.fsync_commit.specs.Asked.{need_planned}
use Rattle.flush_agrees.specs.Made.{SeesConcerned, FlushMade, GrantsNeed, TurnMade, TellsNoNumber, LeavesOfNode}
use Rattle.flush_agrees.specs.Agreement.{run_to, FlushTold, IsDurableFsync, fsync_turns, turns_of, NumbersHave, CoresAgree}

-- What a mount leaves: its history with all answers, the events of its table, and the labels of the box.
pub record MountLogs : Type 0 where
  pub history : List Entry
  pub log : List (Event Fact)
  pub labels : List (Event Label)

-- A core and its pen have come to that end. The table's events are a run of it, which goes on from what the core has seen, and the core's entries are its part
-- of a legal history. The labels are lawful, they go on from what the pen has seen, and what the pen told is its part of them.
pub record ReachesEnd {D : Type 0} (t : FileState) (hand : FileHand) (pen : PenHand D) (logs : MountLogs) : Type 0 where
  pub table : IsTableRun (run_to t logs.log)
  pub seen : IsPrefix hand.view.seen logs.log
  pub legal : IsLegal t.first logs.history
  pub entries : hand.entries ≡ filter (is_core hand.view.core) logs.history
  pub lawful : LawfulBox pen.table.given logs.labels
  pub saw : IsPrefix pen.view.seen logs.labels
  pub mine : pen.view.mine ≡ entries_by event_core hand.view.core logs.labels

-- whether an fsync has turns
abbrev pub any_turn : List Turn → Bool
any_turn [] = false
any_turn (turn ∷ turns) = true

abbrev pub has_turns : FsyncTurns → Bool
has_turns one = any_turn one.turns

-- the fsyncs in the record's turns, of which there are some
abbrev pub pen_fsyncs : List FlushTold → List FsyncTurns
pen_fsyncs fsyncs = filter has_turns (map fsync_turns fsyncs)

-- What a core made for an fsync it made in the whole run; its turns at the box are of that, and the grant is of what it needs.
pub record MadeAtEnd (run : TableRun) (core : ℕ) (layout : Layout) (one : FlushTold) (made : FlushMade) : Type 0 where
  pub made_in : MadeEitherWay run made.making
  pub core_is : made.making.noted.core ≡ core
  pub flush_is : making_flush made.making ≡ one.flush
  pub grants : GrantsNeed layout made
  pub turns : (turn : BoxTurn) → IsOneOf one.turns turn → TurnMade made turn

-- A commit is told in the whole run, of what a core made, with its number; and wrote of each node what the plan leaves with the grant.
pub record ToldAtEnd (run : TableRun) (made : FlushMade) (told : Commitment) : Type 0 where
  pub tells : TellsMaking run made.making told
  pub number_is : told.number ≡ made.number
  pub wrote : (node : ℕ) (held : HeldNode) → held_by told node ≡ Some held → LeavesOfNode made node held.new

-- One of some fsyncs, which has become durable, has told a commit, in the whole run.
pub record IsToldAtEnd (run : TableRun) (fsyncs : List FlushTold) (told : Commitment) : Type 0 where
  pub one : FlushTold
  pub among : IsOneOf fsyncs one
  pub landed : IsDurableFsync one
  pub made : FlushMade
  pub is : one.made ≡ Some made
  pub tells : ToldAtEnd run made told

-- An fsync that has become durable has told a commit, in the whole run.
pub record LandedAtEnd (run : TableRun) (one : FlushTold) : Type 0 where
  pub made : FlushMade
  pub is : one.made ≡ Some made
  pub told : Commitment
  pub tells : ToldAtEnd run made told

-- What a core made for an fsync that was refused for want of space it made in the whole run; and where its turn was noted none of the nodes that it concerns
-- had moved, and a map that had gone along all labels up to there has too little of this kind for what the plan needs.
pub record LacksAtEnd {D : Type 0} (run : TableRun) (key : BoxKey D) (labels : List (Event Label)) (flush : Flush) (turn : Turn)
    (lack : LackTold) : Type 0 where
  pub making : CoreMaking
  pub made_in : MadeEitherWay run making
  pub flush_is : making_flush making ≡ flush
  pub seen : List Seen
  pub sees : SeesConcerned making seen
  pub few : count_by enters making.plan.change.seats ≤ 2 ^ 32 - 1
  pub core : CoreId
  pub front : List (Event Label)
  pub back : List (Event Label)
  pub whole : labels ≡ front ++ Told core (label.Noted turn) ∷ back
  pub unmoved : (node last : ℕ) → last_seen seen node ≡ Some last → (past_of key front).lasts node ≡ last_ended last
  pub space : Space
  pub goes : SpaceGoes key.layout front (first_past key.start) key.space space
  pub short : shortage space (need_planned making.plan.change) ≡ Some (NoSpace lack.kind lack.asked lack.have)

-- They agree on the whole of it: what the core told at the box are its fsyncs' turns there, each of one of its commits; what it made of each it made in the
-- whole run, and it told exactly the durable ones; and with the turns of the record the core and its pen agree on the fsyncs that have some.
pub record AgreeAtEnd {D : Type 0} (t : FileState) (hand : FileHand) (pen : PenHand D) (fsyncs : List FlushTold) (logs : MountLogs) : Type 0 where
  pub mine : entries_by event_core hand.view.core logs.labels ≡ events_in hand.view.core (turns_of fsyncs)
  pub tells : (stamps : ℕ → ℕ) → NumbersHave stamps fsyncs → TellTurns stamps hand.view.core nothing_told (turns_of fsyncs)
  pub made : (one : FlushTold) (made : FlushMade) → IsOneOf fsyncs one → one.made ≡ Some made
      → MadeAtEnd (run_to t logs.log) hand.view.core pen.table.given.layout one made
  pub unnumbered : (one : FlushTold) → IsOneOf fsyncs one → one.made ≡ None → (turn : BoxTurn) → IsOneOf one.turns turn → TellsNoNumber turn
  pub told : (told : Commitment) → IsOneOf (filter_map commit_told hand.view.mine) told → IsToldAtEnd (run_to t logs.log) fsyncs told
  pub landed : (one : FlushTold) (turn : Turn) → IsOneOf fsyncs one → IsOneOf (turns_in one.turns) turn → turn.act ≡ act.Durable
      → LandedAtEnd (run_to t logs.log) one
  pub lacked : (one : FlushTold) (turn : Turn) (lack : LackTold) → IsOneOf fsyncs one → IsOneOf (turns_in one.turns) turn
      → turn.act ≡ act.Short lack.kind lack.asked lack.have → LacksAtEnd (run_to t logs.log) pen.table.given logs.labels one.flush turn lack
  pub of_flush : (one : FlushTold) (turn : Turn) → IsOneOf fsyncs one → IsOneOf (turns_in one.turns) turn → flush_at turn ≡ one.flush
  pub turns : turns_in (turns_of fsyncs) ≡ flat_map (λ (one : FsyncTurns). one.turns) (pen_fsyncs fsyncs)
  pub agrees : PenAgrees t.first logs.history (past_of pen.table.given logs.labels).turns hand.view.core (pen_fsyncs fsyncs)

-- So it is of each core and its pen that agree.
abbrev pub AgreementsEnd : Type 0 → Type 0
AgreementsEnd D = (t : FileState) (hand : FileHand) (pen : PenHand D) (fsyncs : List FlushTold) (logs : MountLogs)
    → CoresAgree t hand pen fsyncs → ReachesEnd t hand pen logs → AgreeAtEnd t hand pen fsyncs logs

-- A core and its pen agree on some fsyncs, where the labels of a box have what the pen told as this core's part.
pub record AgreesInPart (D : Type 0) (t : FileState) (labels : List (Event Label)) (core : ℕ) (fsyncs : List FlushTold) : Type 0 where
  pub hand : FileHand
  pub pen : PenHand D
  pub agree : CoresAgree t hand pen fsyncs
  pub mine : pen.view.mine ≡ entries_by event_core core labels

-- There are stamps by numbers for the fsyncs of all cores, a list a core: each number that was made has the stamp of its fsync.
pub record HasStamps (fsyncs : List (List FlushTold)) : Type 0 where
  pub stamps : ℕ → ℕ
  pub each : (core : ℕ) (told : List FlushTold) → slice_get fsyncs core ≡ Some told → NumbersHave stamps told

-- So there are where the labels are lawful and each core agrees with its pen.
abbrev pub StampsAreGiven : Type 0 → Type 0
StampsAreGiven D = (t : FileState) (key : BoxKey D) (labels : List (Event Label)) (fsyncs : List (List FlushTold)) → LawfulBox key labels
    → ((core : ℕ) (told : List FlushTold) → slice_get fsyncs core ≡ Some told → AgreesInPart D t labels core told) → HasStamps fsyncs
