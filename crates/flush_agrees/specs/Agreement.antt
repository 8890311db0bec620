-- What a core of the table and its pen agree on: what each fsync of the core has told at the box, and what the core made and told of it.
use Rattle.std.specs.Prelude.{◌≡◌, ◌<◌, ◌≤◌, ◌^◌, ◌-◌, ◌∷◌, ◌++◌, List, [], Option, flat_map, filter_map, ℕ, Some, None, map, count_by}
use mathlib.Core.List.{IsPrefix}
use Rattle.sfs_base.specs.declared.numbers.CoreId.{CoreId}
use Rattle.sfs_base.specs.declared.numbers.SpaceKind.{SpaceKind}
use Rattle.sfs_base.specs.declared.numbers.NodeId.{NodeId}
use Rattle.space_map.specs.Space.{Space, shortage}
use Rattle.space_map.specs.declared.fault.SpaceFault.TheVariants.{NoSpace}
use Rattle.tree_laws.specs.declared.history.Entry.{Entry}
use Rattle.tree_laws.specs.declared.turns.Turn.{Turn}
use Rattle.tree_laws.specs.declared.turns.TurnAct.TheVariants as act
use Rattle.tree_laws.specs.declared.reply.Reply.TheVariants as reply
use Rattle.disk_change.specs.Planned.{enters}
use Rattle.cut_laws.specs.Closure.{Flush}
use Rattle.cut_laws.specs.Rules.{IsOneOf}
use Rattle.turn_laws.specs.Ways.{GoesWay}
use Rattle.merge_laws.specs.Pens.{FsyncTurns, IsTurnOf, FsyncsDiffer}
use Rattle.stamp_table.specs.declared.event.Event.TheVariants.{Told}
use Rattle.stamp_table.specs.declared.event.Event.{Event}
use Rattle.mem_values.specs.Start.{given_by, FileState, FileHand}
use Rattle.mem_values.specs.declared.fact.Fact.{Fact}
use Rattle.mem_values.specs.Account.{Commitment, commit_told, held_by}
use Rattle.mem_values.specs.declared.fact.HeldNode.{HeldNode}
use Rattle.note_laws.specs.Run.{TableRun}
use Rattle.made_laws.specs.Made.{CoreMaking, making_flush, MadeEitherWay}
use Rattle.made_laws.specs.Own.{TellsMaking}
use Rattle.slot_laws.specs.declared.label.Label.{Label}
use Rattle.slot_laws.specs.declared.label.Label.TheVariants as label
use Rattle.slot_laws.specs.declared.label.Seen.{Seen}
use Rattle.slot_laws.specs.Nodes.{last_seen, last_ended}
use Rattle.slot_laws.specs.Grants.{SpaceGoes}
use Rattle.slot_laws.specs.Telling.{BoxTurn, turns_in, events_in, TellTurns}
use Rattle.slot_laws.specs.Labels.{fsync_told, nothing_told, first_past}
use Rattle.disk_box.specs.Box.{past_of}
use Rattle.disk_box.specs.Pens.{PenHand}
use Rattle.journal_set.specs.Numbering.{numbers_reserved}
use Rattle.journal_set.specs.Flying.{SeesFailure}
use Rattle.fsync_commit.specs.Asked.{need_planned}
use Rattle.fsync_stamp.specs.Adding.{calls_seen}
use Rattle.pen_laws.specs.Agreement.{IsServedFsync}
use Rattle.flush_agrees.specs.Made.{FlushMade, GrantsNeed, SeesConcerned, TurnIsOf, LeavesOfNode}

-- An fsync as its pen has told it: whose it is, its core's turns at the box, and what the core made of it, where it got a number.
pub record FlushTold : Type 0 where
  pub flush : Flush
  pub turns : List BoxTurn
  pub made : Option FlushMade

-- all turns at the box of some fsyncs, in their order
abbrev pub turns_of : List FlushTold → List BoxTurn
turns_of fsyncs = flat_map (λ (one : FlushTold). one.turns) fsyncs

-- an fsync in the record's turns
abbrev pub fsync_turns : FlushTold → FsyncTurns
fsync_turns one = record { stamp = one.flush.stamp; turns = turns_in one.turns }

-- the run of a table up to a log
abbrev pub run_to : FileState → List (Event Fact) → TableRun
run_to t log = record { given = given_by t; first = t.first; log = log }

-- A core made something for an fsync by a log that it has seen.
pub record MadeInSight (t : FileState) (hand : FileHand) (flush : Flush) (making : CoreMaking) : Type 0 where
  pub log : List (Event Fact)
  pub since : IsPrefix log hand.view.seen
  pub made : MadeEitherWay (run_to t log) making
  pub core_is : making.noted.core ≡ hand.view.core
  pub flush_is : making_flush making ≡ flush

-- A core has told a commit of what it made, with its number; of each node that it holds it wrote what the plan leaves with the grant.
pub record ToldInSight (t : FileState) (hand : FileHand) (one : FlushMade) (told : Commitment) : Type 0 where
  pub log : List (Event Fact)
  pub since : IsPrefix log hand.view.seen
  pub among : IsOneOf (filter_map commit_told hand.view.mine) told
  pub made : TellsMaking (run_to t log) one.making told
  pub number_is : told.number ≡ one.number
  pub wrote : (node : ℕ) (held : HeldNode) → held_by told node ≡ Some held → LeavesOfNode one node held.new

-- What a core made for an fsync it made in its sight; its pen reserved the number, with a grant of what it needs.
pub record MadeAgrees {D : Type 0} (t : FileState) (hand : FileHand) (pen : PenHand D) (flush : Flush) (one : FlushMade) : Type 0 where
  pub sight : MadeInSight t hand flush one.making
  pub reserved : IsOneOf (numbers_reserved pen.view.mine) one.number
  pub grants : GrantsNeed pen.table.given.layout one

-- what was made for an fsync, where something was, is agreed on
abbrev pub MadeIsAgreed : {D : Type 0} → FileState → FileHand → PenHand D → Flush → Option FlushMade → Type 0
MadeIsAgreed t hand pen flush None = Unit {0}
MadeIsAgreed t hand pen flush (Some one) = MadeAgrees t hand pen flush one

-- An fsync has become durable: something was made of it, and its core has told a commit of that.
pub record HasToldFlush (t : FileState) (hand : FileHand) (one : FlushTold) : Type 0 where
  pub made : FlushMade
  pub is : one.made ≡ Some made
  pub told : Commitment
  pub tells : ToldInSight t hand made told

-- The entry of an fsync, and its turns: these are the entry's and go one of the ways with its reply. The moment of the Durable one is the acknowledgement, and
-- where the fsync was stopped its pen has seen the failure.
pub record EntryAgrees {D : Type 0} (hand : FileHand) (pen : PenHand D) (one : FlushTold) (entry : Entry) (node : NodeId) : Type 0 where
  pub own : IsServedFsync hand entry node
  pub past : entry.stamp.0 < calls_seen hand
  pub core_is : entry.core.0 ≡ hand.view.core
  pub flush_is : one.flush ≡ fsync_told node entry.stamp
  pub each : (turn : Turn) → IsOneOf (turns_in one.turns) turn → IsTurnOf entry node turn
  pub way : GoesWay (turns_in one.turns) entry.reply
  pub ack : (turn : Turn) → IsOneOf (turns_in one.turns) turn → turn.act ≡ act.Durable → entry.ack ≡ Some turn.now
  pub stopped : (faults : ℕ) → entry.reply ≡ reply.Stopped faults → SeesFailure pen faults

-- A core made something for an fsync that was refused for want of space: it asked for exactly the nodes that the fsync concerns, and no more nodes enter by its
-- plan than a word counts. Its one turn says of what there was too little; and where that was noted none of the nodes had moved, and a map which had gone along
-- the labels up to there has too little of just that for what the plan needs.
pub record LacksInSight {D : Type 0} (t : FileState) (hand : FileHand) (pen : PenHand D) (one : FlushTold) (kind : SpaceKind) (need free : ℕ) : Type 0 where
  pub making : CoreMaking
  pub sight : MadeInSight t hand one.flush making
  pub seen : List Seen
  pub sees : SeesConcerned making seen
  pub few : count_by enters making.plan.change.seats ≤ 2 ^ 32 - 1
  pub turn : Turn
  pub only : turns_in one.turns ≡ turn ∷ []
  pub did : turn.act ≡ act.Short kind need free
  pub core : CoreId
  pub front : List (Event Label)
  pub back : List (Event Label)
  pub whole : pen.view.seen ≡ front ++ Told core (label.Noted turn) ∷ back
  pub unmoved : (node last : ℕ) → last_seen seen node ≡ Some last → (past_of pen.table.given front).lasts node ≡ last_ended last
  pub space : Space
  pub goes : SpaceGoes pen.table.given.layout front (first_past pen.table.given.start) pen.table.given.space space
  pub short : shortage space (need_planned making.plan.change) ≡ Some (NoSpace kind need free)

-- A core and its pen agree on an fsync: by its entry, by what was made of it, of which its turns at the box are, by what was told of it once it was durable,
-- and by what was made of it where it was refused for want of space.
pub record FlushAgrees {D : Type 0} (t : FileState) (hand : FileHand) (pen : PenHand D) (one : FlushTold) : Type 0 where
  pub entry : Entry
  pub node : NodeId
  pub entered : EntryAgrees hand pen one entry node
  pub turns : (turn : BoxTurn) → IsOneOf one.turns turn → TurnIsOf one.made turn
  pub made : MadeIsAgreed t hand pen one.flush one.made
  pub landed : entry.reply ≡ reply.Ok → HasToldFlush t hand one
  pub lacked : (kind : SpaceKind) (need free : ℕ) → entry.reply ≡ reply.NoSpace kind need free → LacksInSight t hand pen one kind need free

-- some stamps by numbers give each number that was made with that of its fsync
abbrev pub NumbersHave : (ℕ → ℕ) → List FlushTold → Type 0
NumbersHave stamps fsyncs =
    (one : FlushTold) (made : FlushMade) → IsOneOf fsyncs one → one.made ≡ Some made → stamps made.number ≡ one.flush.stamp

-- One of some fsyncs has this entry, of this node.
pub record HasFlushFor {D : Type 0} (hand : FileHand) (pen : PenHand D) (fsyncs : List FlushTold) (entry : Entry) (node : NodeId) : Type 0 where
  pub one : FlushTold
  pub among : IsOneOf fsyncs one
  pub entered : EntryAgrees hand pen one entry node

-- No two fsyncs of some got one number.
abbrev pub NumbersDiffer : List FlushTold → Type 0
NumbersDiffer fsyncs = (one other : FlushTold) (made also : FlushMade) → IsOneOf fsyncs one → IsOneOf fsyncs other → one.made ≡ Some made
    → other.made ≡ Some also → made.number ≡ also.number → one.flush.stamp ≡ other.flush.stamp

-- An fsync has become durable: one of its turns says so.
pub record IsDurableFsync (one : FlushTold) : Type 0 where
  pub turn : Turn
  pub among : IsOneOf (turns_in one.turns) turn
  pub durable : turn.act ≡ act.Durable

-- A commit that a core told is of what it made for one of some fsyncs, which has become durable.
pub record IsToldOfOne (t : FileState) (hand : FileHand) (fsyncs : List FlushTold) (told : Commitment) : Type 0 where
  pub one : FlushTold
  pub among : IsOneOf fsyncs one
  pub landed : IsDurableFsync one
  pub made : FlushMade
  pub is : one.made ≡ Some made
  pub tells : ToldInSight t hand made told

-- A core of a table and its pen agree on these fsyncs, which are all of the core's that were served. What the pen told are their turns at the box, in order,
-- each of a commit of the core's where numbers have the stamps of the fsyncs. They agree on each; no two have one stamp, or one number; and each commit that
-- the core told is of one of them that has become durable.
pub record CoresAgree {D : Type 0} (t : FileState) (hand : FileHand) (pen : PenHand D) (fsyncs : List FlushTold) : Type 0 where
  pub one : pen.view.core ≡ hand.view.core
  pub told : pen.view.mine ≡ events_in pen.view.core (turns_of fsyncs)
  pub tells : (stamps : ℕ → ℕ) → NumbersHave stamps fsyncs → TellTurns stamps pen.view.core nothing_told (turns_of fsyncs)
  pub each : (one : FlushTold) → IsOneOf fsyncs one → FlushAgrees t hand pen one
  pub once : FsyncsDiffer (map fsync_turns fsyncs)
  pub numbers : NumbersDiffer fsyncs
  pub others : (entry : Entry) (node : NodeId) → IsServedFsync hand entry node → HasFlushFor hand pen fsyncs entry node
  pub commits : (told : Commitment) → IsOneOf (filter_map commit_told hand.view.mine) told → IsToldOfOne t hand fsyncs told
