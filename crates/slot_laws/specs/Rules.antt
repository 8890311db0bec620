-- When a core may tell a label.
use Rattle.std.specs.Prelude.{◌≡◌, ◌≢◌, ◌+◌, ◌<◌, ◌≤◌, ◌∷◌, ℕ, Bool, true, false, List, [], length, slice_index_or, Option, Some, None}
use Rattle.sfs_image.specs.Super.{Layout}
use Rattle.sfs_image.specs.Settled.{slot_count}
use Rattle.journal_one.specs.Job.{Job, IsJob, fill_count, no_entry}
use Rattle.tree_laws.specs.declared.turns.Turn.{Turn}
use Rattle.tree_laws.specs.declared.turns.TurnAct.{TurnAct}
use Rattle.tree_laws.specs.declared.turns.TurnAct.TheVariants as act
use Rattle.cut_laws.specs.Closure.{Flush}
use Rattle.turn_laws.specs.Books.{CountsFaults, flush_at}
use Rattle.stamp_table.specs.declared.event.Event.{Event}
use Rattle.stamp_table.specs.declared.event.Event.TheVariants.{Called, Told}
use Rattle.slot_laws.specs.declared.label.Label.{Label}
use Rattle.slot_laws.specs.declared.label.Label.TheVariants as label
use Rattle.slot_laws.specs.Slots.{KnownGate, open_gate, shut_gate, SlotWork, Slots, place_at}
use Rattle.slot_laws.specs.Labels.{owner, BoxPast, after_event}
use Rattle.slot_laws.specs.declared.label.Seen.{Seen}
use Rattle.slot_laws.specs.Nodes.{last_seen, last_ended}

-- A turn is of a commit: it did this, and has the commit's core, number and fsync.
pub record IsTurnBy (turn : Turn) (did : TurnAct) (own_core number : ℕ) (own_flush : Flush) : Type 0 where
  pub did_is : turn.act ≡ did
  pub core_is : turn.core.0 ≡ own_core
  pub commit_is : turn.commit ≡ number
  pub flush_is : flush_at turn ≡ own_flush

-- A turn comes next: its moment does not fall, and its count of faults is right, `before` until a failure.
pub record IsNextTurn (before : ℕ) (past : BoxPast) (turn : Turn) : Type 0 where
  pub rises : past.moment ≤ turn.now
  pub counts : CountsFaults before turn.faults past.failed turn.act turn.faults

-- A turn is told that neither opens a commit nor makes one durable, by a core for which no turn waits.
pub record NotedRule (before core : ℕ) (turn : Turn) (past : BoxPast) : Type 0 where
  pub own : turn.core.0 ≡ core
  pub no_open : turn.act ≢ act.Opened
  pub no_durable : turn.act ≢ act.Durable
  pub learned : past.waits core ≡ None
  pub now : IsNextTurn before past turn

-- The next number is reserved, by a core that has none and no flight, and that has seen the last commit of each node that its own concerns, which
-- has ended.
pub record ReservedRule (core commit : ℕ) (seen : List Seen) (past : BoxPast) : Type 0 where
  pub calm : past.failed ≡ None
  pub next : commit ≡ past.commits + 1
  pub none : (past.owns core).reserved ≡ None
  pub rests : (past.owns core).flight ≡ None
  pub unmoved : (node last : ℕ) → last_seen seen node ≡ Some last → past.lasts node ≡ last_ended last

-- A commit begins with the number reserved and the next commit stamp, in an idle slot of the core's own.
pub record BeganRule (layout : Layout) (core : ℕ) (job : Job) (commit : ℕ) (past : BoxPast) : Type 0 where
  pub calm : past.failed ≡ None
  pub own : owner layout job.place.slot ≡ core
  pub within : job.place.slot < slot_count layout
  pub place : job.place ≡ place_at layout job.place.slot
  pub idle : past.slots job.place.slot ≡ None
  pub number : (past.owns core).reserved ≡ Some commit
  pub stamp : job.stamp ≡ past.stamps + 1
  pub is : IsJob job

-- A slot has a commit, durable or not, whose gate is known so in each image.
pub record HasWork (slots : Slots) (k : ℕ) (durable : Bool) (gate : KnownGate) : Type 0 where
  pub work : SlotWork
  pub there : slots k ≡ Some work
  pub aloft : work.settled ≡ durable
  pub gate_is : work.known.gate_left ≡ gate

-- A piece that fills a slot of the core's own is written behind the shut gate.
pub record FilledRule (layout : Layout) (core k piece : ℕ) (past : BoxPast) : Type 0 where
  pub calm : past.failed ≡ None
  pub own : owner layout k ≡ core
  pub has : HasWork past.slots k false shut_gate
  pub within : piece < fill_count has.work.job

-- The gate of a slot of the core's own is written open, once all that fills the slot is on the disk: the commit begins and is opened at one
-- moment.
pub record OpenedRule (layout : Layout) (before core k : ℕ) (cut opened : Turn) (past : BoxPast) : Type 0 where
  pub calm : past.failed ≡ None
  pub own : owner layout k ≡ core
  pub has : HasWork past.slots k false shut_gate
  pub filled : (n : ℕ) → n < fill_count has.work.job → has.work.known.fill_left n ≡ true
  pub cut_is : IsTurnBy cut act.CutAt core has.work.commit has.work.flush
  pub opened_is : IsTurnBy opened act.Opened core has.work.commit has.work.flush
  pub cut_now : IsNextTurn before past cut
  pub opened_now : (opened.now ≡ cut.now) × (opened.faults ≡ before)

-- A commit is durable whose gate is open in each image, whoever tells it, from the moment of the last sync on.
pub record SettledRule (layout : Layout) (before k : ℕ) (turn : Turn) (past : BoxPast) : Type 0 where
  pub calm : past.failed ≡ None
  pub has : HasWork past.slots k false open_gate
  pub is : IsTurnBy turn act.Durable (owner layout k) has.work.commit has.work.flush
  pub moment : turn.now ≡ past.synced
  pub now : IsNextTurn before past turn

-- the inode of the n-th record of a job, and whether it has a record of an inode
abbrev pub inode_of_nth : Job → ℕ → ℕ
inode_of_nth job n = (slice_index_or job.entries n no_entry).inode

abbrev pub HasRecordOf : Job → ℕ → Type 0
HasRecordOf job inode = (n : ℕ) × (n < length job.entries) × (inode_of_nth job n ≡ inode)

-- of the durable commits with a record of the inode of the n-th record this one has the least stamp
abbrev pub IsOldestOf : Slots → ℕ → SlotWork → ℕ → Type 0
IsOldestOf slots k work n = (j : ℕ) (other : SlotWork) → j ≢ k → slots j ≡ Some other → other.settled ≡ true
    → HasRecordOf other.job (inode_of_nth work.job n) → work.job.stamp < other.job.stamp

-- A record of a durable commit is placed, the oldest of its inode.
pub record PlacedRule (k n : ℕ) (past : BoxPast) : Type 0 where
  pub calm : past.failed ≡ None
  pub has : HasWork past.slots k true open_gate
  pub within : n < length has.work.job.entries
  pub oldest : IsOldestOf past.slots k has.work n

-- The gate of a durable commit is written shut, once all its records are on the disk.
pub record ShutRule (k : ℕ) (past : BoxPast) : Type 0 where
  pub calm : past.failed ≡ None
  pub has : HasWork past.slots k true open_gate
  pub placed : (n : ℕ) → n < length has.work.job.entries → has.work.known.table_left n ≡ true

-- A slot is idle whose gate is shut in each image.
pub record IdledRule (k : ℕ) (past : BoxPast) : Type 0 where
  pub calm : past.failed ≡ None
  pub has : HasWork past.slots k true shut_gate

-- A core learns of the turn that waits for it.
pub record LearnedRule (core : ℕ) (turn : Turn) (past : BoxPast) : Type 0 where
  pub own : turn.core.0 ≡ core
  pub waits : past.waits core ≡ Some turn

-- The three turns of a commit that wrote nothing.
pub record EmptyTurns : Type 0 where
  pub cut : Turn
  pub opened : Turn
  pub durable : Turn

-- A commit with the number reserved wrote nothing: it begins, is opened and is durable at one moment.
pub record EmptyRule (before core commit : ℕ) (turns : EmptyTurns) (past : BoxPast) : Type 0 where
  pub calm : past.failed ≡ None
  pub number : (past.owns core).reserved ≡ Some commit
  pub flush : Flush
  pub cut_is : IsTurnBy turns.cut act.CutAt core commit flush
  pub opened_is : IsTurnBy turns.opened act.Opened core commit flush
  pub durable_is : IsTurnBy turns.durable act.Durable core commit flush
  pub cut_now : IsNextTurn before past turns.cut
  pub opened_now : (turns.opened.now ≡ turns.cut.now) × (turns.opened.faults ≡ before)
  pub durable_now : (turns.durable.now ≡ turns.cut.now) × (turns.durable.faults ≡ before)

-- What a label asks of what was told before, beside who has the box.
abbrev pub MayLabel : Layout → ℕ → ℕ → Label → BoxPast → Type 0
MayLabel layout before core label.Took past = Unit {0}
MayLabel layout before core label.Gave past = Unit {0}
MayLabel layout before core (label.Noted turn) past = NotedRule before core turn past
MayLabel layout before core (label.Reserved commit seen grant) past = ReservedRule core commit seen.items past
MayLabel layout before core (label.Returned commit) past = (past.owns core).reserved ≡ Some commit
MayLabel layout before core (label.Began filling commit node stamp blocks inodes) past = BeganRule layout core filling.job commit past
MayLabel layout before core (label.Filled slot piece done) past = FilledRule layout core slot piece past
MayLabel layout before core (label.Synced now) past = past.failed ≡ None
MayLabel layout before core (label.Opened slot done cut opened) past = OpenedRule layout before core slot cut opened past
MayLabel layout before core (label.Settled slot turn) past = SettledRule layout before slot turn past
MayLabel layout before core (label.Learned turn) past = LearnedRule core turn past
MayLabel layout before core (label.Placed slot n done) past = PlacedRule slot n past
MayLabel layout before core (label.Shut slot done) past = ShutRule slot past
MayLabel layout before core (label.Idled slot) past = IdledRule slot past
MayLabel layout before core (label.Empty commit cut opened durable) past =
    EmptyRule before core commit (record { cut = cut; opened = opened; durable = durable }) past

-- a core takes the box where nobody has it, and tells all else while it has it
abbrev pub HasTurn : ℕ → Label → Option ℕ → Type 0
HasTurn core label.Took busy = busy ≡ None
HasTurn core _ busy = busy ≡ Some core

-- An event may come: no call draws a stamp at the box.
abbrev pub MayEvent : Layout → ℕ → Event Label → BoxPast → Type 0
MayEvent layout before (Called entry) past = ⊥
MayEvent layout before (Told core fact) past = HasTurn core.0 fact past.busy × MayLabel layout before core.0 fact past

-- a history may be told from something on, where the disk had `before` faults
abbrev pub MayFrom : Layout → ℕ → List (Event Label) → BoxPast → Type 0
MayFrom layout before [] past = Unit {0}
MayFrom layout before (event ∷ log) past = MayEvent layout before event past × MayFrom layout before log (after_event layout event past)
