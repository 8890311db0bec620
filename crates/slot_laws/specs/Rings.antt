-- In which order slots close that have records of one inode.
use Rattle.std.specs.Prelude.{◌≡◌, ◌≢◌, ◌<◌, ◌||◌, ◌∷◌, ◌++◌, ℕ, Bool, true, false, List, [], length, Some}
use Rattle.sfs_base.specs.declared.numbers.CoreId.{CoreId}
use Rattle.sfs_image.specs.Super.{Layout}
use Rattle.journal_one.specs.Job.{Job}
use Rattle.tree_laws.specs.declared.turns.Turn.{Turn}
use Rattle.tree_laws.specs.declared.turns.TurnAct.TheVariants as act
use Rattle.cut_laws.specs.Rules.{IsOneOf}
use Rattle.turn_laws.specs.Books.{flush_at}
use Rattle.stamp_table.specs.declared.event.Event.{Event}
use Rattle.stamp_table.specs.declared.event.Event.TheVariants.{Told}
use Rattle.slot_laws.specs.declared.label.Label.{Label}
use Rattle.slot_laws.specs.declared.label.Label.TheVariants as label
use Rattle.slot_laws.specs.Slots.{SlotWork, Slots}
use Rattle.slot_laws.specs.Labels.{BoxPast, first_past, after_event, past_from}
use Rattle.slot_laws.specs.Rules.{inode_of_nth, HasRecordOf, MayFrom}

-- Two jobs have a record of one inode.
abbrev pub ShareInode : Job → Job → Type 0
ShareInode one other = (n : ℕ) × (n < length one.entries) × HasRecordOf other (inode_of_nth one n)

-- where a commit begins, no other that is not durable has a record of an inode of its
abbrev pub BeginsApart : Event Label → BoxPast → Type 0
BeginsApart (Told core (label.Began filling commit node stamp blocks inodes)) past =
    (k : ℕ) (other : SlotWork) → past.slots k ≡ Some other → other.settled ≡ false → ShareInode filling.job other.job → ⊥
BeginsApart _ past = Unit {0}

-- so it is all along a history
abbrev pub BeginApart : Layout → List (Event Label) → BoxPast → Type 0
BeginApart layout [] past = Unit {0}
BeginApart layout (event ∷ log) past = BeginsApart event past × BeginApart layout log (after_event layout event past)

-- whether a record of a commit was placed since the commit is durable
abbrev pub is_started : SlotWork → ℕ → Bool
is_started work n = work.known.table_left n || work.known.table_read n

-- Two commits are in two slots, each durable or not as is said.
pub record AreInSlots (slots : Slots) (j k : ℕ) (one other : SlotWork) (durable too : Bool) : Type 0 where
  pub away : j ≢ k
  pub here : slots j ≡ Some one
  pub there : slots k ≡ Some other
  pub one_is : one.settled ≡ durable
  pub other_is : other.settled ≡ too

-- A record of one was placed since it is durable, and the other has one of the same inode.
pub record HasStartedBeside (one other : SlotWork) : Type 0 where
  pub n : ℕ
  pub placed : is_started one n ≡ true
  pub within : n < length one.job.entries
  pub shared : HasRecordOf other.job (inode_of_nth one.job n)

-- Commits in slots that share an inode: of two one is durable; one that is not is later than each that is; and one of which the shared record
-- was placed is earlier than each other durable one. Of a commit that is not durable no record was placed.
pub record RingsFit (slots : Slots) : Type 0 where
  pub apart : (j k : ℕ) (one other : SlotWork) → AreInSlots slots j k one other false false → ShareInode one.job other.job → ⊥
  pub later : (j k : ℕ) (one other : SlotWork) → AreInSlots slots j k one other true false → ShareInode one.job other.job → one.job.stamp < other.job.stamp
  pub started : (j k : ℕ) (one other : SlotWork) → AreInSlots slots j k one other true true → HasStartedBeside one other
      → one.job.stamp < other.job.stamp
  pub unplaced : (k : ℕ) (work : SlotWork) → slots k ≡ Some work → work.settled ≡ false → (n : ℕ) → is_started work n ≡ false

-- Where a slot's gate is written shut, each other commit in a slot with a record of an inode of its has a greater stamp: those with smaller ones
-- are in no slot any more.
pub record ClosesInOrder (past : BoxPast) (k : ℕ) : Type 0 where
  pub work : SlotWork
  pub there : past.slots k ≡ Some work
  pub order : (j : ℕ) (other : SlotWork) → j ≢ k → past.slots j ≡ Some other → ShareInode work.job other.job → work.job.stamp < other.job.stamp

-- A label of a history says that a slot's gate is written shut.
pub record IsGateShutIn (log : List (Event Label)) (k : ℕ) : Type 0 where
  pub front : List (Event Label)
  pub core : CoreId
  pub done : Bool
  pub back : List (Event Label)
  pub whole : log ≡ front ++ Told core (label.Shut k done) ∷ back

-- So it is at each such label, in a history by the rules in which commits begin apart.
abbrev pub SlotsCloseInOrder : Type 0
SlotsCloseInOrder = (layout : Layout) (before moment : ℕ) (log : List (Event Label)) (k : ℕ) → MayFrom layout before log (first_past moment)
    → BeginApart layout log (first_past moment) → (shut : IsGateShutIn log k) → ClosesInOrder (past_from layout shut.front (first_past moment)) k

-- A turn makes a commit durable.
pub record IsSettling (turn : Turn) (work : SlotWork) : Type 0 where
  pub did : turn.act ≡ act.Durable
  pub number : turn.commit ≡ work.commit
  pub own : flush_at turn ≡ work.flush

-- Such a turn is among these.
pub record WasSettled (turns : List Turn) (work : SlotWork) : Type 0 where
  pub turn : Turn
  pub among : IsOneOf turns turn
  pub settles : IsSettling turn work

-- One commit became durable before another.
pub record WasSettledBefore (turns : List Turn) (one other : SlotWork) : Type 0 where
  pub front : List Turn
  pub turn : Turn
  pub back : List Turn
  pub whole : turns ≡ front ++ turn ∷ back
  pub settles : IsSettling turn other
  pub earlier : WasSettled front one

-- Of two commits in slots that share an inode the one with the greater stamp is the newer: at most one is not durable, and it has the greater
-- stamp; and of two durable ones the one with the smaller stamp became durable first.
pub record StampsFollow (slots : Slots) (turns : List Turn) : Type 0 where
  pub one_durable : (j k : ℕ) (one other : SlotWork) → AreInSlots slots j k one other false false → ShareInode one.job other.job → ⊥
  pub aloft : (j k : ℕ) (one other : SlotWork) → AreInSlots slots j k one other true false → ShareInode one.job other.job → one.job.stamp < other.job.stamp
  pub durable : (j k : ℕ) (one other : SlotWork) → AreInSlots slots j k one other true true → ShareInode one.job other.job
      → one.job.stamp < other.job.stamp → WasSettledBefore turns one other

-- So it is behind each history by the rules in which commits begin apart.
abbrev pub GreaterStampsAreNewer : Type 0
GreaterStampsAreNewer = (layout : Layout) (before moment : ℕ) (log : List (Event Label)) → MayFrom layout before log (first_past moment)
    → BeginApart layout log (first_past moment)
    → StampsFollow (past_from layout log (first_past moment)).slots (past_from layout log (first_past moment)).turns
