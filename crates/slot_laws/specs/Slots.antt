-- What is known of the journal slots of a disk, each with the commit that goes through it.
use Rattle.std.specs.Prelude.{◌==◌, ◌||◌, ◌&&◌, if◌then◌else◌, ℕ, Bool, true, false, not, Option, option_map}
use Rattle.sfs_image.specs.Super.{Layout}
use Rattle.journal_one.specs.Job.{Place, Job}
use Rattle.cut_laws.specs.Closure.{Flush}

-- What may be known of a gate.
pub data KnownGate : Type 0 where
  shut_gate : KnownGate
  open_gate : KnownGate
  any_gate : KnownGate

-- whether a gate may be open
abbrev pub may_be_open : KnownGate → Bool
may_be_open shut_gate = false
may_be_open open_gate = true
may_be_open any_gate = true

-- What is known of a commit's slot: of its gate, in each image and in what a read gives; and which of the pieces that fill it, and of its records
-- in the table, stand in each image and in what a read gives.
pub record SlotKnown : Type 0 where
  pub gate_left : KnownGate
  pub gate_read : KnownGate
  pub fill_left : ℕ → Bool
  pub fill_read : ℕ → Bool
  pub table_left : ℕ → Bool
  pub table_read : ℕ → Bool

-- nothing is written yet, and the gate is shut
abbrev pub known_idle : SlotKnown
known_idle = record {
  gate_left = shut_gate;
  gate_read = shut_gate;
  fill_left = λ _. false;
  fill_read = λ _. false;
  table_left = λ _. false;
  table_read = λ _. false;
}

-- once nothing is pending
abbrev pub known_synced : SlotKnown → SlotKnown
known_synced known = record known { gate_left = known.gate_read; fill_left = known.fill_read; table_left = known.table_read }

-- a number more, and one less
abbrev pub with_number : (ℕ → Bool) → ℕ → ℕ → Bool
with_number marks n m = m == n || marks m

abbrev pub without_number : (ℕ → Bool) → ℕ → ℕ → Bool
without_number marks n m = not (m == n) && marks m

-- behind a write of a piece that fills the slot, which answered Ok or not
abbrev pub known_filled : Bool → ℕ → SlotKnown → SlotKnown
known_filled done n known = record known {
  fill_left = without_number known.fill_left n;
  fill_read = if done then with_number known.fill_read n else without_number known.fill_read n;
}

-- behind a write of a record in the table
abbrev pub known_placed : Bool → ℕ → SlotKnown → SlotKnown
known_placed done n known = record known {
  table_left = without_number known.table_left n;
  table_read = if done then with_number known.table_read n else without_number known.table_read n;
}

-- behind a write of the gate
abbrev pub known_gated : Bool → KnownGate → SlotKnown → SlotKnown
known_gated done gate known = record known { gate_left = any_gate; gate_read = if done then gate else any_gate }

-- once its commit is durable nothing is said of what fills a slot
abbrev pub known_durable : SlotKnown → SlotKnown
known_durable known = record known { fill_left = λ _. false; fill_read = λ _. false }

-- A commit in a slot: its job, its number, its fsync, whether it is durable, and what is known.
pub record SlotWork : Type 0 where
  pub job : Job
  pub commit : ℕ
  pub flush : Flush
  pub settled : Bool
  pub known : SlotKnown

-- a commit that begins
abbrev pub begun_work : Job → ℕ → Flush → SlotWork
begun_work job commit flush = record { job = job; commit = commit; flush = flush; settled = false; known = known_idle }

-- a commit of which something else is known
abbrev pub knowing : (SlotKnown → SlotKnown) → SlotWork → SlotWork
knowing change work = record work { known = change work.known }

-- a commit once it is durable
abbrev pub settled_work : SlotWork → SlotWork
settled_work work = record work { settled = true; known = known_durable work.known }

-- the slots of a disk, each idle or with a commit
abbrev pub Slots : Type 0
Slots = ℕ → Option SlotWork

-- one at a place, and the others as they were
abbrev pub with_at : {X : Type 0} → (ℕ → X) → ℕ → X → ℕ → X
with_at all place one other = if other == place then one else all other

-- another commit in a slot, where it has one
abbrev pub changed_slot : Slots → ℕ → (SlotWork → SlotWork) → Slots
changed_slot slots k change = with_at slots k (option_map change (slots k))

-- each slot once nothing is pending
abbrev pub synced_slots : Slots → Slots
synced_slots slots k = option_map (knowing known_synced) (slots k)

-- a slot by its number
abbrev pub place_at : Layout → ℕ → Place
place_at layout k = record { layout = layout; slot = k }
