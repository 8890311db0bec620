-- What is so of the commits in the journal slots of a disk, by the parts that each commit gives, which is known by its number.
use Rattle.std.specs.Prelude.{◌==◌, if◌then◌else◌, ◌≡◌, ◌<◌, ◌≢◌, ◌⊎◌, ◌≤◌, List, ℕ, unwrap_or, option_map, find, Option, None, Some, slice_index_or, true, map, All, length, false}
use Rattle.sfs_image.specs.ImageOf.{InodePart, Transaction, opened_among, IsImageOf, part_given, PointsToData, TurnsInto}
use Rattle.sfs_image.specs.Part.{Part, pointer_at}
use Rattle.sfs_image.specs.Super.{Layout}
use Rattle.sfs_image.specs.Settled.{slot_count}
use Rattle.journal_one.specs.Job.{no_block, HaveOwnBlocks, IsJob}
use Rattle.commit_one.specs.Change.{transaction_of, entry_of_part}
use Rattle.slot_laws.specs.Slots.{shut_gate, open_gate, any_gate, may_be_open, KnownGate, SlotKnown, SlotWork, Slots, place_at}
use Rattle.slot_laws.specs.Rings.{RingsFit, AreInSlots, ShareInode}

-- these parts in the place of those that inodes had
abbrev pub parts_over : List InodePart → (ℕ → Part) → ℕ → Part
parts_over parts base i = unwrap_or (option_map (λ own. own.part) (find (λ own. own.inode == i) parts)) (base i)

-- the transaction of a commit in a slot
abbrev pub work_transaction : (ℕ → List InodePart) → SlotWork → Transaction
work_transaction gives work = transaction_of work.job (gives work.commit)

-- the transaction with which a slot may be open
abbrev pub may_have : (ℕ → List InodePart) → Option SlotWork → Option Transaction
may_have gives None = None
may_have gives (Some work) = if may_be_open work.known.gate_left then Some (work_transaction gives work) else None

-- the slots that are open in an image, with their transactions
abbrev pub opened_in : (ℕ → List InodePart) → Layout → Slots → List ℕ → ℕ → Option Transaction
opened_in gives layout slots image = opened_among layout (λ k. may_have gives (slots k)) image

-- an image stands for these parts with those slots open whose gates it has open
abbrev pub StandsOpen : (ℕ → List InodePart) → Layout → (ℕ → Part) → Slots → List ℕ → Type 0
StandsOpen gives layout base slots image = IsImageOf layout (opened_in gives layout slots image) base image

-- a commit gives an inode a part
abbrev pub GivesPart : (ℕ → List InodePart) → SlotWork → ℕ → Part → Type 0
GivesPart gives work i part = part_given i (Some (work_transaction gives work)) ≡ Some (record { stamp = work.job.stamp; value = part })

-- the n-th fresh block of a commit
abbrev pub nth_block : SlotWork → ℕ → ℕ
nth_block work n = (slice_index_or work.job.fresh n no_block).block

-- what is known of a gate in each image is known of it in what a read gives, which is one of them
abbrev pub GateFits : KnownGate → KnownGate → Type 0
GateFits shut_gate read = read ≡ shut_gate
GateFits open_gate read = read ≡ open_gate
GateFits any_gate read = Unit {0}

-- What is known of each image is known of what a read gives.
pub record KnownFits (known : SlotKnown) : Type 0 where
  pub gates : GateFits known.gate_left known.gate_read
  pub fill : (n : ℕ) → known.fill_left n ≡ true → known.fill_read n ≡ true
  pub table : (n : ℕ) → known.table_left n ≡ true → known.table_read n ≡ true

-- What a commit is, wherever it stands: its records are those of the parts that it gives, which point to data, and it writes no fresh block twice.
pub record IsCommitJob (gives : ℕ → List InodePart) (layout : Layout) (work : SlotWork) : Type 0 where
  pub records : map entry_of_part (gives work.commit) ≡ work.job.entries
  pub pointers : All (λ (own : InodePart). PointsToData layout own.part) (gives work.commit)
  pub own : HaveOwnBlocks work.job.fresh

-- What a commit that is not durable owes to the parts that the disk stands for: its fresh blocks turn them into those that it gives, and are none
-- that they point to.
pub record TurnsParts (gives : ℕ → List InodePart) (layout : Layout) (base : ℕ → Part) (work : SlotWork) : Type 0 where
  pub turns : All (λ (own : InodePart). TurnsInto work.job.fresh (base own.inode) own.part) (gives work.commit)
  pub free : (i place n : ℕ) → i < layout.inodes → n < length work.job.fresh → pointer_at (base i) place ≢ 0
      → nth_block work n ≢ pointer_at (base i) place

-- What is known of a durable commit: nothing of what fills its slot; and its gate is open, or all its records are in the table.
pub record IsLanded (work : SlotWork) : Type 0 where
  pub forgot : (n : ℕ) → (work.known.fill_left n ≡ false) × (work.known.fill_read n ≡ false)
  pub opens : (work.known.gate_left ≡ open_gate) ⊎ ((n : ℕ) → n < length work.job.entries → work.known.table_left n ≡ true)

-- A commit in a slot fits what the disk stands for.
pub record WorkFits (gives : ℕ → List InodePart) (layout : Layout) (base : ℕ → Part) (k : ℕ) (work : SlotWork) : Type 0 where
  pub place : work.job.place ≡ place_at layout k
  pub is : IsJob work.job
  pub commit : IsCommitJob gives layout work
  pub known : KnownFits work.known
  pub aloft : work.settled ≡ false → TurnsParts gives layout base work
  -- a sync does not shut the gate of one that is not durable
  pub gate : work.settled ≡ false → may_be_open work.known.gate_read ≡ may_be_open work.known.gate_left
  pub landed : work.settled ≡ true → IsLanded work

-- Of two commits that are not durable no fresh block is the other's, nor is one that a part points to which the other gives.
pub record BlocksApart (gives : ℕ → List InodePart) (one other : SlotWork) : Type 0 where
  pub blocks : (n m : ℕ) → n < length one.job.fresh → m < length other.job.fresh → nth_block one n ≢ nth_block other m
  pub reached : (n i place : ℕ) (part : Part) → n < length one.job.fresh → GivesPart gives other i part → pointer_at part place ≢ 0
      → nth_block one n ≢ pointer_at part place

-- of the durable commits in slots this one gives an inode last
abbrev pub IsLastGiver : (ℕ → List InodePart) → Slots → ℕ → SlotWork → ℕ → Type 0
IsLastGiver gives slots k work i = (j : ℕ) (other : SlotWork) (part : Part) → j ≢ k → slots j ≡ Some other → other.settled ≡ true
    → GivesPart gives other i part → other.job.stamp < work.job.stamp

-- The commits in the slots fit the parts that the disk stands for, and one another.
pub record WorksFit (gives : ℕ → List InodePart) (layout : Layout) (base : ℕ → Part) (slots : Slots) : Type 0 where
  pub beyond : (k : ℕ) → slot_count layout ≤ k → slots k ≡ None
  pub each : (k : ℕ) (work : SlotWork) → slots k ≡ Some work → WorkFits gives layout base k work
  pub stamps : (j k : ℕ) (one other : SlotWork) → slots j ≡ Some one → slots k ≡ Some other → one.job.stamp ≡ other.job.stamp → j ≡ k
  pub rings : RingsFit slots
  pub apart : (j k : ℕ) (one other : SlotWork) → AreInSlots slots j k one other false false → BlocksApart gives one other
  -- the parts that the disk stands for are those that durable commits gave last
  pub newest : (k i : ℕ) (work : SlotWork) (part : Part) → slots k ≡ Some work → work.settled ≡ true → GivesPart gives work i part
      → IsLastGiver gives slots k work i → base i ≡ part

-- A commit may begin, where the disk stands for these parts and these commits are in slots: no other that is not durable has an inode or a block
-- of its.
pub record IsCommitAt (gives : ℕ → List InodePart) (layout : Layout) (base : ℕ → Part) (slots : Slots) (work : SlotWork) : Type 0 where
  pub commit : IsCommitJob gives layout work
  pub parts : TurnsParts gives layout base work
  pub inodes : (k : ℕ) (other : SlotWork) → slots k ≡ Some other → other.settled ≡ false → ShareInode work.job other.job → ⊥
  pub blocks : (k : ℕ) (other : SlotWork) → slots k ≡ Some other → other.settled ≡ false → BlocksApart gives work other × BlocksApart gives other work
