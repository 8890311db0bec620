-- What a slot's state at run time says of the commit that is in it.
use Rattle.std.specs.Prelude.{◌≡◌, ◌<◌, ◌≤◌, ℕ, true, false, List, length, map, Option, Some, None, slice_get}
use Rattle.std.specs.List.Sorted.{IsStrictlyIncreasing}
use Rattle.sfs_image.specs.Super.{Layout}
use Rattle.journal_one.specs.Job.{Place, Job, fill_count, without_fresh}
use Rattle.journal_one.specs.Packed.{inode_of_entry}
use Rattle.journal_one.specs.Stage.{Stage}
use Rattle.slot_laws.specs.Slots.{shut_gate, open_gate, SlotWork, Slots, place_at}
use Rattle.slot_laws.specs.Labels.{fsync_told}
use Rattle.disk_box.specs.declared.desk.Phase.{Phase}
use Rattle.disk_box.specs.declared.desk.Phase.TheVariants as phase
use Rattle.disk_box.specs.declared.desk.Slot.{Slot}

-- A commit that is not durable is in the slot, with its gate shut in each image and in what a read gives.
pub record IsShutAloft (work : SlotWork) : Type 0 where
  pub aloft : work.settled ≡ false
  pub left : work.known.gate_left ≡ shut_gate
  pub read : work.known.gate_read ≡ shut_gate

-- Its slot is being filled: the first pieces stand in what a read gives, and of the others none was written.
pub record IsBeingFilled (job : Job) (done : ℕ) (work : SlotWork) : Type 0 where
  pub job_is : work.job ≡ job
  pub shut : IsShutAloft work
  pub written : (n : ℕ) → n < done → work.known.fill_read n ≡ true
  pub rest : (n : ℕ) → done ≤ n → (work.known.fill_read n ≡ false) × (work.known.fill_left n ≡ false)

-- There is more to be written.
pub record IsFillingOf (filling : Stage) (work : SlotWork) : Type 0 where
  pub being : IsBeingFilled filling.job filling.done work
  pub more : filling.done < fill_count filling.job

-- All is written, some of it behind the last sync.
pub record IsFilledOf (job : Job) (work : SlotWork) : Type 0 where
  pub being : IsBeingFilled job (fill_count job) work
  pub lags : (n : ℕ) × (n < fill_count job) × (work.known.fill_left n ≡ false)

-- All that fills it is on the disk.
pub record IsSealedOf (job : Job) (work : SlotWork) : Type 0 where
  pub filled : IsBeingFilled job (fill_count job) work
  pub on_disk : (n : ℕ) → n < fill_count job → work.known.fill_left n ≡ true

-- Its gate was opened.
pub record IsOpenedOf (job : Job) (work : SlotWork) : Type 0 where
  pub job_is : work.job ≡ job
  pub aloft : work.settled ≡ false
  pub read : work.known.gate_read ≡ open_gate

-- A commit is durable, and its gate is open; of its fresh blocks no more is said, and the first records stand in the table in what a read gives.
pub record IsBeingPlaced (job : Job) (done : ℕ) (work : SlotWork) : Type 0 where
  pub job_is : job ≡ without_fresh work.job
  pub durable : work.settled ≡ true
  pub left : work.known.gate_left ≡ open_gate
  pub read : work.known.gate_read ≡ open_gate
  pub placed : (n : ℕ) → n < done → work.known.table_read n ≡ true

-- All its records are in the table on the disk.
pub record IsCopiedOf (job : Job) (work : SlotWork) : Type 0 where
  pub placed : IsBeingPlaced job (length job.entries) work
  pub on_disk : (n : ℕ) → n < length job.entries → work.known.table_left n ≡ true

-- Its gate was shut.
pub record IsClosingOf (job : Job) (work : SlotWork) : Type 0 where
  pub job_is : job ≡ without_fresh work.job
  pub durable : work.settled ≡ true
  pub read : work.known.gate_read ≡ shut_gate

-- what a phase says of the commit in its slot, where there is one
abbrev pub PhaseFits : Phase → Place → Option SlotWork → Type 0
PhaseFits (phase.Idle idle) place None = idle ≡ place
PhaseFits (phase.Filling filling) place (Some work) = IsFillingOf filling work
PhaseFits (phase.Filled filled) place (Some work) = IsFilledOf filled work
PhaseFits (phase.Sealed sealed) place (Some work) = IsSealedOf sealed work
PhaseFits (phase.Opened opened) place (Some work) = IsOpenedOf opened work
PhaseFits (phase.Durable durable) place (Some work) = IsBeingPlaced durable.job durable.done work
PhaseFits (phase.Placed placed) place (Some work) = IsBeingPlaced placed (length placed.entries) work
PhaseFits (phase.Copied copied) place (Some work) = IsCopiedOf copied work
PhaseFits (phase.Closing closing) place (Some work) = IsClosingOf closing work
PhaseFits _ place work = ⊥

-- The slot has its commit's number, fsync, commit stamp and inodes, which ascend.
pub record NotesWork (slot : Slot) (work : SlotWork) : Type 0 where
  pub commit_is : slot.commit ≡ work.commit
  pub flush_is : work.flush ≡ fsync_told slot.node slot.stamp
  pub drawn_is : slot.drawn ≡ work.job.stamp
  pub inodes_are : slot.inodes.items ≡ map inode_of_entry work.job.entries
  pub ascend : IsStrictlyIncreasing slot.inodes.items

-- where it has one
abbrev pub Notes : Slot → Option SlotWork → Type 0
Notes slot None = Unit {0}
Notes slot (Some work) = NotesWork slot work

-- A slot fits what was told of it.
pub record SlotFits (place : Place) (work : Option SlotWork) (slot : Slot) : Type 0 where
  pub fits : PhaseFits slot.phase place work
  pub notes : Notes slot work

-- Each slot of a disk does.
pub record SlotsFit (layout : Layout) (told : Slots) (slots : List Slot) : Type 0 where
  pub each : (k : ℕ) (slot : Slot) → slice_get slots k ≡ Some slot → SlotFits (place_at layout k) (told k) slot
