-- The superblock and the open journal slots of an image as they are read.
use Rattle.std.specs.Prelude.{◌≡◌, ℕ, ◌/◌, ◌%◌, ◌<◌, ◌≤◌, length, Bool, true, false, List, map, Option, None, Some}
use Rattle.std.specs.List.{range_with_len, filter, AllByRecursion}
use Rattle.sfs_image.specs.Bytes.{part}
use Rattle.sfs_image.specs.Journal.{head_of, numbers_of, numbers_fault, journal_fault}
use Rattle.sfs_image.specs.Settled.{journal_slot, slot_count, super_fault_of, journal_fault_of, slot_fault_of}
use Rattle.sfs_image.specs.Super.{Layout}
use Rattle.recovery.specs.declared.journals.OpenSlot.{OpenSlot}
use Rattle.recovery.specs.declared.fault.RecoverFault.{RecoverFault}
use Rattle.recovery.specs.declared.fault.RecoverFault.TheVariants.{DiskFailed, BadSuper, BadJournal, BadImage, NoMemory}

-- whether a slot's gate is open in an image
abbrev pub is_slot_open : Layout → List ℕ → ℕ → Bool
is_slot_open layout image k = (head_of (part 0 4096 (journal_slot layout image k))).gate

-- the open slots of an image by their numbers, ascending
abbrev pub open_slots_of : Layout → List ℕ → List ℕ
open_slots_of layout image = filter (is_slot_open layout image) (range_with_len 0 (slot_count layout))

-- What holds of an open slot that was read, whatever the disk tells: it is one of the disk's, and its inode numbers ascend below the
-- number of inodes.
pub record IsGoodSlot (layout : Layout) (one : OpenSlot) : Type 0 where
  pub within : one.number < slot_count layout
  pub few : length one.numbers.items ≤ layout.inodes
  pub numbers : numbers_fault layout.inodes one.numbers.items ≡ None

-- none, or such a slot
abbrev pub IsGoodIfSome : Layout → Option OpenSlot → Type 0
IsGoodIfSome layout None = Unit {0}
IsGoodIfSome layout (Some one) = IsGoodSlot layout one

-- What was read of an open slot of an image: its commit stamp and its inode numbers.
pub record IsOpenSlot (layout : Layout) (image : List ℕ) (one : OpenSlot) : Type 0 where
  pub stamp : one.stamp ≡ (head_of (part 0 4096 (journal_slot layout image one.number))).stamp
  pub numbers : one.numbers.items ≡ numbers_of layout.inodes (journal_slot layout image one.number)

-- An open slot was found, in which nothing is wrong where those are the commit stamps of the open slots before it.
pub record HasSlot (layout : Layout) (image : List ℕ) (stamps : List ℕ) (k : ℕ) (one : OpenSlot) : Type 0 where
  pub number : one.number ≡ k
  pub gate : is_slot_open layout image k ≡ true
  pub slot : IsOpenSlot layout image one
  pub sound : journal_fault layout.inodes stamps (journal_slot layout image k) ≡ None

-- what was found of a slot of an image: nothing where it is closed, and what is read of it where it is open
abbrev pub FindsSlot : Layout → List ℕ → List ℕ → ℕ → Option OpenSlot → Type 0
FindsSlot layout image stamps k None = is_slot_open layout image k ≡ false
FindsSlot layout image stamps k (Some one) = HasSlot layout image stamps k one

-- A slot is wrong, where those are the commit stamps of the open slots before it.
pub record IsWrongSlot (layout : Layout) (image : List ℕ) (stamps : List ℕ) (k core slot at : ℕ) : Type 0 where
  pub core_of : core ≡ k / layout.slots
  pub slot_of : slot ≡ k % layout.slots
  pub fault : journal_fault layout.inodes stamps (journal_slot layout image k) ≡ Some at

-- what a refusal says of a slot of an image
abbrev pub IsSlotRefusal : Layout → List ℕ → List ℕ → ℕ → RecoverFault → Type 0
IsSlotRefusal layout image stamps k (BadJournal core slot at) = IsWrongSlot layout image stamps k core slot at
IsSlotRefusal layout image stamps k (BadSuper at) = ⊥
IsSlotRefusal layout image stamps k (BadImage inode rule) = ⊥
IsSlotRefusal layout image stamps k DiskFailed = Unit {0}
IsSlotRefusal layout image stamps k NoMemory = Unit {0}

-- These are the open slots among the first n of an image, by their numbers; no slot among the first n is wrong.
pub record AreOpen (layout : Layout) (image : List ℕ) (n : ℕ) (found : List OpenSlot) : Type 0 where
  pub numbers : map (λ (one : OpenSlot). one.number) found ≡ filter (is_slot_open layout image) (range_with_len 0 n)
  pub each : AllByRecursion (IsOpenSlot layout image) found
  pub sound : (k : ℕ) → k < n → slot_fault_of layout image k ≡ None

-- What a refusal says of an image: of its superblock, or of its journals where the superblock is sound.
abbrev pub IsSuperRefusal : List ℕ → RecoverFault → Type 0
IsSuperRefusal image (BadSuper at) = super_fault_of image ≡ Some at
IsSuperRefusal image (BadJournal core slot at) = ⊥
IsSuperRefusal image (BadImage inode rule) = ⊥
IsSuperRefusal image DiskFailed = Unit {0}
IsSuperRefusal image NoMemory = Unit {0}

abbrev pub IsJournalRefusal : Layout → List ℕ → RecoverFault → Type 0
IsJournalRefusal layout image (BadJournal core slot at) = journal_fault_of layout image ≡ Some (record { core = core; slot = slot; at = at })
IsJournalRefusal layout image (BadSuper at) = ⊥
IsJournalRefusal layout image (BadImage inode rule) = ⊥
IsJournalRefusal layout image DiskFailed = Unit {0}
IsJournalRefusal layout image NoMemory = Unit {0}

-- a refusal is that of a wrong byte of a slot
abbrev pub IsBadJournal : Layout → ℕ → ℕ → RecoverFault → Type 0
IsBadJournal layout k at (BadJournal core slot byte) = (core ≡ k / layout.slots) × (slot ≡ k % layout.slots) × (byte ≡ at)
IsBadJournal layout k at (BadSuper byte) = ⊥
IsBadJournal layout k at (BadImage inode rule) = ⊥
IsBadJournal layout k at DiskFailed = ⊥
IsBadJournal layout k at NoMemory = ⊥

-- a refusal is of nothing that an image has: the disk failed, or memory is wanting
abbrev pub BlamesNoImage : RecoverFault → Type 0
BlamesNoImage (BadSuper at) = ⊥
BlamesNoImage (BadJournal core slot at) = ⊥
BlamesNoImage (BadImage inode rule) = ⊥
BlamesNoImage DiskFailed = Unit {0}
BlamesNoImage NoMemory = Unit {0}
