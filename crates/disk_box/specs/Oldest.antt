-- Which durable commit in a slot is the oldest, and whether a slot's next record may be placed.
use Rattle.std.specs.Prelude.{◌≡◌, ◌≢◌, ◌&&◌, ◌<◌, ◌≤◌, ℕ, Bool, true, false, List, length, Option, Some, None, nat_lt, not, slice_index_or}
use Rattle.std.specs.List.{list_any}
use Rattle.std.specs.List.Sorted.{IsStrictlyIncreasing}
use Rattle.sfs_base.specs.Listed.{is_listed}
use Rattle.sfs_image.specs.Super.{Layout}
use Rattle.slot_laws.specs.Slots.{Slots}
use Rattle.disk_box.specs.declared.desk.Slot.{Slot}
use Rattle.disk_box.specs.Calls.{written_of}
use Rattle.disk_box.specs.declared.kind.Kind.{Kind}
use Rattle.disk_box.specs.declared.kind.Kind.TheVariants as kind
use Rattle.disk_box.specs.Kind.{HasKind, kind_of}
use Rattle.disk_box.specs.Serving.{owner_by}
use Rattle.disk_box.specs.Slots.{SlotsFit}
use Rattle.disk_box.specs.Steps.{Lingers, is_lingering}

-- Of the first slots one lingers, and none that lingers has a smaller commit stamp.
pub record IsLeastOf (slots : List Slot) (n k : ℕ) : Type 0 where
  pub within : k < n
  pub lingers : Lingers slots k
  pub least : (j : ℕ) → j < n → (other : Lingers slots j) → lingers.has.slot.drawn ≤ other.has.slot.drawn

-- which it is, or none where none lingers
abbrev pub FoundLeast : List Slot → ℕ → Option ℕ → Type 0
FoundLeast slots n None = (j : ℕ) → j < n → Lingers slots j → ⊥
FoundLeast slots n (Some k) = IsLeastOf slots n k

-- A slot lingers, and no other slot that lingers has a smaller commit stamp.
pub record IsOldestSlot (slots : List Slot) (k : ℕ) : Type 0 where
  pub lingers : Lingers slots k
  pub least : (j : ℕ) (other : Lingers slots j) → lingers.has.slot.drawn ≤ other.has.slot.drawn

-- the inode of the record that a slot places next
abbrev pub next_inode : Slot → ℕ
next_inode slot = slice_index_or slot.inodes.items (written_of slot.phase) 0

-- whether a slot has a record of an inode, of a durable commit with a smaller commit stamp than this
abbrev pub goes_before : ℕ → ℕ → Slot → Bool
goes_before drawn inode slot = is_lingering (kind_of slot.phase) && (nat_lt slot.drawn drawn && is_listed slot.inodes.items inode)

-- whether no slot has a record of the inode that a slot places next, of an older durable commit
abbrev pub is_next_oldest : List Slot → Slot → Bool
is_next_oldest slots slot = not (list_any (goes_before slot.drawn (next_inode slot)) slots)

-- the inodes of a slot's durable commit ascend
abbrev pub LingeringAscend : Slot → Type 0
LingeringAscend slot = is_lingering (kind_of slot.phase) ≡ true → IsStrictlyIncreasing slot.inodes.items

-- The slots of a desk fit what was told of them.
pub record AreTold (slots : List Slot) : Type 0 where
  pub layout : Layout
  pub told : Slots
  pub fits : SlotsFit layout told slots

-- whether a slot of this phase is about to be written for by its core: it is being filled, or its gate is to be opened
abbrev pub is_writing : Kind → Bool
is_writing kind.Filling = true
is_writing kind.Sealed = true
is_writing _ = false

-- A slot of another of so many cores is about to be written for.
pub record OthersWrite (slots : List Slot) (cores core : ℕ) : Type 0 where
  pub slot : ℕ
  pub what : Kind
  pub has : HasKind slots slot what
  pub writes : is_writing what ≡ true
  pub other : owner_by (length slots) cores slot ≢ core
