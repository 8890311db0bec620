-- What several device calls in a row do to a disk.
use Rattle.std.specs.Prelude.{◌≡◌, ◌↔◌, ℕ, ◌-◌, ◌^◌, ◌<◌, ◌≤◌, Bool, true, false, List, Result, Ok, Err}
use Rattle.sfs_base.specs.Ends.{HasRisen}
use Rattle.sfs_dev.specs.Disk.{View, SameImages, images}

-- the count of device calls has not come to its last value
abbrev pub CountsOn : View → Type 0
CountsOn disk = disk.now < 2 ^ 64 - 1

-- Some device calls were made, or none: the size stays, neither count falls, and what a crash up to then may have left is what it was.
pub record Advances (old new : View) : Type 0 where
  pub size : new.size ≡ old.size
  pub later : old.now ≤ new.now
  pub never_falls : old.faults ≤ new.faults
  pub past : (k : ℕ) (image : List ℕ) → k < 2 ^ 64 - 1 → k ≤ old.now → new.crash_images k image ↔ old.crash_images k image

-- each image that a crash at a moment of the run may leave has P of the moment and the image
abbrev pub EachMoment : View → View → (ℕ → List ℕ → Type 0) → Type 0
EachMoment old new P = (k : ℕ) (image : List ℕ) → old.now ≤ k → k ≤ new.now → new.crash_images k image → P k image

-- Nothing was written: what a read gives and what a crash may leave are the same, at each moment of the run.
pub record Unwritten (old new : View) : Type 0 where
  pub content : new.content ≡ old.content
  pub left : SameImages (images old) (images new)
  pub at_each_moment : CountsOn new → EachMoment old new (λ _ image. images old image)

-- Why a run ended so, by whether the disk failed: then the count of faults has risen, and otherwise it was left.
abbrev pub IsCauseOf : Bool → ℕ → ℕ → Type 0
IsCauseOf true before now = HasRisen before now
IsCauseOf false before now = now ≡ before

-- The same of an answer, where a fault tells whether the disk failed.
abbrev pub HasReadCause : {V F : Type 0} → (F → Bool) → ℕ → ℕ → Result V F → Type 0
HasReadCause is_disk_fault before now (Ok value) = now ≡ before
HasReadCause is_disk_fault before now (Err fault) = IsCauseOf (is_disk_fault fault) before now

-- A run of reads: nothing is written, and a failure has its cause in the count of faults.
pub record OnlyReads {V F : Type 0} (is_disk_fault : F → Bool) (old new : View) (result : Result V F) : Type 0 where
  pub advances : Advances old new
  pub unwritten : Unwritten old new
  pub cause : HasReadCause is_disk_fault old.faults new.faults result
