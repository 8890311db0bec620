-- What a commit leaves at each moment of its device calls. Of a disk that does not tell what a read gives nothing is claimed.
use Rattle.std.specs.Prelude.{◌≡◌, ◌⊎◌, ℕ, ◌+◌, ◌<◌, ◌≤◌, List, length, Some, Result, OnOk}
use Rattle.sfs_image.specs.ImageOf.{InodePart}
use Rattle.sfs_image.specs.Part.{Part}
use Rattle.sfs_dev.specs.Disk.{View}
use Rattle.sfs_dev.specs.Run.{CountsOn, EachMoment}
use Rattle.journal_one.specs.Job.{Job, fill_count}
use Rattle.journal_one.specs.Known.{EachLeft}
use Rattle.commit_one.specs.Change.{IsBefore, IsByItsSlot, IsAfter}

-- each image of each later moment has P of the moment and the image
abbrev pub LaterLeaves : (ℕ → List ℕ → Type 0) → View → View → Type 0
LaterLeaves P old new =
    (content : List ℕ) → old.content ≡ Some content → CountsOn new
    → (k : ℕ) (image : List ℕ) → old.now < k → k ≤ new.now → new.crash_images k image → P k image

-- it is told what a read gives where it was
abbrev pub GoesOnTelling : View → View → Type 0
GoesOnTelling old new = (content : List ℕ) → old.content ≡ Some content → (now : List ℕ) × (new.content ≡ Some now)

-- Some device calls were made whose images have P, now and at each later moment.
pub record Keeps (P : List ℕ → Type 0) (old new : View) : Type 0 where
  pub told : GoesOnTelling old new
  pub now : EachLeft new P
  pub later : LaterLeaves (λ k image. P image) old new

-- so many device calls were made, or fewer where one of them failed
pub record TakesCalls {V E : Type 0} (calls : ℕ) (old new : View) (result : Result V E) : Type 0 where
  pub most : CountsOn new → new.now ≤ old.now + calls
  pub all : OnOk result (CountsOn new → new.now ≡ old.now + calls)

-- the moment at which a commit that began at a moment is sealed, if it comes so far
abbrev pub sealed_at : ℕ → Job → ℕ
sealed_at began job = began + fill_count job + 1

-- the moment at which it is durable
abbrev pub durable_at : ℕ → Job → ℕ
durable_at began job = sealed_at began job + 2

-- how many device calls it makes: a write for each fresh block, three for the slot's body, a sync, the gate, a sync, a write for each
-- record, a sync, the gate, a sync
abbrev pub device_calls : Job → ℕ
device_calls job = fill_count job + 3 + length job.entries + 3

-- What a crash at a moment leaves of a commit: up to its seal the old parts, with no slot open; then, up to the moment at which it is
-- durable, these or the new ones by its slot; and later the new ones, by its slot or in the table.
pub record IsMomentOf (job : Job) (parts : ℕ → Part) (new : List InodePart) (began k : ℕ) (image : List ℕ) : Type 0 where
  pub sealed : k ≤ sealed_at began job → IsBefore job parts image
  pub opening : k ≤ durable_at began job → IsBefore job parts image ⊎ IsByItsSlot job parts new image
  pub durable : durable_at began job < k → IsByItsSlot job parts new image ⊎ IsAfter job parts new image

-- A commit is carried: what a read gives is told where it was; what a crash leaves at each moment of it, whether it ends or fails; and once it
-- has ended, a crash at the moment at which it was durable leaves the new parts, and one from then on leaves them in the table.
pub record Carries {V E : Type 0} (job : Job) (parts : ℕ → Part) (new : List InodePart) (old now : View) (result : Result V E) : Type 0 where
  pub told : GoesOnTelling old now
  pub each_moment : (content : List ℕ) → old.content ≡ Some content → CountsOn now → EachMoment old now (IsMomentOf job parts new old.now)
  pub acknowledged : OnOk result ((content : List ℕ) → old.content ≡ Some content → CountsOn now
      → (image : List ℕ) → now.crash_images (durable_at old.now job) image → IsByItsSlot job parts new image)
  pub ended : OnOk result (EachLeft now (IsAfter job parts new))

-- A slot that was filled becomes durable: up to its seal an image is as before, then so or the commit's by its slot, and after Ok the latter.
pub record Opens {V E : Type 0} (job : Job) (parts : ℕ → Part) (new : List InodePart) (old now : View) (result : Result V E) : Type 0 where
  pub told : GoesOnTelling old now
  pub later : LaterLeaves (λ k image. (k ≤ old.now + 1 → IsBefore job parts image) × (IsBefore job parts image ⊎ IsByItsSlot job parts new image)) old now
  pub opened : OnOk result (EachLeft now (IsByItsSlot job parts new))

-- A slot whose records were placed is closed: an image has the new parts, by the slot or in the table, and after Ok in the table.
pub record Shuts {V E : Type 0} (job : Job) (parts : ℕ → Part) (new : List InodePart) (old now : View) (result : Result V E) : Type 0 where
  pub told : GoesOnTelling old now
  pub later : LaterLeaves (λ k image. IsByItsSlot job parts new image ⊎ IsAfter job parts new image) old now
  pub ended : OnOk result (EachLeft now (IsAfter job parts new))
