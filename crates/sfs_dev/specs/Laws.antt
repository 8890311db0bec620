-- The laws of counts of faults and of moments, each of which a function of the module laws proves.
use Rattle.std.specs.Prelude.{◌≡◌, ◌⊎◌, ◌↔◌, ℕ, ◌+◌, ◌-◌, ◌^◌, ◌<◌, ◌≤◌, Bool, true, List}
use Rattle.sfs_base.specs.Ends.{HasRisen}
use Rattle.sfs_dev.specs.Disk.{View, LeftSince, images}
use Rattle.sfs_dev.specs.Run.{EachMoment}

-- A count of faults, which is a u64, has risen exactly where it is greater, or stands at the last value.
abbrev pub CountsRise : Type 0
CountsRise = (before now : ℕ) → now < 2 ^ 64 → HasRisen before now ↔ ((before < now) ⊎ (now ≡ 2 ^ 64 - 1))

-- What a crash since a moment may leave: since the present one the images of the present, and since an earlier one those of that moment and
-- those since the next. Since a moment to come it leaves nothing.
pub record HasMoments (disk : View) : Type 0 where
  pub present : (image : List ℕ) → LeftSince disk disk.now image ↔ images disk image
  pub earlier : (t : ℕ) (image : List ℕ) → t < disk.now → LeftSince disk t image ↔ (disk.crash_images t image ⊎ LeftSince disk (t + 1) image)
  pub to_come : (t : ℕ) (image : List ℕ) → disk.now < t → LeftSince disk t image → ⊥

-- The moments from one disk to a later one: both ends are among them, and a fact of images that holds at each is one of all that a crash since
-- the first may leave.
pub record HasBothEnds (old new : View) : Type 0 where
  pub first : (test : ℕ → List ℕ → Bool) → old.now ≤ new.now → EachMoment old new (λ k image. test k image ≡ true)
      → (image : List ℕ) → new.crash_images old.now image → test old.now image ≡ true
  pub last : (test : ℕ → List ℕ → Bool) → old.now ≤ new.now → EachMoment old new (λ k image. test k image ≡ true)
      → (image : List ℕ) → images new image → test new.now image ≡ true
  pub since : (test : List ℕ → Bool)
      → EachMoment old new (λ _ image. test image ≡ true) ↔ ((image : List ℕ) → LeftSince new old.now image → test image ≡ true)
