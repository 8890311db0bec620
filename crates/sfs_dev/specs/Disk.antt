-- What a disk shows, and what its calls do to what a crash may leave.
use Rattle.std.specs.Prelude.{◌≡◌, ◌↔◌, ℕ, ◌+◌, ◌-◌, ◌^◌, ◌<◌, ◌≤◌, min, List, length, Option, Some, None, Result}
use Rattle.sfs_base.specs.Ends.{HasCause}
use Rattle.sfs_dev.specs.Ranges.{part, SameOutside}

-- A disk as contracts see it.
pub record View : Type 1 where
  -- how many blocks of 4,096 bytes it has
  pub size : ℕ
  -- what a read gives, where the disk tells it
  pub content : Option (List ℕ)
  -- how many device calls were made
  pub now : ℕ
  -- how many of them failed
  pub faults : ℕ
  -- a crash once so many device calls were made may leave this image
  pub crash_images : ℕ → List ℕ → Type 0

-- what a crash now may leave
abbrev pub images : View → List ℕ → Type 0
images disk = disk.crash_images disk.now

-- what a crash at some moment from t to now may leave
abbrev pub LeftSince : View → ℕ → List ℕ → Type 0
LeftSince disk t image = (k : ℕ) × (t ≤ k) × (k ≤ disk.now) × disk.crash_images k image

-- these are the bytes from byte `at` on, where they are told
abbrev pub Gives : Option (List ℕ) → ℕ → List ℕ → Type 0
Gives (Some content) at bytes = bytes ≡ part at (length bytes) content
Gives None at bytes = Unit {0}

-- what a read gives is as it was but for n bytes from byte `at` on; what tells nothing goes on telling nothing
abbrev pub TornTold : ℕ → ℕ → Option (List ℕ) → Option (List ℕ) → Type 0
TornTold at n (Some was) told = (content : List ℕ) × (told ≡ Some content) × SameOutside at n was content
TornTold at n None told = told ≡ None

-- each new image is an old one but for n bytes from byte `at` on
abbrev pub Torn : ℕ → ℕ → (List ℕ → Type 0) → (List ℕ → Type 0) → Type 0
Torn at n old new = (image : List ℕ) → new image → (was : List ℕ) × old was × SameOutside at n was image

-- and every such image is there
abbrev pub AnyIn : ℕ → ℕ → (List ℕ → Type 0) → (List ℕ → Type 0) → Type 0
AnyIn at n old new = (was image : List ℕ) → old was → SameOutside at n was image → new image

-- the same images
abbrev pub SameImages : (List ℕ → Type 0) → (List ℕ → Type 0) → Type 0
SameImages old new = (image : List ℕ) → new image ↔ old image

-- where it is told what a read gives, a crash leaves that and nothing else
abbrev pub OnlyTold : Option (List ℕ) → (List ℕ → Type 0) → Type 0
OnlyTold (Some content) images = (image : List ℕ) → images image → image ≡ content
OnlyTold None images = Unit {0}

-- One more device call was made, and what a crash before it may have left is what it was.
pub record Elapses (old new : View) : Type 0 where
  pub counted : new.now ≡ min (old.now + 1) (2 ^ 64 - 1)
  pub past : (k : ℕ) (image : List ℕ) → k < new.now → new.crash_images k image ↔ old.crash_images k image

-- What every device call does, however it ends: it is counted, the size stays, and a failure has its cause in the count of faults.
pub record IsDeviceCall {V E : Type 0} (old new : View) (result : Result V E) : Type 0 where
  pub time : Elapses old new
  pub size : new.size ≡ old.size
  pub cause : HasCause old.faults new.faults result
