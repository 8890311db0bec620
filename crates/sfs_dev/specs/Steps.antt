-- What one write with its sync does to a disk.
use Rattle.std.specs.Prelude.{◌≡◌, ℕ, ◌+◌, ◌-◌, ◌^◌, ◌<◌, ◌≤◌, min, List, Option, Some, option_map, is_some}
use Rattle.sfs_dev.specs.Ranges.{put, SameOutside}
use Rattle.sfs_dev.specs.Disk.{View, OnlyTold, images}
use Rattle.sfs_dev.specs.Run.{CountsOn}

-- what a read gives has P, where it is told
abbrev pub IfTold : Option (List ℕ) → (List ℕ → Type 0) → Type 0
IfTold told P = (content : List ℕ) → told ≡ Some content → P content

-- the disk tells what a read gives exactly where it did before
abbrev pub TellsAlike : View → View → Type 0
TellsAlike old new = is_some new.content ≡ is_some old.content

-- each image that a crash at a later moment may leave is one from before but for n bytes from byte `at` on
abbrev pub TornSince : ℕ → ℕ → View → View → Type 0
TornSince at n old new =
    (k : ℕ) (image : List ℕ) → old.now < k → k ≤ new.now → new.crash_images k image → (was : List ℕ) × images old was × SameOutside at n was image

-- where it is told what a read gives: a crash at a later moment leaves nothing else than before, but for these n bytes
abbrev pub TearsOnly : ℕ → ℕ → View → View → Type 0
TearsOnly at n old new = (content : List ℕ) → old.content ≡ Some content → CountsOn new → TornSince at n old new

-- These bytes were written from byte `at` on, by two device calls, and are on the disk.
pub record Puts (at : ℕ) (bytes : List ℕ) (old new : View) : Type 0 where
  pub content : new.content ≡ option_map (put at bytes) old.content
  pub only : OnlyTold new.content (images new)
  pub counted : new.now ≡ min (old.now + 2) (2 ^ 64 - 1)
