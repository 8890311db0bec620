-- What a piece of code knows of a range of its own, whatever others write elsewhere.
use Rattle.std.specs.Prelude.{◌≡◌, ℕ, List, Option, Some}
use Rattle.sfs_dev.specs.Ranges.{part}
use Rattle.sfs_dev.specs.Disk.{Torn, TornTold}

-- Every image has P of these n bytes from byte `at` on, and what a read gives, where it is told, has Q of them.
pub record Holds (at n : ℕ) (told : Option (List ℕ)) (images : List ℕ → Type 0) (P Q : List ℕ → Type 0) : Type 0 where
  pub left : (image : List ℕ) → images image → P (part at n image)
  pub read : (content : List ℕ) → told ≡ Some content → Q (part at n content)

-- Between two moments nothing was written but some of m bytes from byte `from` on.
pub record StaysOutside (from m : ℕ) (told new_told : Option (List ℕ)) (old new : List ℕ → Type 0) : Type 0 where
  pub left : Torn from m old new
  pub read : TornTold from m told new_told
