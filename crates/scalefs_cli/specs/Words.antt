-- The words of the program's command line.
use Rattle.std.specs.Prelude.{ℕ, List, ◌∷◌, Option, Some, None, if◌then◌else◌}
use Rattle.words.specs.Words.{begins_with_dash}

-- the image's word, and those of the command
pub record Parted : Type 0 where
  pub image : List ℕ
  pub command : List (List ℕ)

-- the words behind the program's name; there are none where the image's is missing or begins with `-`
abbrev pub parted : List (List ℕ) → Option Parted
parted (program ∷ image ∷ command) = if begins_with_dash image then None else Some (record { image = image; command = command })
parted _ = None
