-- The two parts of a path with a name: the directory's path, and the name in it.
use Rattle.std.specs.Prelude.{ℕ, ◌-◌, List, [], length, take, slice_index_or}

-- the names that lead to the directory of a place
abbrev pub parent : List (List ℕ) → List (List ℕ)
parent place = take (length place - 1) place

-- the name of a place in its directory
abbrev pub last_name : List (List ℕ) → List ℕ
last_name place = slice_index_or place (length place - 1) []
