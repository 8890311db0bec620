-- Paths, seen as the list of their names.
use Rattle.std.specs.Prelude.{ℕ, ◌+◌, List, [], ◌∷◌, length, sum_by}

-- how long a path is: one byte for the root, and otherwise each name with a `/` before it
abbrev pub path_length : List (List ℕ) → ℕ
path_length [] = 1
path_length (name ∷ names) = sum_by (λ part. 1 + length part) (name ∷ names)
