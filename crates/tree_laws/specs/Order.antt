-- The order of names by their bytes, and of rows by their directory and then their name.
use Rattle.std.specs.Prelude.{ℕ, List}
use Rattle.std.specs.Ordering.{nat_cmp, ordering_then}
use Rattle.std.specs.Cmp.Lexicographic.{slice_cmp}
use Rattle.std.specs.declared.cmp.Ordering.{Ordering}

-- names go by their bytes
abbrev pub name_cmp : List ℕ → List ℕ → Ordering
name_cmp = slice_cmp nat_cmp

-- where a row stands: its directory and its name
abbrev pub Key : Type 0
Key = ℕ × List ℕ

-- rows go by their directory, and in one directory by their names
abbrev pub key_cmp : Key → Key → Ordering
key_cmp a b = ordering_then (nat_cmp a.0 b.0) (name_cmp a.1 b.1)
