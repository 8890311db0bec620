-- Bytes of a disk by their place.
use Rattle.std.specs.Prelude.{◌≡◌, ◌⊎◌, ℕ, ◌+◌, ◌≤◌, List, ◌++◌, length, take, drop}

-- the n bytes from byte `at` on
abbrev pub part : ℕ → ℕ → List ℕ → List ℕ
part at n bytes = take n (drop at bytes)

-- the same bytes, with these in the place of those from byte `at` on
abbrev pub put : ℕ → List ℕ → List ℕ → List ℕ
put at new bytes = take at bytes ++ new ++ drop (at + length new) bytes

-- no byte differs but some of the n from byte `at` on
pub record SameOutside (at n : ℕ) (old new : List ℕ) : Type 0 where
  pub before : take at new ≡ take at old
  pub after : drop (at + n) new ≡ drop (at + n) old
  pub size : length new ≡ length old

-- two ranges, of m bytes from byte `from` on and of n from `at` on, share no byte
abbrev pub Apart : ℕ → ℕ → ℕ → ℕ → Type 0
Apart from m at n = (from + m ≤ at) ⊎ (at + n ≤ from)
