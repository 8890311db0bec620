-- Bytes in a list, and the numbers in them. Every reader is total: past the end there are zeros.
use Rattle.std.specs.Prelude.{ℕ, zero, suc, ◌+◌, ◌*◌, ◌<◌, ◌==◌, Bool, not, List, take, drop, map, slice_index, replicate, Option, None, Some, option_map, if◌then◌else◌}
use Rattle.std.specs.Option.{option_or}
use Rattle.std.specs.List.{position, range_with_len, flat_map}
use Rattle.std.specs.Int.{bytes_low_first}

-- every byte is below 256
abbrev pub AreBytes : List ℕ → Type 0
AreBytes bytes = (k : ℕ) → slice_index bytes k < 256

-- the n bytes from a place on, or fewer where the list ends before
abbrev pub part : ℕ → ℕ → List ℕ → List ℕ
part at n bytes = take n (drop at bytes)

-- n bytes of zero
unfoldable pub zeros : ℕ → List ℕ
zeros n = replicate n 0

-- the number in the n bytes from place i on, the lowest first
abbrev pub number_from : ℕ → ℕ → List ℕ → ℕ
number_from i zero bytes = 0
number_from i (suc n) bytes = slice_index bytes i + 256 * number_from (suc i) n bytes

-- the number of 4 bytes at a place
abbrev pub u32_at : ℕ → List ℕ → ℕ
u32_at at bytes = number_from 0 4 (part at 4 bytes)

-- the number of 8 bytes at a place
abbrev pub u64_at : ℕ → List ℕ → ℕ
u64_at at bytes = number_from 0 8 (part at 8 bytes)

-- the n numbers of 4 bytes each from a place on
unfoldable pub u32s_at : ℕ → ℕ → List ℕ → List ℕ
u32s_at at n bytes = map (λ k. number_from 0 4 (drop (4 * k) (part at (4 * n) bytes))) (range_with_len 0 n)

-- the 4 bytes of a number
abbrev pub u32_bytes : ℕ → List ℕ
u32_bytes x = bytes_low_first 0 4 x

-- the 8 bytes of a number
abbrev pub u64_bytes : ℕ → List ℕ
u64_bytes x = bytes_low_first 0 8 x

-- the bytes of numbers of 4 bytes each
abbrev pub u32s_bytes : List ℕ → List ℕ
u32s_bytes xs = flat_map u32_bytes xs

-- a byte that is not zero
abbrev pub is_nonzero : ℕ → Bool
is_nonzero byte = not (byte == 0)

-- the place of the first byte that is not zero among the n from a place on
abbrev pub nonzero_in : ℕ → ℕ → List ℕ → Option ℕ
nonzero_in at n bytes = option_map (λ k. at + k) (position is_nonzero (part at n bytes))

-- this place where the test says so
abbrev pub fault_at : Bool → ℕ → Option ℕ
fault_at wrong at = if wrong then Some at else None

-- the first of f 0, f 1, .., f (n - 1) that is some
abbrev pub first_of : {A : Type 0} → ℕ → (ℕ → Option A) → Option A
first_of zero f = None
first_of (suc n) f = option_or (first_of n f) (f n)
