-- Bytes in pages of 4,096.
use Rattle.std.specs.Prelude.{◌≡◌, ℕ, ◌+◌, ◌*◌, ◌-◌, ◌/◌, ◌%◌, ◌<◌, nat_le, nat_lt, ◌&&◌, Bool, List, [], length, slice_index_or, slice_index, if◌then◌else◌}

-- the byte at a place: 0 where its page has none
abbrev pub byte_at : List (List ℕ) → ℕ → ℕ
byte_at pages place = slice_index (slice_index_or pages (place / 4096) []) (place % 4096)

-- pages that have the same byte at each place
abbrev pub SameBytes : List (List ℕ) → List (List ℕ) → Type 0
SameBytes old new = (place : ℕ) → byte_at new place ≡ byte_at old place

-- whether a block is one of so many from `first` on
abbrev pub is_within : ℕ → ℕ → ℕ → Bool
is_within first count block = nat_le first block && nat_lt block (first + count)

-- the byte at a place, after a write at a place
abbrev pub byte_after : (ℕ → ℕ) → ℕ → List ℕ → ℕ → ℕ
byte_after before at from place = if nat_le at place && nat_lt place (at + length from) then slice_index from (place - at) else before place

-- A page is one of pages as it is after a write at a place.
abbrev pub IsWrittenPage : List (List ℕ) → ℕ → List ℕ → ℕ → List ℕ → Type 0
IsWrittenPage pages at from block page =
    (offset : ℕ) → offset < 4096 → slice_index page offset ≡ byte_after (byte_at pages) at from (block * 4096 + offset)

-- Within a block a write of a piece at an offset is a write of all at a place, whatever the bytes were.
abbrev pub IsPieceIn : ℕ → List ℕ → ℕ → ℕ → List ℕ → Type 0
IsPieceIn at from block offset piece =
    (before : ℕ → ℕ) (place : ℕ) → place < 4096
    → byte_after (λ k. before (block * 4096 + k)) offset piece place ≡ byte_after before at from (block * 4096 + place)
