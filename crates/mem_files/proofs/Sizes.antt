-- The bytes of pages up to a size.
use Rattle.std.proofs.Common.{◌≡◌, ◌∙◌, sym, ap, ◌⊎◌, inl, inr, ◌+◌, ◌-◌, ◌<◌, ◌≤◌, ℕ, true, cond, List, length, get_or, take, drop, max, ltb, leb, ◌&&◌, length-take, length-drop, arith}
use Rattle.std.proofs.lemmas.List.{get_or_past, get_or-take, get_or-drop, ext_get_or}
use Rattle.std.proofs.lemmas.List.FromFn.{get_or-map-range_with_len, length-map-range_with_len}
use Rattle.std.proofs.lemmas.Bool.{cases_lt}
use Rattle.std.proofs.lemmas.Bool.Decides.{nat_tests}
use Rattle.sfs_base.specs.Files.{resized, written}
use Rattle.sfs_base.proofs.Bytes.{length-resized, get_or-resized, length-written, get_or-written}
use Rattle.mem_files.specs.Pages.{byte_at, byte_after, SameBytes}
use Rattle.mem_files.specs.Kept.{bytes_in, KeepsPages}

-- there are as many as the size
pub length-bytes_in : (pages : List (List ℕ)) (size : ℕ) → length (bytes_in pages size) ≡ size
length-bytes_in pages size = length-map-range_with_len (byte_at pages) 0 size

-- a byte below the size
inside : (pages : List (List ℕ)) (size place : ℕ) → place < size → get_or (bytes_in pages size) place 0 ≡ byte_at pages place
inside pages size place below = get_or-map-range_with_len (byte_at pages) 0 size place place 0 below (omega arith)

-- each byte, where there are zeros from the size on
pub get_or-bytes_in : (pages : List (List ℕ)) (size place : ℕ) → KeepsPages pages size → get_or (bytes_in pages size) place 0 ≡ byte_at pages place
get_or-bytes_in pages size place kept = by_place (cases_lt place size)
  where
    by_place : (place < size) ⊎ (size ≤ place) → get_or (bytes_in pages size) place 0 ≡ byte_at pages place
    by_place (inl below) = inside pages size place below
    by_place (inr past) = get_or_past (bytes_in pages size) place 0 (omega (arith, past, length-bytes_in pages size)) ∙ sym (kept.clean place past)

-- the bytes at another size, where those below it stay
pub bytes_in-resized : (pages later : List (List ℕ)) (before size : ℕ) → KeepsPages pages before
    → ((place : ℕ) → place < size → byte_at later place ≡ byte_at pages place) → bytes_in later size ≡ resized size (bytes_in pages before)
bytes_in-resized pages later before size kept same =
    ext_get_or 0 (bytes_in later size) (resized size (bytes_in pages before))
    (length-bytes_in later size ∙ sym (length-resized size (bytes_in pages before))) each
  where
    each : (place : ℕ) → place < length (bytes_in later size) → get_or (bytes_in later size) place 0 ≡ get_or (resized size (bytes_in pages before)) place 0
    each place below =
        let low : place < size = omega (arith, below, length-bytes_in later size) in
        let test : ltb place size ≡ true = grind (arith, nat_tests) in
        inside later size place low
        ∙ same place low
        ∙ sym (get_or-bytes_in pages before place kept)
        ∙ sym (get_or-resized size (bytes_in pages before) place ∙ ap (λ b. cond b (get_or (bytes_in pages before) place 0) 0) test)

-- the bytes after a write
pub bytes_in-written : (pages mid later : List (List ℕ)) (before at : ℕ) (from : List ℕ) → 0 < length from → KeepsPages pages before → SameBytes pages mid
    → ((place : ℕ) → byte_at later place ≡ byte_after (byte_at mid) at from place)
    → bytes_in later (max before (at + length from)) ≡ written at from (bytes_in pages before)
bytes_in-written pages mid later before at from some kept same put =
    ext_get_or 0 (bytes_in later (max before (at + length from))) (written at from (bytes_in pages before)) lengths each
  where
    lengths : length (bytes_in later (max before (at + length from))) ≡ length (written at from (bytes_in pages before))
    lengths =
        omega (arith, length-bytes_in later (max before (at + length from)), length-written at from (bytes_in pages before) some, length-bytes_in pages before)

    each : (place : ℕ) → place < length (bytes_in later (max before (at + length from)))
        → get_or (bytes_in later (max before (at + length from))) place 0 ≡ get_or (written at from (bytes_in pages before)) place 0
    each place below =
        inside later (max before (at + length from)) place (omega (arith, below, length-bytes_in later (max before (at + length from))))
        ∙ put place
        ∙ ap (λ b. cond (leb at place && ltb place (at + length from)) (get_or from (place - at) 0) b)
        (same place ∙ sym (get_or-bytes_in pages before place kept))
        ∙ sym (get_or-written at from (bytes_in pages before) place some)

-- bytes copied from a place on
pub bytes_in-copied : (pages : List (List ℕ)) (size at count : ℕ) (copied : List ℕ) → KeepsPages pages size → length copied ≡ count → count ≤ size - at
    → ((k : ℕ) → k < count → get_or copied k 0 ≡ byte_at pages (at + k)) → copied ≡ take count (drop at (bytes_in pages size))
bytes_in-copied pages size at count copied kept long fits each = ext_get_or 0 copied (take count (drop at (bytes_in pages size))) lengths same
  where
    lengths : length copied ≡ length (take count (drop at (bytes_in pages size)))
    lengths = omega (arith, long, fits, length-take count (drop at (bytes_in pages size)), length-drop at (bytes_in pages size), length-bytes_in pages size)

    same : (k : ℕ) → k < length copied → get_or copied k 0 ≡ get_or (take count (drop at (bytes_in pages size))) k 0
    same k below =
        let low : k < count = omega (arith, below, long) in
        each k low
        ∙ sym (get_or-bytes_in pages size (at + k) kept)
        ∙ sym (get_or-take count (drop at (bytes_in pages size)) k 0 low ∙ get_or-drop at (bytes_in pages size) k 0)
