-- The bytes of pages, place by place.
use Rattle.std.proofs.Common.{◌≡◌, ◌∙◌, sym, ap, refl, ◌⊎◌, inl, inr, ◌+◌, ◌/◌, ◌%◌, ◌<◌, ◌≤◌, ℕ, true, false, cond, List, [], length, get_or, set, take, ltb, length-take, arith}
use Rattle.std.proofs.lemmas.List.{get_or_past, get_or-take, get_or-set_same, get_or-set_other}
use Rattle.std.proofs.lemmas.Bool.{cases_eq, cases_lt}
use Rattle.std.proofs.lemmas.Bool.Decides.{nat_tests}
use Rattle.mem_files.specs.Pages.{byte_at}

-- a byte of a list's front
pub get_or-front : (size : ℕ) (bytes : List ℕ) (place : ℕ) → get_or (take size bytes) place 0 ≡ cond (ltb place size) (get_or bytes place 0) 0
get_or-front size bytes place = by_place (cases_lt place size)
  where
    by_place : (place < size) ⊎ (size ≤ place) → get_or (take size bytes) place 0 ≡ cond (ltb place size) (get_or bytes place 0) 0
    by_place (inl below) = let test : ltb place size ≡ true = grind (arith, nat_tests) in rw test (get_or-take size bytes place 0 below)
    by_place (inr past) = let test : ltb place size ≡ false = grind (arith, nat_tests) in
        rw test (get_or_past (take size bytes) place 0 (omega (arith, past, length-take size bytes)))

-- a page past the end has no bytes
byte_past : (pages : List (List ℕ)) (block place : ℕ) → length pages ≤ block → get_or (get_or pages block []) place 0 ≡ 0
byte_past pages block place past = ap (λ (page : List ℕ). get_or page place 0) (get_or_past pages block [] past)

-- the pages up to one, of which the last is cut off
abbrev pub cut_pages : List (List ℕ) → ℕ → List ℕ → List (List ℕ)
cut_pages pages size last = set (take (size / 4096 + 1) pages) (size / 4096) last

-- the bytes of such pages
pub byte_at-cut : (pages : List (List ℕ)) (size place : ℕ) (last : List ℕ) → size / 4096 < length (take (size / 4096 + 1) pages)
    → last ≡ take (size % 4096) (get_or (take (size / 4096 + 1) pages) (size / 4096) [])
    → byte_at (cut_pages pages size last) place ≡ cond (ltb place size) (byte_at pages place) 0
byte_at-cut pages size place last inside is = by_block (cases_eq (place / 4096) (size / 4096))
  where
    same_block : place / 4096 ≡ size / 4096 → ltb (place % 4096) (size % 4096) ≡ ltb place size
    same_block same = grind (arith, nat_tests)

    other_block : (place / 4096 ≡ size / 4096 → ⊥) → (place / 4096 < size / 4096) ⊎ (size / 4096 ≤ place / 4096)
        → get_or (get_or (take (size / 4096 + 1) pages) (place / 4096) []) (place % 4096) 0 ≡ cond (ltb place size) (byte_at pages place) 0
    other_block apart (inl low) =
        let test : ltb place size ≡ true = grind (arith, nat_tests) in
        rw (test, get_or-take (size / 4096 + 1) pages (place / 4096) [] (omega (arith, low))) refl
    other_block apart (inr high) =
        let test : ltb place size ≡ false = grind (arith, nat_tests) in
        rw test (byte_past (take (size / 4096 + 1) pages) (place / 4096) (place % 4096) (omega (arith, apart, high, length-take (size / 4096 + 1) pages)))

    by_block : (place / 4096 ≡ size / 4096) ⊎ (place / 4096 ≡ size / 4096 → ⊥)
        → byte_at (cut_pages pages size last) place ≡ cond (ltb place size) (byte_at pages place) 0
    by_block (inl same) =
        ap (λ (block : ℕ). get_or (get_or (cut_pages pages size last) block []) (place % 4096) 0) same
        ∙ ap (λ (page : List ℕ). get_or page (place % 4096) 0) (get_or-set_same (take (size / 4096 + 1) pages) (size / 4096) last [] inside ∙ is)
        ∙ get_or-front (size % 4096) (get_or (take (size / 4096 + 1) pages) (size / 4096) []) (place % 4096)
        ∙ ap (λ (page : List ℕ). cond (ltb (place % 4096) (size % 4096)) (get_or page (place % 4096) 0) 0)
        (get_or-take (size / 4096 + 1) pages (size / 4096) [] (omega arith))
        ∙ ap (λ (block : ℕ). cond (ltb (place % 4096) (size % 4096)) (get_or (get_or pages block []) (place % 4096) 0) 0) (sym same)
        ∙ ap (λ b. cond b (byte_at pages place) 0) (same_block same)
    by_block (inr apart) =
        ap (λ (page : List ℕ). get_or page (place % 4096) 0) (get_or-set_other (take (size / 4096 + 1) pages) (size / 4096) (place / 4096) last [] apart)
        ∙ other_block apart (cases_lt (place / 4096) (size / 4096))
