-- Pages made anew for a write, and put in the place of others.
use Rattle.std.proofs.Common.{◌≡◌, ◌∙◌, sym, ap, ◌⊎◌, inl, inr, ◌+◌, ◌-◌, ◌*◌, ◌/◌, ◌%◌, ◌<◌, ◌≤◌, ℕ, true, false, cond, List, [], length, get_or, take, drop, min, max, length-take, length-drop, arith}
use Rattle.std.proofs.lemmas.List.{get_or-take, get_or-drop}
use Rattle.std.proofs.lemmas.Bool.{cases_lt}
use Rattle.std.proofs.lemmas.Bool.Decides.{nat_tests}
use Rattle.mem_files.specs.Pages.{byte_at, byte_after, is_within, IsPieceIn, IsWrittenPage}
use Rattle.mem_files.proofs.Puts.{byte_after-before, byte_after-in, byte_after-behind, byte_after-same}

-- what of a write falls into a block
pub piece_is : (at block low skip stop : ℕ) (from : List ℕ) → low ≡ min (max at (block * 4096)) (block * 4096 + 4096) → skip ≡ min (low - at) (length from)
    → stop ≡ max (min (min (max (at + length from) low) (block * 4096 + 4096) - at) (length from)) skip
    → IsPieceIn at from block (low - block * 4096) (take (stop - skip) (drop skip from))
piece_is at block low skip stop from is_low is_skip is_stop before place within =
    by (cases_lt (block * 4096 + place) at) (cases_lt (block * 4096 + place) (at + length from))
  where
    long : length (take (stop - skip) (drop skip from)) ≡ min (stop - skip) (length from - skip)
    long = omega (arith, length-take (stop - skip) (drop skip from), length-drop skip from)

    by : (block * 4096 + place < at) ⊎ (at ≤ block * 4096 + place) → (block * 4096 + place < at + length from) ⊎ (at + length from ≤ block * 4096 + place)
        → byte_after (λ k. before (block * 4096 + k)) (low - block * 4096) (take (stop - skip) (drop skip from)) place ≡ byte_after before at from (block * 4096 + place)
    by (inl low_place) b =
        byte_after-before (λ k. before (block * 4096 + k)) (low - block * 4096) (take (stop - skip) (drop skip from)) place (omega (arith, is_low, low_place, within))
        ∙ sym (byte_after-before before at from (block * 4096 + place) low_place)
    by (inr high) (inl inside) =
        let same : skip + (place - (low - block * 4096)) ≡ block * 4096 + place - at = omega (arith, is_low, is_skip, high, inside, within) in
        byte_after-in (λ k. before (block * 4096 + k)) (low - block * 4096) (take (stop - skip) (drop skip from)) place (omega (arith, is_low, high, within))
        (omega (arith, long, is_low, is_skip, is_stop, high, inside, within))
        ∙ get_or-take (stop - skip) (drop skip from) (place - (low - block * 4096)) 0 (omega (arith, is_low, is_skip, is_stop, high, inside, within))
        ∙ get_or-drop skip from (place - (low - block * 4096)) 0
        ∙ ap (λ k. get_or from k 0) same
        ∙ sym (byte_after-in before at from (block * 4096 + place) high inside)
    by (inr high) (inr past) =
        byte_after-behind (λ k. before (block * 4096 + k)) (low - block * 4096) (take (stop - skip) (drop skip from)) place (omega (arith, long, is_low, is_skip, is_stop, past, within))
        ∙ sym (byte_after-behind before at from (block * 4096 + place) past)

-- pages in whose place fresh ones were put
pub byte_at-fresh : (pages later fresh : List (List ℕ)) (before : ℕ → ℕ) (first end at : ℕ) (from : List ℕ) → first * 4096 ≤ at → first ≤ end
    → at + length from ≤ end * 4096 → length fresh ≡ end - first
    → ((block : ℕ) → get_or later block [] ≡ cond (is_within first (length fresh) block) (get_or fresh (block - first) []) (get_or pages block []))
    → ((place : ℕ) → first * 4096 ≤ place → place < end * 4096 → byte_at fresh (place - first * 4096) ≡ byte_after before at from place)
    → ((place : ℕ) → byte_at pages place ≡ before place) → (place : ℕ) → byte_at later place ≡ byte_after before at from place
byte_at-fresh pages later fresh before first end at from begins begun ends long put is same place =
    by (cases_lt (place / 4096) first) (cases_lt (place / 4096) end)
  where
    outside : is_within first (length fresh) (place / 4096) ≡ false → byte_at later place ≡ before place
    outside test =
        ap (λ (p : List ℕ). get_or p (place % 4096) 0)
        (put (place / 4096) ∙ ap (λ b. cond b (get_or fresh (place / 4096 - first) []) (get_or pages (place / 4096) [])) test)
        ∙ same place

    by : (place / 4096 < first) ⊎ (first ≤ place / 4096) → (place / 4096 < end) ⊎ (end ≤ place / 4096)
        → byte_at later place ≡ byte_after before at from place
    by (inl low) b =
        let below : place < at = omega (arith, low, begins) in
        outside (grind (arith, nat_tests, low, long)) ∙ sym (byte_after-before before at from place below)
    by (inr high) (inl inside) =
        let test : is_within first (length fresh) (place / 4096) ≡ true = grind (arith, nat_tests, high, inside, long) in
        let block : place / 4096 - first ≡ (place - first * 4096) / 4096 = omega (arith, high) in
        let offset : place % 4096 ≡ (place - first * 4096) % 4096 = omega (arith, high) in
        ap (λ (p : List ℕ). get_or p (place % 4096) 0)
        (put (place / 4096) ∙ ap (λ b. cond b (get_or fresh (place / 4096 - first) []) (get_or pages (place / 4096) [])) test)
        ∙ ap (λ (k : ℕ). get_or (get_or fresh k []) (place % 4096) 0) block
        ∙ ap (λ k. get_or (get_or fresh ((place - first * 4096) / 4096) []) k 0) offset
        ∙ is place (omega (arith, high)) (omega (arith, inside))
    by (inr high) (inr past) =
        let behind : at + length from ≤ place = omega (arith, past, ends) in
        outside (grind (arith, nat_tests, past, long, begun)) ∙ sym (byte_after-behind before at from place behind)

-- the bytes of one of some pages
page_bytes : (pages : List (List ℕ)) (page : List ℕ) (block offset : ℕ) → offset < 4096 → page ≡ get_or pages block []
    → get_or page offset 0 ≡ byte_at pages (block * 4096 + offset)
page_bytes pages page block offset within is =
    let here : (block * 4096 + offset) / 4096 ≡ block = omega (arith, within) in
    let at : (block * 4096 + offset) % 4096 ≡ offset = omega (arith, within) in
    ap (λ (p : List ℕ). get_or p offset 0) is
    ∙ sym (ap (λ (k : ℕ). get_or (get_or pages k []) ((block * 4096 + offset) % 4096) 0) here ∙ ap (λ k. get_or (get_or pages block []) k 0) at)

-- One of them, with a piece of a write at an offset, is as it is after the write.
pub page_written : (pages : List (List ℕ)) (page after : List ℕ) (at block offset : ℕ) (from piece : List ℕ) → page ≡ get_or pages block []
    → IsPieceIn at from block offset piece → ((place : ℕ) → get_or after place 0 ≡ byte_after (λ k. get_or page k 0) offset piece place)
    → IsWrittenPage pages at from block after
page_written pages page after at block offset from piece is in_block written place within =
    written place
    ∙ byte_after-same (λ k. get_or page k 0) (λ k. byte_at pages (block * 4096 + k)) offset piece place (page_bytes pages page block place within is)
    ∙ in_block (byte_at pages) place within
