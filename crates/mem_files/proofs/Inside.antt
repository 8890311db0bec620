-- What no change touches stays.
use Rattle.std.proofs.Common.{◌≡◌, ℕ, ◌+◌, ◌-◌, ◌*◌, ◌/◌, ◌<◌, ◌≤◌, ◌⊎◌, ⊎_elim, inl, inr, Bool, true, false, cond, ◌&&◌, ltb, leb, eqb, List, ◌++◌, drop, length, get_or, refl, sym, ap, ◌∙◌, arith}
use Rattle.std.proofs.lemmas.List.{get_or_past}
use Rattle.std.proofs.lemmas.Bool.{cases_lt}
use Rattle.std.proofs.lemmas.Bool.Decides.{nat_tests}
use Rattle.sfs_base.specs.Files.{resized, written}
use Rattle.sfs_base.proofs.Bytes.{get_or-resized, get_or-written}
use Rattle.mem_files.specs.File.{no_blocks, blocks_of, is_touched}
use Rattle.mem_files.specs.Laws.{WritesStayInside, TruncationsStayInside}

-- a place in a block that lies apart from some bytes is before or behind them
apart : (first end block place : ℕ) → place < 4096 → is_touched (blocks_of first end) block ≡ false
    → (4096 * block + place < first) ⊎ (end ≤ 4096 * block + place)
apart first end block place within untouched = ⊎_elim low high (cases_lt block (first / 4096))
  where
    low : block < first / 4096 → (4096 * block + place < first) ⊎ (end ≤ 4096 * block + place)
    low below = inl (omega arith)

    high : first / 4096 ≤ block → (4096 * block + place < first) ⊎ (end ≤ 4096 * block + place)
    high above =
        let test : leb (first / 4096) block ≡ true = grind (arith, nat_tests) in
        let past : ltb block ((end + 4095) / 4096) ≡ false = sym (ap (λ b. b && ltb block ((end + 4095) / 4096)) test) ∙ untouched in
        let behind : (end + 4095) / 4096 ≤ block = grind (arith, nat_tests) in
        inr (omega arith)

-- a write of no bytes changes nothing
nothing : (at : ℕ) (from bytes : List ℕ) → length from ≡ 0 → written at from bytes ≡ bytes
nothing at from bytes none = ap (λ (n : ℕ). cond (eqb n 0) bytes (resized at bytes ++ from ++ drop (at + length from) bytes)) none

outside : (at : ℕ) (from bytes : List ℕ) (place : ℕ) → 0 < length from → (place < at) ⊎ (at + length from ≤ place)
    → get_or (written at from bytes) place 0 ≡ get_or bytes place 0
outside at from bytes place some apart =
    get_or-written at from bytes place some ∙ ap (λ b. cond b (get_or from (place - at) 0) (get_or bytes place 0)) (test apart)
  where
    test : (place < at) ⊎ (at + length from ≤ place) → (leb at place && ltb place (at + length from)) ≡ false
    test (inl before) = let low : leb at place ≡ false = grind (arith, nat_tests) in ap (λ b. b && ltb place (at + length from)) low
    test (inr behind) =
        let low : leb at place ≡ true = grind (arith, nat_tests) in
        let high : ltb place (at + length from) ≡ false = grind (arith, nat_tests) in
        ap (λ b. b && ltb place (at + length from)) low ∙ high

pub writes_stay_inside : WritesStayInside
writes_stay_inside at from bytes block place within untouched = ⊎_elim none some (cases_lt 0 (length from))
  where
    none : 0 < length from → get_or (written at from bytes) (4096 * block + place) 0 ≡ get_or bytes (4096 * block + place) 0
    none more =
        let test : eqb (length from) 0 ≡ false = grind (arith, nat_tests) in
        outside at from bytes (4096 * block + place) more
        (apart at (at + length from) block place within
        (sym (ap (λ b. is_touched (cond b no_blocks (blocks_of at (at + length from))) block) test) ∙ untouched))

    some : length from ≤ 0 → get_or (written at from bytes) (4096 * block + place) 0 ≡ get_or bytes (4096 * block + place) 0
    some le = ap (λ l. get_or l (4096 * block + place) 0) (nothing at from bytes (omega arith))

pub truncations_stay_inside : TruncationsStayInside
truncations_stay_inside size bytes block place within untouched =
    get_or-resized size bytes (4096 * block + place) ∙ ⊎_elim shorter longer (cases_lt size (length bytes))
  where
    past : length bytes ≤ 4096 * block + place
        → cond (ltb (4096 * block + place) size) (get_or bytes (4096 * block + place) 0) 0 ≡ get_or bytes (4096 * block + place) 0
    past behind =
        let none = get_or_past bytes (4096 * block + place) 0 behind in
        rw none (of (ltb (4096 * block + place) size))
      where
        of : (b : Bool) → ◌≡◌ {A = ℕ} (cond b 0 0) 0
        of true = refl
        of false = refl

    kept : 4096 * block + place < size
        → cond (ltb (4096 * block + place) size) (get_or bytes (4096 * block + place) 0) 0 ≡ get_or bytes (4096 * block + place) 0
    kept below =
        let test : ltb (4096 * block + place) size ≡ true = grind (arith, nat_tests) in
        ap (λ b. cond b (get_or bytes (4096 * block + place) 0) 0) test

    shorter : size < length bytes → cond (ltb (4096 * block + place) size) (get_or bytes (4096 * block + place) 0) 0 ≡ get_or bytes (4096 * block + place) 0
    shorter less =
        let test : ltb size (length bytes) ≡ true = grind (arith, nat_tests) in
        ⊎_elim kept past
        (apart size (length bytes) block place within
        (sym (ap (λ b. is_touched (cond b (blocks_of size (length bytes)) no_blocks) block) test) ∙ untouched))

    longer : length bytes ≤ size → cond (ltb (4096 * block + place) size) (get_or bytes (4096 * block + place) 0) 0 ≡ get_or bytes (4096 * block + place) 0
    longer le = ⊎_elim kept (λ above. past (omega arith)) (cases_lt (4096 * block + place) size)
