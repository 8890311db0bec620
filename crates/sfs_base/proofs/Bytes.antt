-- The bytes of a file, place by place.
use Rattle.std.proofs.Common.{◌≡◌, ◌∙◌, sym, ap, refl, ⊎_elim, ◌+◌, ◌-◌, ◌<◌, ◌≤◌, ℕ, true, false, cond, List, ◌++◌, length, get_or, take, drop, replicate, max, ltb, leb, eqb, ◌&&◌, length-append, length-take, length-drop, arith}
use Rattle.std.proofs.lemmas.List.{get_or-take, get_or-drop, get_or_append_left, get_or-append_right, get_or_past, length-replicate, get_or-replicate}
use Rattle.std.proofs.lemmas.Bool.{cases_lt}
use Rattle.std.proofs.lemmas.Bool.Decides.{nat_tests}
use Rattle.sfs_base.specs.Files.{resized, written}

-- so many zeros
abbrev pub zeros : ℕ → List ℕ
zeros count = replicate count 0

-- there are as many as that
pub length-zeros : (count : ℕ) → length (zeros count) ≡ count
length-zeros count = length-replicate count 0

-- zeros are zeros at every place
pub get_or-zeros : (count place : ℕ) → get_or (zeros count) place 0 ≡ 0
get_or-zeros count place =
    ⊎_elim (λ inside. get_or-replicate count place 0 0 inside) (λ past. get_or_past (zeros count) place 0 (omega (arith, past, length-zeros count)))
    (cases_lt place count)

-- how long bytes of another length are
pub length-resized : (size : ℕ) (bytes : List ℕ) → length (resized size bytes) ≡ size
length-resized size bytes =
    omega (arith, length-append (take size bytes) (zeros (size - length bytes)), length-take size bytes, length-zeros (size - length bytes))

-- the bytes at another length, place by place
pub get_or-resized : (size : ℕ) (bytes : List ℕ) (place : ℕ) → get_or (resized size bytes) place 0 ≡ cond (ltb place size) (get_or bytes place 0) 0
get_or-resized size bytes place = ⊎_elim inside past (cases_lt place size)
  where
    inside : place < size → get_or (resized size bytes) place 0 ≡ cond (ltb place size) (get_or bytes place 0) 0
    inside below =
        let test : ltb place size ≡ true = grind (arith, nat_tests) in
        let short = length-take size bytes in
        rw test
        (⊎_elim
        (λ kept. get_or_append_left (take size bytes) (zeros (size - length bytes)) 0 place (omega (arith, short, kept, below))
        ∙ get_or-take size bytes place 0 below)
        (λ gone. get_or-append_right (take size bytes) (zeros (size - length bytes)) (length (take size bytes)) place 0 refl (omega (arith, short, gone))
        ∙ get_or-zeros (size - length bytes) (place - length (take size bytes)) ∙ sym (get_or_past bytes place 0 gone))
        (cases_lt place (length bytes)))

    past : size ≤ place → get_or (resized size bytes) place 0 ≡ cond (ltb place size) (get_or bytes place 0) 0
    past above =
        let test : ltb place size ≡ false = grind (arith, nat_tests) in
        rw test (get_or_past (resized size bytes) place 0 (omega (arith, above, length-resized size bytes)))

-- how long a file is after a write
pub length-written : (at : ℕ) (from bytes : List ℕ) → 0 < length from → length (written at from bytes) ≡ max (at + length from) (length bytes)
length-written at from bytes some =
    let test : eqb (length from) 0 ≡ false = grind (arith, nat_tests) in
    rw test
    (omega (
      arith,
      length-append (resized at bytes ++ from) (drop (at + length from) bytes),
      length-append (resized at bytes) from,
      length-resized at bytes,
      length-drop (at + length from) bytes,
    ))

-- a file after a write, place by place
pub get_or-written : (at : ℕ) (from bytes : List ℕ) (place : ℕ) → 0 < length from
    → get_or (written at from bytes) place 0 ≡ cond (leb at place && ltb place (at + length from)) (get_or from (place - at) 0) (get_or bytes place 0)
get_or-written at from bytes place some =
    let test : eqb (length from) 0 ≡ false = grind (arith, nat_tests) in
    rw test (⊎_elim before (λ high. ⊎_elim (λ low. inside high low) (λ past. behind high past) (cases_lt place (at + length from))) (cases_lt place at))
  where
    long : length (resized at bytes ++ from) ≡ at + length from
    long = length-append (resized at bytes) from ∙ ap (λ n. n + length from) (length-resized at bytes)

    before : place < at
        → get_or (resized at bytes ++ from ++ drop (at + length from) bytes) place 0
        ≡ cond (leb at place && ltb place (at + length from)) (get_or from (place - at) 0) (get_or bytes place 0)
    before low =
        let test : leb at place ≡ false = grind (arith, nat_tests) in
        let inner : ltb place at ≡ true = grind (arith, nat_tests) in
        rw test
        (get_or_append_left (resized at bytes ++ from) (drop (at + length from) bytes) 0 place (omega (arith, long, low))
        ∙ get_or_append_left (resized at bytes) from 0 place (omega (arith, length-resized at bytes, low))
        ∙ get_or-resized at bytes place
        ∙ ap (λ b. cond b (get_or bytes place 0) 0) inner)

    inside : at ≤ place → place < at + length from
        → get_or (resized at bytes ++ from ++ drop (at + length from) bytes) place 0
        ≡ cond (leb at place && ltb place (at + length from)) (get_or from (place - at) 0) (get_or bytes place 0)
    inside high low =
        let first : leb at place ≡ true = grind (arith, nat_tests) in
        let second : ltb place (at + length from) ≡ true = grind (arith, nat_tests) in
        rw (first, second)
        (get_or_append_left (resized at bytes ++ from) (drop (at + length from) bytes) 0 place (omega (arith, long, low))
        ∙ get_or-append_right (resized at bytes) from at place 0 (length-resized at bytes) high)

    behind : at ≤ place → at + length from ≤ place
        → get_or (resized at bytes ++ from ++ drop (at + length from) bytes) place 0
        ≡ cond (leb at place && ltb place (at + length from)) (get_or from (place - at) 0) (get_or bytes place 0)
    behind high past =
        let first : leb at place ≡ true = grind (arith, nat_tests) in
        let second : ltb place (at + length from) ≡ false = grind (arith, nat_tests) in
        let back : at + length from + (place - (at + length from)) ≡ place = omega (arith, past) in
        rw (first, second)
        (get_or-append_right (resized at bytes ++ from) (drop (at + length from) bytes) (at + length from) place 0 long past
        ∙ get_or-drop (at + length from) bytes (place - (at + length from)) 0
        ∙ ap (λ k. get_or bytes k 0) back)
