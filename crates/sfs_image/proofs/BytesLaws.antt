-- Laws of parts, zeros and numbers.
use Rattle.std.proofs.Common.{◌≡◌, ℕ, zero, suc, ◌+◌, ◌-◌, ◌^◌, ◌<◌, ◌≤◌, Bool, true, false, not, cond, ltb, List, [], ◌∷◌, ◌++◌, take, drop, length, get_or, slice_index, replicate, Option, None, Some, option_map, is_none, refl, sym, ap, ◌∙◌, arith, inl, inr, ◌⊎◌}
use Rattle.std.proofs.lemmas.List.{length-take, length-drop, length-replicate, take-append-drop, drop-drop, same_lists, get_or-replicate, take_all, get_or-take, get_or-drop, length-take-le, get_or_default, get_or_past, replicate-append-replicate, drop-replicate, drop_all}
use Rattle.std.proofs.lemmas.List.Sums.{fails_before_first}
use Rattle.std.proofs.lemmas.List.Folds.{prefix_len-replicate}
use Rattle.std.proofs.lemmas.List.Quantifiers.{position-Some}
use Rattle.std.proofs.lemmas.Bool.{not-false, eqb-true, ltb-false, le-ltb, cases_lt}
use Rattle.std.proofs.lemmas.Nat.{le_bytes_4, le_bytes_8, from_le_bytes-to_le_bytes_4, from_le_bytes-to_le_bytes_8}
use Rattle.std.proofs.Math.Seq.{take-add}
use Rattle.std.specs.List.{position, position_or_len}
use Rattle.std.specs.Int.{from_le_bytes, w32, w64}
use Rattle.std.specs.Option.{option_or}
use Rattle.sfs_image.specs.Bytes.{AreBytes, part, zeros, number_from, u32_at, u64_at, u32_bytes, u64_bytes, is_nonzero, nonzero_in, fault_at}

-- zeros, as the library spells them
pub zeros-is : (n : ℕ) → zeros n ≡ replicate n 0
unfolding zeros
zeros-is n = refl

pub length-zeros : (n : ℕ) → length (zeros n) ≡ n
length-zeros n = rw (zeros-is n) (length-replicate n 0)

-- among zeros no byte is not zero
pub no_nonzero-zeros : (n : ℕ) → position is_nonzero (zeros n) ≡ None
no_nonzero-zeros n =
    let all : position_or_len is_nonzero (replicate n 0) ≡ n = prefix_len-replicate (λ byte. not (is_nonzero byte)) n 0 refl in
    let len : length {A = ℕ} (replicate n 0) ≡ n = length-replicate n 0 in
    let off : ltb (position_or_len is_nonzero (replicate n 0)) (length {A = ℕ} (replicate n 0)) ≡ false = rw (all, len) (le-ltb n n (omega arith)) in
    rw (zeros-is n, off) refl

-- the test of `position`, where it gives none
none_from_test : (b : Bool) (k : ℕ) → cond b (Some k) None ≡ None → b ≡ false
none_from_test true k h = absurd cc
none_from_test false k h = refl

-- where no byte is not zero, all are zeros
pub zeros_from_none : (bytes : List ℕ) → position is_nonzero bytes ≡ None → bytes ≡ zeros (length bytes)
zeros_from_none bytes none =
    let off : ltb (position_or_len is_nonzero bytes) (length bytes) ≡ false = none_from_test _ _ none in
    let past : length bytes ≤ position_or_len is_nonzero bytes = ltb-false _ _ off in
    rw (zeros-is (length bytes))
    (same_lists bytes (replicate (length bytes) 0) (sym (length-replicate (length bytes) 0))
    (λ k d h.
    let zero_there : is_nonzero (get_or bytes k d) ≡ false = fails_before_first is_nonzero bytes k d (omega arith) in
    let is_zero : get_or bytes k d ≡ 0 = eqb-true _ _ (not-false _ zero_there) in
    is_zero ∙ sym (get_or-replicate (length bytes) k 0 d h)))

-- the number in 4 bytes, as the library spells it
number_from-w32 : (bytes : List ℕ) → number_from 0 4 bytes ≡ from_le_bytes w32 bytes
number_from-w32 bytes = omega arith

number_from-w64 : (bytes : List ℕ) → number_from 0 8 bytes ≡ from_le_bytes w64 bytes
number_from-w64 bytes = omega arith

-- a number is read again from its bytes
pub number_from-u32_bytes : (x : ℕ) (rest : List ℕ) → x < 2 ^ 32 → number_from 0 4 (u32_bytes x ++ rest) ≡ x
number_from-u32_bytes x rest h = number_from-w32 (u32_bytes x) ∙ from_le_bytes-to_le_bytes_4 x h

pub number_from-u64_bytes : (x : ℕ) (rest : List ℕ) → x < 2 ^ 64 → number_from 0 8 (u64_bytes x ++ rest) ≡ x
number_from-u64_bytes x rest h = number_from-w64 (u64_bytes x) ∙ from_le_bytes-to_le_bytes_8 x h

-- 4 bytes are those of their number
pub u32_bytes-number_from : (bytes : List ℕ) → length bytes ≡ 4 → AreBytes bytes → u32_bytes (number_from 0 4 bytes) ≡ bytes
u32_bytes-number_from bytes len small = le_bytes_4 bytes (number_from 0 4 bytes) len small (number_from-w32 bytes)

pub u64_bytes-number_from : (bytes : List ℕ) → length bytes ≡ 8 → AreBytes bytes → u64_bytes (number_from 0 8 bytes) ≡ bytes
u64_bytes-number_from bytes len small = le_bytes_8 bytes (number_from 0 8 bytes) len small (number_from-w64 bytes)

-- a part of bytes is bytes
pub AreBytes-take : (n : ℕ) (bytes : List ℕ) → AreBytes bytes → AreBytes (take n bytes)
AreBytes-take zero bytes small k = omega arith
AreBytes-take (suc n) [] small k = omega arith
AreBytes-take (suc n) (b ∷ bytes) small zero = small 0
AreBytes-take (suc n) (b ∷ bytes) small (suc k) = AreBytes-take n bytes (λ j. small (suc j)) k

pub AreBytes-drop : (n : ℕ) (bytes : List ℕ) → AreBytes bytes → AreBytes (drop n bytes)
AreBytes-drop n bytes small k = rw (get_or-drop n bytes k 0) (small (n + k))

pub AreBytes-part : (at n : ℕ) (bytes : List ℕ) → AreBytes bytes → AreBytes (part at n bytes)
AreBytes-part at n bytes small = AreBytes-take n (drop at bytes) (AreBytes-drop at bytes small)

-- bytes are a part of them and what lies behind it
pub part-rest : (at n : ℕ) (bytes : List ℕ) → part at n bytes ++ drop (at + n) bytes ≡ drop at bytes
part-rest at n bytes = rw (sym (drop-drop n at bytes)) (take-append-drop n (drop at bytes))

pub length-part : (at n : ℕ) (bytes : List ℕ) → at + n ≤ length bytes → length (part at n bytes) ≡ n
length-part at n bytes h = length-take-le n (drop at bytes) (omega (arith, length-drop at bytes))

-- the first place that is some, where an earlier test gives none
pub option_or-None : {A : Type 0} (o p : Option A) → option_or o p ≡ None → (o ≡ None) × (p ≡ None)
option_or-None None p h = (refl, h)
option_or-None (Some x) p h = absurd cc

-- a test of which both sides are none
pub cond_None : {A : Type 0} (b : Bool) (o : Option A) → o ≡ None → cond b None o ≡ None
cond_None true o h = refl
cond_None false o h = h

pub zero_at : (n k : ℕ) → k < n → slice_index (zeros n) k ≡ 0
zero_at n k h = rw (zeros-is n) (get_or-replicate n k 0 0 h)

-- a test that names no place has not failed
pub false_from_fault : (wrong : Bool) (at : ℕ) → fault_at wrong at ≡ None → wrong ≡ false
false_from_fault wrong at h = none_from_test wrong at h

pub none_from_map : {A B : Type 0} (f : A → B) (o : Option A) → is_none (option_map f o) ≡ true → o ≡ None
none_from_map f None h = refl
none_from_map f (Some x) h = absurd cc

-- a part in which no byte is not zero is zeros
pub part_from_none : (at n : ℕ) (bytes : List ℕ) → at + n ≤ length bytes → nonzero_in at n bytes ≡ None → part at n bytes ≡ zeros n
part_from_none at n bytes within none =
    let clean : position is_nonzero (part at n bytes) ≡ None = none_from_map (λ k. at + k) _ (rw none refl) in
    zeros_from_none (part at n bytes) clean ∙ ap zeros (length-part at n bytes within)

pub zero_in_part : (at n : ℕ) (bytes : List ℕ) (k : ℕ) → k < n → part at n bytes ≡ zeros n → slice_index bytes (at + k) ≡ 0
zero_in_part at n bytes k h are =
    sym (get_or-take n (drop at bytes) k 0 h ∙ get_or-drop at bytes k 0) ∙ ap (λ (xs : List ℕ). slice_index xs k) are ∙ zero_at n k h

-- the bytes of the number at the front
pub number_of_front : (bytes : List ℕ) → 4 ≤ length bytes → AreBytes bytes → u32_bytes (number_from 0 4 bytes) ≡ take 4 bytes
number_of_front bytes long small =
    let read : (k : ℕ) → k < 4 → slice_index bytes k ≡ slice_index (take 4 bytes) k = λ k h. sym (get_or-take 4 bytes k 0 h) in
    let a = read 0 (omega arith) in
    let b = read 1 (omega arith) in
    let c = read 2 (omega arith) in
    let d = read 3 (omega arith) in
    let same : number_from 0 4 bytes ≡ number_from 0 4 (take 4 bytes) = omega arith in
    ap u32_bytes same ∙ u32_bytes-number_from (take 4 bytes) (length-take-le 4 bytes long) (AreBytes-take 4 bytes small)

-- where zeros stand from a place on no byte is not zero
pub nonzero_in-zeros : (at n : ℕ) (bytes : List ℕ) → drop at bytes ≡ zeros n → nonzero_in at n bytes ≡ None
nonzero_in-zeros at n bytes are =
    let whole : part at n bytes ≡ zeros n = ap (take n) are ∙ take_all n (zeros n) (omega (arith, length-zeros n)) in
    ap (λ (xs : List ℕ). option_map (λ k. at + k) (position is_nonzero xs)) whole ∙ ap (option_map (λ k. at + k)) (no_nonzero-zeros n)

pub None-option_map : {A B : Type 0} (f : A → B) (o : Option A) → option_map f o ≡ None → o ≡ None
None-option_map f None h = refl
None-option_map f (Some x) h = absurd cc

-- a number of 4 bytes fits in a u32
pub u32_at-lt : (at : ℕ) (bytes : List ℕ) → AreBytes bytes → u32_at at bytes < 2 ^ 32
u32_at-lt at bytes small =
    let s = AreBytes-part at 4 bytes small in
    let a = s 0 in let b = s 1 in let c = s 2 in let d = s 3 in
    omega arith

-- which of two places comes first
pub option_or-Some : {A : Type 0} (o p : Option A) (x : A) → option_or o p ≡ Some x → (o ≡ Some x) ⊎ (p ≡ Some x)
option_or-Some None p x h = inr h
option_or-Some (Some y) p x h = inl h

pub option_map-Some : {A B : Type 0} (f : A → B) (o : Option A) (y : B) → option_map f o ≡ Some y → (x : A) × (o ≡ Some x) × (y ≡ f x)
option_map-Some f None y h = absurd cc
option_map-Some f (Some x) y h = (x, refl, (let e : y ≡ f x = cc in e))

-- the place that a test names
pub fault_at-Some : (wrong : Bool) (at place : ℕ) → fault_at wrong at ≡ Some place → place ≡ at
fault_at-Some true at place h = cc
fault_at-Some false at place h = absurd cc

-- a byte that is not zero lies in the part that was looked at
pub nonzero_in-lt : (at n : ℕ) (bytes : List ℕ) (place : ℕ) → nonzero_in at n bytes ≡ Some place → (at ≤ place) × (place < at + n)
nonzero_in-lt at n bytes place h =
    let found = option_map-Some (λ k. at + k) (position is_nonzero (part at n bytes)) place h in
    let within = (position-Some is_nonzero (part at n bytes) found.0 0 found.1).0 in
    let top = length-take n (drop at bytes) in
    let is : place ≡ at + found.0 = found.2 in
    (omega arith, omega arith)

-- the part that a slice of a length from a place on has
pub part-between : (at n : ℕ) (bytes : List ℕ) → take (at + n - at) (drop at bytes) ≡ part at n bytes
part-between at n bytes = ap (λ (k : ℕ). take k (drop at bytes)) (omega arith)

-- a number of 4 bytes behind the front
pub front_u32 : (at : ℕ) (bytes front : List ℕ) → at + 4 ≤ length bytes → AreBytes bytes → front ≡ take at bytes
    → front ++ u32_bytes (u32_at at bytes) ≡ take (at + 4) bytes
front_u32 at bytes front within small is =
    ap (λ (xs : List ℕ). xs ++ u32_bytes (u32_at at bytes)) is
    ∙ ap (λ (xs : List ℕ). take at bytes ++ xs) (u32_bytes-number_from (part at 4 bytes) (length-part at 4 bytes within) (AreBytes-part at 4 bytes small))
    ∙ sym (take-add at 4 bytes)

-- a number of 8 bytes behind the front
pub front_u64 : (at : ℕ) (bytes front : List ℕ) → at + 8 ≤ length bytes → AreBytes bytes → front ≡ take at bytes
    → front ++ u64_bytes (u64_at at bytes) ≡ take (at + 8) bytes
front_u64 at bytes front within small is =
    ap (λ (xs : List ℕ). xs ++ u64_bytes (u64_at at bytes)) is
    ∙ ap (λ (xs : List ℕ). take at bytes ++ xs) (u64_bytes-number_from (part at 8 bytes) (length-part at 8 bytes within) (AreBytes-part at 8 bytes small))
    ∙ sym (take-add at 8 bytes)

-- zeros behind the front, up to the end
pub rest_from_none : (at n : ℕ) (bytes front : List ℕ) → at + n ≡ length bytes → nonzero_in at n bytes ≡ None → front ≡ take at bytes → front ++ zeros n ≡ bytes
rest_from_none at n bytes front len none is =
    let tail : part at n bytes ≡ zeros n = part_from_none at n bytes (omega arith) none in
    let rest : part at n bytes ≡ drop at bytes = take_all n (drop at bytes) (omega (arith, length-drop at bytes)) in
    ap (λ (xs : List ℕ). xs ++ zeros n) is ∙ ap (λ (xs : List ℕ). take at bytes ++ xs) (sym tail ∙ rest) ∙ take-append-drop at bytes

-- what lies within zeros is zeros
pub part_in_zeros : (at n a m : ℕ) (bytes : List ℕ) → at + n ≤ length bytes → part at n bytes ≡ zeros n → at ≤ a → a + m ≤ at + n → part a m bytes ≡ zeros m
part_in_zeros at n a m bytes within are low high =
    let len : length (part a m bytes) ≡ m = length-part a m bytes (omega arith) in
    rw (zeros-is m) (same_lists (part a m bytes) (replicate m 0) (len ∙ sym (length-replicate m 0))
    (λ k d h.
    let inside : k < m = omega arith in
    let place : at + (a - at + k) ≡ a + k = omega arith in
    let read : get_or (part a m bytes) k d ≡ slice_index bytes (a + k) =
    get_or_default (part a m bytes) k d 0 h ∙ get_or-take m (drop a bytes) k 0 inside ∙ get_or-drop a bytes k 0 in
    read ∙ ap (slice_index bytes) (sym place) ∙ zero_in_part at n bytes (a - at + k) (omega arith) are ∙ sym (get_or-replicate m k 0 d inside)))

-- a byte of zeros, or past them
pub zeros-byte : (n k : ℕ) → slice_index (zeros n) k ≡ 0
zeros-byte n k = elim (cases_lt k n) [ inl h ↦ zero_at n k h | inr past ↦ get_or_past (zeros n) k 0 (omega (arith, length-zeros n)) ]

-- the number in zeros
pub number_from-zeros : (n : ℕ) → number_from 0 4 (zeros n) ≡ 0
number_from-zeros n =
    let a = zeros-byte n 0 in let b = zeros-byte n 1 in let c = zeros-byte n 2 in let d = zeros-byte n 3 in
    omega arith

pub number_from-8_zeros : number_from 0 8 (zeros 8) ≡ 0
unfolding zeros
number_from-8_zeros = refl

pub zeros-append : (n m : ℕ) → zeros n ++ zeros m ≡ zeros (n + m)
unfolding zeros
zeros-append n m = replicate-append-replicate n m 0

-- numbers of bytes fit
pub number_from-lt : (bytes : List ℕ) → AreBytes bytes → number_from 0 4 bytes < 2 ^ 32
number_from-lt bytes small = let a = small 0 in let b = small 1 in let c = small 2 in let d = small 3 in omega arith

pub u64_at-lt : (at : ℕ) (bytes : List ℕ) → AreBytes bytes → u64_at at bytes < 2 ^ 64
u64_at-lt at bytes small =
    let s = AreBytes-part at 8 bytes small in
    let a = s 0 in let b = s 1 in let c = s 2 in let d = s 3 in let e = s 4 in let f = s 5 in let g = s 6 in let h = s 7 in
    omega arith

pub drop_zeros : (k n : ℕ) → drop k (zeros n) ≡ zeros (n - k)
unfolding zeros
drop_zeros k n = drop-replicate k n 0

-- nothing lies behind a part within it
pub drop-part : (at n : ℕ) (bytes : List ℕ) → drop n (part at n bytes) ≡ []
drop-part at n bytes = drop_all n (part at n bytes) (omega (arith, length-take n (drop at bytes)))
