-- Laws of pieces of one length, one behind another.
use Rattle.std.proofs.Common.{◌≡◌, ℕ, zero, suc, ◌+◌, ◌*◌, ◌^◌, ◌<◌, ◌≤◌, List, [], ◌∷◌, ◌++◌, take, drop, map, length, get_or, slice_index, Option, None, Some, add-one, refl, sym, ap, ◌∙◌, subst, arith, inl, inr}
use Rattle.std.proofs.lemmas.List.{length-drop, length-append, take_at, drop_at, drop-drop, append_assoc, same_lists, append-nil, get_or_default, get_or_append_left, get_or-append-add, take_all}
use Rattle.std.proofs.lemmas.List.FromFn.{length-map-range_with_len, get_or-map-range_with_len, map-range_with_len_more}
use Rattle.std.proofs.lemmas.List.Concat.{flat_map-append}
use Rattle.std.proofs.Math.Seq.{take-add}
use Rattle.std.proofs.lemmas.Bool.{cases_lt}
use Rattle.std.specs.List.{range_with_len, flat_map}
use Rattle.std.specs.Option.{option_or}
use Rattle.sfs_image.specs.Bytes.{AreBytes, part, number_from, u32s_at, u32_bytes, u32s_bytes, first_of}
use Rattle.sfs_image.proofs.BytesLaws.{option_or-None, number_from-u32_bytes, AreBytes-part, AreBytes-drop, length-part, number_of_front}

-- in a place of one of pieces that have m bytes each, it stands, and the rest behind it
pub drop-flat_map : {X : Type 0} (f : X → List ℕ) (m : ℕ) (d : X) (xs : List X) (k : ℕ) → ((j : ℕ) → j < length xs → length (f (get_or xs j d)) ≡ m)
    → k < length xs →
    drop (m * k) (flat_map f xs) ≡ f (get_or xs k d) ++ drop (m * suc k) (flat_map f xs)
drop-flat_map f m d [] k lens h = absurd (omega arith)
drop-flat_map f m d (x ∷ xs) zero lens h =
    let one : m * suc zero ≡ m = omega arith in
    let none : m * zero ≡ zero = omega arith in
    rw (none, one, drop_at (f x) (flat_map f xs) m (lens 0 (omega arith))) refl
drop-flat_map f m d (x ∷ xs) (suc k) lens h =
    let ih = drop-flat_map f m d xs k (λ j l. lens (suc j) (omega arith)) (omega arith) in
    let behind : drop m (f x ++ flat_map f xs) ≡ flat_map f xs = drop_at (f x) (flat_map f xs) m (lens 0 (omega arith)) in
    let here : m * suc k ≡ m + m * k = omega arith in
    let next : m * suc (suc k) ≡ m + m * suc k = omega arith in
    rw (here, next, sym (drop-drop (m * k) m (f x ++ flat_map f xs)), sym (drop-drop (m * suc k) m (f x ++ flat_map f xs)), behind) ih

-- the pieces of a list, cut out one by one, are those of the list
pub flat_map-parts : {X : Type 0} (f : X → List ℕ) (g : ℕ → X) (m : ℕ) (bytes : List ℕ) (n : ℕ) → ((k : ℕ) → k < n → f (g k) ≡ part (m * k) m bytes) →
    flat_map f (map g (range_with_len 0 n)) ≡ take (m * n) bytes
flat_map-parts f g m bytes zero same = let none : m * zero ≡ zero = omega arith in rw none refl
flat_map-parts f g m bytes (suc n) same =
    let ih = flat_map-parts f g m bytes n (λ k h. same k (omega arith)) in
    let here = same n (omega arith) in
    let more : map g (range_with_len 0 (n + 1)) ≡ map g (range_with_len 0 n) ++ g n ∷ [] = map-range_with_len_more g 0 n n (omega arith) in
    let next : m * suc n ≡ m * n + m = omega arith in
    ap (flat_map f) (ap (λ (c : ℕ). map g (range_with_len 0 c)) (let e : suc n ≡ n + 1 = omega arith in e) ∙ more)
    ∙ flat_map-append f (map g (range_with_len 0 n)) (g n ∷ [])
    ∙ ap (λ (xs : List ℕ). xs ++ (f (g n) ++ [])) ih
    ∙ ap (λ (xs : List ℕ). take (m * n) bytes ++ xs) (append-nil (f (g n)) ∙ here)
    ∙ sym (ap (λ (c : ℕ). take c bytes) next ∙ take-add (m * n) m bytes)

-- where the first of n is none each is none, and the other way round
pub first_of-None : {A : Type 0} (n : ℕ) (f : ℕ → Option A) → first_of n f ≡ None → (k : ℕ) → k < n → f k ≡ None
first_of-None zero f none k h = absurd (omega arith)
first_of-None (suc n) f none k h =
    let both = option_or-None (first_of n f) (f n) none in
    elim (cases_lt k n) [ inl below ↦ first_of-None n f both.0 k below | inr last ↦ (let e : k ≡ n = omega arith in ap f e ∙ both.1) ]

pub first_of-from : {A : Type 0} (n : ℕ) (f : ℕ → Option A) → ((k : ℕ) → k < n → f k ≡ None) → first_of n f ≡ None
first_of-from {A = A} zero f none = refl
first_of-from {A = A} (suc n) f none =
    ap (λ (o : Option A). option_or o (f n)) (first_of-from n f (λ k h. none k (omega arith))) ∙ none n (omega arith)

-- one more that is none
pub first_of-more : (n : ℕ) (f : ℕ → Option ℕ) → first_of n f ≡ None → f n ≡ None → first_of (n + 1) f ≡ None
first_of-more n f none here = rw add-one (ap (λ (o : Option ℕ). option_or o (f n)) none ∙ here)

-- the first of n that is some, where it is the k-th
pub first_of-at : (n k : ℕ) (f : ℕ → Option ℕ) (at : ℕ) → first_of k f ≡ None → f k ≡ Some at → k < n → first_of n f ≡ Some at
first_of-at zero k f at none here h = absurd (omega arith)
first_of-at (suc n) k f at none here h =
    elim (cases_lt k n) [
      | inl below ↦ ap (λ (o : Option ℕ). option_or o (f n)) (first_of-at n k f at none here below)
      | inr last ↦ (let e : n ≡ k = omega arith in rw e (ap (λ (o : Option ℕ). option_or o (f k)) none ∙ here))
    ]

-- numbers in a list of bytes
pub length-u32s_at : (at n : ℕ) (bytes : List ℕ) → length (u32s_at at n bytes) ≡ n
unfolding u32s_at
length-u32s_at at n bytes = length-map-range_with_len _ 0 n

pub get_or-u32s_at : (at n : ℕ) (bytes : List ℕ) (k d : ℕ) → k < n → get_or (u32s_at at n bytes) k d ≡ number_from 0 4 (drop (4 * k) (part at (4 * n) bytes))
unfolding u32s_at
get_or-u32s_at at n bytes k d h = get_or-map-range_with_len _ 0 n k k d h (omega arith)

-- numbers are read again from their bytes
pub u32s_at-u32s_bytes : (at : ℕ) (xs bytes : List ℕ) (n : ℕ) → length xs ≡ n → part at (4 * n) bytes ≡ u32s_bytes xs → ((k : ℕ) → get_or xs k 0 < 2 ^ 32)
    → u32s_at at n bytes ≡ xs
u32s_at-u32s_bytes at xs bytes n len is small =
    same_lists (u32s_at at n bytes) xs (length-u32s_at at n bytes ∙ sym len)
    (λ k d h.
    let within : k < n = subst (λ (l : ℕ). k < l) (length-u32s_at at n bytes) h in
    get_or-u32s_at at n bytes k d within
    ∙ ap (λ (p : List ℕ). number_from 0 4 (drop (4 * k) p)) is
    ∙ ap (number_from 0 4) (drop-flat_map u32_bytes 4 0 xs k (λ j l. refl) (omega arith))
    ∙ number_from-u32_bytes (get_or xs k 0) (drop (4 * suc k) (flat_map u32_bytes xs)) (small k)
    ∙ get_or_default xs k 0 d (omega arith))

-- bytes are those of the numbers in them
pub u32s_bytes-u32s_at : (at n : ℕ) (bytes : List ℕ) → at + 4 * n ≤ length bytes → AreBytes bytes → u32s_bytes (u32s_at at n bytes) ≡ part at (4 * n) bytes
unfolding u32s_at
u32s_bytes-u32s_at at n bytes within small =
    let p = part at (4 * n) bytes in
    let len : length p ≡ 4 * n = length-part at (4 * n) bytes within in
    flat_map-parts u32_bytes (λ k. number_from 0 4 (drop (4 * k) p)) 4 p n
    (λ k h. number_of_front (drop (4 * k) p) (omega (arith, length-drop (4 * k) p)) (AreBytes-drop (4 * k) p (AreBytes-part at (4 * n) bytes small)))
    ∙ take_all (4 * n) p (omega arith)

-- a piece of pieces that have m bytes each
pub part-flat_map : {X : Type 0} (f : X → List ℕ) (m : ℕ) (d : X) (xs : List X) (tail : List ℕ) (k : ℕ)
    → ((j : ℕ) → j < length xs → length (f (get_or xs j d)) ≡ m) → k < length xs →
    part (m * k) m (flat_map f xs ++ tail) ≡ f (get_or xs k d)
part-flat_map f m d [] tail k lens h = absurd (omega arith)
part-flat_map f m d (x ∷ xs) tail zero lens h =
    let none : m * zero ≡ zero = omega arith in
    rw (none, append_assoc (f x) (flat_map f xs) tail) (take_at (f x) (flat_map f xs ++ tail) m (lens 0 (omega arith)))
part-flat_map f m d (x ∷ xs) tail (suc k) lens h =
    let ih = part-flat_map f m d xs tail k (λ j l. lens (suc j) (omega arith)) (omega arith) in
    let behind : drop m (f x ++ (flat_map f xs ++ tail)) ≡ flat_map f xs ++ tail = drop_at (f x) (flat_map f xs ++ tail) m (lens 0 (omega arith)) in
    let here : m * suc k ≡ m + m * k = omega arith in
    rw (here, append_assoc (f x) (flat_map f xs) tail, sym (drop-drop (m * k) m (f x ++ (flat_map f xs ++ tail))), behind) ih

-- an element of one of pieces that have m elements each
pub get_or-pieces : {X A : Type 0} (f : X → List A) (m : ℕ) (d : X) (e : A) (xs : List X) → ((j : ℕ) → j < length xs → length (f (get_or xs j d)) ≡ m) →
    (n k : ℕ) → n < length xs → k < m → get_or (flat_map f xs) (m * n + k) e ≡ get_or (f (get_or xs n d)) k e
get_or-pieces f m d e [] lens n k h below = absurd (omega arith)
get_or-pieces f m d e (x ∷ xs) lens zero k h below =
    let first : m * zero + k ≡ k = omega arith in
    ap (λ (i : ℕ). get_or (f x ++ flat_map f xs) i e) first ∙ get_or_append_left (f x) (flat_map f xs) e k (let long = lens 0 (omega arith) in omega arith)
get_or-pieces f m d e (x ∷ xs) lens (suc n) k h below =
    let long = lens 0 (omega arith) in
    let later : m * suc n + k ≡ length (f x) + (m * n + k) = omega arith in
    ap (λ (i : ℕ). get_or (f x ++ flat_map f xs) i e) later
    ∙ get_or-append-add (f x) (flat_map f xs) (m * n + k) e
    ∙ get_or-pieces f m d e xs (λ j l. lens (suc j) (omega arith)) n k (omega arith) below

-- the first of n that is some, and those before it
pub first_of-Some : {A : Type 0} (n : ℕ) (f : ℕ → Option A) (x : A) → first_of n f ≡ Some x
    → (k : ℕ) × (k < n) × (f k ≡ Some x) × ((j : ℕ) → j < k → f j ≡ None)
first_of-Some zero f x is = absurd cc
first_of-Some {A = A} (suc n) f x is = go (first_of n f) refl (first_of-Some n f x)
  where
    go : (o : Option A) → first_of n f ≡ o → (first_of n f ≡ Some x → (k : ℕ) × (k < n) × (f k ≡ Some x) × ((j : ℕ) → j < k → f j ≡ None)) →
        (k : ℕ) × (k < suc n) × (f k ≡ Some x) × ((j : ℕ) → j < k → f j ≡ None)
    go None none found = (n, omega arith, sym (ap (λ (o : Option A). option_or o (f n)) none) ∙ is, first_of-None n f none)
    go (Some y) some found =
        let one = found (some ∙ sym (ap (λ (o : Option A). option_or o (f n)) some) ∙ is) in
        (one.0, (let h = one.1 in omega arith), one.2, one.3)

-- how long pieces are that have m elements each
pub length-pieces : {X A : Type 0} (f : X → List A) (m : ℕ) (d : X) (xs : List X) → ((j : ℕ) → j < length xs → length (f (get_or xs j d)) ≡ m)
    → length (flat_map f xs) ≡ m * length xs
length-pieces f m d [] lens = omega arith
length-pieces f m d (x ∷ xs) lens =
    let ih = length-pieces f m d xs (λ j l. lens (suc j) (omega arith)) in
    let one = lens 0 (omega arith) in
    omega (arith, length-append (f x) (flat_map f xs))

-- numbers that were read one by one are those that stand there
pub u32s_read : (at n : ℕ) (bytes xs : List ℕ) → length xs ≡ n
    → ((k : ℕ) → k < length xs → slice_index xs k ≡ number_from 0 4 (drop (4 * k) (part at (4 * n) bytes))) → xs ≡ u32s_at at n bytes
u32s_read at n bytes xs len read =
    same_lists xs (u32s_at at n bytes) (len ∙ sym (length-u32s_at at n bytes))
    (λ k d h. get_or_default xs k d 0 h ∙ read k h ∙ sym (get_or-u32s_at at n bytes k d (omega arith)))
