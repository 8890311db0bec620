-- Laws of what has the greatest stamp.
use Rattle.std.proofs.Common.{◌≡◌, ◌≢◌, ℕ, zero, suc, ◌+◌, ◌<◌, ◌≤◌, ltb, List, [], ◌∷◌, ◌++◌, map, Option, None, Some, option_map, refl, sym, ap, ◌∙◌, arith, inl, inr, ◌⊎◌}
use Rattle.std.proofs.lemmas.Bool.{cases_Bool, cases_eq, cond-true, cond-false, lt-ltb, le-ltb, ltb-true, ltb-false}
use Rattle.std.specs.List.{range_with_len, flat_map}
use Rattle.sfs_image.specs.Settled.{Stamped, newer, newest}

-- the same stamp over another value
abbrev pub over : {A B : Type 0} → (A → B) → Stamped A → Stamped B
over f one = record { stamp = one.stamp; value = f one.value }

-- what is newer is so over other values
newer_over : {A B : Type 0} (f : A → B) (one other : Option (Stamped A))
    → newer (option_map (over f) one) (option_map (over f) other) ≡ option_map (over f) (newer one other)
newer_over f None other = refl
newer_over f (Some one) None = refl
newer_over f (Some one) (Some other) =
    elim (cases_Bool (ltb one.stamp other.stamp)) [
      | inl later ↦ cond-true (ltb one.stamp other.stamp) _ _ later
          ∙ sym (ap (option_map (over f)) (cond-true (ltb one.stamp other.stamp) (Some other) (Some one) later))
      | inr earlier ↦ cond-false (ltb one.stamp other.stamp) _ _ earlier
          ∙ sym (ap (option_map (over f)) (cond-false (ltb one.stamp other.stamp) (Some other) (Some one) earlier))
    ]

-- the newest of values that a function makes is made of the newest
pub newest_over : {A B X : Type 0} (f : A → B) (g : X → Option (Stamped A)) (xs : List X)
    → newest (map (λ x. option_map (over f) (g x)) xs) ≡ option_map (over f) (newest (map g xs))
newest_over f g [] = refl
newest_over f g (x ∷ xs) = ap (newer (option_map (over f) (g x))) (newest_over f g xs) ∙ newer_over f (g x) (newest (map g xs))

-- at one number there is nothing, or one thing that shows this
pub data IsOnce {X A : Type 0} (shows : X → Option (Stamped A)) : List X → Option (Stamped A) → Type 0 where
  nothing : IsOnce shows [] None
  once : (x : X) → IsOnce shows (x ∷ []) (shows x)

-- the newest of what stands at numbers, some of which have nothing
pub newest_of_pieces : {X A : Type 0} (shows : X → Option (Stamped A)) (at : ℕ → List X) (shown : ℕ → Option (Stamped A)) (a n : ℕ) →
    ((k : ℕ) → a ≤ k → k < a + n → IsOnce shows (at k) (shown k))
    → newest (map shows (flat_map at (range_with_len a n))) ≡ newest (map shown (range_with_len a n))
newest_of_pieces {X = X} {A = A} shows at shown a zero are = refl
newest_of_pieces {X = X} {A = A} shows at shown a (suc n) are =
    go (at a) (shown a) (are a (omega arith) (omega arith)) (newest_of_pieces shows at shown (a + 1) n (λ k low high. are k (omega arith) (omega arith)))
  where
    go : (here : List X) (one : Option (Stamped A)) → IsOnce shows here one →
        newest (map shows (flat_map at (range_with_len (a + 1) n))) ≡ newest (map shown (range_with_len (a + 1) n)) →
        newest (map shows (here ++ flat_map at (range_with_len (a + 1) n))) ≡ newer one (newest (map shown (range_with_len (a + 1) n)))
    go here one nothing rest = rest
    go here one (once x) rest = ap (newer (shows x)) rest

-- one of two is the newer one
newer_from : {A : Type 0} (one other : Option (Stamped A)) (s : Stamped A) → newer one other ≡ Some s → (one ≡ Some s) ⊎ (other ≡ Some s)
newer_from None other s is = inr is
newer_from (Some one) None s is = inl is
newer_from (Some one) (Some other) s is =
    elim (cases_Bool (ltb one.stamp other.stamp)) [
      | inl later ↦ inr (sym (cond-true (ltb one.stamp other.stamp) (Some other) (Some one) later) ∙ is)
      | inr earlier ↦ inl (sym (cond-false (ltb one.stamp other.stamp) (Some other) (Some one) earlier) ∙ is)
    ]

-- nothing is newer only where both are nothing
newer_none : {A : Type 0} (one other : Option (Stamped A)) → newer one other ≡ None → (one ≡ None) × (other ≡ None)
newer_none None other is = (refl, is)
newer_none (Some one) None is = absurd cc
newer_none (Some one) (Some other) is =
    absurd (elim (cases_Bool (ltb one.stamp other.stamp)) [
      | inl later ↦ (let e : Some other ≡ None = sym (cond-true (ltb one.stamp other.stamp) (Some other) (Some one) later) ∙ is in cc)
      | inr earlier ↦ (let e : Some one ≡ None = sym (cond-false (ltb one.stamp other.stamp) (Some other) (Some one) earlier) ∙ is in cc)
    ])

-- what is newest stands somewhere
pub newest_from : {A : Type 0} (at : ℕ → Option (Stamped A)) (a n : ℕ) (s : Stamped A) → newest (map at (range_with_len a n)) ≡ Some s →
    (k : ℕ) × (a ≤ k) × (k < a + n) × (at k ≡ Some s)
newest_from at a zero s is = absurd cc
newest_from at a (suc n) s is = go (newer_from (at a) (newest (map at (range_with_len (a + 1) n))) s is) (newest_from at (a + 1) n s)
  where
    go : (at a ≡ Some s) ⊎ (newest (map at (range_with_len (a + 1) n)) ≡ Some s) →
        (newest (map at (range_with_len (a + 1) n)) ≡ Some s → (k : ℕ) × (a + 1 ≤ k) × (k < a + 1 + n) × (at k ≡ Some s)) →
        (k : ℕ) × (a ≤ k) × (k < a + suc n) × (at k ≡ Some s)
    go (inl here) found = (a, omega arith, omega arith, here)
    go (inr below) found = let one = found below in (one.0, (let h = one.1 in omega arith), (let h = one.2 in omega arith), one.3)

-- nothing is newest exactly where nothing stands
pub newest_none : {A : Type 0} (at : ℕ → Option (Stamped A)) (a n : ℕ) → newest (map at (range_with_len a n)) ≡ None → (k : ℕ) → a ≤ k → k < a + n → at k ≡ None
newest_none at a zero is k low high = absurd (omega arith)
newest_none at a (suc n) is k low high =
    let both = newer_none (at a) (newest (map at (range_with_len (a + 1) n))) is in
    elim (cases_eq k a) [ inl here ↦ ap at here ∙ both.0 | inr other ↦ newest_none at (a + 1) n both.1 k (omega arith) (omega arith) ]

pub none_newest : {A : Type 0} (at : ℕ → Option (Stamped A)) (a n : ℕ) → ((k : ℕ) → a ≤ k → k < a + n → at k ≡ None)
    → newest (map at (range_with_len a n)) ≡ None
none_newest {A = A} at a zero are = refl
none_newest {A = A} at a (suc n) are =
    ap (λ (o : Option (Stamped A)). newer o (newest (map at (range_with_len (a + 1) n)))) (are a (omega arith) (omega arith))
    ∙ none_newest at (a + 1) n (λ k low high. are k (omega arith) (omega arith))

-- where the same stands at each number the same is newest
pub newest_same : {A : Type 0} (at other : ℕ → Option (Stamped A)) (a n : ℕ) → ((k : ℕ) → a ≤ k → k < a + n → at k ≡ other k)
    → newest (map at (range_with_len a n)) ≡ newest (map other (range_with_len a n))
newest_same at other a zero same = refl
newest_same at other a (suc n) same =
    let here = same a (omega arith) (omega arith) in
    let rest = newest_same at other (a + 1) n (λ k low high. same k (omega arith) (omega arith)) in
    λ i. newer (here i) (rest i)

-- what has a greater stamp than each other one of these
pub record IsGreatest {A : Type 0} (at : ℕ → Option (Stamped A)) (a n k : ℕ) (s : Stamped A) : Type 0 where
  pub low : a ≤ k
  pub high : k < a + n
  pub here : at k ≡ Some s
  pub others : (j : ℕ) (other : Stamped A) → a ≤ j → j < a + n → j ≢ k → at j ≡ Some other → other.stamp < s.stamp

-- it is newer than anything that has a lesser stamp
newer_first : {A : Type 0} (s : Stamped A) (rest : Option (Stamped A)) → ((other : Stamped A) → rest ≡ Some other → other.stamp < s.stamp)
    → newer (Some s) rest ≡ Some s
newer_first s None lesser = refl
newer_first s (Some other) lesser = let h = lesser other refl in cond-false (ltb s.stamp other.stamp) _ _ (le-ltb s.stamp other.stamp (omega arith))

newer_last : {A : Type 0} (s : Stamped A) (first : Option (Stamped A)) → ((other : Stamped A) → first ≡ Some other → other.stamp < s.stamp)
    → newer first (Some s) ≡ Some s
newer_last s None lesser = refl
newer_last s (Some other) lesser = let h = lesser other refl in cond-true (ltb other.stamp s.stamp) _ _ (lt-ltb other.stamp s.stamp h)

-- what has the greatest stamp is newest
pub newest_greatest : {A : Type 0} (at : ℕ → Option (Stamped A)) (a n k : ℕ) (s : Stamped A) → IsGreatest at a n k s
    → newest (map at (range_with_len a n)) ≡ Some s
newest_greatest {A = A} at a zero k s is = absurd (let l = is.low in let h = is.high in omega arith)
newest_greatest {A = A} at a (suc n) k s is =
    elim (cases_eq k a) [
      | inl first ↦ ap (λ (o : Option (Stamped A)). newer o (newest (map at (range_with_len (a + 1) n)))) (ap at (sym first) ∙ is.here)
          ∙ newer_first s (newest (map at (range_with_len (a + 1) n)))
          (λ other rest.
          let one = newest_from at (a + 1) n other rest in let l = one.1 in let h = one.2 in
          is.others one.0 other (omega arith) (omega arith) (omega arith) one.3)
      | inr later ↦ ap (newer (at a)) (newest_greatest at (a + 1) n k s (behind later))
          ∙ newer_last s (at a) (λ other here. is.others a other (omega arith) (omega arith) (λ same. later (sym same)) here)
    ]
  where
    behind : (k ≡ a → ⊥) → IsGreatest at (a + 1) n k s
    behind later = record {
      low = let l = is.low in omega arith;
      high = let h = is.high in omega arith;
      here = is.here;
      others = λ j other low high apart there. is.others j other (omega arith) (omega arith) apart there;
    }

-- the same thing has the same stamp
stamp_same : {A : Type 0} (u s : Stamped A) → Some u ≡ Some s → u.stamp ≡ s.stamp
stamp_same {A = A} u s is = let same : u ≡ s = cc in ap (λ (v : Stamped A). v.stamp) same

-- what is newer of two has no lesser stamp than each
newer_max : {A : Type 0} (one other : Option (Stamped A)) (s : Stamped A) → newer one other ≡ Some s →
    ((u : Stamped A) → one ≡ Some u → u.stamp ≤ s.stamp) × ((u : Stamped A) → other ≡ Some u → u.stamp ≤ s.stamp)
newer_max None other s is = ((λ u none. absurd cc), (λ u there. let e = stamp_same u s (sym there ∙ is) in omega arith))
newer_max (Some one) None s is = ((λ u there. let e = stamp_same u s (sym there ∙ is) in omega arith), (λ u none. absurd cc))
newer_max (Some one) (Some other) s is =
    elim (cases_Bool (ltb one.stamp other.stamp)) [
      | inl later ↦ (let top = stamp_same other s (sym (cond-true (ltb one.stamp other.stamp) (Some other) (Some one) later) ∙ is) in
          let order = ltb-true one.stamp other.stamp later in
          ((λ u there. let e = stamp_same one u there in omega arith), (λ u there. let e = stamp_same other u there in omega arith)))
      | inr earlier ↦ (let top = stamp_same one s (sym (cond-false (ltb one.stamp other.stamp) (Some other) (Some one) earlier) ∙ is) in
          let order = ltb-false one.stamp other.stamp earlier in
          ((λ u there. let e = stamp_same one u there in omega arith), (λ u there. let e = stamp_same other u there in omega arith)))
    ]

-- what is newest has no lesser stamp than any of these
pub newest_max : {A : Type 0} (at : ℕ → Option (Stamped A)) (a n : ℕ) (s : Stamped A) → newest (map at (range_with_len a n)) ≡ Some s →
    (k : ℕ) (u : Stamped A) → a ≤ k → k < a + n → at k ≡ Some u → u.stamp ≤ s.stamp
newest_max at a zero s is k u low high here = absurd (omega arith)
newest_max {A = A} at a (suc n) s is k u low high here =
    let both = newer_max (at a) (newest (map at (range_with_len (a + 1) n))) s is in
    elim (cases_eq k a) [
      | inl first ↦ both.0 u (ap at (sym first) ∙ here)
      | inr later ↦ go both.1 (newest (map at (range_with_len (a + 1) n))) refl
          (λ w is_w. newest_max at (a + 1) n w is_w k u (omega arith) (omega arith) here)
          (λ none. newest_none at (a + 1) n none k (omega arith) (omega arith))
    ]
  where
    go : ((w : Stamped A) → newest (map at (range_with_len (a + 1) n)) ≡ Some w → w.stamp ≤ s.stamp) → (o : Option (Stamped A)) →
        newest (map at (range_with_len (a + 1) n)) ≡ o →
        ((w : Stamped A) → newest (map at (range_with_len (a + 1) n)) ≡ Some w → u.stamp ≤ w.stamp) →
        (newest (map at (range_with_len (a + 1) n)) ≡ None → at k ≡ None) → u.stamp ≤ s.stamp
    go rest None e below none = absurd (let gone : at k ≡ None = none e in cc)
    go rest (Some w) e below none = let a = rest w e in let b = below w e in omega arith
