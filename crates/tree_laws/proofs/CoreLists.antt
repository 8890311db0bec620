-- The lists of the cores of a history make it again.
use Rattle.std.proofs.Common.{◌≡◌, ◌≢◌, ℕ, zero, suc, ◌+◌, ◌<◌, ◌≤◌, ◌^◌, Bool, true, false, cond, ◌&&◌, ◌||◌, List, [], ◌∷◌, ◌++◌, length, Option, Some, None, IsSome, Vec, All, filter, refl, sym, ap, ap₂, subst, ◌∙◌, arith, count_by, nat_eq, slice_get, ltb}
use borrow.Author.Tests.{eqb-true, eqb-false, ltb-true, ltb-false}
use Rattle.std.proofs.lemmas.List.Sums.{sum_by-append}
use Rattle.std.proofs.lemmas.Option.{slice_get_past, slice_get_within}
use Rattle.std.specs.declared.alloc.Global.{Global}
use Rattle.tree_laws.specs.declared.history.Entry.{Entry}
use Rattle.tree_laws.specs.Merged.{entries_in, has_stamp, entry_with, by_stamps, EachOnce, is_core, AreCoresOf}
use Rattle.tree_laws.specs.Laws.{CoresMakeTheHistory}
use Rattle.tree_laws.proofs.Joined.{count-cons}
use Rattle.tree_laws.proofs.ByStamps.{found_is, one_found, length-by_stamps, get-by_stamps}
use Rattle.sfs_base.proofs.BasicNumbers.{from_zero_plus, less_suc, less_suc_plus, plus_zero, zero_plus, plus_suc, less_zero_plus}

-- what holds of each entry of a list
abbrev Each : (Entry → Type 0) → List Entry → Type 0
Each P [] = Unit {0}
Each P (x ∷ xs) = P x × Each P xs

module _ (P : Entry → Type 0) where
  each_from_get : (xs : List Entry) → ((i : ℕ) (x : Entry) → slice_get xs i ≡ Some x → P x) → Each P xs
  each_from_get [] h = tt
  each_from_get (x ∷ xs) h = (h 0 x refl, each_from_get xs (λ i. h (suc i)))

  each_append : (xs ys : List Entry) → Each P xs → Each P ys → Each P (xs ++ ys)
  each_append [] ys a b = b
  each_append (x ∷ xs) ys a b = (a.0, each_append xs ys a.1 b)

  each_filter : (test : Entry → Bool) (xs : List Entry) → Each P xs → Each P (filter test xs)
  each_filter test [] a = tt
  each_filter test (x ∷ xs) a =
      elim (test x) as (λ b. Each P (cond b (x ∷ filter test xs) (filter test xs))) [ true ↦ (a.0, each_filter test xs a.1) | false ↦ each_filter test xs a.1 ]

  each_all : (xs : List Entry) → Each P xs → All P xs
  each_all [] a k d lt = absurd (omega arith)
  each_all (x ∷ xs) a zero d lt = a.0
  each_all (x ∷ xs) a (suc k) d lt = each_all xs a.1 k d (omega arith)

-- lists that have the same at each place are equal
same_list : (xs ys : List Entry) → ((k : ℕ) → slice_get xs k ≡ slice_get ys k) → xs ≡ ys
same_list [] [] h = refl
same_list [] (y ∷ ys) h = absurd (none_some (h 0))
  where
    none_some : None ≡ Some y → ⊥
    none_some e = cc
same_list (x ∷ xs) [] h = absurd (none_some (h 0))
  where
    none_some : Some x ≡ None → ⊥
    none_some e = cc
same_list (x ∷ xs) (y ∷ ys) h = ap₂ (λ (a : Entry) (l : List Entry). a ∷ l) (some_is (h 0)) (same_list xs ys (λ k. h (suc k)))
  where
    some_is : Some x ≡ Some y → x ≡ y
    some_is e = cc

count-filter : (p q : Entry → Bool) (xs : List Entry) → count_by p (filter q xs) ≡ count_by (λ x. q x && p x) xs
count-filter p q [] = refl
count-filter p q (x ∷ xs) =
    elim (q x) as (λ b. count_by p (cond b (x ∷ filter q xs) (filter q xs)) ≡ cond (b && p x) 1 0 + count_by (λ x. q x && p x) xs) [
      | true ↦ count-cons p x (filter q xs) ∙ ap (λ n. cond (p x) 1 0 + n) (count-filter p q xs)
      | false ↦ count-filter p q xs ∙ from_zero_plus _
    ]
    ∙ sym (count-cons (λ x. q x && p x) x xs)

-- counts by tests that add up at each entry add up
count_split : (a b c : Entry → Bool) → ((x : Entry) → cond (a x) 1 0 + cond (b x) 1 0 ≡ cond (c x) 1 0) → (xs : List Entry)
    → count_by a xs + count_by b xs ≡ count_by c xs
count_split a b c h [] = refl
count_split a b c h (x ∷ xs) =
    added _ _ _ _ _ _ _ _ _ (count-cons a x xs) (count-cons b x xs) (count-cons c x xs) (h x) (count_split a b c h xs)
  where
    added : (a b c p q r l m n : ℕ) → a ≡ p + l → b ≡ q + m → c ≡ r + n → p + q ≡ r → l + m ≡ n → a + b ≡ c
    added a b c p q r l m n e f g h i = omega arith

-- counts by tests that agree on each entry are one
count_same : (a b : Entry → Bool) (xs : List Entry) → Each (λ x. a x ≡ b x) xs → count_by a xs ≡ count_by b xs
count_same a b [] h = refl
count_same a b (x ∷ xs) h = count-cons a x xs ∙ ap₂ (λ t n. cond t 1 0 + n) h.0 (count_same a b xs h.1) ∙ sym (count-cons b x xs)

count_all : (xs : List Entry) → count_by (λ _. true) xs ≡ length xs
count_all [] = refl
count_all (x ∷ xs) = count-cons (λ _. true) x xs ∙ one_more (count_all xs)
  where
    one_more : {a b : ℕ} → a ≡ b → 1 + a ≡ suc b
    one_more e = omega arith

-- whether a number is one of so many from another on
abbrev among : ℕ → ℕ → ℕ → Bool
among first zero n = false
among first (suc count) n = nat_eq n first || among (suc first) count n

not_among : (first count n : ℕ) → n < first → among first count n ≡ false
not_among first zero n lt = refl
not_among first (suc count) n lt =
    elim (nat_eq n first) as (λ b. nat_eq n first ≡ b → (b || among (suc first) count n) ≡ false) [
      | true ↦ λ t. absurd (not_both (eqb-true _ _ t) lt)
      | false ↦ λ t. not_among (suc first) count n (less_suc lt)
    ] refl
  where
    not_both : {a b : ℕ} → a ≡ b → a < b → ⊥
    not_both e lt = omega arith

is_among : (first count n : ℕ) → first ≤ n → n < first + count → among first count n ≡ true
is_among first zero n le lt = absurd (omega arith)
is_among first (suc count) n le lt =
    elim (nat_eq n first) as (λ b. nat_eq n first ≡ b → (b || among (suc first) count n) ≡ true) [
      | true ↦ λ t. refl
      | false ↦ λ t. is_among (suc first) count n (past (eqb-false _ _ t) le) (less_suc_plus first count n lt)
    ] refl
  where
    past : {a b : ℕ} → b ≢ a → a ≤ b → suc a ≤ b
    past other le = omega arith

-- an entry is counted for its own list and for those behind it, and for one of them alone
one_list : (core count : ℕ) (p : Entry → Bool) (x : Entry)
    → cond (is_core core x && p x) 1 0 + cond (among (suc core) count x.core.0 && p x) 1 0 ≡ cond (among core (suc count) x.core.0 && p x) 1 0
one_list core count p x =
    elim (nat_eq x.core.0 core) as (λ b. nat_eq x.core.0 core ≡ b
    → cond (b && p x) 1 0 + cond (among (suc core) count x.core.0 && p x) 1 0 ≡ cond ((b || among (suc core) count x.core.0) && p x) 1 0) [
      | true ↦ λ t.
          ap (λ b. cond (p x) 1 0 + cond (b && p x) 1 0) (not_among (suc core) count x.core.0 (less (eqb-true _ _ t))) ∙ plus_zero _
      | false ↦ λ t. zero_plus _
    ] refl
  where
    less : {a b : ℕ} → a ≡ b → a < suc b
    less e = omega arith

-- the lists from a core on have its own entries and those of the cores behind it
count_lists : (core : ℕ) (parts : List (Vec Entry Global)) (history : List Entry) (p : Entry → Bool)
    → ((k : ℕ) (part : Vec Entry Global) → slice_get parts k ≡ Some part → part.items ≡ filter (is_core (core + k)) history)
    → count_by p (entries_in parts) ≡ count_by (λ x. among core (length parts) x.core.0 && p x) history
count_lists core [] history p own = sym (count_none history)
  where
    count_none : (xs : List Entry) → count_by (λ _. false) xs ≡ 0
    count_none [] = refl
    count_none (x ∷ xs) = count-cons (λ _. false) x xs ∙ none_more (count_none xs)
      where
        none_more : {n : ℕ} → n ≡ 0 → 0 + n ≡ 0
        none_more e = omega arith
count_lists core (part ∷ parts) history p own =
    sum_by-append (λ x. cond (p x) 1 0) part.items (entries_in parts)
    ∙ ap₂ (λ a b. a + b)
    (ap (count_by p) (own 0 part refl ∙ ap (λ n. filter (is_core n) history) (plus_zero core)) ∙ count-filter p (is_core core) history)
    (count_lists (suc core) parts history p (λ k other there. own (suc k) other there ∙ ap (λ n. filter (is_core n) history) (plus_suc core k)))
    ∙ count_split (λ x. is_core core x && p x) (λ x. among (suc core) (length parts) x.core.0 && p x) (λ x. among core (suc (length parts)) x.core.0 && p x)
    (one_list core (length parts) p) history

-- in a list whose stamps ascend from one on, each of them is there once
stamps_before : (first stamp : ℕ) (xs : List Entry) → ((i : ℕ) (x : Entry) → slice_get xs i ≡ Some x → x.stamp.0 ≡ first + i) → stamp < first
    → count_by (has_stamp stamp) xs ≡ 0
stamps_before first stamp [] h lt = refl
stamps_before first stamp (x ∷ xs) h lt =
    count-cons (has_stamp stamp) x xs
    ∙ ap₂ (λ b n. cond b 1 0 + n) (differ (h 0 x refl) lt)
    (stamps_before (suc first) stamp xs (λ i y there. h (suc i) y there ∙ plus_suc first i) (less_suc lt))
  where
    differ : x.stamp.0 ≡ first + 0 → stamp < first → nat_eq x.stamp.0 stamp ≡ false
    differ is lt =
        elim (nat_eq x.stamp.0 stamp) as (λ b. nat_eq x.stamp.0 stamp ≡ b → b ≡ false) [
          | true ↦ λ t. absurd (let e = eqb-true _ _ t in omega arith)
          | false ↦
              λ t. refl
        ] refl

stamps_once : (first stamp : ℕ) (xs : List Entry) → ((i : ℕ) (x : Entry) → slice_get xs i ≡ Some x → x.stamp.0 ≡ first + i) → first ≤ stamp
    → stamp < first + length xs → count_by (has_stamp stamp) xs ≡ 1
stamps_once first stamp [] h le lt = absurd (omega arith)
stamps_once first stamp (x ∷ xs) h le lt =
    count-cons (has_stamp stamp) x xs
    ∙ elim (nat_eq x.stamp.0 stamp) as (λ b. nat_eq x.stamp.0 stamp ≡ b → cond b 1 0 + count_by (has_stamp stamp) xs ≡ 1) [
      | true ↦
          λ t. one_more
          (stamps_before (suc first) stamp xs (λ i y there. h (suc i) y there ∙ plus_suc first i)
          (let e = eqb-true _ _ t in let is = h 0 x refl in omega arith))
      | false ↦
          λ t. none_more
          (stamps_once (suc first) stamp xs (λ i y there. h (suc i) y there ∙ plus_suc first i)
          (let e = eqb-false _ _ t in let is = h 0 x refl in omega arith) (less_suc_plus first (length xs) stamp lt))
    ] refl
  where
    one_more : {n : ℕ} → n ≡ 0 → 1 + n ≡ 1
    one_more e = omega arith

    none_more : {n : ℕ} → n ≡ 1 → 0 + n ≡ 1
    none_more e = omega arith

module _ (parts : List (Vec Entry Global)) (history : List Entry) (h : AreCoresOf parts history) where
  all_counted : (p : Entry → Bool) → count_by p (entries_in parts) ≡ count_by p history
  all_counted p =
      count_lists 0 parts history p (λ k part there. h.own k part there ∙ ap (λ n. filter (is_core n) history) (from_zero_plus k))
      ∙ count_same _ p history
      (each_from_get (λ x. (among 0 (length parts) x.core.0 && p x) ≡ p x) history
      (λ i x there. ap (λ b. b && p x) (is_among 0 (length parts) x.core.0 (omega arith) (less_zero_plus (h.cores i x there)))))

  as_long : length (entries_in parts) ≡ length history
  as_long = sym (count_all (entries_in parts)) ∙ all_counted (λ _. true) ∙ count_all history

  in_history : Each (λ x. slice_get history x.stamp.0 ≡ Some x) history
  in_history = each_from_get _ history (λ i x there. ap (slice_get history) (h.stamped i x there) ∙ there)

  in_lists : (lists : List (Vec Entry Global))
      → ((k : ℕ) (part : Vec Entry Global) → slice_get lists k ≡ Some part → (core : ℕ) × (part.items ≡ filter (is_core core) history))
      → Each (λ x. slice_get history x.stamp.0 ≡ Some x) (entries_in lists)
  in_lists [] own = tt
  in_lists (part ∷ lists) own =
      let this = own 0 part refl in
      each_append _ part.items (entries_in lists)
      (subst (Each (λ x. slice_get history x.stamp.0 ≡ Some x)) (sym this.1) (each_filter _ (is_core this.0) history in_history))
      (in_lists lists (λ k. own (suc k)))

  -- an entry of the lists stands in the history at its stamp
  stands : Each (λ x. slice_get history x.stamp.0 ≡ Some x) (entries_in parts)
  stands = in_lists parts (λ k part there. (k, h.own k part there))

  each_once : EachOnce (entries_in parts)
  each_once = record {
    below = each_all _ (entries_in parts) (below (entries_in parts) stands);
    once = λ stamp lt.
        all_counted (has_stamp stamp)
        ∙ stamps_once 0 stamp history (λ i x there. h.stamped i x there ∙ from_zero_plus i) (omega arith)
        (less_zero_plus (subst (λ n. stamp < n) as_long lt));
    few = subst (λ n. n < 2 ^ 64) (sym as_long) h.few;
  }
    where
      below : (xs : List Entry) → Each (λ x. slice_get history x.stamp.0 ≡ Some x) xs → Each (λ x. x.stamp.0 < length (entries_in parts)) xs
      below [] each = tt
      below (x ∷ xs) each = (subst (λ n. x.stamp.0 < n) (sym as_long) (slice_get_within history x.stamp.0 x each.0), below xs each.1)

  at_place : (k : ℕ) → slice_get (by_stamps (entries_in parts)) k ≡ slice_get history k
  at_place k =
      get-by_stamps (entries_in parts) each_once k
      ∙ elim (ltb k (length (entries_in parts))) as (λ b. ltb k (length (entries_in parts)) ≡ b → entry_with (entries_in parts) k ≡ slice_get history k) [
        | true ↦ λ t. found (entry_with (entries_in parts) k) refl (one_found (has_stamp k) (entries_in parts) (each_once.once k (ltb-true _ _ t)))
        | false ↦ λ t.
            let past = ltb-false _ _ t in
            sym (get-by_stamps (entries_in parts) each_once k)
            ∙ slice_get_past (by_stamps (entries_in parts)) k (subst (λ n. n ≤ k) (sym (length-by_stamps (entries_in parts) each_once)) past)
            ∙ sym (slice_get_past history k (subst (λ n. n ≤ k) as_long past))
      ] refl
    where
      found : (o : Option Entry) → entry_with (entries_in parts) k ≡ o → IsSome o → o ≡ slice_get history k
      found None is some = cc
      found (Some x) is some =
          let there = found_is (has_stamp k) (λ x. slice_get history x.stamp.0 ≡ Some x) (entries_in parts) x (each_all _ (entries_in parts) stands) is in
          sym (ap (slice_get history) (sym (eqb-true _ _ there.1)) ∙ there.0)

pub cores_make_the_history : CoresMakeTheHistory
cores_make_the_history parts history h = record { once = each_once parts history h; merged = same_list _ history (at_place parts history h) }
