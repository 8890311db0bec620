-- A search in a list that ascends by a number finds the item with a number.
use Rattle.std.proofs.Common.{◌≡◌, ◌≢◌, ℕ, ◌+◌, ◌-◌, ◌<◌, ◌≤◌, true, false, List, length, map, get_or, Some, None, inl, inr, refl, sym, ap, ◌∙◌, subst, arith, nat_eq, nat_lt}
use Rattle.std.specs.Prelude.{slice_get}
use Rattle.std.specs.List.{find, position_or_len}
use Rattle.std.specs.List.Sorted.{IsStrictlyIncreasing, IsPartitionPoint, IsPartitionedBy}
use Rattle.std.proofs.Math.ListN.{get_or-map as get_or-mapped}
use Rattle.std.proofs.lemmas.Bool.{cases_lt}
use Rattle.std.proofs.lemmas.Bool.Decides.{nat_tests}
use Rattle.std.proofs.lemmas.List.{length-map, get_or-map}
use Rattle.std.proofs.lemmas.List.Folds.{find_at}
use Rattle.std.proofs.lemmas.List.Kept.{AllPairs-from_increasing}
use Rattle.std.proofs.lemmas.List.Sums.{position_or_len_is, passes_at_first}
use Rattle.std.proofs.lemmas.Option.{slice_get_cases, slice_get-get_or, slice_get_read}
use Rattle.sfs_base.proofs.BasicNumbers.{not_same, same_number}
use Rattle.sfs_base.proofs.BasicTruth.{not_both}
use Rattle.sfs_base.proofs.BasicOptions.{some_same}

module _ {X : Type 0} (number : X → ℕ) (items : List X) (up : IsStrictlyIncreasing (map number items)) where
  -- of two items the later has the greater number
  pub numbers_rise : (i j : ℕ) (d : X) → i < j → j < length items → number (get_or items i d) < number (get_or items j d)
  numbers_rise i j d less within =
      let pairs = AllPairs-from_increasing (map number items) up i j (number d) less (rw length-map within) in
      rw (get_or-mapped number items i d, get_or-mapped number items j d) at pairs

  -- those below a number stand in front
  pub parted_by : (n : ℕ) → IsPartitionedBy (λ item. nat_lt (number item) n) items
  parted_by n i j d le within below = elim (cases_lt i j) [
    | inl less ↦ let rise = numbers_rise i j d less within in grind (arith, nat_tests)
    | inr ge ↦ let same : i ≡ j = omega arith in subst (λ k. nat_lt (number (get_or items k d)) n ≡ true) (sym same) below
  ]

  module _ (n at : ℕ) (parted : IsPartitionPoint (λ item. nat_lt (number item) n ≡ true) (λ item. nat_lt (number item) n ≡ false) items at) where
    before : (k : ℕ) (d : X) → k < length items → k < at → nat_eq (number (get_or items k d)) n ≡ false
    before k d within less = let below = parted.0 k d (omega arith) less in not_same (number (get_or items k d)) n (grind (arith, nat_tests))

    -- what stands behind them is the item of the number, if that is its number
    pub found_there : (item : X) → at < length items → item ≡ get_or items at item → number item ≡ n → Some item ≡ find (λ one. nat_eq (number one) n) items
    found_there item within read own =
        let first = position_or_len_is (λ one. nat_eq (number one) n) items at item (omega arith) (λ k less. before k item (omega arith) less)
        (λ _. subst (λ (i : X). nat_eq (number i) n ≡ true) read (subst (λ m. nat_eq (number item) m ≡ true) own (same_number (number item)))) in
        sym (find_at (λ one. nat_eq (number one) n) items ∙ ap (slice_get items) first ∙ slice_get_read items (length items) at item refl within read)

    -- and there is none otherwise
    none_of_all : ((k : ℕ) (d : X) → at ≤ k → k < length items → nat_eq (number (get_or items k d)) n ≡ false)
        → find (λ one. nat_eq (number one) n) items ≡ None
    none_of_all others =
        find_at (λ one. nat_eq (number one) n) items
        ∙ by_cases (position_or_len (λ one. nat_eq (number one) n) items) (passes_at_first (λ one. nat_eq (number one) n) items)
      where
        by_cases : (i : ℕ) → ((d : X) → i < length items → nat_eq (number (get_or items i d)) n ≡ true) → slice_get items i ≡ None
        by_cases i passes = elim (slice_get_cases items i).1 [
          | inr (past, none) ↦ none
          | inl (one, within, is, read) ↦ elim (cases_lt i at) [
            | inl less ↦ absurd (not_both (passes one within) (before i one within less))
            | inr ge ↦ absurd (not_both (passes one within) (others i one ge within))
          ]
        ]

    pub missed_past : length items ≤ at → None ≡ find (λ one. nat_eq (number one) n) items
    missed_past past = sym (none_of_all (λ k d ge within. absurd (omega arith)))

    pub missed_there : (item : X) → at < length items → item ≡ get_or items at item → number item ≢ n → None ≡ find (λ one. nat_eq (number one) n) items
    missed_there item within read other = sym (none_of_all (λ k d ge inside. elim (cases_lt at k) [
      | inl less ↦
          let low = parted.1 at d (omega arith) (omega arith) in
          let rise = numbers_rise at k d less inside in
          not_same (number (get_or items k d)) n (grind (arith, nat_tests))
      | inr le ↦
          let here : k ≡ at = omega arith in
          let same : get_or items k d ≡ item =
          ap (λ j. get_or items j d) here
          ∙ some_same (sym (slice_get-get_or items at d within) ∙ slice_get_read items (length items) at item refl within read) in
          subst (λ (i : X). nat_eq (number i) n ≡ false) (sym same) (not_same (number item) n other)
    ]))

-- Whether numbers ascend is seen at neighbours.
module _ {X : Type 0} (number : X → ℕ) (items : List X) (at : ℕ) (some : 0 < at) (within : at < length items) (first second : X)
    (first_is : first ≡ get_or items (at - 1) first) (second_is : second ≡ get_or items at second) where
  read_first : get_or (map number items) (at - 1) 0 ≡ number first
  read_first = get_or-map number items (at - 1) first 0 (omega arith) ∙ ap number (sym first_is)

  read_second : get_or (map number items) at 0 ≡ number second
  read_second = get_or-map number items at second 0 within ∙ ap number (sym second_is)

  -- one that is no less than the next
  pub falls_there : number second ≤ number first → IsStrictlyIncreasing (map number items) → ⊥
  falls_there le up =
      let rise = up (at - 1) (omega (arith, length-map items number)) in
      let next : get_or (map number items) (at - 1 + 1) 0 ≡ number second = ap (λ k. get_or (map number items) k 0) (again at some) ∙ read_second in
      omega (arith, rise, next, read_first)
    where
      again : (n : ℕ) → 0 < n → n - 1 + 1 ≡ n
      again n more = omega arith

  -- one that is less
  pub rises_there : number first < number second → ((k : ℕ) → k + 1 < at → get_or (map number items) k 0 < get_or (map number items) (k + 1) 0) → (k : ℕ)
      → k + 1 < at + 1 → get_or (map number items) k 0 < get_or (map number items) (k + 1) 0
  rises_there less before k below = elim (cases_lt (k + 1) at) [
    | inl earlier ↦ before k earlier
    | inr here ↦
        let same : k + 1 ≡ at = omega arith in
        let own : k ≡ at - 1 = omega arith in
        omega (arith, ap (λ i. get_or (map number items) i 0) same, ap (λ i. get_or (map number items) i 0) own, read_first, read_second)
  ]
