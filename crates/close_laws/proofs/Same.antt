-- Maps with the same statuses do the same.
use Rattle.std.proofs.Common.{◌∷◌, ◌≤◌, ◌+◌, ◌≡◌, if◌then◌else◌, ◌-◌, ◌∙◌, ℕ, List, [], arith, slice_get, Some, zero, inl, suc, inr, subst, refl, ap, None, nat_le, true, false, Option, sym, length, option_map}
use Rattle.std.proofs.lemmas.Bool.Decides.{nat_tests}
use Rattle.sfs_base.specs.Listed.{is_listed}
use Rattle.space_map.specs.declared.status.Status.TheVariants.{Granted, Free, Taken}
use Rattle.space_map.specs.Pool.{Pool, free_from, status_of, free_numbers, free_count, Grants, BecomeAll, Ends, released}
use Rattle.space_map.specs.declared.status.Status.{Status}
use Rattle.space_map.proofs.Free.{length-free_from}
use Rattle.cut_laws.specs.Rules.{IsOneOf}
use Rattle.cut_laws.proofs.Basics.{below_or}

-- the free numbers from one on rise, and are those whose place is free
abbrev Rises : ℕ → List ℕ → Type 0
Rises low [] = Unit {0}
Rises low (x ∷ xs) = (low ≤ x) × Rises (x + 1) xs

rises_from : (low high : ℕ) (xs : List ℕ) → low ≤ high → Rises high xs → Rises low xs
rises_from low high [] le rises = tt
rises_from low high (x ∷ xs) le rises = (let le_x = rises.0 in omega (arith, le, le_x), rises.1)

free_rise : (first : ℕ) (statuses : List Status) → Rises first (free_from first statuses)
free_rise first [] = tt
free_rise first (Free ∷ statuses) = (omega arith, free_rise (first + 1) statuses)
free_rise first (Taken ∷ statuses) = rises_from first (first + 1) (free_from (first + 1) statuses) (omega arith) (free_rise (first + 1) statuses)
free_rise first (Granted ∷ statuses) = rises_from first (first + 1) (free_from (first + 1) statuses) (omega arith) (free_rise (first + 1) statuses)

free_listed : (first : ℕ) (statuses : List Status) (place : ℕ) → slice_get statuses place ≡ Some Free → IsOneOf (free_from first statuses) (first + place)
free_listed first [] place is = absurd (cc is)
free_listed first (Free ∷ statuses) zero is = inl (omega arith)
free_listed first (Taken ∷ statuses) zero is = absurd (cc is)
free_listed first (Granted ∷ statuses) zero is = absurd (cc is)
free_listed first (Free ∷ statuses) (suc place) is =
    inr (subst (IsOneOf (free_from (first + 1) statuses)) (omega arith) (free_listed (first + 1) statuses place is))
free_listed first (Taken ∷ statuses) (suc place) is =
    subst (IsOneOf (free_from (first + 1) statuses)) (omega arith) (free_listed (first + 1) statuses place is)
free_listed first (Granted ∷ statuses) (suc place) is =
    subst (IsOneOf (free_from (first + 1) statuses)) (omega arith) (free_listed (first + 1) statuses place is)

-- where a free number lies
record FreeAt (first : ℕ) (statuses : List Status) (number : ℕ) : Type 0 where
  place : ℕ
  is : number ≡ first + place
  free : slice_get statuses place ≡ Some Free

free_found : (first : ℕ) (statuses : List Status) (number : ℕ) → IsOneOf (free_from first statuses) number → FreeAt first statuses number
free_found first [] number one = absurd one
free_found first (Free ∷ statuses) number one = elim one [
  | inl same ↦ record { place = 0; is = omega (arith, same); free = refl }
  | inr later ↦
      let found = free_found (first + 1) statuses number later in
      let is = found.is in record { place = suc found.place; is = omega (arith, is); free = found.free }
]
free_found first (Taken ∷ statuses) number one =
    let found = free_found (first + 1) statuses number one in
    let is = found.is in record { place = suc found.place; is = omega (arith, is); free = found.free }
free_found first (Granted ∷ statuses) number one =
    let found = free_found (first + 1) statuses number one in
    let is = found.is in record { place = suc found.place; is = omega (arith, is); free = found.free }

status_at : (pool : Pool) (place : ℕ) → status_of pool (pool.first + place) ≡ slice_get pool.statuses place
status_at pool place =
    ap (λ b. if b then slice_get pool.statuses ((pool.first + place) - pool.first) else None)
    (let is : nat_le pool.first (pool.first + place) ≡ true = grind (arith, nat_tests) in is)
    ∙ ap (slice_get pool.statuses) (let is : (pool.first + place) - pool.first ≡ place = omega arith in is)

-- a number is listed as free where its status is Free
listed_free : (pool : Pool) (number : ℕ) → status_of pool number ≡ Some Free → IsOneOf (free_numbers pool) number
listed_free pool number is = elim (below_or number pool.first) [
  | inl low ↦
      let off : nat_le pool.first number ≡ false = grind (arith, nat_tests, low) in
      let never : ◌≡◌ {A = Option Status} None (Some Free) =
      sym (ap (λ b. if b then slice_get pool.statuses (number - pool.first) else None) off) ∙ is in absurd (cc never)
  | inr le ↦
      let place = number - pool.first in
      let same : pool.first + (number - pool.first) ≡ number = omega (arith, le) in
      subst (IsOneOf (free_numbers pool)) same
      (free_listed pool.first pool.statuses (number - pool.first)
      (sym (status_at pool (number - pool.first)) ∙ (ap (status_of pool) same ∙ is)))
]

free_listed_so : (pool : Pool) (number : ℕ) → IsOneOf (free_numbers pool) number → status_of pool number ≡ Some Free
free_listed_so pool number one =
    let found = free_found pool.first pool.statuses number one in
    ap (status_of pool) found.is ∙ (status_at pool found.place ∙ found.free)

-- what rises from some number on has none below it
none_below : (low : ℕ) (xs : List ℕ) (x : ℕ) → Rises low xs → IsOneOf xs x → low ≤ x
none_below low [] x rises one = absurd one
none_below low (y ∷ ys) x rises one = elim one [
  | inl same ↦ let le = rises.0 in omega (arith, le, same)
  | inr later ↦ let le = rises.0 in let more = none_below (y + 1) ys x rises.1 later in omega (arith, le, more)
]

-- lists that rise and have the same numbers are one
one_list : (low high : ℕ) (xs ys : List ℕ) → Rises low xs → Rises high ys → ((n : ℕ) → IsOneOf xs n → IsOneOf ys n)
    → ((n : ℕ) → IsOneOf ys n → IsOneOf xs n) → xs ≡ ys
one_list low high [] [] rises also forth back = refl
one_list low high [] (y ∷ ys) rises also forth back = absurd (back y (inl refl))
one_list low high (x ∷ xs) [] rises also forth back = absurd (forth x (inl refl))
one_list low high (x ∷ xs) (y ∷ ys) rises also forth back =
    let same : x ≡ y =
    elim (forth x (inl refl)) [
      | inl is ↦ sym is
      | inr later ↦ elim (back y (inl refl)) [
        | inl is ↦ is
        | inr behind ↦
            let up = none_below (y + 1) ys x also.1 later in
            let down = none_below (x + 1) xs y rises.1 behind in absurd (omega (arith, up, down))
      ]
    ] in
    let rest : xs ≡ ys =
    one_list (x + 1) (y + 1) xs ys rises.1 also.1
    (λ n one. elim (forth n (inr one)) [
      | inl is ↦ let up = none_below (x + 1) xs n rises.1 one in absurd (omega (arith, up, is, same))
      | inr later ↦ later
    ])
    (λ n one. elim (back n (inr one)) [
      | inl is ↦ let up = none_below (y + 1) ys n also.1 one in absurd (omega (arith, up, is, same))
      | inr later ↦ later
    ]) in
    ap (λ (p : ℕ × List ℕ). p.0 ∷ p.1) (λ i. (same i, rest i))

module _ (one other : Pool) (same : (number : ℕ) → status_of one number ≡ status_of other number) where
  pub same_free : free_numbers one ≡ free_numbers other
  same_free =
      one_list one.first other.first (free_numbers one) (free_numbers other) (free_rise one.first one.statuses) (free_rise other.first other.statuses)
      (λ n listed. listed_free other n (sym (same n) ∙ free_listed_so one n listed))
      (λ n listed. listed_free one n (same n ∙ free_listed_so other n listed))

  pub same_count : free_count one ≡ free_count other
  same_count =
      sym (length-free_from one.first one.statuses) ∙ (ap length same_free ∙ length-free_from other.first other.statuses)

  -- so the same is granted from both
  pub same_grants : (count : ℕ) (numbers : List ℕ) (new : Pool) → Grants other count numbers new → Grants one count numbers new
  same_grants count numbers new grants = record {
    counted = grants.counted;
    ascending = grants.ascending;
    free = λ i d less. same _ ∙ grants.free i d less;
    granted = λ number. grants.granted number
        ∙ ap (λ (s : Option Status). if is_listed numbers number then option_map (λ _. Granted) s else s) (sym (same number));
    left = grants.left ∙ sym same_count;
  }

  pub same_become : (status : Status) (numbers : List ℕ) (new : Pool) → BecomeAll status numbers other new → BecomeAll status numbers one new
  same_become status numbers new becomes number =
      becomes number ∙ ap (λ (s : Option Status). if is_listed numbers number then option_map (λ _. status) s else s) (sym (same number))

  pub same_ends : (granted freed : List ℕ) (new : Pool) → Ends granted freed other new → Ends granted freed one new
  same_ends granted freed new ends number =
      ends number ∙ ap (λ (s : Option Status). if is_listed granted number then option_map (λ _. Taken) s
      else if is_listed freed number then option_map released s else s) (sym (same number))
