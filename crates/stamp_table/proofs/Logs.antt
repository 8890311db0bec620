-- The entries of a core when one comes, and how many a history has at most.
use Rattle.std.proofs.lemmas.Bool.{cases_Bool}
use Rattle.std.proofs.Common.{◌≡◌, ◌≢◌, ⊎_elim, ℕ, zero, suc, ◌+◌, ◌*◌, ◌<◌, ◌≤◌, Bool, true, false, not, List, [], ◌∷◌, ◌++◌, length, filter, sym, refl, ap, ◌∙◌, arith, eq-eqb, ne_eqb, append-nil, length-append, suc-mul}
use Rattle.std.proofs.lemmas.List.Elements.{filter-append}
use Rattle.std.proofs.lemmas.List.Filters.{length-filter_both}
use mathlib.Core.Logic.{dite}
use native.Mathlib.Decide.{ℕ_discrete}
use Rattle.stamp_table.specs.Rule.{is_by, entries_by, AreKnown, stamps_in}

module _ {E : Type 0} (core_of : E → ℕ) where
  -- an entry of the core comes behind its others
  pub own_comes : (core : ℕ) (log : List E) (e : E) → core_of e ≡ core → entries_by core_of core (log ++ e ∷ []) ≡ entries_by core_of core log ++ e ∷ []
  own_comes core log e own = let here : is_by core_of core e ≡ true = eq-eqb (core_of e) core own in
      filter-append (is_by core_of core) log (e ∷ []) ∙ rw here refl

  -- an entry of another core is none of the core's
  pub other_comes : (core : ℕ) (log : List E) (e : E) → core_of e ≢ core → entries_by core_of core (log ++ e ∷ []) ≡ entries_by core_of core log
  other_comes core log e other = let here : is_by core_of core e ≡ false = ne_eqb (core_of e) core other in
      filter-append (is_by core_of core) log (e ∷ []) ∙ rw here (append-nil (entries_by core_of core log))

  abbrev totals : ℕ → List E → ℕ
  totals zero log = 0
  totals (suc n) log = length (entries_by core_of n log) + totals n log

  totals_none : (n : ℕ) → totals n [] ≡ 0
  totals_none zero = refl
  totals_none (suc n) = let r = totals_none n in omega (arith, r)

  totals_past : (n : ℕ) (e : E) (log : List E) → n ≤ core_of e → totals n (e ∷ log) ≡ totals n log
  totals_past zero e log le = refl
  totals_past (suc n) e log le = let not : is_by core_of n e ≡ false = ne_eqb (core_of e) n (λ is. omega (arith, is)) in
      let r = totals_past n e log (omega arith) in let l : length (entries_by core_of n (e ∷ log)) ≡ length (entries_by core_of n log) = rw not refl in
      omega (arith, r, l)

  totals_one : (n : ℕ) (e : E) (log : List E) → core_of e < n → totals n (e ∷ log) ≡ suc (totals n log)
  totals_one zero e log lt = absurd (omega arith)
  totals_one (suc n) e log lt = dite (ℕ_discrete (core_of e) n)
      (λ is. let yes : is_by core_of n e ≡ true = eq-eqb (core_of e) n is in let past = totals_past n e log (omega (arith, is)) in
      let l : length (entries_by core_of n (e ∷ log)) ≡ suc (length (entries_by core_of n log)) = rw yes refl in omega (arith, past, l))
      (λ other. let not : is_by core_of n e ≡ false = ne_eqb (core_of e) n other in let one = totals_one n e log (grind (arith, other)) in
      let l : length (entries_by core_of n (e ∷ log)) ≡ length (entries_by core_of n log) = rw not refl in omega (arith, one, l))

  totals_all : (n : ℕ) (log : List E) → AreKnown core_of n log → length log ≡ totals n log
  totals_all n [] all = sym (totals_none n)
  totals_all n (e ∷ log) all = ap suc (totals_all n log all.1) ∙ sym (totals_one n e log all.0)

  totals_few : (n most : ℕ) (log : List E) → ((core : ℕ) → length (entries_by core_of core log) ≤ most) → totals n log ≤ n * most
  totals_few zero most log few = omega arith
  totals_few (suc n) most log few = let rest = totals_few n most log few in let here = few n in omega (arith, rest, here, suc-mul n most)

  -- a history of so many cores, each of which has so many entries at most
  pub few_in_all : (n most : ℕ) (log : List E) → AreKnown core_of n log → ((core : ℕ) → length (entries_by core_of core log) ≤ most) → length log ≤ n * most
  few_in_all n most log all few = let is = totals_all n log all in let le = totals_few n most log few in omega (arith, is, le)

  pub known_snoc : (n : ℕ) (log : List E) (e : E) → AreKnown core_of n log → core_of e < n → AreKnown core_of n (log ++ e ∷ [])
  known_snoc n [] e known lt = (lt, tt)
  known_snoc n (x ∷ log) e known lt = (known.0, known_snoc n log e known.1 lt)

  pub known_more : (n m : ℕ) (log : List E) → n ≤ m → AreKnown core_of n log → AreKnown core_of m log
  known_more n m [] le known = tt
  known_more n m (x ∷ log) le known = (let lt = known.0 in omega (arith, lt, le), known_more n m log le known.1)

  -- a core that is not among them has no entry
  pub none_yet : (n core : ℕ) (log : List E) → n ≤ core → AreKnown core_of n log → entries_by core_of core log ≡ []
  none_yet n core [] le known = refl
  none_yet n core (x ∷ log) le known = let lt = known.0 in let not : is_by core_of core x ≡ false = ne_eqb (core_of x) core (λ is. omega (arith, is, lt, le)) in
      rw not (none_yet n core log le known.1)

module _ {E : Type 0} (draws : E → Bool) where
  -- an entry that draws is counted
  pub drawer_counts : (log : List E) (e : E) → draws e ≡ true → stamps_in draws (log ++ e ∷ []) ≡ stamps_in draws log + 1
  drawer_counts log e does = let l = ap length (filter-append draws log (e ∷ [])) in let m = length-append (filter draws log) (filter draws (e ∷ [])) in
      let one : length (filter draws (e ∷ [])) ≡ 1 = rw does refl in omega (arith, l, m, one)

  -- any other is not
  pub teller_counts_not : (log : List E) (e : E) → draws e ≡ false → stamps_in draws (log ++ e ∷ []) ≡ stamps_in draws log
  teller_counts_not log e not = let l = ap length (filter-append draws log (e ∷ [])) in let m = length-append (filter draws log) (filter draws (e ∷ [])) in
      let none : length (filter draws (e ∷ [])) ≡ 0 = rw not refl in omega (arith, l, m, none)

  pub stamps_within : (log : List E) → stamps_in draws log ≤ length log
  stamps_within log = let both = length-filter_both draws (λ e. not (draws e)) (λ e. refl) log in omega (arith, both)

module _ {E : Type 0} (core_of : E → ℕ) (draws : E → Bool) where
  drawers_known : (n : ℕ) (log : List E) → AreKnown core_of n log → AreKnown core_of n (filter draws log)
  drawers_known n [] known = tt
  drawers_known n (x ∷ log) known =
      ⊎_elim (λ is. rw is ((known.0, drawers_known n log known.1))) (λ not. rw not (drawers_known n log known.1)) (cases_Bool (draws x))

  -- those of a core among those that drew are those that drew among the core's
  drawers_by : (core : ℕ) (log : List E) → entries_by core_of core (filter draws log) ≡ filter draws (entries_by core_of core log)
  drawers_by core [] = refl
  drawers_by core (x ∷ log) = let r = drawers_by core log in ⊎_elim
      (λ is. ⊎_elim (λ mine. rw is (rw mine (rw is (ap (λ l. x ∷ l) r)))) (λ not. rw is (rw not r)) (cases_Bool (is_by core_of core x)))
      (λ isnt. ⊎_elim (λ mine. rw isnt (rw mine (rw isnt r))) (λ not. rw isnt (rw not r)) (cases_Bool (is_by core_of core x)))
      (cases_Bool (draws x))

  -- a history of so many cores, each of which drew so many stamps at most
  pub few_stamps : (n most : ℕ) (log : List E) → AreKnown core_of n log → ((core : ℕ) → stamps_in draws (entries_by core_of core log) ≤ most)
      → stamps_in draws log ≤ n * most
  few_stamps n most log known few = few_in_all core_of n most (filter draws log) (drawers_known n log known)
      (λ core. let l = ap length (drawers_by core log) in let f = few core in omega (arith, l, f))
