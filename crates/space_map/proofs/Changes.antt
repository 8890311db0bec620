-- One more number of a row changes.
use Rattle.std.proofs.Common.{◌≡◌, ◌≢◌, ◌∙◌, sym, ap, refl, ⊎_elim, inl, inr, ◌⊎◌, ◌+◌, ◌-◌, ◌<◌, ◌≤◌, ℕ, Bool, true, false, cond, List, [], ◌∷◌, ◌++◌, length, get_or, set, take, replicate, Option, Some, None, option_map, eqb, leb, ltb, ◌&&◌, ◌||◌, arith, length-set}
use Rattle.std.specs.Prelude.{slice_get}
use Rattle.std.proofs.lemmas.List.{get_or-set_same, get_or-set_other, take_more, length-replicate, get_or-replicate}
use Rattle.std.proofs.lemmas.List.Folds.{list_any-append}
use Rattle.std.proofs.lemmas.Option.{slice_get-get_or, slice_get_past}
use Rattle.std.proofs.lemmas.Bool.{cases_eq, cases_lt}
use Rattle.std.proofs.lemmas.Bool.Decides.{nat_tests}
use Rattle.space_map.specs.declared.status.Status.{Status}
use Rattle.space_map.specs.declared.status.Status.TheVariants.{Free, Taken, Granted}
use Rattle.space_map.specs.declared.status.Change.{Change}
use Rattle.space_map.specs.declared.status.Change.TheVariants.{Become, Release}
use Rattle.space_map.specs.Change.{changed}
use Rattle.sfs_base.specs.Listed.{is_listed}
use Rattle.space_map.specs.Pool.{Pool, status_of, Changes, BecomeAll, first_status}

-- the element at another place than the one that is set
pub slice_get-set_other : (statuses : List Status) (place other : ℕ) (status : Status) → other ≢ place
    → slice_get (set statuses place status) other ≡ slice_get statuses other
slice_get-set_other statuses place other status apart = ⊎_elim within past (cases_lt other (length statuses))
  where
    within : other < length statuses → slice_get (set statuses place status) other ≡ slice_get statuses other
    within inside =
        slice_get-get_or (set statuses place status) other Taken (omega (arith, length-set statuses place status, inside))
        ∙ ap Some (get_or-set_other statuses place other status Taken apart)
        ∙ sym (slice_get-get_or statuses other Taken inside)

    past : length statuses ≤ other → slice_get (set statuses place status) other ≡ slice_get statuses other
    past outside =
        slice_get_past (set statuses place status) other (omega (arith, length-set statuses place status, outside))
        ∙ sym (slice_get_past statuses other outside)

-- the status of a number of the row
pub status_of-here : (pool : Pool) (place : ℕ) (default : Status) → place < length pool.statuses
    → status_of pool (pool.first + place) ≡ Some (get_or pool.statuses place default)
status_of-here pool place default inside =
    let there : pool.first + place - pool.first ≡ place = omega arith in
    let from : leb pool.first (pool.first + place) ≡ true = grind (arith, nat_tests) in
    rw (from, there) (slice_get-get_or pool.statuses place default inside)

-- the row with one status set
abbrev pub with_status : Pool → ℕ → Status → Pool
with_status pool place status = record pool { statuses = set pool.statuses place status }

-- the statuses after one is set
pub status_of-set : (pool : Pool) (place number : ℕ) (status : Status) → place < length pool.statuses
    → status_of (with_status pool place status) number ≡ cond (eqb (pool.first + place) number) (Some status) (status_of pool number)
status_of-set pool place number status inside = ⊎_elim same apart (cases_eq (pool.first + place) number)
  where
    same : pool.first + place ≡ number
        → status_of (with_status pool place status) number ≡ cond (eqb (pool.first + place) number) (Some status) (status_of pool number)
    same e =
        let test : eqb (pool.first + place) number ≡ true = grind (arith, nat_tests) in
        rw (test, ← e)
        (status_of-here (with_status pool place status) place Taken (omega (arith, length-set pool.statuses place status, inside))
        ∙ ap Some (get_or-set_same pool.statuses place status Taken inside))

    apart : (pool.first + place ≡ number → ⊥)
        → status_of (with_status pool place status) number ≡ cond (eqb (pool.first + place) number) (Some status) (status_of pool number)
    apart e =
        let test : eqb (pool.first + place) number ≡ false = grind (arith, nat_tests) in
        rw test (⊎_elim (λ before. outside before) (λ after. beyond after) (cases_lt number pool.first))
      where
        outside : number < pool.first → status_of (with_status pool place status) number ≡ status_of pool number
        outside before = let low : leb pool.first number ≡ false = grind (arith, nat_tests) in rw low refl

        beyond : pool.first ≤ number → status_of (with_status pool place status) number ≡ status_of pool number
        beyond after =
            let away : number - pool.first ≢ place = λ same. e (omega (arith, same, after)) in
            rw (slice_get-set_other pool.statuses place (number - pool.first) status away) refl

-- a number of the row changes
pub Changes-one : (change : Status → Status) (old : Pool) (number place : ℕ) (default : Status) → place < length old.statuses → number ≡ old.first + place
    → Changes change (number ∷ []) old (with_status old place (change (get_or old.statuses place default)))
Changes-one change old number place default inside here other =
    let whole : status_of (with_status old place (change (get_or old.statuses place default))) other
    ≡ cond (eqb (old.first + place) other) (Some (change (get_or old.statuses place default))) (status_of old other) =
    status_of-set old place other (change (get_or old.statuses place default)) inside in
    whole ∙ rw (← here) (by_cases (cases_eq number other))
  where
    by_cases : (number ≡ other) ⊎ (number ≡ other → ⊥)
        → cond (eqb number other) (Some (change (get_or old.statuses place default))) (status_of old other)
        ≡ cond (eqb number other || false) (option_map change (status_of old other)) (status_of old other)
    by_cases (inl same) =
        let test : eqb number other ≡ true = grind (arith, nat_tests) in
        let status : status_of old other ≡ Some (get_or old.statuses place default) = rw (← same, here) (status_of-here old place default inside) in
        rw (test, status) refl
    by_cases (inr apart) = let test : eqb number other ≡ false = grind (arith, nat_tests) in rw test refl

-- a number that the row has not stays without a status
pub Changes-none : (change : Status → Status) (old : Pool) (number : ℕ) → status_of old number ≡ None → Changes change (number ∷ []) old old
Changes-none change old number outside other = by_cases (cases_eq number other)
  where
    by_cases : (number ≡ other) ⊎ (number ≡ other → ⊥)
        → status_of old other ≡ cond (eqb number other || false) (option_map change (status_of old other)) (status_of old other)
    by_cases (inl same) =
        let test : eqb number other ≡ true = grind (arith, nat_tests) in
        let status : status_of old other ≡ None = rw (← same) outside in
        rw (test, status) refl
    by_cases (inr apart) = let test : eqb number other ≡ false = grind (arith, nat_tests) in rw test refl

-- Numbers change, and then further ones, by a change that does nothing a second time.
pub Changes-append : (change : Status → Status) → ((s : Status) → change (change s) ≡ change s) → (numbers further : List ℕ) (old mid new : Pool)
    → Changes change numbers old mid → Changes change further mid new → Changes change (numbers ++ further) old new
Changes-append change again numbers further old mid new first second other =
    second other
    ∙ ap (λ (status : Option Status). cond (is_listed further other) (option_map change status) status) (first other)
    ∙ both (is_listed numbers other) (is_listed further other) (status_of old other)
    ∙ ap (λ (b : Bool). cond b (option_map change (status_of old other)) (status_of old other))
    (sym (list_any-append (λ listed. eqb listed other) numbers further))
  where
    both : (b c : Bool) (status : Option Status)
        → cond c (option_map change (cond b (option_map change status) status)) (cond b (option_map change status) status)
        ≡ cond (b || c) (option_map change status) status
    both true true (Some status) = ap Some (again status)
    both true true None = refl
    both true false status = refl
    both false true status = refl
    both false false status = refl

-- a number of the row whose status is set to what the change makes of it
pub Changes-set : (change : Status → Status) (old new : Pool) (number place : ℕ) (was status : Status) → place < length old.statuses
    → number ≡ old.first + place → was ≡ get_or old.statuses place was → status ≡ change was → new ≡ with_status old place status
    → Changes change (number ∷ []) old new
Changes-set change old new number place was status inside here there changes is =
    let one = rw (← there) at (Changes-one change old number place was inside here) in
    rw (is, changes) one

-- any change does nothing a second time
pub changed_again : (change : Change) (status : Status) → changed change (changed change status) ≡ changed change status
changed_again (Become other) status = refl
changed_again Release Free = refl
changed_again Release Taken = refl
changed_again Release Granted = refl

-- one more of the listed numbers changes
pub Changes-more : (change : Change) (numbers : List ℕ) (at : ℕ) (old mid new : Pool) → at < length numbers → Changes (changed change) (take at numbers) old mid
    → Changes (changed change) (get_or numbers at 0 ∷ []) mid new → Changes (changed change) (take (at + 1) numbers) old new
Changes-more change numbers at old mid new inside first second =
    rw (take_more numbers at 0 inside)
    (Changes-append (changed change) (changed_again change) (take at numbers) (get_or numbers at 0 ∷ []) old mid new first second)

-- one more number is granted
pub grants_more : (numbers : List ℕ) (old mid new : Pool) (number place : ℕ) → place < length mid.statuses → new ≡ with_status mid place Granted
    → number ≡ new.first + place → BecomeAll Granted numbers old mid → BecomeAll Granted (numbers ++ number ∷ []) old new
grants_more numbers old mid new number place inside set here before =
    let at : number ≡ mid.first + place = here ∙ ap (λ (p : Pool). p.first + place) set in
    let one : BecomeAll Granted (number ∷ []) mid new = rw set (Changes-one (λ _. Granted) mid number place Taken inside at) in
    Changes-append (λ _. Granted) (λ _. refl) numbers (number ∷ []) old mid new before one

-- the statuses of a row whose numbers are all free
pub status_of-free : (first end number : ℕ)
    → status_of (record { first = first; statuses = replicate (end - first) Free }) number ≡ cond (leb first number && ltb number end) (Some Free) None
status_of-free first end number = ⊎_elim before from (cases_lt number first)
  where
    inside : first ≤ number → number < end
        → status_of (record { first = first; statuses = replicate (end - first) Free }) number ≡ cond (leb first number && ltb number end) (Some Free) None
    inside high below =
        let low : leb first number ≡ true = grind (arith, nat_tests) in
        let top : ltb number end ≡ true = grind (arith, nat_tests) in
        let within : number - first < end - first = omega (arith, high, below) in
        rw (low, top)
        (slice_get-get_or (replicate (end - first) Free) (number - first) Taken (omega (arith, within, length-replicate (end - first) Free))
        ∙ ap Some (get_or-replicate (end - first) (number - first) Free Taken within))

    outside : first ≤ number → end ≤ number
        → status_of (record { first = first; statuses = replicate (end - first) Free }) number ≡ cond (leb first number && ltb number end) (Some Free) None
    outside high above =
        let low : leb first number ≡ true = grind (arith, nat_tests) in
        let top : ltb number end ≡ false = grind (arith, nat_tests) in
        rw (low, top) (slice_get_past (replicate (end - first) Free) (number - first) (omega (arith, high, above, length-replicate (end - first) Free)))

    before : number < first
        → status_of (record { first = first; statuses = replicate (end - first) Free }) number ≡ cond (leb first number && ltb number end) (Some Free) None
    before low = let test : leb first number ≡ false = grind (arith, nat_tests) in rw test refl

    from : first ≤ number
        → status_of (record { first = first; statuses = replicate (end - first) Free }) number ≡ cond (leb first number && ltb number end) (Some Free) None
    from high = ⊎_elim (λ below. inside high below) (λ above. outside high above) (cases_lt number end)

-- the statuses of a row that begins with some numbers taken
pub first_statuses : (first end : ℕ) (taken : List ℕ) (statuses : List Status) (new : Pool) → statuses ≡ replicate (end - first) Free
    → BecomeAll Taken taken (record { first = first; statuses = statuses }) new → (number : ℕ) → status_of new number ≡ first_status first end taken number
first_statuses first end taken statuses new all changes number =
    let free : status_of (record { first = first; statuses = statuses }) number ≡ cond (leb first number && ltb number end) (Some Free) None =
    rw all (status_of-free first end number) in
    changes number
    ∙ ap (λ (status : Option Status). cond (is_listed taken number) (option_map (λ _. Taken) status) status) free
    ∙ both (is_listed taken number) (leb first number && ltb number end)
  where
    both : (b c : Bool) → cond b (option_map (λ _. Taken) (cond c (Some Free) None)) (cond c (Some Free) None) ≡ cond c (Some (cond b Taken Free)) None
    both true true = refl
    both true false = refl
    both false true = refl
    both false false = refl
