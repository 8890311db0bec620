-- The free numbers of a row, in order.
use Rattle.std.proofs.Common.{◌≡◌, ◌∙◌, sym, ap, refl, ⊎_elim, ◌+◌, ◌<◌, ◌≤◌, ℕ, zero, suc, Bool, true, false, cond, List, [], ◌∷◌, ◌++◌, length, get_or, set, Some, None, position, count_by, add-zero, append_assoc, append-nil, arith}
use Rattle.std.specs.List.{position_or_len}
use Rattle.std.proofs.Common.{ltb}
use Rattle.std.proofs.lemmas.List.{get_or-set_same, get_or-set_other}
use Rattle.std.proofs.lemmas.List.Sums.{fails_before_first, sum_by-cons}
use Rattle.std.proofs.lemmas.List.Quantifiers.{position-Some}
use Rattle.std.proofs.lemmas.Bool.{cases_eq, cases_lt}
use Rattle.std.proofs.lemmas.Bool.Decides.{nat_tests}
use Rattle.space_map.specs.declared.status.Status.{Status}
use Rattle.space_map.specs.declared.status.Status.TheVariants.{Taken, Granted}
use Rattle.space_map.specs.Pool.{Pool, is_free, free_count, free_from, free_numbers}
use Rattle.space_map.specs.Groups.{NoneFreeBelow}

-- the free numbers with one status in front, by its test
abbrev pub front : ℕ → List Status → Bool → List ℕ
front first statuses b = cond b (first ∷ free_from (first + 1) statuses) (free_from (first + 1) statuses)

-- as many numbers as are counted
pub length-free_from : (first : ℕ) (statuses : List Status) → length (free_from first statuses) ≡ count_by is_free statuses
length-free_from first [] = refl
length-free_from first (status ∷ statuses) =
    by_test (is_free status) (length-free_from (first + 1) statuses) ∙ sym (sum_by-cons (λ (s : Status). cond (is_free s) 1 0) status statuses)
  where
    by_test : (b : Bool) → length (free_from (first + 1) statuses) ≡ count_by is_free statuses
        → length (front first statuses b) ≡ cond b 1 0 + count_by is_free statuses
    by_test true same = omega (arith, same)
    by_test false same = omega (arith, same)

-- none, where none is free
pub free_from-none : (first : ℕ) (statuses : List Status) → NoneFreeBelow statuses (length statuses) → free_from first statuses ≡ []
free_from-none first [] busy = refl
free_from-none first (status ∷ statuses) busy =
    let head : is_free status ≡ false = busy 0 (omega arith) in
    rw head (free_from-none (first + 1) statuses (λ place below. busy (suc place) (omega (arith, below))))

-- the first free number, and then those that are free once it is granted
pub free_from-first : (first : ℕ) (statuses : List Status) (place : ℕ) → place < length statuses → is_free (get_or statuses place Taken) ≡ true
    → NoneFreeBelow statuses place → free_from first statuses ≡ (first + place) ∷ free_from first (set statuses place Granted)
free_from-first first [] place inside free before = absurd (omega (arith, inside))
free_from-first first (status ∷ statuses) zero inside free before = rw (free, add-zero first) refl
free_from-first first (status ∷ statuses) (suc place) inside free before =
    let head : is_free status ≡ false = before 0 (omega arith) in
    let at : first + 1 + place ≡ first + suc place = omega arith in
    rw (head, ← at) (free_from-first (first + 1) statuses place (omega (arith, inside)) free (λ other below. before (suc other) (omega (arith, below))))

-- where the search finds none, none is free
pub none_free : (statuses : List Status) → position is_free statuses ≡ None → NoneFreeBelow statuses (length statuses)
none_free statuses none place below = fails_before_first is_free statuses place Taken (omega (arith, reaches, below))
  where
    reaches : length statuses ≤ position_or_len is_free statuses
    reaches = ⊎_elim (λ inside. absurd (go inside)) (λ past. past) (cases_lt (position_or_len is_free statuses) (length statuses))
      where
        go : position_or_len is_free statuses < length statuses → ⊥
        go inside =
            let test : ltb (position_or_len is_free statuses) (length statuses) ≡ true = grind (arith, nat_tests) in
            let some : position is_free statuses ≡ Some (position_or_len is_free statuses) = rw test refl in
            let clash : None ≡ Some (position_or_len is_free statuses) = sym none ∙ some in
            cc

-- the free numbers before and after one is granted
pub free_numbers-first : (pool : Pool) (place : ℕ) → position is_free pool.statuses ≡ Some place
    → free_numbers pool ≡ (pool.first + place) ∷ free_numbers (record pool { statuses = set pool.statuses place Granted })
free_numbers-first pool place found =
    let at = position-Some is_free pool.statuses place Taken found in
    free_from-first pool.first pool.statuses place at.0 at.1 at.2

-- no place up to the one that is granted is free any more
pub none_free-more : (statuses : List Status) (place : ℕ) → position is_free statuses ≡ Some place → NoneFreeBelow (set statuses place Granted) (place + 1)
none_free-more statuses place found other below = ⊎_elim here apart (cases_eq other place)
  where
    here : other ≡ place → is_free (get_or (set statuses place Granted) other Taken) ≡ false
    here same = let at = position-Some is_free statuses place Taken found in rw (same, get_or-set_same statuses place Granted Taken at.0) refl

    apart : (other ≡ place → ⊥) → is_free (get_or (set statuses place Granted) other Taken) ≡ false
    apart away =
        let at = position-Some is_free statuses place Taken found in
        rw (get_or-set_other statuses place other Granted Taken away) (at.2 other (omega (arith, below, away)))

-- the free numbers of the start are those that are granted and those that are free still
pub free_numbers-more : (numbers : List ℕ) (old mid new : Pool) (number place : ℕ) → position is_free mid.statuses ≡ Some place
    → new ≡ record mid { statuses = set mid.statuses place Granted } → number ≡ new.first + place → free_numbers old ≡ numbers ++ free_numbers mid
    → free_numbers old ≡ (numbers ++ number ∷ []) ++ free_numbers new
free_numbers-more numbers old mid new number place found set here before =
    let at : number ≡ mid.first + place = here ∙ ap (λ (p : Pool). p.first + place) set in
    before
    ∙ ap (λ (rest : List ℕ). numbers ++ rest) (free_numbers-first mid place found)
    ∙ ap (λ (p : Pool). numbers ++ ((mid.first + place) ∷ free_numbers p)) (sym set)
    ∙ ap (λ (n : ℕ). numbers ++ (n ∷ free_numbers new)) (sym at)
    ∙ sym (append_assoc numbers (number ∷ []) (free_numbers new))

-- where some free number of the start is not granted yet, one is free still
pub some_left : (numbers : List ℕ) (old mid : Pool) → free_numbers old ≡ numbers ++ free_numbers mid → length numbers < free_count old
    → position is_free mid.statuses ≡ None → ⊥
some_left numbers old mid split left none =
    let gone : free_numbers mid ≡ [] = free_from-none mid.first mid.statuses (none_free mid.statuses none) in
    let all : free_numbers old ≡ numbers = split ∙ ap (λ (rest : List ℕ). numbers ++ rest) gone ∙ append-nil numbers in
    omega (arith, length-free_from old.first old.statuses, ap length all, left)
