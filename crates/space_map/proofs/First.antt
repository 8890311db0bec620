-- The first place that is free.
use Rattle.std.proofs.Common.{◌≡◌, ap, ⊎_elim, ◌*◌, ◌/◌, ◌<◌, ◌≤◌, ℕ, true, false, List, length, get_or, Some, None, position, arith}
use Rattle.std.proofs.lemmas.List.{get_or_past}
use Rattle.std.proofs.lemmas.List.Sums.{position_or_len_is}
use Rattle.std.proofs.lemmas.Bool.{cases_eq, cases_lt}
use Rattle.std.proofs.lemmas.Bool.Decides.{nat_tests}
use Rattle.space_map.specs.declared.status.Status.{Status}
use Rattle.space_map.specs.declared.status.Status.TheVariants.{Free, Taken}
use Rattle.space_map.specs.Pool.{is_free}
use Rattle.space_map.specs.Groups.{NoneFreeBelow}

-- a place that is free lies in the row
pub free_inside : (statuses : List Status) (place : ℕ) → is_free (get_or statuses place Taken) ≡ true → place < length statuses
free_inside statuses place free = ⊎_elim (λ inside. inside) (λ past. absurd (go past)) (cases_lt place (length statuses))
  where
    go : length statuses ≤ place → ⊥
    go past = let e : is_free (get_or statuses place Taken) ≡ false = ap is_free (get_or_past statuses place Taken past) in cc

-- a free place with none before it is the first
pub position_first : (statuses : List Status) (place : ℕ) → is_free (get_or statuses place Taken) ≡ true → NoneFreeBelow statuses place
    → position is_free statuses ≡ Some place
position_first statuses place free before =
    let inside = free_inside statuses place free in
    let at = position_or_len_is is_free statuses place Taken (omega (arith, inside)) before (λ _. free) in
    rw at (grind (arith, nat_tests))

-- where none is free there is no first
pub position_none : (statuses : List Status) (end : ℕ) → length statuses ≤ end → NoneFreeBelow statuses end → position is_free statuses ≡ None
position_none statuses end all before =
    let at =
    position_or_len_is is_free statuses (length statuses) Taken (omega arith) (λ k below. before k (omega (arith, below, all)))
    (λ inside. absurd (omega (arith, inside))) in
    rw at (grind (arith, nat_tests))

-- the free place that is first in its group, where none is free in the groups before
pub first_in_group : (statuses : List Status) (group place : ℕ) → place / 64 ≡ group → get_or statuses place Taken ≡ Free
    → ((other : ℕ) → other / 64 ≡ group → other < place → is_free (get_or statuses other Taken) ≡ false) → NoneFreeBelow statuses (64 * group)
    → position is_free statuses ≡ Some place
first_in_group statuses group place here free first passed =
    position_first statuses place (ap is_free free)
    (λ other below. ⊎_elim (λ same. first other same below) (λ apart. passed other (omega (arith, apart, below, here))) (cases_eq (other / 64) group))
