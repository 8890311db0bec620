-- A row of statuses after a write.
use Rattle.std.proofs.Common.{◌≡◌, ◌∙◌, sym, ap, ⊎_elim, ◌+◌, ◌-◌, ◌/◌, ◌<◌, ◌≤◌, ℕ, Bool, true, false, cond, List, length, get_or, set, count_by, arith, length-set}
use Rattle.std.proofs.lemmas.List.{get_or-set_same, get_or-set_other}
use Rattle.std.proofs.lemmas.List.Sums.{sum_by-set, count_by-le-length}
use Rattle.std.proofs.lemmas.Bool.{cases_eq}
use Rattle.space_map.specs.declared.status.Status.{Status}
use Rattle.space_map.specs.declared.status.Status.TheVariants.{Taken}
use Rattle.space_map.specs.Pool.{is_free}
use Rattle.space_map.specs.Groups.{KeepsGroups}

-- how many are free after a write at a place
pub count_by-set : (statuses : List Status) (place : ℕ) (status default : Status) → place < length statuses
    → count_by is_free (set statuses place status) + cond (is_free (get_or statuses place default)) 1 0 ≡ count_by is_free statuses + cond (is_free status) 1 0
count_by-set statuses place status default inside = sum_by-set (λ (s : Status). cond (is_free s) 1 0) statuses place status default inside

-- A row keeps its facts over a write that counts it, and that unmarks the group of a number that it frees.
pub IsKept-set : (first : ℕ) (statuses : List Status) (marks later : List Bool) (free now place : ℕ) (status default : Status)
    → KeepsGroups first statuses marks free → place < length statuses
    → now + cond (is_free (get_or statuses place default)) 1 0 ≡ free + cond (is_free status) 1 0 → length later ≡ length marks
    → ((group : ℕ) → get_or later group false ≡ true → (get_or marks group false ≡ true) × (group ≡ place / 64 → is_free status ≡ false))
    → KeepsGroups first (set statuses place status) later now
IsKept-set first statuses marks later free now place status default kept inside counted groups marked = record {
  within = omega (arith, length-set statuses place status, kept.within);
  counted = omega (arith, count_by-set statuses place status default inside, kept.counted);
  groups = groups ∙ kept.groups ∙ ap (λ n. n / 64 + 1) (sym (length-set statuses place status));
  marked =
      λ other mark. ⊎_elim (λ same. rewritten other same (marked (other / 64) mark).1)
      (λ apart. rw (get_or-set_other statuses place other status Taken apart) (kept.marked other (marked (other / 64) mark).0)) (cases_eq other place);
}
  where
    rewritten : (other : ℕ) → other ≡ place → (other / 64 ≡ place / 64 → is_free status ≡ false)
        → is_free (get_or (set statuses place status) other Taken) ≡ false
    rewritten other same busy = rw (same, get_or-set_same statuses place status Taken inside) (busy (ap (λ n. n / 64) same))

-- the count after a write, from the status that was there
pub record Recounts (free was now length : ℕ) : Type 0 where
  pub balanced : free - was + now + was ≡ free + now
  pub small : free - was + now ≤ length

pub count_after : (first : ℕ) (statuses : List Status) (marks : List Bool) (free place : ℕ) (was status : Status) → KeepsGroups first statuses marks free
    → place < length statuses → was ≡ get_or statuses place was → Recounts free (cond (is_free was) 1 0) (cond (is_free status) 1 0) (length statuses)
count_after first statuses marks free place was status kept inside there =
    let units : Status → ℕ = λ s. cond (is_free s) 1 0 in
    let same : units was ≡ units (get_or statuses place was) = ap units there in
    let without = count_by-set statuses place Taken was inside in
    let later = count_by-set statuses place status was inside in
    let bound = count_by-le-length is_free (set statuses place status) in
    record {
      balanced = omega (arith, kept.counted, same, without);
      small = omega (arith, kept.counted, same, without, later, bound, length-set statuses place status);
    }

-- what the marks say after a number's group lost its mark
pub marked_later : {A : Type 0} (status : Status) (frees : Bool) (group own : ℕ) → frees ≡ is_free status → A × (group ≡ own → frees ≡ false)
    → A × (group ≡ own → is_free status ≡ false)
marked_later status frees group own tested unmarked = (unmarked.0, λ here. sym tested ∙ unmarked.1 here)
