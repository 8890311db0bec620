-- A grant that ends, or that is given back, leaves other grants.
use Rattle.std.proofs.Common.{slice_index_or, ◌≡◌, ℕ, Bool, true, false, cond, ◌||◌, nat_eq, subst, List, [], ◌∷◌, Option, Some, option_map, refl, sym, ap, ◌∙◌}
use Rattle.std.specs.List.{AllByRecursion}
use Rattle.std.proofs.lemmas.List.Elements.{recursion_from_All}
use Rattle.std.proofs.lemmas.Bool.{eqb-true}
use Rattle.space_map.specs.declared.status.Status.{Status}
use Rattle.space_map.specs.declared.status.Status.TheVariants.{Free, Taken, Granted}
use Rattle.sfs_base.specs.Listed.{is_listed}
use Rattle.space_map.specs.Pool.{Pool, status_of, released, BecomeAll, Grants}
use Rattle.space_map.specs.Space.{AllGranted}
use Rattle.space_map.specs.Laws.{EndsLeaveOthers, ReturnsLeaveOthers, GrantsAreApart}

-- what was granted is not released
still_granted : (b : Bool) (o : Option Status) → o ≡ Some Granted → cond b (option_map released o) o ≡ Some Granted
still_granted true o is = ap (option_map released) is
still_granted false o is = is

pub ends_leave_others : EndsLeaveOthers
ends_leave_others granted freed old new number ends other is =
    ends number
    ∙ ap (λ b. cond b (option_map (λ _. Taken) (status_of old number))
    (cond (is_listed freed number) (option_map released (status_of old number)) (status_of old number)))
    other
    ∙ still_granted (is_listed freed number) (status_of old number) is

pub returns_leave_others : ReturnsLeaveOthers
returns_leave_others granted old new number gives other is =
    gives number ∙ ap (λ b. cond b (option_map (λ _. Free) (status_of old number)) (status_of old number)) other ∙ is

-- each listed number passes
listed_passes : (P : ℕ → Type 0) (numbers : List ℕ) (number : ℕ) → AllByRecursion P numbers → is_listed numbers number ≡ true → P number
listed_passes P [] number all listed = cc
listed_passes P (first ∷ rest) number all listed =
    elim (nat_eq first number) as (λ b. nat_eq first number ≡ b → (b || is_listed rest number) ≡ true → P number) [
      | true ↦ λ t e. subst P (eqb-true _ _ t) all.0
      | false ↦ λ t e. listed_passes P rest number all.1 e
    ] refl listed

pub free_now : (pool : Pool) (count : ℕ) (numbers : List ℕ) (new : Pool) (number : ℕ) → Grants pool count numbers new → is_listed numbers number ≡ true
    → status_of pool number ≡ Some Free
free_now pool count numbers new number grants listed =
    listed_passes (λ n. status_of pool n ≡ Some Free) numbers number (recursion_from_All (λ n. status_of pool n ≡ Some Free) numbers grants.free) listed

pub grants_are_apart : GrantsAreApart
grants_are_apart old mid new count other_count numbers others number first second listed =
    elim (is_listed others number) as (λ b. is_listed others number ≡ b → b ≡ false) [
      | true ↦ λ t.
          let free : status_of mid number ≡ Some Free = free_now mid other_count others new number second t in
          let granted : status_of mid number ≡ Some Granted =
          first.granted number
          ∙ ap (λ b. cond b (option_map (λ _. Granted) (status_of old number)) (status_of old number)) listed
          ∙ ap (option_map (λ _. Granted)) (free_now old count numbers mid number first listed) in
          absurd (let never : Some Granted ≡ Some Free = sym granted ∙ free in cc)
      | false ↦ λ t. refl
    ] refl

-- What was granted before a grant stays granted when that one is made and given back.
pub others_stay_granted : (old mid new : Pool) (count : ℕ) (numbers kept : List ℕ) → Grants old count numbers mid → BecomeAll Free numbers mid new
    → AllGranted old kept → AllGranted new kept
others_stay_granted old mid new count numbers kept grants gives all = λ k d within.
    let n : ℕ = slice_index_or kept k d in
    let apart : is_listed numbers n ≡ false = elim (is_listed numbers n) as (λ b. is_listed numbers n ≡ b → b ≡ false) [
      | true ↦ λ listed. absurd (let never : Some Granted ≡ Some Free = sym (all k d within) ∙ free_now old count numbers mid n grants listed in cc)
      | false ↦ λ _. refl
    ] refl in
    let still : status_of mid n ≡ Some Granted =
    grants.granted n ∙ ap (λ b. cond b (option_map (λ _. Granted) (status_of old n)) (status_of old n)) apart ∙ all k d within in
    returns_leave_others numbers mid new n gives apart still
