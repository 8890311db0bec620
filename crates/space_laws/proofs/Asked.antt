-- A grant has as many numbers as were asked for.
use Rattle.std.proofs.Common.{◌≡◌, ℕ, zero, suc, ◌+◌, ◌-◌, ◌<◌, ◌≤◌, true, cond, List, [], ◌∷◌, length, map, get_or, Some, None, count_by, inl, inr, refl, sym, ap, ◌∙◌, arith, leb}
use Rattle.std.specs.Prelude.{◌^◌, slice_get, is_none}
use Rattle.std.proofs.lemmas.Bool.{cases_lt}
use Rattle.std.proofs.lemmas.Bool.Decides.{nat_tests}
use Rattle.std.proofs.lemmas.List.{length-map}
use Rattle.std.proofs.lemmas.List.Sums.{count_by-le-length, sum_by-append, sum_by-cons}
use Rattle.std.proofs.lemmas.Option.{slice_get-get_or}
use Rattle.sfs_base.proofs.BasicNumbers.{zero_plus}
use Rattle.sfs_base.specs.declared.numbers.Kind.{Kind}
use Rattle.sfs_base.specs.declared.numbers.Kind.TheVariants.{File, Directory}
use Rattle.space_map.specs.Pool.{Pool, status_of, is_free, Grants}
use Rattle.space_map.specs.declared.status.Status.TheVariants.{Taken}
use Rattle.disk_change.specs.Nodes.{enter_node}
use Rattle.disk_change.specs.Planned.{as_u32, enters, staying, seated_old, seated_entering}
use Rattle.disk_change.specs.Seated.{CommitChanges, Seated, Begun, begun_old, begun_entering, seated_as}
use Rattle.disk_change.specs.declared.enter.Enter.{Enter}
use Rattle.disk_nodes.specs.declared.old.OldEntry.{OldEntry}
use Rattle.commit_laws.specs.CommitOfPlan.{CommitPlan, change_planned}
use Rattle.space_laws.specs.Map.{IsRowOf}

-- a number up to which 32 bits have room is as it is
fits_u32 : (n : ℕ) → as_u32 n < 2 ^ 32 - 1 → n ≡ as_u32 n
fits_u32 n few = elim (cases_lt n (2 ^ 32 - 1)) [
  | inl low ↦ omega (arith, low)
  | inr high ↦ absurd (omega (arith, high, few))
]

module _ (first end : ℕ) (held : ℕ → Type 0) (pool : Pool) (row : IsRowOf first end held pool) (small : end < 2 ^ 32 - 1) where
  status_there : (n : ℕ) → n < length pool.statuses → status_of pool (pool.first + n) ≡ Some (get_or pool.statuses n Taken)
  status_there n inside =
      let test : leb pool.first (pool.first + n) ≡ true = grind (arith, nat_tests) in
      let at : pool.first + n - pool.first ≡ n = omega arith in
      ap (λ b. cond b (slice_get pool.statuses (pool.first + n - pool.first)) None) test ∙ ap (slice_get pool.statuses) at
      ∙ slice_get-get_or pool.statuses n Taken inside

  few : length pool.statuses ≤ end
  few = by (length pool.statuses) refl
    where
      by : (n : ℕ) → length pool.statuses ≡ n → length pool.statuses ≤ end
      by zero e = omega (arith, e)
      by (suc n) e =
          let there = row.within (pool.first + n) (get_or pool.statuses n Taken) (status_there n (omega (arith, e))) in
          omega (arith, e, there.1)

  -- so all were granted that were asked for
  pub all_asked : (asked : ℕ) (numbers : List ℕ) (new : Pool) → Grants pool (as_u32 asked) numbers new → length numbers ≡ asked
  all_asked asked numbers new grants =
      let free = count_by-le-length is_free pool.statuses in
      let left = grants.left in
      grants.counted ∙ sym (fits_u32 asked (omega (arith, free, few, left, small)))

-- what becomes of a node enters where it has no number, of either kind
enters_as : (changes : CommitChanges) (begun : Begun) (kind : Kind) → enters (seated_as kind changes begun) ≡ is_none begun.number
enters_as changes begun File = refl
enters_as changes begun Directory = refl

-- of a change as many nodes enter as a plan has nodes that enter
none_enters : (changes : CommitChanges) (entries : List OldEntry) → count_by enters (map (seated_old changes) entries) ≡ 0
none_enters changes [] = refl
none_enters changes (entry ∷ entries) =
    sum_by-cons (λ (s : Seated). cond (enters s) 1 0) (seated_old changes entry) (map (seated_old changes) entries)
    ∙ ap (λ b. cond b 1 0 + count_by enters (map (seated_old changes) entries)) (enters_as changes (begun_old entry) (begun_old entry).kind)
    ∙ ap (λ n. 0 + n) (none_enters changes entries)

all_enter : (changes : CommitChanges) (enter : List Enter) → count_by enters (map (seated_entering changes) enter) ≡ length enter
all_enter changes [] = refl
all_enter changes (one ∷ enter) =
    sum_by-cons (λ (s : Seated). cond (enters s) 1 0) (seated_entering changes one) (map (seated_entering changes) enter)
    ∙ ap (λ b. cond b 1 0 + count_by enters (map (seated_entering changes) enter)) (enters_as changes (begun_entering one) (begun_entering one).kind)
    ∙ ap (λ n. 1 + n) (all_enter changes enter) ∙ one_more (length enter)
  where
    one_more : (n : ℕ) → 1 + n ≡ suc n
    one_more n = omega arith

pub enters_counted : (plan : CommitPlan) → count_by enters (change_planned plan).seats ≡ length (map enter_node plan.enter)
enters_counted plan =
    let changes = (change_planned plan).changes in
    sum_by-append (λ (s : Seated). cond (enters s) 1 0) (map (seated_old changes) (staying plan.old plan.leave)) (map (seated_entering changes) plan.enter)
    ∙ ap (λ n. n + count_by enters (map (seated_entering changes) plan.enter)) (none_enters changes (staying plan.old plan.leave))
    ∙ zero_plus (count_by enters (map (seated_entering changes) plan.enter)) ∙ all_enter changes plan.enter ∙ sym (length-map plan.enter enter_node)
