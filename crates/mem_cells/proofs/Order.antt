-- Changes in order, and what is left of them once those below a stamp are dropped.
use Rattle.std.proofs.Common.{◌≡◌, ℕ, ◌+◌, ◌*◌, ◌<◌, ◌≤◌, Bool, true, false, cond, nat_le, List, [], ◌∷◌, ◌++◌, ◌-◌, length, get_or, filter, refl, sym, ap, ◌∙◌, subst, suc, arith}
use borrow.Author.Tests.{ltb-true}
use Rattle.std.specs.Prelude.{All, drop}
use Rattle.std.proofs.lemmas.Bool.{cond-true, cond-false}
use Rattle.std.proofs.lemmas.Bool.Decides.{nat_tests}
use Rattle.std.proofs.lemmas.List.Elements.{All-get_or, All-append, All-cons, All-nil}
use Rattle.std.proofs.lemmas.List.Sorted.{IsNonDecreasingBy-push, IsNonDecreasingBy-drop, IsNonDecreasingBy-short}
use Rattle.tree_laws.specs.declared.changes.Change.{Change}
use Rattle.tree_laws.specs.Logged.{is_addition, is_logged_in}
use Rattle.mem_cells.specs.Log.{log_place, is_from, begins_under, IsInOrder}
use Rattle.mem_cells.specs.Part.{StandBehind}

pub nothing_in_order : IsInOrder []
nothing_in_order = record { rises = IsNonDecreasingBy-short log_place [] (omega arith) }

-- what goes last comes before none
pub in_order-push : (changes : List Change) (change : Change) → IsInOrder changes → All (λ other. log_place other ≤ log_place change) changes
    → IsInOrder (changes ++ change ∷ [])
in_order-push changes change order last =
    record {
      rises = IsNonDecreasingBy-push log_place changes change order.rises
          (λ d some. All-get_or (λ other. log_place other ≤ log_place change) changes (length changes - 1) d (omega arith) last);
    }

pub in_order-drop : (count : ℕ) (changes : List Change) → IsInOrder changes → IsInOrder (drop count changes)
in_order-drop count changes order = record { rises = IsNonDecreasingBy-drop log_place count changes order.rises }

-- an earlier place has no greater stamp
pub stamps_rise : (change other : Change) → log_place change ≤ log_place other → change.stamp.0 ≤ other.stamp.0
stamps_rise change other le = rising change.stamp.0 other.stamp.0 (is_addition change.act) (is_addition other.act) le
  where
    rising : (s t : ℕ) (a b : Bool) → 2 * s + cond a 1 0 ≤ 2 * t + cond b 1 0 → s ≤ t
    rising s t true true le = omega arith
    rising s t true false le = omega arith
    rising s t false true le = omega arith
    rising s t false false le = omega arith

-- the first of some changes lies below a stamp: without it the same are left
pub filter-first : (below : ℕ) (changes : List Change) → begins_under below changes ≡ true
    → filter (is_from below) (drop 1 changes) ≡ filter (is_from below) changes
filter-first below [] e = cc
filter-first below (change ∷ changes) e =
    sym
    (cond-false (nat_le below change.stamp.0) (change ∷ filter (is_from below) changes) (filter (is_from below) changes)
    (let lt = ltb-true _ _ e in grind (arith, nat_tests)))

-- the first does not: all are left
pub filter-rest : (below : ℕ) (changes : List Change) → IsInOrder changes → begins_under below changes ≡ false → filter (is_from below) changes ≡ changes
filter-rest below [] order e = refl
filter-rest below (change ∷ changes) order e =
    cond-true (nat_le below change.stamp.0) (change ∷ filter (is_from below) changes) (filter (is_from below) changes) (grind (arith, nat_tests))
    ∙ ap (λ l. change ∷ l)
    (filter-rest below changes (in_order-drop 1 (change ∷ changes) order)
    (rest changes (λ d some. stamps_rise change (get_or changes 0 d) (order.rises 0 1 d (omega arith) (omega arith)))))
  where
    rest : (changes : List Change) → ((d : Change) → 0 < length changes → change.stamp.0 ≤ (get_or changes 0 d).stamp.0) → begins_under below changes ≡ false
    rest [] rise = refl
    rest (next ∷ changes) rise = let le = rise next (omega arith) in grind (arith, nat_tests)

-- what stood behind others still does, once the first of it has gone behind those of its directory
pub still_behind : (change : Change) (rest : List Change) (kept after : ℕ → List Change)
    → ((directory : ℕ) → after directory ≡ cond (is_logged_in directory change) (kept directory ++ change ∷ []) (kept directory)) → IsInOrder (change ∷ rest)
    → StandBehind (change ∷ rest) kept → StandBehind rest after
still_behind change rest kept after puts order behind = λ k d within.
    let later = get_or rest k d in
    let low : log_place change ≤ log_place later = order.rises 0 (suc k) d (omega arith) (omega arith) in
    let there : All (λ other. log_place other ≤ log_place later) (kept later.dir.0) = behind (suc k) d (omega arith) in
    subst (All (λ other. log_place other ≤ log_place later)) (sym (puts later.dir.0))
    (both (is_logged_in later.dir.0 change) (kept later.dir.0) later low there)
  where
    both : (b : Bool) (those : List Change) (later : Change) → log_place change ≤ log_place later → All (λ other. log_place other ≤ log_place later) those
        → All (λ other. log_place other ≤ log_place later) (cond b (those ++ change ∷ []) those)
    both true those later low there =
        All-append (λ other. log_place other ≤ log_place later) those (change ∷ []) there
        (All-cons (λ other. log_place other ≤ log_place later) change [] low (All-nil (λ other. log_place other ≤ log_place later)))
    both false those later low there = there
