-- Where a binary search among entries ends: what is found there, and what is put there.
use Rattle.std.proofs.Common.{◌≡◌, ◌≢◌, ℕ, zero, suc, ◌<◌, ◌≤◌, cond, T, List, [], ◌∷◌, ◌++◌, length, take, drop, get_or, Option, Some, None, refl, sym, ap, subst, ◌∙◌, arith}
use Rattle.std.specs.List.{AllWithin}
use Rattle.std.specs.declared.cmp.Ordering.{Ordering}
use Rattle.std.specs.declared.cmp.Ordering.TheVariants.{Less, Equal, Greater}
use Rattle.std.specs.Ordering.{is_eq, is_lt, eq_by_cmp, ordering_reverse}
use Rattle.std.specs.Cmp.{IsTotalOrder}
use Rattle.std.specs.FinMap.{find, put, is_sorted}
use Rattle.std.specs.FinMap.Entries.{below_all, by_order}
use Rattle.sfs_base.proofs.BasicTruth.{both_first, both_second, both_of}

pub is_less : (o : Ordering) → T (is_lt o) → o ≡ Less
is_less Less p = refl
is_less Equal p = absurd p
is_less Greater p = absurd p

pub sorted_tail : {K X : Type 0} (R : K → K → Ordering) (e : K × X) (es : List (K × X)) → T (is_sorted R (e ∷ es)) → T (is_sorted R es)
sorted_tail R e es s = both_second _ _ s

module _ {K : Type 0} {R : K → K → Ordering} (o : IsTotalOrder R) where
  not_behind : (x y : K) → R x y ≡ Less → R y x ≡ Greater
  not_behind x y p = o.antisymm y x ∙ ap ordering_reverse p

module _ {K X : Type 0} {R : K → K → Ordering} (o : IsTotalOrder R) where
  pub below_if_less : (x y : K) (es : List (K × X)) → R x y ≡ Less → T (below_all R y es) → T (below_all R x es)
  below_if_less x y [] p h = tt
  below_if_less x y (e ∷ es) p h =
      both_of _ _ (subst (λ r. T (is_lt r)) (sym (o.trans x y e.0 p (is_less _ (both_first _ _ h)))) tt) (below_if_less x y es p (both_second _ _ h))

  pub below_if_tied : (x y : K) (es : List (K × X)) → R x y ≡ Equal → T (below_all R y es) → T (below_all R x es)
  below_if_tied x y [] p h = tt
  below_if_tied x y (e ∷ es) p h =
      both_of _ _ (subst (λ r. T (is_lt r)) (sym (o.congr x y e.0 p)) (both_first _ _ h)) (below_if_tied x y es p (both_second _ _ h))

  pub not_found : (q : K) (es : List (K × X)) → T (below_all R q es) → find R q es ≡ None
  not_found q [] h = refl
  not_found q (e ∷ es) h = ap (λ r. cond (is_eq r) (Some e.1) (find R q es)) (is_less _ (both_first _ _ h)) ∙ not_found q es (both_second _ _ h)

  -- the first entry's value, if its key is this one
  abbrev pub first_if : K → List (K × X) → Option X
  first_if q [] = None
  first_if q (e ∷ es) = cond (eq_by_cmp R q e.0) (Some e.1) None

  -- the entry is found where the search ends
  pub find_there : (q : K) (es : List (K × X)) (i : ℕ) → T (is_sorted R es) → AllWithin (λ e. R e.0 q ≡ Less) es 0 i
      → AllWithin (λ e. R e.0 q ≢ Less) es i (length es) → find R q es ≡ first_if q (drop i es)
  find_there q [] zero s before behind = refl
  find_there q [] (suc i) s before behind = refl
  find_there q (e ∷ es) zero s before behind =
      elim (R q e.0) as (λ r. R q e.0 ≡ r → cond (is_eq r) (Some e.1) (find R q es) ≡ cond (is_eq r) (Some e.1) None) [
        | Less ↦ λ p. not_found q es (below_if_less q e.0 es p (both_first _ _ s))
        | Equal ↦ λ p. refl
        | Greater ↦ λ p. absurd (behind 0 e (omega arith) (omega arith) (o.antisymm e.0 q ∙ ap ordering_reverse p))
      ] refl
  find_there q (e ∷ es) (suc i) s before behind =
      ap (λ r. cond (is_eq r) (Some e.1) (find R q es)) (not_behind o e.0 q (before 0 e (omega arith) (omega arith)))
      ∙ find_there q es i (both_second _ _ s) (λ k d a b. before (suc k) d (omega arith) (omega arith))
      (λ k d a b. behind (suc k) d (omega arith) (omega arith))

  -- an entry whose key is new is put there
  pub put_there : (q : K) (v : X) (es : List (K × X)) (i : ℕ) → i ≤ length es → T (is_sorted R es) → AllWithin (λ e. R e.0 q ≡ Less) es 0 i
      → AllWithin (λ e. R e.0 q ≢ Less) es i (length es) → find R q es ≡ None → put R q v es ≡ take i es ++ (q, v) ∷ drop i es
  put_there q v [] zero le s before behind none = refl
  put_there q v [] (suc i) le s before behind none = absurd (omega arith)
  put_there q v (e ∷ es) zero le s before behind none =
      elim (R q e.0) as (λ r. R q e.0 ≡ r → cond (is_eq r) (Some e.1) (find R q es) ≡ None
      → by_order r ((q, v) ∷ e ∷ es) ((e.0, v) ∷ es) (e ∷ put R q v es) ≡ (q, v) ∷ e ∷ es) [
        | Less ↦ λ p n. refl
        | Equal ↦ λ p n. cc
        | Greater ↦ λ p n. absurd (behind 0 e (omega arith) (omega arith) (o.antisymm e.0 q ∙ ap ordering_reverse p))
      ] refl none
  put_there q v (e ∷ es) (suc i) le s before behind none =
      let later : R q e.0 ≡ Greater = not_behind o e.0 q (before 0 e (omega arith) (omega arith)) in
      let none' : find R q es ≡ None = sym (ap (λ r. cond (is_eq r) (Some e.1) (find R q es)) later) ∙ none in
      ap (λ r. by_order r ((q, v) ∷ e ∷ es) ((e.0, v) ∷ es) (e ∷ put R q v es)) later
      ∙ ap (λ l. e ∷ l)
      (put_there q v es i (omega arith) (both_second _ _ s) (λ k d a b. before (suc k) d (omega arith) (omega arith))
      (λ k d a b. behind (suc k) d (omega arith) (omega arith)) none')

  -- the first key is less than each behind it
  pub above_all : (e : K × X) (es : List (K × X)) (k : ℕ) (d : K × X) → T (is_sorted R (e ∷ es)) → k < length es → R e.0 (get_or es k d).0 ≡ Less
  above_all e es k d s lt = above e.0 es k d (both_first _ _ s) lt
    where
      above : (x : K) (fs : List (K × X)) (k : ℕ) (d : K × X) → T (below_all R x fs) → k < length fs → R x (get_or fs k d).0 ≡ Less
      above x [] k d h lt = absurd (omega arith)
      above x (f ∷ fs) zero d h lt = is_less _ (both_first _ _ h)
      above x (f ∷ fs) (suc k) d h lt = above x fs k d (both_second _ _ h) (omega arith)

  -- keys that are less than q come first
  pub sorted_less : (q : K) (es : List (K × X)) (i j : ℕ) (d : K × X) → T (is_sorted R es) → i ≤ j → j < length es → R (get_or es j d).0 q ≡ Less
      → R (get_or es i d).0 q ≡ Less
  sorted_less q [] i j d s le lt p = absurd (omega arith)
  sorted_less q (e ∷ es) zero zero d s le lt p = p
  sorted_less q (e ∷ es) zero (suc j) d s le lt p =
      o.trans e.0 (get_or es j d).0 q (above_all e es j d s (omega arith)) p
  sorted_less q (e ∷ es) (suc i) zero d s le lt p = absurd (omega arith)
  sorted_less q (e ∷ es) (suc i) (suc j) d s le lt p = sorted_less q es i j d (both_second _ _ s) (omega arith) (omega arith) p
