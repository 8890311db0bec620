-- A row taken out of a list of entries, or given another value, where a search ended.
use Rattle.std.proofs.Common.{◌≡◌, ℕ, zero, suc, ◌<◌, Bool, true, false, cond, T, List, [], ◌∷◌, ◌++◌, length, take, drop, set, get_or, Some, None, IsSome, refl, sym, ap, subst, ◌∙◌, arith}
use Rattle.std.specs.List.{AllWithin}
use Rattle.std.specs.declared.cmp.Ordering.{Ordering}
use Rattle.std.specs.declared.cmp.Ordering.TheVariants.{Less}
use Rattle.std.specs.Ordering.{is_eq, is_lt, eq_by_cmp}
use Rattle.std.specs.Cmp.{IsTotalOrder}
use Rattle.std.specs.FinMap.{find, is_sorted, IsAntisymmetric}
use Rattle.std.specs.FinMap.Entries.{below_all}
use Rattle.tree_laws.proofs.Joined.{is_equal}
use Rattle.tree_laws.proofs.Search.{not_found, first_if}
use Rattle.sfs_base.proofs.BasicTruth.{both_of}
use Rattle.sfs_base.proofs.BasicTruth.{both_second}
use Rattle.sfs_base.proofs.BasicTruth.{both_first}

less_not_equal : (o : Ordering) → o ≡ Less → is_eq o ≡ false
less_not_equal o e = ap is_eq e

module _ {K X : Type 0} {R : K → K → Ordering} (o : IsTotalOrder R) (same : IsAntisymmetric R) where
  -- what the entry at a place has as its key
  abbrev pub key_at : List (K × X) → ℕ → K → Type 0
  key_at es i k = (d : K × X) → i < length es → (get_or es i d).0 ≡ k

  below_removed : (x : K) (es : List (K × X)) (i : ℕ) → T (below_all R x es) → T (below_all R x (take i es ++ drop (suc i) es))
  below_removed x [] zero h = tt
  below_removed x [] (suc i) h = tt
  below_removed x (e ∷ es) zero h = both_second _ _ h
  below_removed x (e ∷ es) (suc i) h = both_of _ _ (both_first _ _ h) (below_removed x es i (both_second _ _ h))

  -- entries stay in order where one is taken out
  pub sorted_removed : (es : List (K × X)) (i : ℕ) → T (is_sorted R es) → T (is_sorted R (take i es ++ drop (suc i) es))
  sorted_removed [] zero h = tt
  sorted_removed [] (suc i) h = tt
  sorted_removed (e ∷ es) zero h = both_second _ _ h
  sorted_removed (e ∷ es) (suc i) h = both_of _ _ (below_removed e.0 es i (both_first _ _ h)) (sorted_removed es i (both_second _ _ h))

  other : (q k : K) (e : K × X) → R e.0 k ≡ Less → eq_by_cmp R q e.0 ≡ true → eq_by_cmp R q k ≡ false
  other q k e less t = ap (λ x. eq_by_cmp R x k) (same q e.0 (is_equal _ t)) ∙ less_not_equal _ less

  -- the entry of a key is not found any more, and every other is
  pub find_removed : (q k : K) (es : List (K × X)) (i : ℕ) → i < length es → T (is_sorted R es) → AllWithin (λ e. R e.0 k ≡ Less) es 0 i → key_at es i k
      → find R q (take i es ++ drop (suc i) es) ≡ cond (eq_by_cmp R q k) None (find R q es)
  find_removed q k [] i lt s before at = absurd (omega arith)
  find_removed q k (e ∷ es) zero lt s before at =
      elim (eq_by_cmp R q e.0) as (λ b. eq_by_cmp R q e.0 ≡ b → find R q es ≡ cond b None (cond b (Some e.1) (find R q es))) [
        | true ↦ λ t. not_found o q es (subst (λ x. T (below_all R x es)) (sym (same q e.0 (is_equal _ t))) (both_first _ _ s))
        | false ↦ λ t. refl
      ] refl
      ∙ ap (λ x. cond (eq_by_cmp R q x) None (cond (eq_by_cmp R q e.0) (Some e.1) (find R q es))) (at e (omega arith))
  find_removed q k (e ∷ es) (suc i) lt s before at =
      ap (λ r. cond (eq_by_cmp R q e.0) (Some e.1) r)
      (find_removed q k es i (omega arith) (both_second _ _ s) (λ j d a b. before (suc j) d (omega arith) (omega arith)) (λ d a. at d (omega arith)))
      ∙ elim (eq_by_cmp R q e.0) as (λ b. eq_by_cmp R q e.0 ≡ b
      → cond b (Some e.1) (cond (eq_by_cmp R q k) None (find R q es)) ≡ cond (eq_by_cmp R q k) None (cond b (Some e.1) (find R q es))) [
        | true ↦ λ t. ap (λ b. cond b None (Some e.1)) (sym (other q k e (before 0 e (omega arith) (omega arith)) t))
        | false ↦ λ t. refl
      ] refl

  below_replaced : (x k : K) (v : X) (es : List (K × X)) (i : ℕ) → key_at es i k → T (below_all R x es) → T (below_all R x (set es i (k, v)))
  below_replaced x k v [] i at h = tt
  below_replaced x k v (e ∷ es) zero at h = both_of _ _ (subst (λ y. T (is_lt (R x y))) (at e (omega arith)) (both_first _ _ h)) (both_second _ _ h)
  below_replaced x k v (e ∷ es) (suc i) at h = both_of _ _ (both_first _ _ h) (below_replaced x k v es i (λ d a. at d (omega arith)) (both_second _ _ h))

  -- entries stay in order where one gets another value
  pub sorted_replaced : (k : K) (v : X) (es : List (K × X)) (i : ℕ) → key_at es i k → T (is_sorted R es) → T (is_sorted R (set es i (k, v)))
  sorted_replaced k v [] i at h = tt
  sorted_replaced k v (e ∷ es) zero at h = both_of _ _ (subst (λ y. T (below_all R y es)) (at e (omega arith)) (both_first _ _ h)) (both_second _ _ h)
  sorted_replaced k v (e ∷ es) (suc i) at h =
      both_of _ _ (below_replaced e.0 k v es i (λ d a. at d (omega arith)) (both_first _ _ h))
      (sorted_replaced k v es i (λ d a. at d (omega arith)) (both_second _ _ h))

  -- the new value is found under the key, and under every other what was
  pub find_replaced : (q k : K) (v : X) (es : List (K × X)) (i : ℕ) → i < length es → AllWithin (λ e. R e.0 k ≡ Less) es 0 i → key_at es i k
      → find R q (set es i (k, v)) ≡ cond (eq_by_cmp R q k) (Some v) (find R q es)
  find_replaced q k v [] i lt before at = absurd (omega arith)
  find_replaced q k v (e ∷ es) zero lt before at =
      ap (λ x. cond (eq_by_cmp R q x) (Some v) (find R q es)) (sym (at e (omega arith)))
      ∙ elim (eq_by_cmp R q e.0) as (λ b. cond b (Some v) (find R q es) ≡ cond b (Some v) (cond b (Some e.1) (find R q es))) [ true ↦ refl | false ↦ refl ]
      ∙ ap (λ x. cond (eq_by_cmp R q x) (Some v) (cond (eq_by_cmp R q e.0) (Some e.1) (find R q es))) (at e (omega arith))
  find_replaced q k v (e ∷ es) (suc i) lt before at =
      ap (λ r. cond (eq_by_cmp R q e.0) (Some e.1) r)
      (find_replaced q k v es i (omega arith) (λ j d a b. before (suc j) d (omega arith) (omega arith)) (λ d a. at d (omega arith)))
      ∙ elim (eq_by_cmp R q e.0) as (λ b. eq_by_cmp R q e.0 ≡ b
      → cond b (Some e.1) (cond (eq_by_cmp R q k) (Some v) (find R q es)) ≡ cond (eq_by_cmp R q k) (Some v) (cond b (Some e.1) (find R q es))) [
        | true ↦ λ t. ap (λ b. cond b (Some v) (Some e.1)) (sym (other q k e (before 0 e (omega arith) (omega arith)) t))
        | false ↦ λ t. refl
      ] refl

  -- where a key is found, the search ended at it
  pub found_at : (q : K) (es : List (K × X)) (i : ℕ) → IsSome (first_if o q (drop i es)) → (i < length es) × key_at es i q
  found_at q [] zero some = absurd (cc some)
  found_at q [] (suc i) some = absurd (cc some)
  found_at q (e ∷ es) zero some = (omega arith, λ d a. sym (same q e.0 (is_equal _ (was (eq_by_cmp R q e.0) some))))
    where
      was : (b : Bool) → IsSome (cond b (Some e.1) None) → b ≡ true
      was true some = refl
      was false some = absurd (cc some)
  found_at q (e ∷ es) (suc i) some = let rest = found_at q es i some in (omega (arith, rest.0), λ d a. rest.1 d rest.0)
