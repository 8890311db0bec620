-- What is found in ascending entries.
use Rattle.std.proofs.Common.{◌≡◌, ◌≢◌, true, false, cond, T, List, [], ◌∷◌, Some, ◌⊎◌, inl, inr, sym, ap, ◌∙◌, refl}
use Rattle.std.specs.List.{AllByRecursion}
use Rattle.std.specs.Ordering.{eq_by_cmp}
use Rattle.std.specs.Cmp.{IsTotalOrder}
use Rattle.std.specs.FinMap.{IsAntisymmetric, find, is_sorted}
use Rattle.sfs_base.proofs.BasicOptions.{none_some, some_same}
use Rattle.sfs_base.proofs.BasicTruth.{both_second, both_first}
use Rattle.tree_laws.proofs.Joined.{is_equal}
use Rattle.tree_laws.proofs.Search.{not_found, below_if_tied}

module _ {K X : Type 0} {R : K → K → Rattle.std.specs.declared.cmp.Ordering.Ordering} (o : IsTotalOrder R) (anti : IsAntisymmetric R) where
  -- what is found in entries is the first, or found behind it
  pub found_cases : (k : K) (x : X) (e : K × X) (es : List (K × X)) → find R k (e ∷ es) ≡ Some x → ((k ≡ e.0) × (x ≡ e.1)) ⊎ (find R k es ≡ Some x)
  found_cases k x e es is =
      elim (eq_by_cmp R k e.0) as (λ b. eq_by_cmp R k e.0 ≡ b → cond b (Some e.1) (find R k es) ≡ Some x → ((k ≡ e.0) × (x ≡ e.1)) ⊎ (find R k es ≡ Some x)) [
        | true ↦ λ t f. inl (anti k e.0 (is_equal _ t), sym (some_same f))
        | false ↦ λ t f. inr f
      ] refl is

  pub found_first : (e : K × X) (es : List (K × X)) → find R e.0 (e ∷ es) ≡ Some e.1
  found_first e es = ap (λ r. cond (Rattle.std.specs.Ordering.is_eq r) (Some e.1) (find R e.0 es)) (Rattle.std.specs.Cmp.tied_itself o e.0)

  -- what is found behind the first of ascending entries has another key
  pub found_apart : (k : K) (x : X) (e : K × X) (es : List (K × X)) → T (is_sorted R (e ∷ es)) → find R k es ≡ Some x → k ≢ e.0
  found_apart k x e es s is same = absurd (none_some (sym (not_found o k es (below_if_tied o k e.0 es (ap (R k) (sym same) ∙ tied k) (both_first _ _ s))) ∙ is))
    where
      tied : (k : K) → R k k ≡ Rattle.std.specs.declared.cmp.Ordering.TheVariants.Equal
      tied k = is_equal _ (ap Rattle.std.specs.Ordering.is_eq (Rattle.std.specs.Cmp.tied_itself o k))

  -- and is found in all of them
  pub found_behind : (k : K) (x : X) (e : K × X) (es : List (K × X)) → T (is_sorted R (e ∷ es)) → find R k es ≡ Some x → find R k (e ∷ es) ≡ Some x
  found_behind k x e es s is =
      elim (eq_by_cmp R k e.0) as (λ b. eq_by_cmp R k e.0 ≡ b → cond b (Some e.1) (find R k es) ≡ Some x) [
        | true ↦ λ t. absurd (found_apart k x e es s is (anti k e.0 (is_equal _ t)))
        | false ↦ λ t. is
      ] refl

  -- what holds of all that is found holds of each entry
  pub each_entry : (P : K × X → Type 0) (es : List (K × X)) → T (is_sorted R es) → ((k : K) (x : X) → find R k es ≡ Some x → P (k, x)) → AllByRecursion P es
  each_entry P [] s h = tt
  each_entry P (e ∷ es) s h = (h e.0 e.1 (found_first e es), each_entry P es (both_second _ _ s) (λ k x is. h k x (found_behind k x e es s is)))
