-- Rows that come and go, in either order.
use Rattle.std.proofs.Common.{◌≡◌, ◌≢◌, ℕ, Bool, true, false, cond, Option, Some, None, refl, sym, ap, ◌∙◌}
use Rattle.std.specs.Ordering.{eq_by_cmp}
use Rattle.std.specs.FinMap.{FinMap, get, insert, remove, get-insert, get-remove}
use Rattle.tree_laws.specs.Order.{Key, key_cmp}
use Rattle.tree_laws.proofs.Joined.{key_cmp_total, key_cmp-IsAntisymmetric, is_equal, other_key}
use Rattle.tree_laws.proofs.Counting.{same_rows}

-- a row that comes and another one that goes, in either order
pub swapped : (rows : FinMap key_cmp ℕ) (k to : Key) (x : ℕ) → k ≢ to → remove (insert rows to x) k ≡ insert (remove rows k) to x
swapped rows k to x differ =
    same_rows _ _ (λ q.
    get-remove key_cmp_total (insert rows to x) k q
    ∙ ap (cond (eq_by_cmp key_cmp q k) None) (get-insert key_cmp_total rows to x q)
    ∙ elim (eq_by_cmp key_cmp q k) as (λ b. eq_by_cmp key_cmp q k ≡ b
    → cond b None (cond (eq_by_cmp key_cmp q to) (Some x) (get rows q)) ≡ cond (eq_by_cmp key_cmp q to) (Some x) (cond b None (get rows q))) [
      | true ↦ λ t. ap (λ b. cond b (Some x) None) (sym (ap (λ p. eq_by_cmp key_cmp p to) (key_cmp-IsAntisymmetric q k (is_equal _ t)) ∙ other_key k to differ))
      | false ↦ λ t. refl
    ] refl
    ∙ sym (get-insert key_cmp_total (remove rows k) to x q ∙ ap (cond (eq_by_cmp key_cmp q to) (Some x)) (get-remove key_cmp_total rows k q)))

-- a row that goes before it comes again
pub replaced : (rows : FinMap key_cmp ℕ) (k to : Key) (x : ℕ) → insert (remove (remove rows to) k) to x ≡ insert (remove rows k) to x
replaced rows k to x =
    same_rows _ _ (λ q.
    get-insert key_cmp_total (remove (remove rows to) k) to x q
    ∙ ap (cond (eq_by_cmp key_cmp q to) (Some x))
    (get-remove key_cmp_total (remove rows to) k q ∙ ap (cond (eq_by_cmp key_cmp q k) None) (get-remove key_cmp_total rows to q))
    ∙ either_way (eq_by_cmp key_cmp q to) (eq_by_cmp key_cmp q k) (get rows q)
    ∙ sym (get-insert key_cmp_total (remove rows k) to x q ∙ ap (cond (eq_by_cmp key_cmp q to) (Some x)) (get-remove key_cmp_total rows k q)))
  where
    either_way : (a b : Bool) (o : Option ℕ) → cond a (Some x) (cond b None (cond a None o)) ≡ cond a (Some x) (cond b None o)
    either_way true b o = refl
    either_way false b o = refl
