-- A row that was put and is taken back.
use Rattle.std.proofs.Common.{◌≡◌, ℕ, Bool, true, false, cond, List, Some, None, IsSome, refl, sym, ap, subst, ◌∙◌}
use Rattle.std.specs.Ordering.{eq_by_cmp, is_eq}
use Rattle.std.specs.Cmp.{tied_itself}
use Rattle.std.specs.Cmp.Lexicographic.{nat_list_cmp_total}
use Rattle.std.specs.FinMap.{FinMap, get, insert, remove, get-insert, get-remove, same_map}
use Rattle.tree_laws.specs.Order.{name_cmp}
use Rattle.tree_laws.proofs.Joined.{name_cmp-IsAntisymmetric}
use Rattle.mem_calls.proofs.RowsGo.{same_name}

module _ (rows : FinMap name_cmp ℕ) (name : List ℕ) (child : ℕ) where
  pub row_there : IsSome (get (insert rows name child) name)
  row_there = subst IsSome (sym (get-insert nat_list_cmp_total rows name child name))
      (by (eq_by_cmp name_cmp name name) (ap is_eq (tied_itself nat_list_cmp_total name)))
    where
      by : (same : Bool) → same ≡ true → IsSome (cond same (Some child) (get rows name))
      by true is = refl
      by false is = absurd (cc (is))

  pub undone : get rows name ≡ None → remove (insert rows name child) name ≡ rows
  undone none = same_map nat_list_cmp_total name_cmp-IsAntisymmetric (remove (insert rows name child) name) rows
      (λ n. get-remove nat_list_cmp_total (insert rows name child) name n
      ∙ (ap (cond (eq_by_cmp name_cmp n name) None) (get-insert nat_list_cmp_total rows name child n) ∙ by n (eq_by_cmp name_cmp n name) refl))
    where
      by : (n : List ℕ) (same : Bool) → eq_by_cmp name_cmp n name ≡ same → cond same None (cond same (Some child) (get rows n)) ≡ get rows n
      by n false is = refl
      by n true is = sym none ∙ ap (get rows) (sym (same_name n name is))
