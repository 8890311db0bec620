-- Rows that are put and taken back.
use Rattle.std.proofs.Common.{◌≡◌, ℕ, Bool, true, false, cond, List, Option, Some, None, IsSome, refl, sym, ap, subst, ◌∙◌}
use Rattle.std.specs.Prelude.{is_some}
use Rattle.std.specs.Ordering.{eq_by_cmp, is_eq}
use Rattle.std.specs.Cmp.{tied_itself}
use Rattle.std.specs.Cmp.Lexicographic.{nat_list_cmp_total}
use Rattle.std.specs.FinMap.{FinMap, get, insert, remove, get-insert, get-remove, same_map}
use Rattle.sfs_base.specs.declared.numbers.NodeId.{NodeId}
use Rattle.tree_laws.specs.Order.{name_cmp}
use Rattle.tree_laws.specs.NameRow.{number_of}
use Rattle.tree_laws.proofs.Joined.{name_cmp-IsAntisymmetric}
use Rattle.mem_calls.proofs.RowsGo.{same_name}
use Rattle.mem_rename.specs.Moving.{row_again}

module _ (rows : FinMap name_cmp ℕ) (n : List ℕ) where
  -- a row that is not there can't go
  pub absent : get rows n ≡ None → remove rows n ≡ rows
  absent none = same_map nat_list_cmp_total name_cmp-IsAntisymmetric (remove rows n) rows
      (λ q. get-remove nat_list_cmp_total rows n q ∙ by q (eq_by_cmp name_cmp q n) refl)
    where
      by : (q : List ℕ) (same : Bool) → eq_by_cmp name_cmp q n ≡ same → cond same None (get rows q) ≡ get rows q
      by q false is = refl
      by q true is = sym none ∙ ap (get rows) (sym (same_name q n is))

  pub absent_seen : (row : Option NodeId) → number_of row ≡ get rows n → is_some row ≡ false → rows ≡ remove rows n
  absent_seen None told is = sym (absent (sym told))
  absent_seen (Some child) told is = absurd (Rattle.sfs_base.proofs.BasicTruth.true_not_false is)

  module _ (child : ℕ) where
    pub put_is_there : IsSome (get (insert rows n child) n)
    put_is_there = subst IsSome (sym (get-insert nat_list_cmp_total rows n child n)) (by (eq_by_cmp name_cmp n n) (ap is_eq (tied_itself nat_list_cmp_total n)))
      where
        by : (same : Bool) → same ≡ true → IsSome (cond same (Some child) (get rows n))
        by true is = refl
        by false is = absurd (Rattle.sfs_base.proofs.BasicTruth.false_not_true is)

    -- a row that was put goes back to what it was
    pub undone : (there : Option NodeId) → number_of there ≡ get rows n → row_again n there (insert rows n child) ≡ rows
    undone None told = same_map nat_list_cmp_total name_cmp-IsAntisymmetric (remove (insert rows n child) n) rows
        (λ q. get-remove nat_list_cmp_total (insert rows n child) n q
        ∙ (ap (cond (eq_by_cmp name_cmp q n) None) (get-insert nat_list_cmp_total rows n child q) ∙ by q (eq_by_cmp name_cmp q n) refl))
      where
        by : (q : List ℕ) (same : Bool) → eq_by_cmp name_cmp q n ≡ same → cond same None (cond same (Some child) (get rows q)) ≡ get rows q
        by q false is = refl
        by q true is = told ∙ ap (get rows) (sym (same_name q n is))
    undone (Some old) told = same_map nat_list_cmp_total name_cmp-IsAntisymmetric (insert (insert rows n child) n old.0) rows
        (λ q. get-insert nat_list_cmp_total (insert rows n child) n old.0 q
        ∙ (ap (cond (eq_by_cmp name_cmp q n) (Some old.0)) (get-insert nat_list_cmp_total rows n child q) ∙ by q (eq_by_cmp name_cmp q n) refl))
      where
        by : (q : List ℕ) (same : Bool) → eq_by_cmp name_cmp q n ≡ same → cond same (Some old.0) (cond same (Some child) (get rows q)) ≡ get rows q
        by q false is = refl
        by q true is = told ∙ ap (get rows) (sym (same_name q n is))

-- a row may come before another one goes
pub come_then_go : (rows : FinMap name_cmp ℕ) (n m : List ℕ) (child : ℕ) → (m ≡ n → ⊥) → remove (insert rows m child) n ≡ insert (remove rows n) m child
come_then_go rows n m child apart = same_map nat_list_cmp_total name_cmp-IsAntisymmetric (remove (insert rows m child) n) (insert (remove rows n) m child)
    (λ q. get-remove nat_list_cmp_total (insert rows m child) n q ∙ (ap (cond (eq_by_cmp name_cmp q n) None) (get-insert nat_list_cmp_total rows m child q)
    ∙ (by q (eq_by_cmp name_cmp q n) (eq_by_cmp name_cmp q m) refl refl
    ∙ sym (get-insert nat_list_cmp_total (remove rows n) m child q
    ∙ ap (cond (eq_by_cmp name_cmp q m) (Some child)) (get-remove nat_list_cmp_total rows n q)))))
  where
    by : (q : List ℕ) (a b : Bool) → eq_by_cmp name_cmp q n ≡ a → eq_by_cmp name_cmp q m ≡ b
        → cond a None (cond b (Some child) (get rows q)) ≡ cond b (Some child) (cond a None (get rows q))
    by q true true is_n is_m = absurd (apart (sym (same_name q m is_m) ∙ same_name q n is_n))
    by q true false is_n is_m = refl
    by q false true is_n is_m = refl
    by q false false is_n is_m = refl
