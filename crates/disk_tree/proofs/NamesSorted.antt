-- Rows in another order, and rows in the order of their names.
use Rattle.std.proofs.Common.{◌≡◌, ◌≢◌, ℕ, ◌+◌, ◌-◌, ◌<◌, ◌≤◌, Bool, true, false, List, length, count_by, nat_lt, All, refl, sym, ap, subst, ◌∙◌, arith, inl, inr}
use Rattle.std.proofs.Math.Path.{fun_ext}
use Rattle.std.specs.Cmp.Lexicographic.{nat_list_cmp_total}
use Rattle.std.specs.List.{list_any}
use Rattle.std.specs.List.Sorted.{IsPermutation}
use Rattle.std.specs.Ordering.{is_lt, ordering_reverse}
use Rattle.std.specs.declared.cmp.Ordering.{Ordering}
use Rattle.std.specs.declared.cmp.Ordering.TheVariants.{Less, Equal, Greater}
use Rattle.std.proofs.lemmas.Bool.{cases_Bool}
use Rattle.std.proofs.lemmas.List.Folds.{list_any_at, list_any_none}
use Rattle.std.proofs.lemmas.List.MinMax.{ranks_by}
use Rattle.std.proofs.lemmas.List.Sorted.{All-permutation, IsPermutation-sym, sorted_far, sum_by-IsPermutation}
use Rattle.sfs_base.proofs.BasicTruth.{not_both_of}
use Rattle.sfs_image.specs.Slot.{Row}
use Rattle.tree_laws.specs.Order.{name_cmp}
use Rattle.tree_laws.proofs.Joined.{name_cmp-IsAntisymmetric}
use Rattle.disk_tree.specs.ByName.{comes_before, AscendByName}
use Rattle.disk_tree.specs.Reached.{row_at}
use Rattle.disk_tree.specs.Rows.{NO_ROW, HaveOwnNames}
use Rattle.disk_tree.specs.Tests.{rows_named, has_twice}
use Rattle.disk_tree.proofs.NamesTwice.{named_twice, own_names_counted}

module _ {X : Type 0} (p : X → Bool) where
  none_passes : (xs : List X) → list_any p xs ≡ false → All (λ (x : X). p x ≡ false) xs
  none_passes xs none k d within = elim (cases_Bool (p (Rattle.std.proofs.Common.get_or xs k d))) [
    | inr fails ↦ fails
    | inl passes ↦ absurd (not_both_of (list_any p xs) (list_any_at p xs k d within passes) none)
  ]

  -- whether some item passes a test hangs on no order
  any_moved : (xs ys : List X) → IsPermutation xs ys → list_any p ys ≡ list_any p xs
  any_moved xs ys moved = elim (cases_Bool (list_any p xs)) [
    | inr none ↦ list_any_none p ys (All-permutation (λ (x : X). p x ≡ false) xs ys moved (none_passes xs none)) ∙ sym none
    | inl some ↦ elim (cases_Bool (list_any p ys)) [
      | inl there ↦ there ∙ sym some
      | inr none ↦ absurd (not_both_of (list_any p xs) some
          (list_any_none p xs (All-permutation (λ (x : X). p x ≡ false) ys xs (IsPermutation-sym xs ys moved) (none_passes ys none))))
    ]
  ]

module _ (rows sorted : List Row) (moved : IsPermutation rows sorted) where
  pub named_moved : (name : List ℕ) → rows_named name sorted ≡ rows_named name rows
  named_moved name = sum_by-IsPermutation _ rows sorted moved

  pub twice_moved : has_twice sorted ≡ has_twice rows
  twice_moved =
      ap (λ (p : Row → Bool). list_any p sorted) (fun_ext (λ row. ap (nat_lt 1) (named_moved row.name)))
      ∙ any_moved (λ row. nat_lt 1 (rows_named row.name rows)) rows sorted moved

  pub own_names_moved : HaveOwnNames rows (length rows) → HaveOwnNames sorted (length sorted)
  own_names_moved own k earlier within before same =
      (let two = named_twice sorted earlier k before within same in
      let few = own_names_counted rows (row_at sorted k).name own in
      let count = named_moved (row_at sorted k).name in
      omega arith)

-- names of which neither comes before the other are one
one_name : (name other : List ℕ) → is_lt (name_cmp name other) ≡ false → is_lt (name_cmp other name) ≡ false → name ≡ other
one_name name other first second = by (name_cmp name other) (name_cmp other name) refl refl (nat_list_cmp_total.antisymm name other)
  where
    by : (o r : Ordering) → name_cmp name other ≡ o → name_cmp other name ≡ r → name_cmp name other ≡ ordering_reverse (name_cmp other name) → name ≡ other
    by Less r is back both = absurd (not_both_of (is_lt (name_cmp name other)) (ap is_lt is) first)
    by Equal r is back both = name_cmp-IsAntisymmetric name other is
    by Greater Less is back both = absurd (not_both_of (is_lt (name_cmp other name)) (ap is_lt back) second)
    by Greater Equal is back both = cc
    by Greater Greater is back both = cc

-- Of the first rows no two neighbours have one name.
abbrev pub NeighboursDiffer : List Row → ℕ → Type 0
NeighboursDiffer rows n = (k : ℕ) → k + 1 < n → (row_at rows k).name ≢ (row_at rows (k + 1)).name

module _ (rows : List Row) (ascend : AscendByName rows) where
  -- where names ascend and neighbours differ, all names do
  pub own_by_neighbours : NeighboursDiffer rows (length rows) → HaveOwnNames rows (length rows)
  own_by_neighbours differ k earlier within before same =
      (let next : k - 1 + 1 ≡ k = omega arith in
      let far =
      sorted_far comes_before (ranks_by nat_list_cmp_total (λ (row : Row). row.name)) rows ascend earlier (k - 1) NO_ROW (omega arith) (omega arith) in
      let near = ascend (k - 1) NO_ROW (omega arith) (omega arith) in
      let back : is_lt (name_cmp (row_at rows earlier).name (row_at rows (k - 1)).name) ≡ false =
      ap (λ (n : List ℕ). is_lt (name_cmp n (row_at rows (k - 1)).name)) (same ∙ ap (λ (m : ℕ). (row_at rows m).name) (sym next)) ∙ near in
      differ (k - 1) (omega arith)
      (one_name (row_at rows (k - 1)).name (row_at rows earlier).name far back ∙ same ∙ ap (λ (m : ℕ). (row_at rows m).name) (sym next)))
