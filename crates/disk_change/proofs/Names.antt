-- The rows of a net ascend by their names, so a search finds the row of a name.
use Rattle.std.proofs.Common.{◌≡◌, ℕ, zero, suc, ◌<◌, Bool, true, false, List, [], ◌∷◌, length, get_or, map, Some, None, inl, inr, refl, sym, ap, ◌∙◌, arith, bytes_eq}
use Rattle.std.specs.Ordering.{is_lt, ordering_reverse}
use Rattle.std.specs.declared.cmp.Ordering.{Ordering}
use Rattle.std.specs.declared.cmp.Ordering.TheVariants.{Less, Equal, Greater}
use Rattle.std.specs.List.Sorted.{IsPartitionPoint, IsPartitionedBy, IsStrictlySortedBy}
use Rattle.std.proofs.lemmas.Bool.{cond-true, cond-false, cases_lt, cases_Bool}
use Rattle.std.proofs.lemmas.Cmp.{nat_list_cmp_total}
use Rattle.std.proofs.lemmas.List.{get_or-map, length-map}
use Rattle.std.proofs.lemmas.Map.Keys.{Less-from_sorted}
use Rattle.sfs_base.proofs.BasicTruth.{not_both_of}
use Rattle.sfs_base.proofs.BasicLists.{bytes_same, same_bytes}
use Rattle.tree_laws.specs.Order.{name_cmp}
use Rattle.tree_laws.proofs.RowsByName.{less_true}
use Rattle.absorb.specs.Net.{net_name}
use Rattle.absorb.specs.declared.nets.NetRow.{NetRow}
use Rattle.image_laws.specs.Commit.{row_in_net}
use Rattle.disk_change.specs.Lists.{NamesAscend}

-- a name is less than itself by no order
not_less_itself : (name : List ℕ) → is_lt (name_cmp name name) ≡ false
not_less_itself name = by_order (name_cmp name name) (nat_list_cmp_total.antisymm name name)
  where
    by_order : (o : Ordering) → o ≡ ordering_reverse o → is_lt o ≡ false
    by_order Less e = absurd (less_is_not e)
      where
        less_is_not : Less ≡ Greater → ⊥
        less_is_not e = cc
    by_order Equal e = refl
    by_order Greater e = refl

-- of two names one of which is less they are not one
unlike_if_less : (name other : List ℕ) → is_lt (name_cmp other name) ≡ true → bytes_eq name other ≡ false
unlike_if_less name other less = elim (cases_Bool (bytes_eq name other)) [
  | inr apart ↦ apart
  | inl same ↦
      absurd (not_both_of (is_lt (name_cmp other name)) less (ap (λ n. is_lt (name_cmp n name)) (sym (bytes_same name other same)) ∙ not_less_itself name))
]

pub other_way : (name other : List ℕ) → bytes_eq other name ≡ true → bytes_eq name other ≡ true
other_way name other e = ap (bytes_eq name) (bytes_same other name e) ∙ same_bytes name

pub other_way_no : (name other : List ℕ) → bytes_eq other name ≡ false → bytes_eq name other ≡ false
other_way_no name other e = elim (cases_Bool (bytes_eq name other)) [
  | inr apart ↦ apart
  | inl same ↦ absurd (not_both_of (bytes_eq other name) (other_way other name same) e)
]

module _ (name : List ℕ) where
  abbrev is_before : NetRow → Bool
  is_before row = is_lt (name_cmp row.name name)

  -- names before a name stand before all others
  pub parted : (net : List NetRow) → NamesAscend net → IsPartitionedBy is_before net
  parted net up i j d le within less = elim (cases_lt i j) [
    | inl lt ↦ ap is_lt (nat_list_cmp_total.trans (get_or net i d).name (get_or net j d).name name (up i j d lt within) (less_true _ less))
    | inr ge ↦ let same : i ≡ j = omega arith in ap (λ k. is_before (get_or net k d)) same ∙ less
  ]

  -- the row of a name is found at its place
  pub row_here : (net : List NetRow) → NamesAscend net → (i : ℕ) (d : NetRow) → i < length net → bytes_eq name (get_or net i d).name ≡ true
      → Some (get_or net i d) ≡ row_in_net name net
  row_here [] up i d within e = absurd (omega arith)
  row_here (row ∷ rest) up zero d within e = sym (cond-true (bytes_eq name row.name) _ _ e)
  row_here (row ∷ rest) up (suc i) d within e =
      let less : name_cmp row.name (get_or rest i d).name ≡ Less = up 0 (suc i) d (omega arith) (omega arith) in
      row_here rest (λ a b x lt in_. up (suc a) (suc b) x (omega arith) (omega arith)) i d (omega arith) e
      ∙ sym
      (cond-false (bytes_eq name row.name) _ _
      (unlike_if_less name row.name (ap (λ n. is_lt (name_cmp row.name n)) (bytes_same name (get_or rest i d).name e) ∙ ap is_lt less)))

  -- and a name that no row has is not found
  no_row : (net : List NetRow) → ((k : ℕ) (d : NetRow) → k < length net → bytes_eq name (get_or net k d).name ≡ false) → None ≡ row_in_net name net
  no_row [] none = refl
  no_row (row ∷ rest) none = no_row rest (λ k d within. none (suc k) d (omega arith)) ∙ sym (cond-false (bytes_eq name row.name) _ _ (none 0 row (omega arith)))

  -- nor is one whose place has another row, or none
  pub row_missing : (net : List NetRow) → NamesAscend net → (at : ℕ) → IsPartitionPoint (λ row. is_before row ≡ true) (λ row. is_before row ≡ false) net at
      → ((d : NetRow) → at < length net → bytes_eq name (get_or net at d).name ≡ false) → None ≡ row_in_net name net
  row_missing net up at point other = no_row net apart
    where
      apart : (k : ℕ) (d : NetRow) → k < length net → bytes_eq name (get_or net k d).name ≡ false
      apart k d within = elim (cases_lt k at) [
        | inl lt ↦ unlike_if_less name (get_or net k d).name (point.0 k d (omega arith) lt)
        | inr ge ↦ elim (cases_lt at k) [
          | inr le ↦ let same : k ≡ at = omega arith in ap (λ j. bytes_eq name (get_or net j d).name) same ∙ other d (omega arith)
          | inl more ↦ elim (cases_Bool (bytes_eq name (get_or net k d).name)) [
            | inr no_ ↦ no_
            | inl same ↦ absurd (not_both_of (is_before (get_or net at d))
                (ap (λ n. is_lt (name_cmp (get_or net at d).name n)) (bytes_same name (get_or net k d).name same) ∙ ap is_lt (up at k d more within))
                (point.1 at d (omega arith) (omega arith)))
          ]
        ]
      ]

-- names that are sorted ascend
pub net_ascends : (net : List NetRow) → IsStrictlySortedBy name_cmp (map net_name net) → NamesAscend net
net_ascends net sorted i j d lt within =
    let long = length-map net net_name in
    let first = get_or-map net_name net i d (net_name d) (omega arith) in
    let later = get_or-map net_name net j d (net_name d) within in
    let less = Less-from_sorted name_cmp (map net_name net) i j (net_name d) sorted lt (omega (arith, within, long)) in
    ap (λ name. name_cmp name (net_name (get_or net j d))) (sym first) ∙ ap (name_cmp (get_or (map net_name net) i (net_name d))) (sym later) ∙ less
