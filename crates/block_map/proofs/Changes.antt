-- Lists of rewritten blocks: what is said of a block is found by a search, since they ascend.
use Rattle.std.proofs.Common.{◌≡◌, ◌≢◌, ℕ, zero, suc, ◌<◌, ◌≤◌, List, [], ◌∷◌, length, get_or, Some, None, inl, inr, refl, sym, ap, ◌∙◌, arith, nat_eq}
use Rattle.std.specs.Ordering.{nat_cmp, ordering_index}
use Rattle.std.specs.declared.cmp.Ordering.TheVariants.{Less, Equal, Greater}
use borrow.Author.Tests.{tests}
use Rattle.std.proofs.lemmas.Cmp.{ranked}
use Rattle.std.specs.List.{HoldsAt}
use Rattle.std.specs.List.Sorted.{IsPartitionPoint, IsNonDecreasingBy}
use Rattle.std.proofs.lemmas.Bool.{cond-true, cond-false, cases_lt, cases_Bool, eqb-true}
use Rattle.sfs_base.proofs.BasicNumbers.{same_number, not_same}
use Rattle.sfs_base.proofs.BasicOptions.{none_some, some_same}
use Rattle.block_map.specs.declared.changed.ChangedBlock.{ChangedBlock}
use Rattle.block_map.specs.Changed.{changed_block, change_of, IsChangeAt, AscendByBlock}
use Rattle.keyed_list.proofs.Searched.{item_at}

-- of each listed block its own is found
pub change_at : (changed : List ChangedBlock) → AscendByBlock changed → (i : ℕ) (d : ChangedBlock) → i < length changed
    → change_of changed (get_or changed i d).block ≡ Some (get_or changed i d)
change_at = item_at changed_block

module _ (changed : List ChangedBlock) (up : AscendByBlock changed) (n : ℕ) where
  -- a search that ends at a place has found the block
  pub position_found : (i : ℕ) → i < length changed → HoldsAt (λ one. nat_cmp one.block n ≡ Equal) changed i → IsChangeAt changed n i
  position_found i within equal = record { within = within; block = λ d. ranked _ n _ (sym (equal d)) }

  -- what is said of a block at its place
  pub change_at_place : (i : ℕ) (d : ChangedBlock) → IsChangeAt changed n i → change_of changed n ≡ Some (get_or changed i d)
  change_at_place i d at = ap (change_of changed) (sym (at.block d)) ∙ change_at changed up i d at.within

-- what is said of a block stands in the list
pub change_stands : (changed : List ChangedBlock) (n : ℕ) (one : ChangedBlock) → change_of changed n ≡ Some one
    → (k : ℕ) × (k < length changed) × (one.block ≡ n) × ((d : ChangedBlock) → get_or changed k d ≡ one)
change_stands [] n one e = absurd (none_some e)
change_stands (first ∷ rest) n one e = elim (cases_Bool (nat_eq first.block n)) [
  | inl here ↦
      let same : first ≡ one = some_same (sym (cond-true (nat_eq first.block n) (Some first) (change_of rest n) here) ∙ e) in
      (0, omega arith, sym (ap (λ o. o.block) same) ∙ eqb-true first.block n here, λ d. same)
  | inr other ↦
      let found = change_stands rest n one (sym (cond-false (nat_eq first.block n) (Some first) (change_of rest n) other) ∙ e) in
      (suc found.0, omega (arith, found.1), found.2, found.3)
]
