-- Lists that ascend by a number of their items: a search finds the item with a number.
use Rattle.std.proofs.Common.{◌≡◌, ◌≢◌, ℕ, zero, suc, ◌<◌, ◌≤◌, List, [], ◌∷◌, length, get_or, Some, None, inl, inr, refl, sym, ap, ◌∙◌, arith, nat_eq}
use Rattle.std.specs.Ordering.{nat_cmp, ordering_index}
use Rattle.std.specs.declared.cmp.Ordering.TheVariants.{Less, Equal, Greater}
use Rattle.std.specs.List.{HoldsAt}
use Rattle.std.specs.List.Sorted.{IsPartitionPoint, IsNonDecreasingBy}
use Rattle.std.proofs.lemmas.Bool.{cond-true, cond-false, cases_lt}
use Rattle.std.proofs.lemmas.Cmp.{ranked}
use Rattle.sfs_base.proofs.BasicNumbers.{same_number, not_same}
use Rattle.keyed_list.specs.Ascending.{AscendBy, item_with}
use borrow.Author.Tests.{tests}

-- a search compares greater numbers no lower
higher : (n a b : ℕ) → a ≤ b → ordering_index (nat_cmp a n) ≤ ordering_index (nat_cmp b n)
higher n a b le = grind (arith, tests)

module _ {X : Type 0} (key : X → ℕ) where
  -- what ascends goes on ascending behind its first
  pub ascends_behind : (one : X) (rest : List X) → AscendBy key (one ∷ rest) → AscendBy key rest
  ascends_behind one rest up = λ i j d less within. up (suc i) (suc j) d (omega arith) (omega arith)

  -- and the first is below all of them
  pub first_is_least : (one : X) (rest : List X) → AscendBy key (one ∷ rest) → (k : ℕ) (d : X) → k < length rest → key one < key (get_or rest k d)
  first_is_least one rest up k d within = up 0 (suc k) d (omega arith) (omega arith)

  -- of each item's number it is found
  pub item_at : (items : List X) → AscendBy key items → (i : ℕ) (d : X) → i < length items
      → item_with key (key (get_or items i d)) items ≡ Some (get_or items i d)
  item_at [] up i d within = absurd (omega arith)
  item_at (one ∷ rest) up zero d within = cond-true (nat_eq (key one) (key one)) _ _ (same_number (key one))
  item_at (one ∷ rest) up (suc i) d within =
      let least = first_is_least one rest up i d (omega arith) in
      cond-false (nat_eq (key one) (key (get_or rest i d))) _ _ (not_same (key one) (key (get_or rest i d)) (omega arith))
      ∙ item_at rest (ascends_behind one rest up) i d (omega arith)

  -- and of no other number anything
  pub no_item : (items : List X) (n : ℕ) → ((k : ℕ) (d : X) → k < length items → key (get_or items k d) ≢ n) → item_with key n items ≡ None
  no_item [] n none = refl
  no_item (one ∷ rest) n none =
      cond-false (nat_eq (key one) n) _ _ (not_same (key one) n (none 0 one (omega arith))) ∙ no_item rest n (λ k d within. none (suc k) d (omega arith))

  module _ (items : List X) (up : AscendBy key items) (n : ℕ) where
    numbers_rise : (i j : ℕ) (d : X) → i ≤ j → j < length items → key (get_or items i d) ≤ key (get_or items j d)
    numbers_rise i j d le within = grind (arith, up i j d, λ (same : i ≡ j). ap (λ k. key (get_or items k d)) same)

    answers_rise : IsNonDecreasingBy (λ one. ordering_index (nat_cmp (key one) n)) items
    answers_rise i j d le within = let rise = numbers_rise i j d le within in higher n _ _ rise

    -- a search that ends at a place has found the item
    pub search_finds : (i : ℕ) (d : X) → i < length items → HoldsAt (λ one. nat_cmp (key one) n ≡ Equal) items i
        → Some (get_or items i d) ≡ item_with key n items
    search_finds i d within equal =
        let same : key (get_or items i d) ≡ n = ranked _ n _ (sym (equal d)) in
        sym (item_at items up i d within) ∙ ap (λ m. item_with key m items) same

    -- and one that ends at a gap has shown that there is none
    pub search_misses : (i : ℕ) → i ≤ length items → (IsNonDecreasingBy (λ one. ordering_index (nat_cmp (key one) n)) items
        → IsPartitionPoint (λ one. nat_cmp (key one) n ≡ Less) (λ one. nat_cmp (key one) n ≡ Greater) items i) → None ≡ item_with key n items
    search_misses i within parted = sym (no_item items n unlike)
      where
        unlike : (k : ℕ) (d : X) → k < length items → key (get_or items k d) ≢ n
        unlike k d below same = elim (cases_lt k i) [
          | inl lt ↦ let less : key (get_or items k d) < n = ranked _ n _ (sym ((parted answers_rise).0 k d (omega arith) lt)) in omega arith
          | inr ge ↦ let more : n < key (get_or items k d) = ranked _ n _ (sym ((parted answers_rise).1 k d ge below)) in omega arith
        ]
