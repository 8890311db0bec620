-- A held cell is found by halves, since the places of held cells ascend.
use Rattle.std.proofs.Common.{◌≡◌, ℕ, zero, suc, ◌<◌, ◌≤◌, List, [], ◌∷◌, ◌++◌, length, get_or, reverse, Option, Some, None, IsSome, sym, refl, ap, ◌∙◌, subst, arith, inl, inr, ⊎_elim}
use Rattle.std.specs.Ordering.{nat_cmp, ordering_index}
use Rattle.std.specs.declared.cmp.Ordering.TheVariants.{Less, Equal, Greater}
use Rattle.std.specs.List.{HoldsAt}
use Rattle.std.specs.List.Sorted.{IsPartitionPoint, IsNonDecreasingBy}
use Rattle.std.proofs.lemmas.Cmp.{ranked}
use Rattle.std.proofs.lemmas.Bool.{cond-true, cond-false}
use Rattle.std.proofs.lemmas.List.{reverse-append}
use Rattle.sfs_base.proofs.BasicNumbers.{same_number, not_same}
use Rattle.keyed_list.specs.Ascending.{AscendBy}
use Rattle.keyed_list.proofs.Searched.{ascends_behind, first_is_least, search_misses}
use Rattle.stamp_table.specs.declared.held.HeldCell.{HeldCell}
use Rattle.stamp_table.specs.Rule.{Has}
use Rattle.stamp_table.specs.Ascending.{Falls}
use Rattle.stamp_table.specs.Hand.{places_of, place_in}
use Rattle.stamp_table.specs.Table.{is_at, cell_at, cells_before}

-- places that fall to a last one fall before it
falls_front : (places : List ℕ) (last : ℕ) → Falls (places ++ last ∷ []) → Falls places
falls_front [] last falls = tt
falls_front (x ∷ []) last falls = (tt, tt)
falls_front (x ∷ y ∷ places) last falls = (falls.0, falls_front (y ∷ places) last falls.1)

-- and each of them is above it
falls_last : (places : List ℕ) (last place : ℕ) → Falls (places ++ last ∷ []) → Has places place → last < place
falls_last [] last place falls has = absurd has
falls_last (x ∷ []) last place falls has = ⊎_elim (λ here. subst (λ p. last < p) here falls.0) (λ there. absurd there) has
falls_last (x ∷ y ∷ places) last place falls has = ⊎_elim
    (λ here. let lower = falls_last (y ∷ places) last y falls.1 (inl refl) in let above = falls.0 in omega (arith, lower, above, here))
    (λ there. falls_last (y ∷ places) last place falls.1 there) has

pub has_left : (places more : List ℕ) (place : ℕ) → Has places place → Has (places ++ more) place
has_left [] more place has = absurd has
has_left (x ∷ places) more place has = ⊎_elim (λ here. inl here) (λ there. inr (has_left places more place there)) has

has_end : (places : List ℕ) (last : ℕ) → Has (places ++ last ∷ []) last
has_end [] last = inl refl
has_end (x ∷ places) last = inr (has_end places last)

module _ {C : Type 0} where
  -- the places of cells, the last one first
  backwards : (cell : HeldCell C) (cells : List (HeldCell C)) → reverse (places_of (cell ∷ cells)) ≡ reverse (places_of cells) ++ cell.place ∷ []
  backwards cell cells = reverse-append (cell.place ∷ []) (places_of cells)

  has_place : (cells : List (HeldCell C)) (at : ℕ) (d : HeldCell C) → at < length cells → Has (reverse (places_of cells)) (get_or cells at d).place
  has_place [] at d lt = absurd (omega (arith, lt))
  has_place (c ∷ cells) zero d lt = subst (λ l. Has l c.place) (sym (backwards c cells)) (has_end (reverse (places_of cells)) c.place)
  has_place (c ∷ cells) (suc at) d lt = subst (λ l. Has l (get_or cells at d).place) (sym (backwards c cells))
      (has_left (reverse (places_of cells)) (c.place ∷ []) (get_or cells at d).place (has_place cells at d (omega (arith, lt))))

  -- cells whose places fall, the last one first, ascend
  pub ascend : (cells : List (HeldCell C)) → Falls (reverse (places_of cells)) → AscendBy place_in cells
  ascend [] falls i j d less within = absurd (omega (arith, within))
  ascend (c ∷ cells) falls zero zero d less within = absurd (omega (arith, less))
  ascend (c ∷ cells) falls (suc i) zero d less within = absurd (omega (arith, less))
  ascend (c ∷ cells) falls zero (suc j) d less within =
      falls_last (reverse (places_of cells)) c.place (get_or cells j d).place (subst Falls (backwards c cells) falls)
      (has_place cells j d (omega (arith, within)))
  ascend (c ∷ cells) falls (suc i) (suc j) d less within =
      ascend cells (falls_front (reverse (places_of cells)) c.place (subst Falls (backwards c cells) falls)) i j d (omega (arith, less))
      (omega (arith, within))

  -- as many cells come before one at a place as its number among them
  pub before_it : (cells : List (HeldCell C)) → AscendBy place_in cells → (at : ℕ) (d : HeldCell C) → at < length cells
      → cells_before (get_or cells at d).place cells ≡ at
  before_it [] up at d lt = absurd (omega (arith, lt))
  before_it (c ∷ cells) up zero d lt = cond-true (is_at c.place c) _ _ (same_number c.place)
  before_it (c ∷ cells) up (suc at) d lt =
      let least = first_is_least place_in c cells up at d (omega (arith, lt)) in
      cond-false (is_at (get_or cells at d).place c) _ _ (not_same c.place (get_or cells at d).place (omega (arith, least)))
      ∙ ap suc (before_it cells (ascends_behind place_in c cells up) at d (omega (arith, lt)))

  some_cell : (cells : List (HeldCell C)) (at : ℕ) → at < length cells → HeldCell C
  some_cell [] at lt = absurd (omega (arith, lt))
  some_cell (c ∷ cells) at lt = c

  module _ (cells : List (HeldCell C)) (up : AscendBy place_in cells) (place : ℕ) where
    -- a search that ends at a cell has found how many come before it
    pub search_at : (at : ℕ) → at < length cells → HoldsAt (λ cell. nat_cmp (place_in cell) place ≡ Equal) cells at → at ≡ cells_before place cells
    search_at at lt equal = let d = some_cell cells at lt in let same : (get_or cells at d).place ≡ place = ranked _ place _ (sym (equal d)) in
        sym (before_it cells up at d lt) ∙ ap (λ p. cells_before p cells) same

    -- and one that ends at a gap has found none
    pub search_ends : (at : ℕ) → at ≤ length cells → (IsNonDecreasingBy (λ cell. ordering_index (nat_cmp (place_in cell) place)) cells
        → IsPartitionPoint (λ cell. nat_cmp (place_in cell) place ≡ Less) (λ cell. nat_cmp (place_in cell) place ≡ Greater) cells at)
        → IsSome (cell_at place cells) → ⊥
    search_ends at le parted some = let none = search_misses place_in cells up place at le parted in none_there (cell_at place cells) (sym none) some where
      none_there : (found : Option (HeldCell C)) → found ≡ None → IsSome found → ⊥
      none_there None is some = absurd cc
      none_there (Some cell) is some = absurd (cc is)
