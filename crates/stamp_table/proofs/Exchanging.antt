-- The values of all cells that a core holds are exchanged for those of a list.
use Rattle.std.proofs.Common.{◌≡◌, ℕ, zero, suc, ◌<◌, ◌++◌, List, [], ◌∷◌, length, set, take, drop, get_or, refl, ap, arith}
use Rattle.std.proofs.lemmas.Grind.{common_steps}
use Rattle.stamp_table.specs.declared.held.HeldCell.{HeldCell}
use Rattle.stamp_table.specs.Hand.{places_of}
use Rattle.stamp_table.specs.Table.{with_values, values_in}

module _ {C : Type 0} where
  -- with as many other values cells keep their places
  pub places_stay : (values : List C) (cells : List (HeldCell C)) → length values ≡ length cells → places_of (with_values values cells) ≡ places_of cells
  places_stay [] cells long = refl
  places_stay (v ∷ values) [] long = absurd (omega (arith, long))
  places_stay (v ∷ values) (c ∷ cells) long = ap (λ l. c.place ∷ l) (places_stay values cells (omega (arith, long)))

  -- who puts back what was there has what was there
  pub with_back : (values : List C) (cells : List (HeldCell C)) → length values ≡ length cells → with_values (values_in cells) (with_values values cells)
      ≡ cells
  with_back [] [] long = refl
  with_back [] (c ∷ cells) long = absurd (omega (arith, long))
  with_back (v ∷ values) [] long = absurd (omega (arith, long))
  with_back (v ∷ values) (c ∷ cells) long = ap (λ l. c ∷ l) (with_back values cells (omega (arith, long)))

  -- the values of cells that have others are these
  pub values_with : (values : List C) (cells : List (HeldCell C)) → length values ≡ length cells → values_in (with_values values cells) ≡ values
  values_with [] [] long = refl
  values_with [] (c ∷ cells) long = absurd (omega (arith, long))
  values_with (v ∷ values) [] long = absurd (omega (arith, long))
  values_with (v ∷ values) (c ∷ cells) long = ap (λ l. v ∷ l) (values_with values cells (omega (arith, long)))

  -- the cells once the first values were exchanged, and the list
  abbrev pub cells_until : ℕ → List C → List (HeldCell C) → List (HeldCell C)
  cells_until at values cells = with_values (take at values) cells

  abbrev pub values_until : ℕ → List C → List (HeldCell C) → List C
  values_until at values cells = values_in (take at cells) ++ drop at values

  pub cells_long : (at : ℕ) (values : List C) (cells : List (HeldCell C)) → length values ≡ length cells → length (cells_until at values cells) ≡ length cells
  cells_long zero values cells long = refl
  cells_long (suc at) [] cells long = refl
  cells_long (suc at) (v ∷ values) [] long = absurd (omega (arith, long))
  cells_long (suc at) (v ∷ values) (c ∷ cells) long = ap suc (cells_long at values cells (omega (arith, long)))

  pub values_long : (at : ℕ) (values : List C) (cells : List (HeldCell C)) → length values ≡ length cells → length (values_until at values cells)
      ≡ length values
  values_long zero values cells long = refl
  values_long (suc at) [] [] long = refl
  values_long (suc at) [] (c ∷ cells) long = absurd (omega (arith, long))
  values_long (suc at) (v ∷ values) [] long = absurd (omega (arith, long))
  values_long (suc at) (v ∷ values) (c ∷ cells) long = ap suc (values_long at values cells (omega (arith, long)))

  -- one more is exchanged
  pub cells_next : (at : ℕ) (values : List C) (cells : List (HeldCell C)) (d : HeldCell C) (e : C) → length values ≡ length cells → at < length cells
      → set (cells_until at values cells) at (record {
        place = (get_or (cells_until at values cells) at d).place;
        value = get_or
            (values_until at values cells) at e;
      })
      ≡ cells_until (suc at) values cells
  cells_next at [] [] d e long lt = absurd (omega (arith, lt))
  cells_next at [] (c ∷ cells) d e long lt = absurd (omega (arith, long))
  cells_next at (v ∷ values) [] d e long lt = absurd (omega (arith, lt))
  cells_next zero (v ∷ values) (c ∷ cells) d e long lt = refl
  cells_next (suc at) (v ∷ values) (c ∷ cells) d e long lt =
      ap (λ l. record { place = c.place; value = v } ∷ l) (cells_next at values cells d e (omega (arith, long)) (omega (arith, lt)))

  pub values_next : (at : ℕ) (values : List C) (cells : List (HeldCell C)) (d : HeldCell C) → length values ≡ length cells → at < length cells
      → set (values_until at values cells) at (get_or (cells_until at values cells) at d).value ≡ values_until (suc at) values cells
  values_next at [] [] d long lt = absurd (omega (arith, lt))
  values_next at [] (c ∷ cells) d long lt = absurd (omega (arith, long))
  values_next at (v ∷ values) [] d long lt = absurd (omega (arith, lt))
  values_next zero (v ∷ values) (c ∷ cells) d long lt = refl
  values_next (suc at) (v ∷ values) (c ∷ cells) d long lt =
      ap (λ l. c.value ∷ l) (values_next at values cells d (omega (arith, long)) (omega (arith, lt)))

  -- all are exchanged
  pub cells_all : (values : List C) (cells : List (HeldCell C)) → length values ≡ length cells → cells_until (length cells) values cells
      ≡ with_values values cells
  cells_all [] [] long = refl
  cells_all [] (c ∷ cells) long = absurd (omega (arith, long))
  cells_all (v ∷ values) [] long = absurd (omega (arith, long))
  cells_all (v ∷ values) (c ∷ cells) long = ap (λ l. record { place = c.place; value = v } ∷ l) (cells_all values cells (omega (arith, long)))

  pub values_all : (values : List C) (cells : List (HeldCell C)) → length values ≡ length cells → values_until (length cells) values cells ≡ values_in cells
  values_all [] [] long = refl
  values_all [] (c ∷ cells) long = absurd (omega (arith, long))
  values_all (v ∷ values) [] long = absurd (omega (arith, long))
  values_all (v ∷ values) (c ∷ cells) long = ap (λ l. c.value ∷ l) (values_all values cells (omega (arith, long)))

  pub with_long : (values : List C) (cells : List (HeldCell C)) → length values ≡ length cells → length (with_values values cells) ≡ length cells
  with_long [] cells long = refl
  with_long (v ∷ values) [] long = absurd (omega (arith, long))
  with_long (v ∷ values) (c ∷ cells) long = ap suc (with_long values cells (omega (arith, long)))

-- a list that was written over another of its length is there
pub written_over : {A : Type 0} (old new : List A) (count : ℕ) → count ≡ length old → length new ≡ length old → take count (new ++ drop (length new) old)
    ≡ new
written_over old new count all long = grind (arith, common_steps, all, long)
