-- A cell that a core holds gets another value.
use Rattle.std.proofs.Common.{◌≡◌, ℕ, ◌<◌, List, [], ◌∷◌, length, set, Some, IsSome, slice_get, sym, refl, ap, ◌∙◌, subst, arith, ⊎_elim, if◌then◌else◌, get_or}
use Rattle.std.proofs.lemmas.Bool.{cases_Bool}
use Rattle.std.proofs.lemmas.Option.{slice_get-get_or}
use Rattle.stamp_table.specs.declared.held.HeldCell.{HeldCell}
use Rattle.stamp_table.specs.Hand.{places_of}
use Rattle.stamp_table.specs.Table.{is_at, cell_at, cells_before, with_value}

module _ {C : Type 0} (place : ℕ) where
  -- a cell that is found has an index
  pub found_within : (cells : List (HeldCell C)) → IsSome (cell_at place cells) → cells_before place cells < length cells
  found_within [] found = absurd cc
  found_within (c ∷ cells) found =
      ⊎_elim (λ is. rw is (omega arith))
      (λ not. let r = found_within cells (subst (λ b. IsSome (if b then Some c else cell_at place cells)) not found) in rw not (omega (arith, r)))
      (cases_Bool (is_at place c))

  -- and stands there
  pub found_there : (cells : List (HeldCell C)) → IsSome (cell_at place cells) → slice_get cells (cells_before place cells) ≡ cell_at place cells
  found_there [] found = absurd cc
  found_there (c ∷ cells) found =
      ⊎_elim (λ is. rw is refl) (λ not. let r = found_there cells (subst (λ b. IsSome (if b then Some c else cell_at place cells)) not found) in rw not r)
      (cases_Bool (is_at place c))

  -- where its value is set, that is the cell with another value
  pub found_set : (cells : List (HeldCell C)) (cell : HeldCell C) (value : C) → cell_at place cells ≡ Some cell
      → set cells (cells_before place cells) (record { place = cell.place; value = value }) ≡ with_value place value cells
  found_set [] cell value is = absurd cc
  found_set (c ∷ cells) cell value is = ⊎_elim
      (λ here. let same : c ≡ cell = cc (subst (λ b. (if b then Some c else cell_at place cells) ≡ Some cell) here is) in
      rw here (ap (λ (x : HeldCell C). record { place = x.place; value = value } ∷ cells) (sym same)))
      (λ not. let r = found_set cells cell value (subst (λ b. (if b then Some c else cell_at place cells) ≡ Some cell) not is) in rw not (ap (λ l. c ∷ l) r))
      (cases_Bool (is_at place c))

  -- the places stay
  pub same_places : (cells : List (HeldCell C)) (value : C) → places_of (with_value place value cells) ≡ places_of cells
  same_places [] value = refl
  same_places (c ∷ cells) value = ⊎_elim (λ here. rw here refl) (λ not. rw not (ap (λ l. c.place ∷ l) (same_places cells value))) (cases_Bool (is_at place c))

  -- what the code does to its cells, in the words of its contract
  pub replaced : (cells held : List (HeldCell C)) (at : ℕ) (cell : HeldCell C) (new value : C) → cells ≡ held → IsSome (cell_at place held)
      → at ≡ cells_before place cells → cell ≡ get_or cells at cell → new ≡ value
      → (cell_at place held ≡ Some cell) × (set cells at (record { place = cell.place; value = new }) ≡ with_value place value held)
  replaced cells held at cell new value same found index is after =
      let here : IsSome (cell_at place cells) = subst (λ l. IsSome (cell_at place l)) (sym same) found in
      let within : at < length cells = subst (λ k. k < length cells) (sym index) (found_within cells here) in
      let there : cell_at place cells ≡ Some cell =
      sym (found_there cells here)
      ∙ (ap (λ k. slice_get cells k) (sym index) ∙ (slice_get-get_or cells at cell within ∙ ap (λ (x : HeldCell C). Some x) (sym is))) in (
        ap (cell_at place) (sym same) ∙ there,
        ap (λ (v : C). set cells at (record { place = cell.place; value = v })) after
            ∙ (ap (λ k. set cells k (record { place = cell.place; value = value })) index
            ∙ (found_set cells cell value there ∙ ap (with_value place value) same)),
      )

  pub within_found : (cells held : List (HeldCell C)) (at : ℕ) → cells ≡ held → IsSome (cell_at place held) → at ≡ cells_before place cells → at < length cells
  within_found cells held at same found index =
      subst (λ k. k < length cells) (sym index) (found_within cells (subst (λ l. IsSome (cell_at place l)) (sym same) found))

  -- what stands at the index is the cell that is found
  pub found_at : (cells held : List (HeldCell C)) (at : ℕ) (cell : HeldCell C) → cells ≡ held → IsSome (cell_at place held) → at ≡ cells_before place cells
      → cell ≡ get_or cells at cell → cell_at place held ≡ Some cell
  found_at cells held at cell same found index is = (replaced cells held at cell cell.value cell.value same found index is refl).0
