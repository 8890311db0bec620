-- The last of the cells that a core holds.
use Rattle.std.specs.Prelude.{nat_le, if◌then◌else◌}
use Rattle.std.proofs.Common.{◌≡◌, ◌<◌, ◌∷◌, ◌++◌, ◌∙◌, ℕ, true, false, List, [], reverse, inl, inr, refl, sym, ap, subst, eq-eqb, arith, ⊎_elim}
use borrow.Author.Tests.{eqb-true}
use Rattle.std.proofs.lemmas.Bool.{cases_Bool, leb-true, le-leb}
use Rattle.std.proofs.lemmas.List.{reverse-append, reverse-reverse, map-append}
use Rattle.stamp_table.specs.declared.held.HeldCell.{HeldCell}
use Rattle.stamp_table.specs.Rule.{Has}
use Rattle.stamp_table.specs.Hand.{places_of}
use Rattle.stamp_table.specs.Table.{is_at, with_value, EachFrom, drop_from, left_below}
use Rattle.mem_calls.proofs.Cells.{has_reverse}

module _ {C : Type 0} where
  -- each of some cells lies below a place
  abbrev pub AllBelow : ℕ → List (HeldCell C) → Type 0
  AllBelow place cells = (other : ℕ) → Has (places_of cells) other → other < place

  pub none_there : (place : ℕ) (cells : List (HeldCell C)) → AllBelow place cells → Has (places_of cells) place → ⊥
  none_there place cells below has = let lt = below place has in omega (arith, lt)

  -- the last cell gets another value
  pub with_last : (place : ℕ) (old new : C) (cells : List (HeldCell C)) → (Has (places_of cells) place → ⊥)
      → with_value place new (cells ++ record { place = place; value = old } ∷ []) ≡ cells ++ record { place = place; value = new } ∷ []
  with_last place old new [] none = rw (eq-eqb place place refl) refl
  with_last place old new (c ∷ cells) none = ⊎_elim
      (λ (here : is_at place c ≡ true). absurd (none (inl (eqb-true c.place place here))))
      (λ (other : is_at place c ≡ false). rw other (ap (λ l. c ∷ l) (with_last place old new cells (λ has. none (inr has)))))
      (cases_Bool (is_at place c))

  -- of cells of which all but the last lie below a place, a fact holds from there on where it holds of the last
  pub of_last : (from : ℕ) (P : HeldCell C → Type 0) (cells : List (HeldCell C)) (last : HeldCell C) → AllBelow from cells → P last
      → EachFrom from P (cells ++ last ∷ [])
  of_last from P [] last below holds = ((λ le. holds), tt)
  of_last from P (c ∷ cells) last below holds =
      ((λ le. let lt = below c.place (inl refl) in absurd (omega (arith, lt, le))), of_last from P cells last (λ other has. below other (inr has)) holds)

  drop_none : (from : ℕ) (cells : List (HeldCell C)) → AllBelow from cells → drop_from from cells ≡ cells
  drop_none from [] below = refl
  drop_none from (c ∷ cells) below = ⊎_elim
      (λ (yes : nat_le from c.place ≡ true). let le = leb-true from c.place yes in let lt = below c.place (inl refl) in absurd (omega (arith, le, lt)))
      (λ (no : nat_le from c.place ≡ false). ap (λ b. if b then drop_from from cells else c ∷ cells) no)
      (cases_Bool (nat_le from c.place))

  places_reverse : (cells : List (HeldCell C)) → places_of (reverse cells) ≡ reverse (places_of cells)
  places_reverse [] = refl
  places_reverse (c ∷ cells) =
      ap places_of (reverse-append (c ∷ []) cells)
      ∙ (map-append (λ (x : HeldCell C). x.place) (reverse cells) (c ∷ [])
      ∙ (ap (λ l. l ++ c.place ∷ []) (places_reverse cells) ∙ sym (reverse-append (c.place ∷ []) (places_of cells))))

  below_reverse : (place : ℕ) (cells : List (HeldCell C)) → AllBelow place cells → AllBelow place (reverse cells)
  below_reverse place cells below other has =
      below other (subst (λ l. Has l other) (ap places_of (reverse-reverse cells))
      (subst (λ l. Has l other) (sym (places_reverse (reverse cells))) (has_reverse (places_of (reverse cells)) other has)))

  -- all but the last are left where they lie below it
  pub left_last : (place : ℕ) (value : C) (cells : List (HeldCell C)) → AllBelow place cells
      → left_below place (cells ++ record { place = place; value = value } ∷ []) ≡ cells
  left_last place value cells below =
      let last : HeldCell C = record { place = place; value = value } in
      ap (λ l. reverse (drop_from place l)) (reverse-append cells (last ∷ []))
      ∙ (ap (λ b. reverse (if b then drop_from place (reverse cells) else last ∷ reverse cells))
      (le-leb place place (omega arith))
      ∙ (ap reverse (drop_none place (reverse cells) (below_reverse place cells below)) ∙ reverse-reverse cells))
