-- Lists of cells that are held.
use Rattle.std.proofs.Common.{◌≡◌, ◌<◌, ℕ, true, false, List, [], ◌∷◌, ◌++◌, reverse, Some, None, inl, inr, refl, sym, ap, subst, ◌∙◌, eq-eqb, arith, ⊎_elim}
use borrow.Author.Tests.{eqb-true}
use Rattle.std.specs.Prelude.{if◌then◌else◌}
use Rattle.std.specs.Option.{option_or}
use Rattle.std.proofs.lemmas.Bool.{cases_Bool}
use Rattle.std.proofs.lemmas.List.{reverse-append}
use Rattle.std.proofs.lemmas.List.Folds.{find-append}
use Rattle.stamp_table.specs.declared.held.HeldCell.{HeldCell}
use Rattle.stamp_table.specs.Rule.{Has}
use Rattle.stamp_table.specs.Hand.{places_of}
use Rattle.stamp_table.specs.Ascending.{Falls}
use Rattle.stamp_table.specs.Table.{is_at, cell_at, with_value, EachFrom}
use Rattle.stamp_table.proofs.Finding.{has_left}

pub has_right : (places more : List ℕ) (place : ℕ) → Has more place → Has (places ++ more) place
has_right [] more place has = has
has_right (p ∷ places) more place has = inr (has_right places more place has)

pub has_reverse : (places : List ℕ) (place : ℕ) → Has places place → Has (reverse places) place
has_reverse [] place has = absurd has
has_reverse (p ∷ places) place has = subst (λ l. Has l place) (sym (reverse-append (p ∷ []) places)) (elim has [
  | inl here ↦ has_right (reverse places) (p ∷ []) place (inl here)
  | inr there ↦ has_left (reverse places) (p ∷ []) place (has_reverse places place there)
])

module _ {C : Type 0} where
  pub there_append : (place : ℕ) (cells more : List (HeldCell C)) (h : HeldCell C) → cell_at place cells ≡ Some h → cell_at place (cells ++ more) ≡ Some h
  there_append place cells more h is = find-append (is_at place) cells more ∙ ap (λ o. option_or o (cell_at place more)) is

  none_at : (place : ℕ) (cells : List (HeldCell C)) → (Has (places_of cells) place → ⊥) → cell_at place cells ≡ None
  none_at place [] not = refl
  none_at place (c ∷ cells) not =
      ⊎_elim (λ here. absurd (not (inl (eqb-true c.place place here)))) (λ other. rw other (none_at place cells (λ h. not (inr h))))
      (cases_Bool (is_at place c))

  pub last_at : (place : ℕ) (cells : List (HeldCell C)) (value : C) → (Has (places_of cells) place → ⊥)
      → cell_at place (cells ++ record { place = place; value = value } ∷ []) ≡ Some (record { place = place; value = value })
  last_at place cells value not =
      let last : HeldCell C = record { place = place; value = value } in
      let here : is_at place last ≡ true = eq-eqb place place refl in
      find-append (is_at place) cells (last ∷ [])
      ∙ (ap (λ o. option_or o (cell_at place (last ∷ []))) (none_at place cells not) ∙ ap (λ b. if b then Some last else None) here)

  -- what is found has the place, and is one of the cells
  pub found_place : (place : ℕ) (cells : List (HeldCell C)) (h : HeldCell C) → cell_at place cells ≡ Some h → h.place ≡ place
  found_place place [] h is = absurd (cc (is))
  found_place place (c ∷ cells) h is = ⊎_elim
      (λ here. let same : c ≡ h = cc (subst (λ b. (if b then Some c else cell_at place cells) ≡ Some h) here is) in ap (λ (x : HeldCell C). x.place) (sym same)
      ∙ eqb-true c.place place here)
      (λ other. found_place place cells h (subst (λ b. (if b then Some c else cell_at place cells) ≡ Some h) other is))
      (cases_Bool (is_at place c))

  pub found_has : (place : ℕ) (cells : List (HeldCell C)) (h : HeldCell C) → cell_at place cells ≡ Some h → Has (places_of cells) place
  found_has place [] h is = absurd (cc (is))
  found_has place (c ∷ cells) h is = ⊎_elim
      (λ here. inl (eqb-true c.place place here))
      (λ other. inr (found_has place cells h (subst (λ b. (if b then Some c else cell_at place cells) ≡ Some h) other is)))
      (cases_Bool (is_at place c))

  -- a cell with another value
  pub with_same : (place : ℕ) (value : C) (cells : List (HeldCell C)) (h : HeldCell C) → cell_at place cells ≡ Some h
      → cell_at place (with_value place value cells) ≡ Some (record { place = place; value = value })
  with_same place value [] h is = absurd (cc (is))
  with_same place value (c ∷ cells) h is = ⊎_elim
      (λ here. rw here (rw here (ap (λ (p : ℕ). Some (record { place = p; value = value })) (eqb-true c.place place here))))
      (λ other. rw other (rw other (with_same place value cells h (subst (λ b. (if b then Some c else cell_at place cells) ≡ Some h) other is))))
      (cases_Bool (is_at place c))

  pub with_other : (place : ℕ) (value : C) (cells : List (HeldCell C)) (other : ℕ) → (place ≡ other → ⊥)
      → cell_at other (with_value place value cells) ≡ cell_at other cells
  with_other place value [] other apart = refl
  with_other place value (c ∷ cells) other apart = ⊎_elim
      (λ here.
      let not : is_at other c ≡ false = ⊎_elim (λ yes. absurd (apart (sym (eqb-true c.place place here) ∙ eqb-true c.place other yes))) (λ no. no)
      (cases_Bool (is_at other c)) in
      rw here (rw not refl))
      (λ else_where. rw else_where (ap (λ o. if is_at other c then Some c else o) (with_other place value cells other apart)))
      (cases_Bool (is_at place c))

  pub with_twice : (place : ℕ) (value before : C) (cells : List (HeldCell C))
      → with_value place value (with_value place before cells) ≡ with_value place value cells
  with_twice place value before [] = refl
  with_twice place value before (c ∷ cells) = ⊎_elim
      (λ here. rw here (rw here refl))
      (λ other. rw other (rw other (ap (λ l. c ∷ l) (with_twice place value before cells))))
      (cases_Bool (is_at place c))

-- places ascend: each lies below those behind it
abbrev AllAbove : ℕ → List ℕ → Type 0
AllAbove p [] = Unit {0}
AllAbove p (q ∷ places) = (p < q) × AllAbove p places

abbrev Rises : List ℕ → Type 0
Rises [] = Unit {0}
Rises (p ∷ places) = AllAbove p places × Rises places

falls_last : (places : List ℕ) (p : ℕ) → Falls (places ++ p ∷ []) → Falls places × AllAbove p places
falls_last [] p falls = (tt, tt)
falls_last (q ∷ []) p falls = ((tt, tt), (falls.0, tt))
falls_last (q ∷ r ∷ places) p falls =
    let rest = falls_last (r ∷ places) p falls.1 in
    ((falls.0, rest.0), ((let a = falls.0 in let b = rest.1.0 in omega (arith, a, b)), rest.1))

above_append : (p : ℕ) (places more : List ℕ) → AllAbove p places → AllAbove p more → AllAbove p (places ++ more)
above_append p [] more one two = two
above_append p (q ∷ places) more one two = (one.0, above_append p places more one.1 two)

above_reverse : (p : ℕ) (places : List ℕ) → AllAbove p (reverse places) → AllAbove p places
above_reverse p places above = subst (AllAbove p) (Rattle.std.proofs.lemmas.List.reverse-reverse places) (turned (reverse places) above)
  where
    turned : (l : List ℕ) → AllAbove p l → AllAbove p (reverse l)
    turned [] above = tt
    turned (q ∷ l) above = subst (AllAbove p) (sym (reverse-append (q ∷ []) l)) (above_append p (reverse l) (q ∷ []) (turned l above.1) (above.0, tt))

falls_rises : (places : List ℕ) → Falls (reverse places) → Rises places
falls_rises [] falls = tt
falls_rises (p ∷ places) falls =
    let both = falls_last (reverse places) p (subst Falls (reverse-append (p ∷ []) places) falls) in
    (above_reverse p places both.1, falls_rises places both.0)

not_below : (p : ℕ) (places : List ℕ) → AllAbove p places → Has places p → ⊥
not_below p [] above has = has
not_below p (q ∷ places) above has = elim has [
  | inl here ↦ let lt = above.0 in omega (arith, lt, here)
  | inr there ↦ not_below p places above.1 there
]

module _ {C : Type 0} (P : HeldCell C → Type 0) where
  each_rising : (cells : List (HeldCell C)) → Rises (places_of cells) → ((place : ℕ) (h : HeldCell C) → cell_at place cells ≡ Some h → P h) → EachFrom 0 P cells
  each_rising [] rises found = tt
  each_rising (c ∷ cells) rises found =
      let here : is_at c.place c ≡ true = eq-eqb c.place c.place refl in (
        (λ le. found c.place c (ap (λ b. if b then Some c else cell_at c.place cells) here)),
        each_rising cells rises.1 (λ place h is. found place h
            (⊎_elim
            (λ same. absurd (not_below c.place (places_of cells) rises.0
            (subst (Has (places_of cells)) (sym (eqb-true c.place place same)) (found_has place cells h is))))
            (λ other. ap (λ b. if b then Some c else cell_at place cells) other ∙ is)
            (cases_Bool (is_at place c)))),
      )

  -- a fact of each cell that is found is one of all, where no place stands twice
  pub each_of_found : (cells : List (HeldCell C)) → Falls (reverse (places_of cells)) → ((place : ℕ) (h : HeldCell C) → cell_at place cells ≡ Some h → P h)
      → EachFrom 0 P cells
  each_of_found cells falls found = each_rising cells (falls_rises (places_of cells) falls) found
