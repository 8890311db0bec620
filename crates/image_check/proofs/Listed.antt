-- What a function gives of the numbers from 0 on, each with its number: a list that ascends.
use Rattle.std.proofs.Common.{◌≡◌, ◌≢◌, ℕ, zero, suc, ◌+◌, ◌<◌, ◌≤◌, List, All, nat_eq, Option, None, Some, refl, sym, ap, ◌∙◌, arith, inl, inr}
use Rattle.std.specs.Prelude.{filter_map}
use Rattle.std.specs.List.{cons_option, range_with_len}
use Rattle.std.proofs.lemmas.Bool.{cases_Bool, cond-true, cond-false, eqb-true, eqb-false}
use Rattle.std.proofs.lemmas.List.Kept.{AllPairs-cons}
use Rattle.std.proofs.lemmas.List.Elements.{All-cons}
use Rattle.sfs_base.proofs.BasicNumbers.{not_same, same_number}
use Rattle.keyed_list.specs.Ascending.{AscendBy, item_with}
use Rattle.keyed_list.proofs.Searched.{no_item}

module _ {X : Type 0} (key : X → ℕ) (f : ℕ → Option X) (numbered : (k : ℕ) (x : X) → f k ≡ Some x → key x ≡ k) where
  abbrev given : ℕ → ℕ → List X
  given a n = filter_map f (range_with_len a n)

  -- each item is given of a number in the range
  pub all_given : (P : X → Type 0) (a n : ℕ) → ((k : ℕ) (x : X) → a ≤ k → k < a + n → f k ≡ Some x → P x) → All P (given a n)
  all_given P a zero holds = λ k d less. absurd (omega arith)
  all_given P a (suc n) holds =
      by (f a) refl (all_given P (a + 1) n (λ k x low high is. holds k x (omega arith) (omega arith) is))
    where
      by : (o : Option X) → f a ≡ o → All P (given (a + 1) n) → All P (cons_option o (given (a + 1) n))
      by None is rest = rest
      by (Some x) is rest = All-cons P x (given (a + 1) n) (holds a x (omega arith) (omega arith) is) rest

  pub given_ascend : (a n : ℕ) → AscendBy key (given a n)
  given_ascend a zero = λ i j d less within. absurd (omega arith)
  given_ascend a (suc n) = by (f a) refl (given_ascend (a + 1) n)
    where
      by : (o : Option X) → f a ≡ o → AscendBy key (given (a + 1) n) → AscendBy key (cons_option o (given (a + 1) n))
      by None is rest = rest
      by (Some x) is rest =
          AllPairs-cons (λ first later. key first < key later) x (given (a + 1) n)
          (all_given (λ y. key x < key y) (a + 1) n
          (λ k y low high other. let e = numbered a x is in let h = numbered k y other in omega arith))
          rest

  -- of a number in the range is found what is given of it
  pub found_given : (a n b : ℕ) → a ≤ b → b < a + n → item_with key b (given a n) ≡ f b
  found_given a zero b low high = absurd (omega arith)
  found_given a (suc n) b low high = elim (cases_Bool (nat_eq a b)) [
    | inl is ↦ (let same = eqb-true _ _ is in here (f a) refl same)
    | inr other ↦ (let apart = eqb-false _ _ other in there (f a) refl apart (found_given (a + 1) n b (omega arith) (omega arith)))
  ]
    where
      here : (o : Option X) → f a ≡ o → a ≡ b → item_with key b (cons_option o (given (a + 1) n)) ≡ f b
      here (Some x) is same =
          cond-true (nat_eq (key x) b) (Some x) (item_with key b (given (a + 1) n)) (ap (λ (k : ℕ). nat_eq k b) (numbered a x is ∙ same) ∙ same_number b)
          ∙ sym is ∙ ap f same
      here None is same =
          no_item key (given (a + 1) n) b
          (all_given (λ y. key y ≢ b) (a + 1) n (λ k y low high other e. let h = numbered k y other in omega arith))
          ∙ sym is ∙ ap f same

      there : (o : Option X) → f a ≡ o → a ≢ b → item_with key b (given (a + 1) n) ≡ f b → item_with key b (cons_option o (given (a + 1) n)) ≡ f b
      there None is apart rest = rest
      there (Some x) is apart rest =
          cond-false (nat_eq (key x) b) (Some x) (item_with key b (given (a + 1) n))
          (not_same (key x) b (λ e. apart (sym (numbered a x is) ∙ e)))
          ∙ rest
