-- Lists that ascend by a number: which item a number finds.
use Rattle.std.proofs.Common.{◌≡◌, ℕ, suc, ◌<◌, List, [], ◌∷◌, All, length, get_or, nat_eq, subst, Some, sym, ap, ◌∙◌, arith, inl, inr}
use Rattle.std.proofs.lemmas.Bool.{cases_Bool, cond-true, cond-false, eqb-true}
use Rattle.sfs_base.proofs.BasicOptions.{none_some, some_same}
use Rattle.keyed_list.specs.Ascending.{item_with}

-- What is found under a number has it, and stands in the list.
pub record IsFoundItem {X : Type 0} (key : X → ℕ) (items : List X) (n : ℕ) (x : X) : Type 0 where
  pub number : key x ≡ n
  pub place : ℕ
  pub within : place < length items
  pub is : (d : X) → get_or items place d ≡ x

module _ {X : Type 0} (key : X → ℕ) where
  pub found_item : (items : List X) (n : ℕ) (x : X) → item_with key n items ≡ Some x → IsFoundItem key items n x
  found_item [] n x is = absurd (none_some is)
  found_item (one ∷ rest) n x is = elim (cases_Bool (nat_eq (key one) n)) [
    | inl same ↦
        (let e : one ≡ x = some_same (sym (cond-true (nat_eq (key one) n) (Some one) (item_with key n rest) same) ∙ is) in
        record { number = ap key (sym e) ∙ eqb-true _ _ same; place = 0; within = omega arith; is = λ d. e })
    | inr other ↦
        (let more = found_item rest n x (sym (cond-false (nat_eq (key one) n) (Some one) (item_with key n rest) other) ∙ is) in
        record { number = more.number; place = suc more.place; within = (let h = more.within in omega arith); is = more.is })
  ]

  -- what holds of each item holds of the one that is found
  pub of_found : (P : X → Type 0) (items : List X) (n : ℕ) (x : X) → All P items → item_with key n items ≡ Some x → P x
  of_found P items n x all is = let one = found_item items n x is in subst P (one.is x) (all one.place x one.within)
