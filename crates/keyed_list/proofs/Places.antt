-- Where an item comes and goes in a list that ascends by a number of its items.
use Rattle.std.proofs.Common.{◌≡◌, ◌≢◌, ℕ, zero, suc, ◌<◌, ◌≤◌, Bool, true, false, cond, List, [], ◌∷◌, length, get_or, Some, None, inl, inr, ◌⊎◌, refl, sym, ap, ◌∙◌, arith, nat_eq, nat_lt, All}
use Rattle.std.specs.List.{insert, remove, HoldsAt}
use Rattle.std.specs.Ordering.{nat_cmp}
use Rattle.std.specs.declared.cmp.Ordering.TheVariants.{Equal}
use Rattle.std.proofs.lemmas.Cmp.{ranked}
use Rattle.std.specs.List.Sorted.{IsPartitionPoint, IsPartitionedBy}
use Rattle.std.proofs.lemmas.Bool.{cond-true, cond-false, cases_lt, cases_Bool, lt-ltb, le-ltb, eqb-false}
use Rattle.std.proofs.lemmas.List.Kept.{AllPairs-cons}
use Rattle.std.proofs.lemmas.List.Elements.{All-cons}
use borrow.Author.Tests.{ltb-true, ltb-false}
use Rattle.sfs_base.proofs.BasicNumbers.{same_number, not_same}
use Rattle.sfs_base.proofs.BasicOptions.{some_not_none}
use Rattle.keyed_list.specs.Ascending.{AscendBy, item_with, put_in, without}
use Rattle.keyed_list.proofs.Searched.{ascends_behind, first_is_least}

module _ {X : Type 0} (key : X → ℕ) where
  -- what ascends is parted by each number
  pub parted_by : (items : List X) → AscendBy key items → (n : ℕ) → IsPartitionedBy (λ one. nat_lt (key one) n) items
  parted_by items up n i j d le within less = elim (cases_lt i j) [
    | inl lt ↦ let first = up i j d lt within in let under = ltb-true (key (get_or items j d)) n less in lt-ltb (key (get_or items i d)) n (omega arith)
    | inr ge ↦ let same : i ≡ j = omega arith in ap (λ k. nat_lt (key (get_or items k d)) n) same ∙ less
  ]

  -- an item whose number none has, and which is put behind the lesser ones, is put in its place
  pub insert_is_put : (items : List X) (item : X) (place : ℕ) → place ≤ length items → item_with key (key item) items ≡ None
      → IsPartitionPoint (λ one. nat_lt (key one) (key item) ≡ true) (λ one. nat_lt (key one) (key item) ≡ false) items place
      → insert items place item ≡ put_in key item items
  insert_is_put [] item zero low none point = refl
  insert_is_put [] item (suc place) low none point = absurd (omega arith)
  insert_is_put (other ∷ others) item zero low none point =
      let above = ltb-false (key other) (key item) (point.1 0 other (omega arith) (omega arith)) in
      let apart : key other ≢ key item =
      λ same. some_not_none
      (sym
      (cond-true (nat_eq (key other) (key item)) (Some other) (item_with key (key item) others)
      (ap (λ n. nat_eq n (key item)) same ∙ same_number (key item)))
      ∙ none) in
      sym (cond-true (nat_lt (key item) (key other)) _ _ (lt-ltb (key item) (key other) (omega arith)))
  insert_is_put (other ∷ others) item (suc place) low none point =
      let below = ltb-true (key other) (key item) (point.0 0 other (omega arith) (omega arith)) in
      let rest =
      insert_is_put others item place (omega arith)
      (sym (cond-false (nat_eq (key other) (key item)) (Some other) (item_with key (key item) others) (not_same (key other) (key item) (omega arith)))
      ∙ none)
      (λ k d a b. point.0 (suc k) d (omega arith) (omega arith), λ k d a b. point.1 (suc k) d (omega arith) (omega arith)) in
      ap (λ more. other ∷ more) rest ∙ sym (cond-false (nat_lt (key item) (key other)) _ _ (le-ltb (key item) (key other) (omega arith)))

  -- what holds of the item and of all others holds of all
  all_put : (P : X → Type 0) (items : List X) (item : X) → P item → All P items → All P (put_in key item items)
  all_put P [] item own all = All-cons P item [] own all
  all_put P (other ∷ others) item own all = by_test (nat_lt (key item) (key other)) (all_put P others item own (λ k d within. all (suc k) d (omega arith)))
    where
      by_test : (b : Bool) → All P (put_in key item others) → All P (cond b (item ∷ other ∷ others) (other ∷ put_in key item others))
      by_test true rest = All-cons P item (other ∷ others) own all
      by_test false rest = All-cons P other (put_in key item others) (all 0 other (omega arith)) rest

  -- a list with an item put in ascends
  pub ascends_put : (items : List X) (item : X) → AscendBy key items → item_with key (key item) items ≡ None → AscendBy key (put_in key item items)
  ascends_put [] item up none = λ i j d lt within. absurd (omega arith)
  ascends_put (other ∷ others) item up none = by_test (nat_lt (key item) (key other)) refl (cases_Bool (nat_eq (key other) (key item)))
      (λ apart. ascends_put others item (ascends_behind key other others up)
      (sym (cond-false (nat_eq (key other) (key item)) (Some other) (item_with key (key item) others) apart) ∙ none))
    where
      by_test : (b : Bool) → nat_lt (key item) (key other) ≡ b → (nat_eq (key other) (key item) ≡ true) ⊎ (nat_eq (key other) (key item) ≡ false)
          → (nat_eq (key other) (key item) ≡ false → AscendBy key (put_in key item others))
          → AscendBy key (cond b (item ∷ other ∷ others) (other ∷ put_in key item others))
      by_test b is (inl same) rest =
          absurd (some_not_none (sym (cond-true (nat_eq (key other) (key item)) (Some other) (item_with key (key item) others) same) ∙ none))
      by_test true is (inr apart) rest =
          let less = ltb-true (key item) (key other) is in
          AllPairs-cons (λ a b. key a < key b) item (other ∷ others) (λ k d within. above k d within less) up
        where
          above : (k : ℕ) (d : X) → k < length (other ∷ others) → key item < key other → key item < key (get_or (other ∷ others) k d)
          above zero d within less = less
          above (suc k) d within less = let more = first_is_least key other others up k d (omega arith) in omega arith
      by_test false is (inr apart) rest =
          let not_less = ltb-false (key item) (key other) is in
          let unlike = eqb-false (key other) (key item) apart in
          let less : key other < key item = grind (arith, unlike) in
          AllPairs-cons (λ a b. key a < key b) other (put_in key item others)
          (all_put (λ y. key other < key y) others item less (first_is_least key other others up)) (rest apart)

  -- an item that is removed at its place is left out
  pub remove_is_without : (items : List X) → AscendBy key items → (at : ℕ) (d : X) → at < length items
      → remove items at ≡ without key (key (get_or items at d)) items
  remove_is_without [] up at d within = absurd (omega arith)
  remove_is_without (item ∷ items) up zero d within = sym (cond-true (nat_eq (key item) (key item)) _ _ (same_number (key item)))
  remove_is_without (item ∷ items) up (suc at) d within =
      let least = first_is_least key item items up at d (omega arith) in
      ap (λ rest. item ∷ rest) (remove_is_without items (ascends_behind key item items up) at d (omega arith))
      ∙ sym (cond-false (nat_eq (key item) (key (get_or items at d))) _ _ (not_same (key item) (key (get_or items at d)) (omega arith)))

  -- and nothing is left out for a number that no item has
  pub nothing_without : (items : List X) (n : ℕ) → item_with key n items ≡ None → items ≡ without key n items
  nothing_without [] n none = refl
  nothing_without (item ∷ items) n none = by_test (nat_eq (key item) n) none (nothing_without items n)
    where
      by_test : (b : Bool) → cond b (Some item) (item_with key n items) ≡ None → (item_with key n items ≡ None → items ≡ without key n items)
          → item ∷ items ≡ cond b items (item ∷ without key n items)
      by_test true e rest = absurd (some_not_none e)
      by_test false e rest = ap (λ more. item ∷ more) (rest e)

  -- the number at a place that a search has found
  pub found_number : (items : List X) (n at : ℕ) (d : X) → HoldsAt (λ one. nat_cmp (key one) n ≡ Equal) items at → key (get_or items at d) ≡ n
  found_number items n at d equal = ranked _ n _ (sym (equal d))
