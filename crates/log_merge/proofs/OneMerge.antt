-- Some changes have one merge: of two lists in order with the same changes at each place the first are the same, and so on.
use Rattle.std.proofs.Common.{◌≡◌, ℕ, ◌≤◌, Bool, true, false, cond, List, [], ◌∷◌, filter, refl, sym, ap, ◌∙◌, subst, arith}
use Rattle.std.specs.Prelude.{All}
use Rattle.std.proofs.lemmas.Bool.{cond-true}
use Rattle.std.proofs.lemmas.List.Elements.{All-head, All-tail}
use Rattle.sfs_base.proofs.BasicNumbers.{same_number}
use Rattle.tree_laws.specs.declared.changes.Change.{Change}
use Rattle.mem_cells.specs.Log.{log_place, IsInOrder}
use Rattle.mem_cells.proofs.Order.{in_order-drop}
use Rattle.log_merge.specs.Merge.{stands_at}
use Rattle.log_merge.specs.Laws.{ThereIsOneMerge}

at_own : (one : Change) (rest : List Change) → filter (stands_at (log_place one)) (one ∷ rest) ≡ one ∷ filter (stands_at (log_place one)) rest
at_own one rest =
    cond-true (stands_at (log_place one) one) (one ∷ filter (stands_at (log_place one)) rest) (filter (stands_at (log_place one)) rest)
    (same_number (log_place one))

-- a list with a change at a place has one that stands there
first_at : (place : ℕ) (change : Change) (changes rest : List Change) → filter (stands_at place) changes ≡ change ∷ rest → (low : ℕ)
    → All (λ one. low ≤ log_place one) changes → low ≤ log_place change
first_at place change [] rest e low all = absurd (cc)
first_at place change (one ∷ changes) rest e low all =
    elim (stands_at place one) as (λ b. cond b (one ∷ filter (stands_at place) changes) (filter (stands_at place) changes) ≡ change ∷ rest
    → low ≤ log_place change) [
      | true ↦ λ found. let same : one ≡ change = cc in subst (λ c. low ≤ log_place c) same (All-head (λ one. low ≤ log_place one) one changes all)
      | false ↦ λ found. first_at place change changes rest found low (All-tail (λ one. low ≤ log_place one) one changes all)
    ] e

all_from : (change : Change) (rest : List Change) → IsInOrder (change ∷ rest) → All (λ one. log_place change ≤ log_place one) (change ∷ rest)
all_from change rest order = λ k d within. order.rises 0 k d (omega arith) within

-- the same changes at each place
abbrev SamePlaces : List Change → List Change → Type 0
SamePlaces changes other = (place : ℕ) → filter (stands_at place) changes ≡ filter (stands_at place) other

none_same : (change : Change) (rest : List Change) → SamePlaces [] (change ∷ rest) → ⊥
none_same change rest same = let found = same (log_place change) ∙ at_own change rest in cc

first_same : (one : Change) (rest : List Change) (other : Change) (others : List Change) → IsInOrder (one ∷ rest) → IsInOrder (other ∷ others)
    → SamePlaces (one ∷ rest) (other ∷ others) → one ≡ other
first_same one rest other others order other_order same =
    let low =
    first_at (log_place one) one (other ∷ others) (filter (stands_at (log_place one)) rest) (sym (same (log_place one)) ∙ at_own one rest) (log_place other)
    (all_from other others other_order) in
    let high =
    first_at (log_place other) other (one ∷ rest) (filter (stands_at (log_place other)) others) (same (log_place other) ∙ at_own other others)
    (log_place one) (all_from one rest order) in
    let level : log_place one ≡ log_place other = omega arith in
    let both = sym (at_own one rest) ∙ same (log_place one) ∙ ap (λ n. filter (stands_at n) (other ∷ others)) level ∙ at_own other others in
    cc

rest_same : (one : Change) (rest others : List Change) → SamePlaces (one ∷ rest) (one ∷ others) → SamePlaces rest others
rest_same one rest others same place = shed (stands_at place one) (filter (stands_at place) rest) (filter (stands_at place) others) (same place)
  where
    shed : (b : Bool) (xs ys : List Change) → cond b (one ∷ xs) xs ≡ cond b (one ∷ ys) ys → xs ≡ ys
    shed true xs ys e = cc
    shed false xs ys e = e

in_order_once : (changes other : List Change) → IsInOrder changes → IsInOrder other → SamePlaces changes other → changes ≡ other
in_order_once [] [] order other_order same = refl
in_order_once [] (other ∷ others) order other_order same = absurd (none_same other others same)
in_order_once (one ∷ rest) [] order other_order same = absurd (none_same one rest (λ place. sym (same place)))
in_order_once (one ∷ rest) (other ∷ others) order other_order same =
    let first = first_same one rest other others order other_order same in
    let with_first = subst (λ c. SamePlaces (one ∷ rest) (c ∷ others)) (sym first) same in
    let behind =
    in_order_once rest others (in_order-drop 1 (one ∷ rest) order) (in_order-drop 1 (other ∷ others) other_order) (rest_same one rest others with_first) in
    cc

pub there_is_one_merge : ThereIsOneMerge
there_is_one_merge changes merged other is other_is =
    in_order_once merged other is.in_order other_is.in_order (λ place. is.same place ∙ sym (other_is.same place))
