-- Parts of changes in order, by their stamps.
use Rattle.std.proofs.Common.{◌≡◌, ℕ, zero, suc, ◌+◌, ◌-◌, ◌<◌, ◌≤◌, Bool, true, false, cond, not, List, [], ◌∷◌, ◌++◌, length, take, drop, get_or, filter, Some, None, refl, sym, ap, ◌∙◌, subst, arith, nat_lt}
use Rattle.std.specs.Prelude.{All, ◌&&◌, position}
use Rattle.std.specs.List.{position_or_len}
use Rattle.std.specs.List.Sorted.{IsPartitionPoint, IsPartitionedBy}
use borrow.Author.Tests.{ltb-true, ltb-false}
use Rattle.std.proofs.lemmas.Bool.{cond-true, cond-false}
use Rattle.std.proofs.lemmas.Bool.Decides.{nat_tests}
use Rattle.std.proofs.lemmas.List.Sums.{fails_before_first, passes_at_first, prefix_len-le-length}
use Rattle.std.proofs.lemmas.List.{take_all, take_more, get_or_default, get_or-take, length-take}
use Rattle.sfs_base.proofs.BasicNumbers.{not_same}
use Rattle.sfs_base.proofs.BasicTruth.{not_false, not_true}
use Rattle.sfs_base.proofs.BasicOptions.{some_same, none_some}
use Rattle.tree_laws.specs.declared.changes.Change.{Change}
use Rattle.mem_cells.specs.Log.{IsInOrder, is_from, log_place}
use Rattle.mem_cells.proofs.Order.{in_order-push, stamps_rise}
use Rattle.dep_closure.specs.Spans.{is_of_stamp}

module _ {X : Type 0} (test : X → Bool) where
  pub none_pass : (xs : List X) → ((k : ℕ) (d : X) → k < length xs → test (get_or xs k d) ≡ false) → filter test xs ≡ []
  none_pass [] none = refl
  none_pass (x ∷ xs) none =
      cond-false (test x) (x ∷ filter test xs) (filter test xs) (none 0 x (omega arith)) ∙ none_pass xs (λ k d within. none (suc k) d (omega arith))

  pub all_pass : (xs : List X) → ((k : ℕ) (d : X) → k < length xs → test (get_or xs k d) ≡ true) → filter test xs ≡ xs
  all_pass [] all = refl
  all_pass (x ∷ xs) all =
      cond-true (test x) (x ∷ filter test xs) (filter test xs) (all 0 x (omega arith))
      ∙ ap (λ l. x ∷ l) (all_pass xs (λ k d within. all (suc k) d (omega arith)))

  -- those that pass stand in front
  pub front_passes : (xs : List X) (i : ℕ) → i ≤ length xs → ((k : ℕ) (d : X) → k < i → test (get_or xs k d) ≡ true)
      → ((k : ℕ) (d : X) → i ≤ k → k < length xs → test (get_or xs k d) ≡ false) → take i xs ≡ filter test xs
  front_passes xs zero within all none = sym (none_pass xs (λ k d inside. none k d (omega arith) inside))
  front_passes [] (suc i) within all none = absurd (omega arith)
  front_passes (x ∷ xs) (suc i) within all none =
      ap (λ l. x ∷ l) (front_passes xs i (omega arith) (λ k d less. all (suc k) d (omega arith)) (λ k d ge inside. none (suc k) d (omega arith) (omega arith)))
      ∙ sym (cond-true (test x) (x ∷ filter test xs) (filter test xs) (all 0 x (omega arith)))

  -- those that pass stand behind the others
  pub back_passes : (xs : List X) (i : ℕ) → i ≤ length xs → ((k : ℕ) (d : X) → k < i → test (get_or xs k d) ≡ false)
      → ((k : ℕ) (d : X) → i ≤ k → k < length xs → test (get_or xs k d) ≡ true) → drop i xs ≡ filter test xs
  back_passes xs zero within none all = sym (all_pass xs (λ k d inside. all k d (omega arith) inside))
  back_passes [] (suc i) within none all = absurd (omega arith)
  back_passes (x ∷ xs) (suc i) within none all =
      back_passes xs i (omega arith) (λ k d less. none (suc k) d (omega arith)) (λ k d ge inside. all (suc k) d (omega arith) (omega arith))
      ∙ sym (cond-false (test x) (x ∷ filter test xs) (filter test xs) (none 0 x (omega arith)))

  -- two tests are one that asks both
  pub pass_both : (other both : X → Bool) → ((x : X) → both x ≡ (test x && other x)) → (xs : List X) → filter other (filter test xs) ≡ filter both xs
  pass_both other both asks [] = refl
  pass_both other both asks (x ∷ xs) =
      by (test x) (pass_both other both asks xs) ∙ ap (λ b. cond b (x ∷ filter both xs) (filter both xs)) (sym (asks x))
    where
      by : (b : Bool) → filter other (filter test xs) ≡ filter both xs
          → filter other (cond b (x ∷ filter test xs) (filter test xs)) ≡ cond (b && other x) (x ∷ filter both xs) (filter both xs)
      by true rest = ap (λ l. cond (other x) (x ∷ l) l) rest
      by false rest = rest

module _ (changes : List Change) (order : IsInOrder changes) where
  -- the stamps rise
  later_stamp : (i j : ℕ) (d : Change) → i ≤ j → j < length changes → (get_or changes i d).stamp.0 ≤ (get_or changes j d).stamp.0
  later_stamp i j d le within = stamps_rise (get_or changes i d) (get_or changes j d) (order.rises i j d le within)

  pub stamps_parted : (stamp : ℕ) → IsPartitionedBy (λ change. nat_lt change.stamp.0 stamp) changes
  stamps_parted stamp i j d le within below = let rise = later_stamp i j d le within in grind (arith, nat_tests)

  module _ (stamp at : ℕ) (within : at ≤ length changes)
      (parted : IsPartitionPoint (λ change. nat_lt change.stamp.0 stamp ≡ true) (λ change. nat_lt change.stamp.0 stamp ≡ false) changes at) where
    pub behind_place : drop at changes ≡ filter (is_from stamp) changes
    behind_place =
        back_passes (is_from stamp) changes at within (λ k d less. let low = parted.0 k d (omega arith) less in grind (arith, nat_tests))
        (λ k d ge inside. let high = parted.1 k d ge inside in grind (arith, nat_tests))

    pub before_place : take at changes ≡ filter (λ change. nat_lt change.stamp.0 stamp) changes
    before_place =
        front_passes (λ change. nat_lt change.stamp.0 stamp) changes at within (λ k d less. parted.0 k d (omega arith) less)
        (λ k d ge inside. parted.1 k d ge inside)

  -- those of the stamp that none of them is below stand in front
  module _ (stamp : ℕ) (least : All (λ change. stamp ≤ change.stamp.0) changes) where
    front_is : (end : ℕ) → end ≤ length changes → end ≡ position_or_len (λ change. not (is_of_stamp stamp change)) changes
        → take end changes ≡ filter (is_of_stamp stamp) changes
    front_is end within is = front_passes (is_of_stamp stamp) changes end within
        (λ k d less. not_false (is_of_stamp stamp (get_or changes k d))
        (fails_before_first (λ change. not (is_of_stamp stamp change)) changes k d (omega arith)))
        (λ k d ge inside.
        let first = passes_at_first (λ change. not (is_of_stamp stamp change)) changes d (omega arith) in
        let other = subst (λ i. is_of_stamp stamp (get_or changes i d) ≡ false) (sym is) (not_true _ first) in
        let least_there = least end d (omega arith) in
        let rise = later_stamp end k d ge inside in
        not_same (get_or changes k d).stamp.0 stamp (grind (arith, nat_tests)))

    pub stamp_ends : (end : ℕ) → Some end ≡ position (λ change. not (is_of_stamp stamp change)) changes → take end changes ≡ filter (is_of_stamp stamp) changes
    stamp_ends end found = by (position_or_len (λ change. not (is_of_stamp stamp change)) changes) refl found
      where
        by : (place : ℕ) → place ≡ position_or_len (λ change. not (is_of_stamp stamp change)) changes
            → Some end ≡ cond (nat_lt place (length changes)) (Some place) None → take end changes ≡ filter (is_of_stamp stamp) changes
        by place is =
            elim (nat_lt place (length changes)) as (λ b. nat_lt place (length changes) ≡ b → Some end ≡ cond b (Some place) None
            → take end changes ≡ filter (is_of_stamp stamp) changes) [
              | true ↦ λ less same. let here : end ≡ place = some_same same in let lt = ltb-true _ _ less in front_is end (omega arith) (here ∙ is)
              | false ↦ λ ge none. absurd (none_some (sym none))
            ] refl

    pub stamp_goes_on : None ≡ position (λ change. not (is_of_stamp stamp change)) changes → changes ≡ filter (is_of_stamp stamp) changes
    stamp_goes_on none = by (position_or_len (λ change. not (is_of_stamp stamp change)) changes) refl none
      where
        by : (place : ℕ) → place ≡ position_or_len (λ change. not (is_of_stamp stamp change)) changes
            → None ≡ cond (nat_lt place (length changes)) (Some place) None → changes ≡ filter (is_of_stamp stamp) changes
        by place is =
            elim (nat_lt place (length changes)) as (λ b. nat_lt place (length changes) ≡ b → None ≡ cond b (Some place) None
            → changes ≡ filter (is_of_stamp stamp) changes) [
              | true ↦ λ less same. absurd (none_some same)
              | false ↦ λ ge same.
                  let past = ltb-false _ _ ge in
                  let bound = prefix_len-le-length (λ change. not (not (is_of_stamp stamp change))) changes in
                  let all : place ≡ length changes = omega arith in
                  sym (take_all place changes (omega arith)) ∙ front_is place (omega arith) is
            ] refl

-- Whether changes stand in order is seen at neighbours.
pub falls_in_order : (changes : List Change) → IsInOrder changes → (at : ℕ) → 0 < at → at < length changes → (first second : Change)
    → first ≡ get_or changes (at - 1) first → second ≡ get_or changes at second → log_place second < log_place first → ⊥
falls_in_order changes order at some within first second first_is second_is less =
    let rise = order.rises (at - 1) at first (omega arith) within in
    let one = ap log_place first_is in
    let two = ap log_place (second_is ∙ get_or_default changes at second first within) in
    omega arith

pub one_more_in_order : (changes : List Change) (at : ℕ) → IsInOrder (take at changes) → 0 < at → at < length changes → (first second : Change)
    → first ≡ get_or changes (at - 1) first → second ≡ get_or changes at second → log_place first ≤ log_place second → IsInOrder (take (at + 1) changes)
one_more_in_order changes at order some within first second first_is second_is le =
    subst IsInOrder (sym (take_more changes at second within ∙ ap (λ (c : Change). take at changes ++ c ∷ []) (sym second_is)))
    (in_order-push (take at changes) second order last)
  where
    last : All (λ other. log_place other ≤ log_place second) (take at changes)
    last k d below =
        let short = length-take at changes in
        let rise = order.rises k (at - 1) first (omega arith) (omega arith) in
        let there = ap log_place (get_or-take at changes (at - 1) first (omega arith) ∙ sym first_is) in
        let here = ap log_place (get_or_default (take at changes) k d first below) in
        omega arith
