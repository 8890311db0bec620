-- The changes of a part below a stamp, and those of part after part.
use Rattle.std.proofs.Common.{◌≡◌, ℕ, ◌<◌, ◌≤◌, List, [], ◌∷◌, ◌++◌, length, get_or, take, drop, filter, refl, sym, ap, ◌∙◌, subst, inl, inr, arith}
use Rattle.std.proofs.lemmas.Bool.{cond-true, cond-false}
use Rattle.std.proofs.lemmas.Bool.Decides.{nat_tests}
use Rattle.std.proofs.lemmas.List.{append_assoc, append-nil, take-append-drop, get_or-drop, length-drop, length-append, take_more}
use Rattle.std.proofs.lemmas.Option.{get_or_from_slice_get, slice_get-get_or, slice_get_cases}
use Rattle.std.specs.Prelude.{slice_get, Some}
use Rattle.std.proofs.lemmas.List.Elements.{filter-append}
use Rattle.std.proofs.lemmas.List.Sorted.{IsNonDecreasingBy-take}
use Rattle.sfs_base.proofs.BasicNumbers.{plus_zero}
use Rattle.sfs_base.proofs.BasicOptions.{none_some}
use Rattle.tree_laws.specs.declared.changes.Change.{Change}
use Rattle.mem_cells.specs.Log.{log_place, IsInOrder}
use Rattle.mem_cells.specs.Part.{CoreLog}
use Rattle.mem_cells.proofs.Order.{in_order-drop, stamps_rise}
use Rattle.log_merge.specs.Merge.{is_under, stands_at, part_changes, parts_changes, IsMergeOf}

-- where the first of changes in order does not lie below a stamp, none does
none_below_stamp : (stamp : ℕ) (changes : List Change) → IsInOrder changes → ((d : Change) → 0 < length changes → stamp ≤ (get_or changes 0 d).stamp.0)
    → filter (is_under stamp) changes ≡ []
none_below_stamp stamp [] order first = refl
none_below_stamp stamp (change ∷ changes) order first =
    let le = first change (omega arith) in
    cond-false (is_under stamp change) (change ∷ filter (is_under stamp) changes) (filter (is_under stamp) changes) (grind (arith, nat_tests))
    ∙ none_below_stamp stamp changes (in_order-drop 1 (change ∷ changes) order)
    (λ d some. let rise = stamps_rise change (get_or changes 0 d) (order.rises 0 1 d (omega arith) (omega arith)) in omega arith)

pub in_order_front : (count : ℕ) (changes : List Change) → IsInOrder changes → IsInOrder (take count changes)
in_order_front count changes order = record { rises = IsNonDecreasingBy-take log_place count changes order.rises }

-- so the changes up to such a one are those below the stamp
pub front_below : (stamp : ℕ) (changes own : List Change) → IsInOrder changes → own ≡ take (length own) changes → filter (is_under stamp) own ≡ own
    → ((change : Change) → slice_get changes (length own) ≡ Some change → stamp ≤ change.stamp.0) → own ≡ filter (is_under stamp) changes
front_below stamp changes own order front below next =
    sym (append-nil own)
    ∙ ap (λ l. own ++ l)
    (sym
    (none_below_stamp stamp (drop (length own) changes) (in_order-drop (length own) changes order)
    (λ d some. subst (λ (c : Change). stamp ≤ c.stamp.0)
    (sym (get_or-drop (length own) changes 0 d ∙ ap (λ n. get_or changes n d) (plus_zero (length own))))
    (next (get_or changes (length own) d) (slice_get-get_or changes (length own) d (omega (arith, length-drop (length own) changes)))))))
    ∙ ap (λ l. l ++ filter (is_under stamp) (drop (length own) changes)) (sym below)
    ∙ sym (filter-append (is_under stamp) own (drop (length own) changes))
    ∙ ap (filter (is_under stamp)) (ap (λ l. l ++ drop (length own) changes) front ∙ take-append-drop (length own) changes)

-- the next of them goes behind those that are there
pub front_more : (changes own : List Change) (change : Change) → own ≡ take (length own) changes → slice_get changes (length own) ≡ Some change
    → own ++ change ∷ [] ≡ take (length (own ++ change ∷ [])) changes
front_more changes own change front next =
    ap (λ l. l ++ change ∷ []) front
    ∙ ap (λ c. take (length own) changes ++ c ∷ []) (sym (get_or_from_slice_get changes (length own) change change next))
    ∙ sym
    (take_more changes (length own) change
    (elim (slice_get_cases changes (length own)).1 [ inl there ↦ there.1 | inr (past, none) ↦ absurd (none_some (sym none ∙ next)) ]))
    ∙ ap (λ n. take n changes) (sym (length-append own (change ∷ [])))

pub below_more_own : (stamp : ℕ) (own : List Change) (change : Change) → filter (is_under stamp) own ≡ own → change.stamp.0 < stamp
    → filter (is_under stamp) (own ++ change ∷ []) ≡ own ++ change ∷ []
below_more_own stamp own change below less =
    filter-append (is_under stamp) own (change ∷ [])
    ∙ ap (λ l. l ++ filter (is_under stamp) (change ∷ [])) below
    ∙ ap (λ l. own ++ l) (cond-true (is_under stamp change) (change ∷ []) [] (grind (arith, nat_tests)))

-- a part more
pub parts_changes-push : (directory stamp : ℕ) (parts : List CoreLog) (part : CoreLog)
    → parts_changes directory stamp (parts ++ part ∷ []) ≡ parts_changes directory stamp parts ++ part_changes directory stamp part
parts_changes-push directory stamp [] part = append-nil (part_changes directory stamp part)
parts_changes-push directory stamp (first ∷ parts) part =
    ap (λ l. part_changes directory stamp first ++ l) (parts_changes-push directory stamp parts part)
    ∙ sym (append_assoc (part_changes directory stamp first) (parts_changes directory stamp parts) (part_changes directory stamp part))

-- what is merged with a merge is merged with what that merges
pub merge-merged : (changes merged more both : List Change) → IsMergeOf changes merged → IsMergeOf (merged ++ more) both → IsMergeOf (changes ++ more) both
merge-merged changes merged more both is also = record {
  in_order = also.in_order;
  same = λ place.
      also.same place
      ∙ filter-append (stands_at place) merged more
      ∙ ap (λ l. l ++ filter (stands_at place) more) (is.same place)
      ∙ sym (filter-append (stands_at place) changes more);
}
