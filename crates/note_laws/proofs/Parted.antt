-- What one core's first calls log is what all of its calls log below their end.
use Rattle.std.proofs.Common.{◌≡◌, ◌∷◌, ◌++◌, ◌∙◌, ◌<◌, ◌+◌, ◌≤◌, ℕ, List, [], refl, ap, cond, sym, append_assoc, filter, length, append-nil, true, arith, false, zero, suc, subst}
use Rattle.std.proofs.lemmas.List.Elements.{filter-append}
use Rattle.std.proofs.lemmas.Bool.Decides.{nat_tests}
use Rattle.sfs_base.proofs.BasicNumbers.{zero_plus}
use Rattle.tree_laws.specs.Tree.{TreeState}
use Rattle.tree_laws.specs.declared.history.Entry.{Entry}
use Rattle.tree_laws.specs.History.{tree_after_entry, tree_after, IsLegal, IsLegalFrom}
use Rattle.tree_laws.specs.declared.changes.Change.{Change}
use Rattle.tree_laws.proofs.Cores.{cores_stay}
use Rattle.cut_laws.proofs.Basics.{filter_all, filter_none}
use Rattle.cut_laws.proofs.Along.{core_at}
use Rattle.log_merge.specs.Merge.{is_under}
use Rattle.dep_closure.proofs.True.{logged_later}
use Rattle.core_logs.specs.Kept.{logged_of_core, is_entry_of, logged_in_tree}
use Rattle.core_logs.proofs.Ordered.{logged_below, of_history}
use Rattle.mem_values.specs.Logs.{own_logged}
use Rattle.mem_values.proofs.Moves.{legal_front, legal_behind}
use Rattle.note_laws.specs.Merged.{caller_of}

logged_same : (first : TreeState) (core : ℕ) (calls : List Entry) → own_logged first core calls ≡ logged_of_core core first calls
logged_same first core [] = refl
logged_same first core (entry ∷ calls) =
    ap (λ l. cond (is_entry_of core entry) (logged_in_tree first entry) [] ++ l) (logged_same (tree_after_entry first entry) core calls)

logged_parts : (first : TreeState) (core : ℕ) (calls more : List Entry)
    → logged_of_core core first (calls ++ more) ≡ logged_of_core core first calls ++ logged_of_core core (tree_after first calls) more
logged_parts first core [] more = refl
logged_parts first core (entry ∷ calls) more =
    let own : List Change = cond (is_entry_of core entry) (logged_in_tree first entry) [] in
    ap (λ l. own ++ l) (logged_parts (tree_after_entry first entry) core calls more)
    ∙ sym (append_assoc own (logged_of_core core (tree_after_entry first entry) calls) (logged_of_core core (tree_after first (entry ∷ calls)) more))

pub first_logged : (first : TreeState) (core : ℕ) (calls more : List Entry) → IsLegal first (calls ++ more)
    → own_logged first core calls ≡ filter (is_under (length calls)) (logged_of_core core first (calls ++ more))
first_logged first core calls more legal =
    logged_same first core calls
    ∙ sym
    (ap (filter (is_under (length calls))) (logged_parts first core calls more)
    ∙ filter-append (is_under (length calls)) (logged_of_core core first calls) (logged_of_core core (tree_after first calls) more)
    ∙ ap (λ l. l ++ filter (is_under (length calls)) (logged_of_core core (tree_after first calls) more))
    (filter_all (is_under (length calls)) (logged_of_core core first calls)
    (λ change one. under (length calls) change
    (logged_below first calls 0 (legal_front first 0 calls more legal) change (of_history core first calls change one))))
    ∙ ap (λ l. logged_of_core core first calls ++ l)
    (filter_none (is_under (length calls)) (logged_of_core core (tree_after first calls) more)
    (λ change one. over (length calls) change
    (logged_later (tree_after first calls) more (length calls)
    (subst (λ n. IsLegalFrom (tree_after first calls) n more) (zero_plus (length calls)) (legal_behind first 0 calls more legal)) change
    (of_history core (tree_after first calls) more change one))))
    ∙ append-nil (logged_of_core core first calls))
  where
    under : (n : ℕ) (change : Change) → change.stamp.0 < 0 + n → is_under n change ≡ true
    under n change less = grind (arith, nat_tests, less)

    over : (n : ℕ) (change : Change) → n ≤ change.stamp.0 → is_under n change ≡ false
    over n change le = grind (arith, nat_tests, le)

pub caller_is : (first : TreeState) (calls : List Entry) (stamp : ℕ) → core_at first calls stamp ≡ caller_of calls stamp
caller_is first [] stamp = refl
caller_is first (entry ∷ calls) zero = refl
caller_is first (entry ∷ calls) (suc stamp) = caller_is (tree_after_entry first entry) calls stamp

-- each call is of one of the cores
pub caller_within : (first : TreeState) (calls : List Entry) (begin stamp : ℕ) → IsLegalFrom first begin calls → stamp < length calls
    → caller_of calls stamp < length first.made
caller_within first [] begin stamp legal less = absurd (omega (arith, less))
caller_within first (entry ∷ calls) begin zero legal less = legal.0.core
caller_within first (entry ∷ calls) begin (suc stamp) legal less =
    subst (λ n. caller_of calls stamp < n) (cores_stay first (entry ∷ []))
    (caller_within (tree_after_entry first entry) calls (suc begin) stamp legal.1 (omega (arith, less)))
