-- What a history logs: in which order, with which stamps, and how much of it is one core's.
use Prim.Native.Nat.{zero}
use Rattle.std.proofs.Common.{◌≡◌, ℕ, suc, ◌+◌, ◌*◌, ◌<◌, ◌≤◌, Bool, true, false, cond, nat_eq, List, [], ◌∷◌, ◌++◌, length, get_or, Option, Some, None, ◌⊎◌, inl, inr, refl, sym, ap, ◌∙◌, subst, arith, append-nil}
use Rattle.std.specs.Prelude.{All, filter, count_by}
use Rattle.std.proofs.lemmas.List.Elements.{filter-append, All-from_recursion, All-nil, All-cons}
use Rattle.std.proofs.lemmas.List.{append_assoc}
use Rattle.sfs_base.specs.declared.numbers.Kind.{Kind}
use Rattle.tree_laws.specs.declared.changes.Change.{Change}
use Rattle.tree_laws.specs.declared.history.Entry.{Entry}
use Rattle.tree_laws.specs.Tree.{TreeState, row_of, kind_of}
use Rattle.tree_laws.specs.declared.changes.Act.TheVariants.{Add, Remove}
use Rattle.tree_laws.specs.Changes.{other_side}
use Rattle.tree_laws.specs.Effect.{Effect, Stays, Adds, Removes, Moves, Edits}
use Rattle.tree_laws.specs.Verdict.{verdict}
use Rattle.tree_laws.specs.History.{tree_after, tree_after_entry, IsLegal, IsLegalFrom}
use Rattle.tree_laws.specs.Logged.{log_entry, logged_by, logged_replaced, recorded_above, is_addition}
use Rattle.mem_cells.specs.Log.{log_place, IsInOrder}
use Rattle.mem_cells.proofs.Order.{nothing_in_order, in_order-push, in_order-drop}
use Rattle.cut_laws.specs.Rules.{IsOneOf}
use Rattle.cut_laws.proofs.Along.{core_at}
use Rattle.cut_laws.proofs.Basics.{in_either, in_left, in_right, filter_none}
use Rattle.dep_closure.specs.History.{logged_of}
use Rattle.dep_closure.proofs.Looked.{one_of_all}
use Rattle.dep_closure.proofs.True.{logged_stamp, logged_later}
use Rattle.core_logs.specs.Kept.{is_entry_of, logged_in_tree, logged_of_core}

pub one_in_order : (change : Change) → IsInOrder (change ∷ [])
one_in_order change = in_order-push [] change nothing_in_order (λ k d within. absurd (omega (arith, within)))

two_in_order : (one other : Change) → log_place one ≤ log_place other → IsInOrder (one ∷ other ∷ [])
two_in_order one other le =
    in_order-push (one ∷ []) other (one_in_order one) (All-from_recursion (λ (c : Change). log_place c ≤ log_place other) (one ∷ []) (le, tt))

three_in_order : (one other third : Change) → log_place one ≤ log_place other → log_place other ≤ log_place third → IsInOrder (one ∷ other ∷ third ∷ [])
three_in_order one other third le next =
    in_order-push (one ∷ other ∷ []) third (two_in_order one other le)
    (All-from_recursion (λ (c : Change). log_place c ≤ log_place third) (one ∷ other ∷ []) (omega (arith, le, next), (next, tt)))

-- what an entry logs stands in order
pub logged_in_order : (tree : TreeState) (core stamp : ℕ) (effect : Effect) (makes : Option Kind) → IsInOrder (logged_by tree core stamp effect makes)
logged_in_order tree core stamp Stays makes = nothing_in_order
logged_in_order tree core stamp (Adds directory name child) makes = one_in_order _
logged_in_order tree core stamp (Removes directory name child) makes = one_in_order _
logged_in_order tree core stamp (Moves p n q m x) makes = by (row_of tree q m)
  where
    gone : Change
    gone = log_entry stamp p n x (kind_of tree x) Remove (other_side p q) []

    come : Change
    come = log_entry stamp q m x (kind_of tree x) Add (other_side q p) (recorded_above tree (Moves p n q m x) q)

    by : (there : Option ℕ) → IsInOrder (logged_replaced tree stamp p q m there ++ gone ∷ come ∷ [])
    by None = two_in_order gone come (omega arith)
    by (Some there) = three_in_order (log_entry stamp q m there (kind_of tree there) Remove (other_side q p) []) gone come (omega arith) (omega arith)
logged_in_order tree core stamp (Edits file edit) makes = nothing_in_order

-- what all of a list have
pub all_of : {X : Type 0} (P : X → Type 0) (xs : List X) → ((x : X) → IsOneOf xs x → P x) → All P xs
all_of P [] each = All-nil P
all_of P (x ∷ xs) each = All-cons P x xs (each x (inl refl)) (all_of P xs (λ y one. each y (inr one)))

-- an earlier stamp stands at an earlier place
pub sooner : (change other : Change) → change.stamp.0 < other.stamp.0 → log_place change ≤ log_place other
sooner change other less = rising change.stamp.0 other.stamp.0 (is_addition change.act) (is_addition other.act) less
  where
    rising : (s t : ℕ) (a b : Bool) → s < t → 2 * s + cond a 1 0 ≤ 2 * t + cond b 1 0
    rising s t true true less = omega arith
    rising s t true false less = omega arith
    rising s t false true less = omega arith
    rising s t false false less = omega arith

-- one more in front of changes in order
in_order-cons : (change : Change) (rest : List Change) → IsInOrder rest → All (λ other. log_place change ≤ log_place other) rest → IsInOrder (change ∷ rest)
in_order-cons change rest order first = record { rises = rises }
  where
    rises : (i j : ℕ) (d : Change) → i ≤ j → j < length (change ∷ rest) → log_place (get_or (change ∷ rest) i d) ≤ log_place (get_or (change ∷ rest) j d)
    rises zero zero d le within = omega arith
    rises zero (suc j) d le within = first j d (omega arith)
    rises (suc i) zero d le within = absurd (omega (arith, le))
    rises (suc i) (suc j) d le within = order.rises i j d (omega arith) (omega arith)

-- later changes behind those in order
in_order-append : (own rest : List Change) → IsInOrder own → IsInOrder rest
    → ((change other : Change) → IsOneOf own change → IsOneOf rest other → change.stamp.0 < other.stamp.0) → IsInOrder (own ++ rest)
in_order-append [] rest order later before = later
in_order-append (change ∷ own) rest order later before =
    in_order-cons change (own ++ rest)
    (in_order-append own rest (in_order-drop 1 (change ∷ own) order) later (λ one other in_own. before one other (inr in_own)))
    (all_of (λ other. log_place change ≤ log_place other) (own ++ rest) (λ other one. elim (in_either own rest other one) [
      | inl here ↦ one_of_all (λ o. log_place change ≤ log_place o) own other (λ k d within. order.rises 0 (suc k) d (omega arith) (omega arith)) here
      | inr there ↦ sooner change other (before change other (inl refl) there)
    ]))

-- what a history logs stands in order
pub history_in_order : (first : TreeState) (history : List Entry) (stamp : ℕ) → IsLegalFrom first stamp history → IsInOrder (logged_of first history)
history_in_order first [] stamp legal = nothing_in_order
history_in_order first (entry ∷ history) stamp legal =
    in_order-append (logged_in_tree first entry) (logged_of (tree_after_entry first entry) history) (logged_in_order first entry.core.0 entry.stamp.0 _ _)
    (history_in_order (tree_after_entry first entry) history (suc stamp) legal.1)
    (λ change other here there. let own = logged_stamp first entry.core.0 entry.stamp.0 _ _ change here in
    let later = logged_later (tree_after_entry first entry) history (suc stamp) legal.1 other there in let at = legal.0.stamped in omega arith)

-- what it logs has a stamp below its end
pub logged_below : (first : TreeState) (history : List Entry) (stamp : ℕ) → IsLegalFrom first stamp history → (change : Change)
    → IsOneOf (logged_of first history) change → change.stamp.0 < stamp + length history
logged_below first [] stamp legal change one = absurd one
logged_below first (entry ∷ history) stamp legal change one =
    elim (in_either (logged_in_tree first entry) (logged_of (tree_after_entry first entry) history) change one) [
      | inl here ↦ let same = logged_stamp first entry.core.0 entry.stamp.0 _ _ change here in let at = legal.0.stamped in omega arith
      | inr later ↦ let less = logged_below (tree_after_entry first entry) history (suc stamp) legal.1 change later in omega arith
    ]

-- what one core logs of a history the history logs
pub of_history : (core : ℕ) (first : TreeState) (history : List Entry) (change : Change) → IsOneOf (logged_of_core core first history) change
    → IsOneOf (logged_of first history) change
of_history core first [] change one = one
of_history core first (entry ∷ history) change one =
    elim (in_either (cond (is_entry_of core entry) (logged_in_tree first entry) []) (logged_of_core core (tree_after_entry first entry) history) change one) [
      | inl here ↦ in_left (logged_in_tree first entry) (logged_of (tree_after_entry first entry) history) change (own (is_entry_of core entry) here)
      | inr later ↦
          in_right (logged_in_tree first entry) (logged_of (tree_after_entry first entry) history) change
          (of_history core (tree_after_entry first entry) history change later)
    ]
  where
    own : (b : Bool) → IsOneOf (cond b (logged_in_tree first entry) []) change → IsOneOf (logged_in_tree first entry) change
    own true here = here
    own false here = absurd here

-- what one core logs of a longer history
pub logged_push : (core : ℕ) (first : TreeState) (history : List Entry) (entry : Entry)
    → logged_of_core core first (history ++ entry ∷ [])
    ≡ logged_of_core core first history ++ cond (is_entry_of core entry) (logged_in_tree (tree_after first history) entry) []
logged_push core first [] entry = append-nil (cond (is_entry_of core entry) (logged_in_tree first entry) [])
logged_push core first (next ∷ history) entry =
    let own : List Change = cond (is_entry_of core next) (logged_in_tree first next) [] in
    let next_tree = tree_after_entry first next in
    ap (λ l. own ++ l) (logged_push core next_tree history entry)
    ∙ sym (append_assoc own (logged_of_core core next_tree history) (cond (is_entry_of core entry) (logged_in_tree (tree_after next_tree history) entry) []))

-- of the changes that pass a test which only those of one stamp do, one core logs all or none: it is that of the stamp's entry, or not
pub one_cores : (core : ℕ) (test : Change → Bool) (first : TreeState) (history : List Entry) (stamp t : ℕ) → IsLegalFrom first stamp history
    → ((change : Change) → test change ≡ true → change.stamp.0 ≡ stamp + t)
    → filter test (logged_of_core core first history) ≡ cond (nat_eq (core_at first history t) core) (filter test (logged_of first history)) []
one_cores core test first [] stamp t legal asks = nothing (nat_eq 0 core)
  where
    nothing : (b : Bool) → ◌≡◌ {A = List Change} [] (cond b [] [])
    nothing true = refl
    nothing false = refl
one_cores core test first (entry ∷ history) stamp zero legal asks =
    let own = logged_in_tree first entry in
    let rest = logged_of (tree_after_entry first entry) history in
    let core_rest = logged_of_core core (tree_after_entry first entry) history in
    let none_later : (l : List Change) → ((change : Change) → IsOneOf l change → IsOneOf rest change) → filter test l ≡ [] =
    λ l within. filter_none test l
    (λ change one. refused change
    (let later = logged_later (tree_after_entry first entry) history (suc stamp) legal.1 change (within change one) in omega arith)) in
    filter-append test (cond (is_entry_of core entry) own []) core_rest
    ∙ ap (λ l. filter test (cond (is_entry_of core entry) own []) ++ l)
    (none_later core_rest (λ change one. of_history core (tree_after_entry first entry) history change one))
    ∙ append-nil (filter test (cond (is_entry_of core entry) own []))
    ∙ cond_in (is_entry_of core entry) own
    ∙ ap (λ l. cond (is_entry_of core entry) l [])
    (sym (filter-append test own rest ∙ ap (λ l. filter test own ++ l) (none_later rest (λ change one. one)) ∙ append-nil (filter test own)))
  where
    refused : (change : Change) → stamp + 0 < change.stamp.0 → test change ≡ false
    refused change less = by (test change) refl
      where
        by : (b : Bool) → test change ≡ b → b ≡ false
        by true is = let at = asks change is in absurd (omega (arith, at, less))
        by false is = refl

    cond_in : (b : Bool) (l : List Change) → filter test (cond b l []) ≡ cond b (filter test l) []
    cond_in true l = refl
    cond_in false l = refl
one_cores core test first (entry ∷ history) stamp (suc t) legal asks =
    let own = logged_in_tree first entry in
    let rest = logged_of (tree_after_entry first entry) history in
    let core_rest = logged_of_core core (tree_after_entry first entry) history in
    let none : filter test own ≡ [] =
    filter_none test own (λ change one. refused change (logged_stamp first entry.core.0 entry.stamp.0 _ _ change one ∙ legal.0.stamped)) in
    filter-append test (cond (is_entry_of core entry) own []) core_rest
    ∙ ap (λ l. l ++ filter test core_rest) (cond_none (is_entry_of core entry) own none)
    ∙ one_cores core test (tree_after_entry first entry) history (suc stamp) t legal.1 (λ change is. asks change is ∙ later)
    ∙ ap (λ l. cond (nat_eq (core_at (tree_after_entry first entry) history t) core) l [])
    (sym (filter-append test own rest ∙ ap (λ l. l ++ filter test rest) none))
  where
    later : stamp + suc t ≡ suc stamp + t
    later = omega arith

    refused : (change : Change) → change.stamp.0 ≡ stamp → test change ≡ false
    refused change is_stamp = by (test change) refl
      where
        by : (b : Bool) → test change ≡ b → b ≡ false
        by true is = let at = asks change is in absurd (omega (arith, at, is_stamp))
        by false is = refl

    cond_none : (b : Bool) (l : List Change) → filter test l ≡ [] → filter test (cond b l []) ≡ []
    cond_none true l none = none
    cond_none false l none = refl
