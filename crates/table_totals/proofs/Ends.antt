-- A core that has seen as many calls as workers can have made has seen all of a history to which they come.
use Rattle.std.proofs.Common.{◌≡◌, ◌<◌, ◌≤◌, ◌+◌, ◌∷◌, ◌∙◌, ℕ, zero, suc, Bool, true, false, cond, List, [], Some, length, map, filter, refl, sym, ap, subst, arith, eq-eqb}
use Rattle.std.specs.Prelude.{All, slice_get}
use Rattle.std.specs.List.{AllByRecursion}
use Rattle.std.proofs.lemmas.List.{length-map}
use Rattle.std.proofs.lemmas.Option.{get_or_from_slice_get, slice_get_within}
use mathlib.Core.List.{IsPrefix}
use Rattle.tree_laws.specs.History.{IsLegalFrom, tree_after, tree_after_entry}
use Rattle.tree_laws.specs.Merged.{is_core}
use Rattle.tree_laws.specs.Tree.{TreeState}
use Rattle.tree_laws.specs.declared.history.Entry.{Entry}
use Rattle.tree_laws.specs.Verdict.{tree_after_call}
use Rattle.tree_laws.proofs.Cores.{cores_after}
use Rattle.stamp_table.specs.Answered.{unanswered}
use Rattle.stamp_table.specs.Events.{calls_in}
use Rattle.stamp_table.proofs.Answered.{same_call}
use Rattle.mem_values.specs.Start.{FileState}
use Rattle.mem_values.proofs.Told.{calls_grow}
use Rattle.workers.specs.Phases.{AreBefore}
use Rattle.workers.specs.declared.worker.Worker.{Worker}
use Rattle.table_totals.specs.Rest.{ComeToHistory}
use Rattle.table_totals.specs.Seen.{tree_seen}
use Rattle.table_totals.proofs.Moments.{same_calls}

-- histories that are one but for their answers lead to one tree
pub same_tree_after : (tree : TreeState) (history calls : List Entry) → map unanswered history ≡ map unanswered calls
    → tree_after tree history ≡ tree_after tree calls
same_tree_after tree [] [] same = refl
same_tree_after tree [] (c ∷ calls) same = absurd (let long = ap length same in omega (arith, long))
same_tree_after tree (h ∷ history) [] same = absurd (let long = ap length same in omega (arith, long))
same_tree_after tree (h ∷ history) (c ∷ calls) same =
    let one = same_call h c (cc (same)) in
    ap (λ (t : TreeState). tree_after t history)
    (λ i. tree_after_call tree (one.core i).0 (one.call_is i))
    ∙ same_tree_after (tree_after_entry tree c) history calls (cc (same))

-- entries that were before a number are before a greater one
still_before : (low high : ℕ) (entries : List Entry) → low ≤ high → AreBefore low entries → AreBefore high entries
still_before low high [] le before = tt
still_before low high (e ∷ entries) le before = ((let first = before.0 in omega (arith, first, le)), still_before low high entries le before.1)

-- what holds of a core's entries holds of those behind the first entry
behind_first : (P : Entry → Type 0) (core : ℕ) (e : Entry) (history : List Entry) → AllByRecursion P (filter (is_core core) (e ∷ history))
    → AllByRecursion P (filter (is_core core) history)
behind_first P core e history all = by (is_core core e) all
  where
    by : (b : Bool) → AllByRecursion P (cond b (e ∷ filter (is_core core) history) (filter (is_core core) history))
        → AllByRecursion P (filter (is_core core) history)
    by true all = all.1
    by false all = all

-- an entry is among its core's own
own_first : (P : Entry → Type 0) (e : Entry) (history : List Entry) → AllByRecursion P (filter (is_core e.core.0) (e ∷ history)) → P e
own_first P e history all =
    (subst (λ b. AllByRecursion P (cond b (e ∷ filter (is_core e.core.0) history) (filter (is_core e.core.0) history)))
    (eq-eqb e.core.0 e.core.0 refl) all).0

-- a legal history has at most as many entries as a number that none of its cores' entries has reached
few_entries : (tree : TreeState) (stamp most : ℕ) (history : List Entry) → IsLegalFrom tree stamp history
    → ((core : ℕ) → core < length tree.made → AreBefore most (filter (is_core core) history)) → stamp ≤ most → stamp + length history ≤ most
few_entries tree stamp most [] legal each low = omega (arith, low)
few_entries tree stamp most (e ∷ history) legal each low =
    let here = own_first (λ entry. entry.stamp.0 < most) e history (each e.core.0 legal.0.core) in
    let stamped = legal.0.stamped in
    let rest = few_entries (tree_after_entry tree e) (suc stamp) most history legal.1
    (λ core within. behind_first (λ entry. entry.stamp.0 < most) core e history
    (each core (subst (λ n. core < n) (cores_after tree e.core.0 e.call) within)))
    (omega (arith, here, stamped)) in
    omega (arith, rest)

-- a list has an item at each place
item_at : {A : Type 0} (xs : List A) (k : ℕ) → k < length xs → (x : A) × (slice_get xs k ≡ Some x)
item_at [] k low = absurd (omega (arith, low))
item_at (x ∷ xs) zero low = (x, refl)
item_at (x ∷ xs) (suc k) low = item_at xs k (omega (arith, low))

all_at : {A : Type 0} (P : A → Type 0) (xs : List A) (k : ℕ) (x : A) → All P xs → slice_get xs k ≡ Some x → P x
all_at P xs k x all there = subst P (get_or_from_slice_get xs k x x there) (all k x (slice_get_within xs k x there))

module _ {P : Type 0} (t : FileState) (first : Worker P) (others : List (Worker P)) (most : ℕ)
    (count : length (first ∷ others) ≡ length t.first.made)
    (past : All (λ worker. AreBefore worker.until worker.core.entries) (first ∷ others))
    (until : All (λ worker. worker.until ≤ most) (first ∷ others))
    (seen : most ≤ length (calls_in first.core.view.seen)) (first_is : first.core.view.first ≡ t.first)
    (history : List Entry) (come : ComeToHistory t (first ∷ others) history) where
  each_before : (core : ℕ) → core < length t.first.made → AreBefore most (filter (is_core core) history)
  each_before core within =
      let at = item_at (first ∷ others) core (omega (arith, count, within)) in
      subst (AreBefore most) (sym (come.own core at.0 at.1))
      (still_before at.0.until most at.0.core.entries (all_at (λ worker. worker.until ≤ most) (first ∷ others) core at.0 until at.1)
      (all_at (λ worker. AreBefore worker.until worker.core.entries) (first ∷ others) core at.0 past at.1))

  few : length history ≤ most
  few = let bound = few_entries t.first 0 most history come.legal each_before (omega arith) in omega (arith, bound)

  begins : IsPrefix first.core.view.seen come.log
  begins = come.events.seen 0 first.core refl

  all_seen : calls_in come.log ≡ calls_in first.core.view.seen
  all_seen =
      let long = sym (length-map history unanswered) ∙ (ap length come.events.calls ∙ length-map (calls_in come.log) unanswered) in
      let low = calls_grow first.core.view.seen come.log begins in
      let bound = few in
      same_calls first.core.view.seen come.log begins (omega (arith, long, low, bound, seen))

  -- the tree after the history is the one that the first core has seen
  pub tree_is : tree_seen first.core ≡ tree_after t.first history
  tree_is =
      (λ i. tree_after (first_is i) (sym all_seen i))
      ∙ sym (same_tree_after t.first history (calls_in come.log) come.events.calls)
