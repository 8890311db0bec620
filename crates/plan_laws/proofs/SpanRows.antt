-- What a history logs of a directory at the stamps of a span leads from the directory's rows before it to those behind it.
use Rattle.std.proofs.Common.{◌≡◌, ℕ, zero, suc, ◌+◌, ◌<◌, ◌≤◌, true, false, ◌&&◌, List, [], ◌∷◌, ◌++◌, take, filter, sym, ap, subst, ◌∙◌, arith, nat_lt}
use Rattle.std.specs.Prelude.{nat_le}
use Rattle.std.proofs.lemmas.Bool.{lt-ltb, le-ltb, le-leb}
use Rattle.std.proofs.lemmas.Bool.Decides.{nat_tests}
use Rattle.std.proofs.lemmas.List.Elements.{filter-append}
use Rattle.sfs_base.proofs.BasicLists.{take_none}
use Rattle.sfs_base.proofs.BasicNumbers.{zero_plus}
use Rattle.sfs_base.proofs.BasicTruth.{and_false}
use Rattle.tree_laws.specs.declared.changes.Change.{Change}
use Rattle.tree_laws.specs.declared.history.Entry.{Entry}
use Rattle.tree_laws.specs.History.{tree_after, tree_after_entry, IsLegalFrom, IsLegal}
use Rattle.tree_laws.specs.Laws.{IsSoundTree}
use Rattle.tree_laws.specs.Logged.{logged_by, is_logged_in}
use Rattle.tree_laws.specs.Tree.{TreeState, names_of}
use Rattle.tree_laws.specs.Verdict.{verdict}
use Rattle.tree_laws.proofs.Histories.{rows_at-tree_after}
use Rattle.tree_laws.proofs.SoundTrees.{calls_keep_sound, calls_fit}
use Rattle.cut_laws.specs.Cut.{Cut, cut_of, tree_at_cut}
use Rattle.cut_laws.specs.Rules.{IsOneOf}
use Rattle.cut_laws.proofs.Basics.{filter_all, filter_none}
use Rattle.cut_laws.proofs.CutRows.{directories_are_cut}
use Rattle.cut_laws.proofs.RunFacts.{in_filter}
use Rattle.dep_closure.specs.History.{logged_of}
use Rattle.dep_closure.specs.Spans.{is_in_span}
use Rattle.dep_closure.proofs.True.{logged_stamp, logged_later}
use Rattle.plan_laws.proofs.EntryRows.{LeadRows, no_changes, lead_on, lead_entry}

-- what an entry logs
abbrev pub own_log : TreeState → Entry → List Change
own_log first entry = logged_by first entry.core.0 entry.stamp.0 (verdict first entry.core.0 entry.call).effect (verdict first entry.core.0 entry.call).makes

-- a stamp is in a span, or not
inside : (from to : ℕ) (change : Change) → from ≤ change.stamp.0 → change.stamp.0 < to → is_in_span from to change ≡ true
inside from to change low high = λ i. le-leb from change.stamp.0 low i && lt-ltb change.stamp.0 to high i

before_it : (from to : ℕ) (change : Change) → change.stamp.0 < from → is_in_span from to change ≡ false
before_it from to change early =
    ap (λ b. b && nat_lt change.stamp.0 to) (let not_from : nat_le from change.stamp.0 ≡ false = grind (arith, nat_tests, early) in not_from)

behind_it : (from to : ℕ) (change : Change) → to ≤ change.stamp.0 → is_in_span from to change ≡ false
behind_it from to change late = ap (λ b. nat_le from change.stamp.0 && b) (le-ltb change.stamp.0 to late) ∙ and_false (nat_le from change.stamp.0)

module _ (d from to : ℕ) where
  -- what is logged of the directory in the span
  abbrev spanned : List Change → List Change
  spanned changes = filter (is_in_span from to) (filter (is_logged_in d) changes)

  spanned_append : (xs ys : List Change) → spanned (xs ++ ys) ≡ spanned xs ++ spanned ys
  spanned_append xs ys = ap (filter (is_in_span from to)) (filter-append (is_logged_in d) xs ys)
      ∙ filter-append (is_in_span from to) (filter (is_logged_in d) xs) (filter (is_logged_in d) ys)

  -- where all stamps are in the span, or none is
  all_spanned : (changes : List Change) → ((change : Change) → IsOneOf changes change → is_in_span from to change ≡ true)
      → spanned changes ≡ filter (is_logged_in d) changes
  all_spanned changes all =
      filter_all (is_in_span from to) (filter (is_logged_in d) changes) (λ change one. all change (in_filter (is_logged_in d) changes change one).0)

  none_spanned : (changes : List Change) → ((change : Change) → IsOneOf changes change → is_in_span from to change ≡ false) → spanned changes ≡ []
  none_spanned changes none =
      filter_none (is_in_span from to) (filter (is_logged_in d) changes) (λ change one. none change (in_filter (is_logged_in d) changes change one).0)

  -- from a stamp in the span on
  from_inside : (k m : ℕ) (first : TreeState) (history : List Entry) → from ≤ k → k + m ≡ to → IsSoundTree first → IsLegalFrom first k history
      → LeadRows (names_of d first.rows) (spanned (logged_of first history)) (names_of d (tree_after first (take m history)).rows)
  from_inside k zero first history low ends is legal =
      subst (λ (h : List Entry). LeadRows (names_of d first.rows) (spanned (logged_of first history)) (names_of d (tree_after first h).rows))
      (sym (take_none history))
      (subst (λ l. LeadRows (names_of d first.rows) l (names_of d first.rows))
      (sym
      (none_spanned (logged_of first history)
      (λ change one. behind_it from to change (let late = logged_later first history k legal change one in omega arith))))
      (no_changes (names_of d first.rows)))
  from_inside k (suc m) first [] low ends is legal = no_changes (names_of d first.rows)
  from_inside k (suc m) first (entry ∷ history) low ends is legal =
      let next = tree_after_entry first entry in
      let own = own_log first entry in
      let all : spanned own ≡ filter (is_logged_in d) own =
      all_spanned own
      (λ change one. let at = logged_stamp first entry.core.0 entry.stamp.0 _ _ change one in let stamped = legal.0.stamped in
      inside from to change (omega arith) (omega arith)) in
      subst (λ l. LeadRows (names_of d first.rows) l (names_of d (tree_after next (take m history)).rows))
      (sym (spanned_append own (logged_of next history) ∙ ap (λ l. l ++ spanned (logged_of next history)) all))
      (lead_on (names_of d first.rows) (names_of d next.rows) (names_of d (tree_after next (take m history)).rows) (filter (is_logged_in d) own)
      (spanned (logged_of next history))
      (lead_entry first entry.core.0 entry.stamp.0 d (verdict first entry.core.0 entry.call).effect (verdict first entry.core.0 entry.call).makes
      (calls_fit first entry.core.0 entry.call is legal.0.core))
      (from_inside (suc k) m next history (omega arith) (omega arith) (calls_keep_sound first entry.core.0 entry.call is legal.0.core) legal.1))

  -- and from a stamp before it
  from_before : (k n m : ℕ) (first : TreeState) (history : List Entry) → k + n ≡ from → k + m ≡ to → n ≤ m → IsSoundTree first → IsLegalFrom first k history
      → LeadRows (names_of d (tree_after first (take n history)).rows) (spanned (logged_of first history)) (names_of d (tree_after first (take m history)).rows)
  from_before k zero m first history begins ends le is legal =
      subst (λ (h : List Entry). LeadRows (names_of d (tree_after first h).rows) (spanned (logged_of first history))
      (names_of d (tree_after first (take m history)).rows))
      (sym (take_none history))
      (from_inside k m first history (omega arith) ends is legal)
  from_before k (suc n) zero first history begins ends le is legal = absurd (omega arith)
  from_before k (suc n) (suc m) first [] begins ends le is legal = no_changes (names_of d first.rows)
  from_before k (suc n) (suc m) first (entry ∷ history) begins ends le is legal =
      let next = tree_after_entry first entry in
      let own = own_log first entry in
      let none : spanned own ≡ [] =
      none_spanned own
      (λ change one. let at = logged_stamp first entry.core.0 entry.stamp.0 _ _ change one in let stamped = legal.0.stamped in
      before_it from to change (omega arith)) in
      subst (λ l. LeadRows (names_of d (tree_after next (take n history)).rows) l (names_of d (tree_after next (take m history)).rows))
      (sym (spanned_append own (logged_of next history) ∙ ap (λ l. l ++ spanned (logged_of next history)) none))
      (from_before (suc k) n m next history (omega arith) (omega arith) (omega arith) (calls_keep_sound first entry.core.0 entry.call is legal.0.core) legal.1)

-- So it does in the trees at two cuts, of which the later has a later stamp of the directory.
pub lead_cuts : (first : TreeState) (history : List Entry) (cut raised : Cut) (d : ℕ) → IsSoundTree first → IsLegal first history
    → cut_of cut d ≤ cut_of raised d
    → LeadRows (names_of d (tree_at_cut first history cut).rows)
    (filter (is_in_span (cut_of cut d) (cut_of raised d)) (filter (is_logged_in d) (logged_of first history)))
    (names_of d (tree_at_cut first history raised).rows)
lead_cuts first history cut raised d is legal le =
    let from = cut_of cut d in
    let to = cut_of raised d in
    let changes = filter (is_in_span from to) (filter (is_logged_in d) (logged_of first history)) in
    subst (λ rows. LeadRows rows changes (names_of d (tree_at_cut first history raised).rows))
    (sym (directories_are_cut first history cut d ∙ rows_at-tree_after first history d from legal))
    (subst (λ rows. LeadRows (names_of d (tree_after first (take from history)).rows) changes rows)
    (sym (directories_are_cut first history raised d ∙ rows_at-tree_after first history d to legal))
    (from_before d from to 0 from to first history (zero_plus from) (zero_plus to) le is legal))
