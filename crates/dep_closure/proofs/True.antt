-- What the logs of a legal history have is so in it.
use Rattle.std.proofs.Common.{◌≡◌, ◌≢◌, ℕ, zero, suc, ◌+◌, ◌≤◌, Bool, true, false, cond, List, [], ◌∷◌, ◌++◌, take, map, filter, Option, Some, None, ◌⊎◌, inl, inr, refl, sym, ap, ◌∙◌, subst, arith, nat_eq}
use Rattle.std.specs.Prelude.{◌&&◌, is_some}
use Rattle.std.specs.FinMap.{len}
use borrow.Author.Tests.{eqb-true, eq-eqb}
use Rattle.std.proofs.lemmas.List.{append-nil}
use Rattle.std.proofs.lemmas.List.Elements.{filter-append}
use Rattle.sfs_base.specs.declared.numbers.Kind.{Kind}
use Rattle.sfs_base.specs.declared.numbers.NodeId.{NodeId}
use Rattle.sfs_base.proofs.BasicNumbers.{same_number, not_same, suc_plus, zero_plus, plus_zero}
use Rattle.sfs_base.proofs.BasicTruth.{and_false, true_not_false}
use Rattle.sfs_base.proofs.BasicOptions.{some_not_none}
use Rattle.tree_laws.specs.declared.changes.Change.{Change}
use Rattle.tree_laws.specs.declared.history.Entry.{Entry}
use Rattle.tree_laws.specs.Tree.{TreeState, is_directory, is_alive, is_directory_kind, kind_of, row_of, walk_up}
use Rattle.tree_laws.specs.Effect.{Effect, Stays, Adds, Removes, Moves, Edits}
use Rattle.tree_laws.specs.Fits.{Fits}
use Rattle.tree_laws.specs.Sound.{Above, IsSound}
use Rattle.tree_laws.specs.Changes.{RowChange, changes_by}
use Rattle.tree_laws.specs.Logged.{is_addition, is_end_of, is_logged_in, logged_by, logged_replaced, erased, erased_entry, above_due}
use Rattle.tree_laws.specs.NameRow.{number_of}
use Rattle.tree_laws.specs.Verdict.{verdict}
use Rattle.tree_laws.specs.History.{tree_after, tree_after_entry, IsLegal, IsLegalFrom}
use Rattle.tree_laws.specs.Laws.{IsSoundTree}
use Rattle.tree_laws.proofs.KeepsSound.{way_up}
use Rattle.tree_laws.proofs.Logs.{logs_erase}
use Rattle.tree_laws.proofs.LoggedWays.{logs_tell_ways}
use Rattle.tree_laws.proofs.Readings.{directory_by_kind}
use Rattle.tree_laws.proofs.SoundTrees.{calls_keep_sound}
use Rattle.tree_laws.proofs.Walks.{walk_is}
use Rattle.cut_laws.specs.Closure.{Counts}
use Rattle.cut_laws.specs.Rules.{IsOneOf, IsChange, IsMove}
use Rattle.cut_laws.proofs.Along.{tree_at, core_at, effect_at, makes_at, tree_at-after, sound_at, fits_at, change_in, change_of}
use Rattle.cut_laws.proofs.Basics.{in_either, filter_all, filter_none}
use Rattle.cut_laws.proofs.Listed.{from_map, to_map}
use Rattle.cut_laws.proofs.RunFacts.{in_filter}
use Rattle.look_laws.specs.Fit.{IsTrue}
use Rattle.look_laws.proofs.Fitting.{looks_fit}
use Rattle.dep_closure.specs.declared.gathered.DirectoryChanges.{DirectoryChanges}
use Rattle.dep_closure.specs.Gathered.{noted_as, noted_in}
use Rattle.dep_closure.specs.History.{logged_of, IsLogOf}
use Rattle.dep_closure.specs.Laws.{LogsAreTrue, ListsAreClosures}
use Rattle.dep_closure.specs.Spans.{is_of_stamp}
use Rattle.cut_laws.proofs.Listed.{to_filter}
use Rattle.dep_closure.proofs.Looked.{from_flat}
use Rattle.dep_closure.proofs.Parts.{pass_both}

-- what the entry at a place of a history logs, where its stamp is this
abbrev pub logged_at : TreeState → List Entry → ℕ → ℕ → List Change
logged_at first history stamp t = logged_by (tree_at first history t) (core_at first history t) stamp (effect_at first history t) (makes_at first history t)

-- what an entry logs has its stamp
pub logged_stamp : (tree : TreeState) (core stamp : ℕ) (effect : Effect) (makes : Option Kind) (change : Change)
    → IsOneOf (logged_by tree core stamp effect makes) change → change.stamp.0 ≡ stamp
logged_stamp tree core stamp Stays makes change one = absurd one
logged_stamp tree core stamp (Adds directory name child) makes change one =
    elim one [ inl same ↦ ap (λ (c : Change). c.stamp.0) (sym same) | inr none ↦ absurd none ]
logged_stamp tree core stamp (Removes directory name child) makes change one =
    elim one [ inl same ↦ ap (λ (c : Change). c.stamp.0) (sym same) | inr none ↦ absurd none ]
logged_stamp tree core stamp (Moves p n q m x) makes change one = elim (in_either (logged_replaced tree stamp p q m (row_of tree q m)) _ change one) [
  | inl replaced ↦ of_replaced (row_of tree q m) replaced
  | inr moved ↦ elim moved [
    | inl same ↦ ap (λ (c : Change). c.stamp.0) (sym same)
    | inr put ↦ elim put [ inl same ↦ ap (λ (c : Change). c.stamp.0) (sym same) | inr none ↦ absurd none ]
  ]
]
  where
    of_replaced : (there : Option ℕ) → IsOneOf (logged_replaced tree stamp p q m there) change → change.stamp.0 ≡ stamp
    of_replaced None one = absurd one
    of_replaced (Some there) one = elim one [ inl same ↦ ap (λ (c : Change). c.stamp.0) (sym same) | inr none ↦ absurd none ]
logged_stamp tree core stamp (Edits file edit) makes change one = absurd one

-- later entries log at later stamps
pub logged_later : (first : TreeState) (history : List Entry) (stamp : ℕ) → IsLegalFrom first stamp history → (change : Change)
    → IsOneOf (logged_of first history) change → stamp ≤ change.stamp.0
logged_later first [] stamp legal change one = absurd one
logged_later first (entry ∷ history) stamp legal change one = elim (in_either _ (logged_of (tree_after_entry first entry) history) change one) [
  | inl here ↦ let same = logged_stamp first entry.core.0 entry.stamp.0 _ _ change here in let at = legal.0.stamped in omega arith
  | inr later ↦ let more = logged_later (tree_after_entry first entry) history (suc stamp) legal.1 change later in omega arith
]

-- what a history logs at a stamp is what the entry of that stamp logs
logged_there : (first : TreeState) (history : List Entry) (stamp t : ℕ) → IsLegalFrom first stamp history
    → filter (is_of_stamp (stamp + t)) (logged_of first history) ≡ logged_at first history (stamp + t) t
logged_there first [] stamp t legal = refl
logged_there first (entry ∷ history) stamp zero legal =
    let own = logged_by first entry.core.0 entry.stamp.0 (verdict first entry.core.0 entry.call).effect (verdict first entry.core.0 entry.call).makes in
    let rest = logged_of (tree_after_entry first entry) history in
    let stamped = legal.0.stamped in
    let all : filter (is_of_stamp (stamp + 0)) own ≡ own =
    filter_all (is_of_stamp (stamp + 0)) own
    (λ x one. let at = logged_stamp first entry.core.0 entry.stamp.0 _ _ x one in eq-eqb x.stamp.0 (stamp + 0) (omega arith)) in
    let none : filter (is_of_stamp (stamp + 0)) rest ≡ [] =
    filter_none (is_of_stamp (stamp + 0)) rest
    (λ x one. let late = logged_later (tree_after_entry first entry) history (suc stamp) legal.1 x one in
    not_same x.stamp.0 (stamp + 0) (omega arith)) in
    filter-append (is_of_stamp (stamp + 0)) own rest ∙ ap (λ l. l ++ filter (is_of_stamp (stamp + 0)) rest) all ∙ ap (λ l. own ++ l) none ∙ append-nil own
    ∙ ap (λ n. logged_by first entry.core.0 n (verdict first entry.core.0 entry.call).effect (verdict first entry.core.0 entry.call).makes)
    (stamped ∙ sym (plus_zero stamp))
logged_there first (entry ∷ history) stamp (suc t) legal =
    let own = logged_by first entry.core.0 entry.stamp.0 (verdict first entry.core.0 entry.call).effect (verdict first entry.core.0 entry.call).makes in
    let rest = logged_of (tree_after_entry first entry) history in
    let stamped = legal.0.stamped in
    let none : filter (is_of_stamp (stamp + suc t)) own ≡ [] =
    filter_none (is_of_stamp (stamp + suc t)) own
    (λ x one. let at = logged_stamp first entry.core.0 entry.stamp.0 _ _ x one in not_same x.stamp.0 (stamp + suc t) (omega arith)) in
    filter-append (is_of_stamp (stamp + suc t)) own rest ∙ ap (λ l. l ++ filter (is_of_stamp (stamp + suc t)) rest) none
    ∙ subst (λ n. filter (is_of_stamp n) rest ≡ logged_at (tree_after_entry first entry) history n t) (suc_plus stamp t)
    (logged_there (tree_after_entry first entry) history (suc stamp) t legal.1)

-- what a whole history logs at a stamp
pub logged_stamped : (first : TreeState) (history : List Entry) (stamp : ℕ) → IsLegal first history
    → filter (is_of_stamp stamp) (logged_of first history) ≡ logged_at first history stamp stamp
logged_stamped first history stamp legal =
    subst (λ n. filter (is_of_stamp n) (logged_of first history) ≡ logged_at first history n stamp) (zero_plus stamp) (logged_there first history 0 stamp legal)

-- a change of a history is logged by the entry of its stamp
pub logged_once : (first : TreeState) (history : List Entry) (change : Change) → IsLegal first history → IsOneOf (logged_of first history) change
    → IsOneOf (logged_at first history change.stamp.0 change.stamp.0) change
logged_once first history change legal one =
    subst (λ l. IsOneOf l change) (logged_stamped first history change.stamp.0 legal)
    (to_filter (is_of_stamp change.stamp.0) (logged_of first history) change one (same_number change.stamp.0))

-- what an entry logs erases to its changes of rows
erased_from : (first : TreeState) (history : List Entry) (stamp t : ℕ) → IsSoundTree first → IsLegalFrom first stamp history
    → erased_entry (logged_at first history (stamp + t) t) ≡ changes_by (tree_at first history t) (stamp + t) (effect_at first history t)
erased_from first [] stamp t is legal = refl
erased_from first (entry ∷ history) stamp zero is legal = logs_erase first entry.core.0 (stamp + 0) entry.call is legal.0.core
erased_from first (entry ∷ history) stamp (suc t) is legal =
    let next = tree_after_entry first entry in
    subst (λ n. erased_entry (logged_at next history n t) ≡ changes_by (tree_at next history t) n (effect_at next history t)) (suc_plus stamp t)
    (erased_from next history (suc stamp) t (calls_keep_sound first entry.core.0 entry.call is legal.0.core) legal.1)

erased_at : (first : TreeState) (history : List Entry) (stamp : ℕ) → IsSoundTree first → IsLegal first history
    → erased_entry (logged_at first history stamp stamp) ≡ changes_by (tree_at first history stamp) stamp (effect_at first history stamp)
erased_at first history stamp is legal =
    subst (λ n. erased_entry (logged_at first history n stamp) ≡ changes_by (tree_at first history stamp) n (effect_at first history stamp)) (zero_plus stamp)
    (erased_from first history 0 stamp is legal)

-- two functions that give the same along a list give the same of each of it
same_of_maps : {X Y : Type 0} (f g : X → Y) (xs : List X) (x : X) → map f xs ≡ map g xs → IsOneOf xs x → f x ≡ g x
same_of_maps f g [] x same one = absurd one
same_of_maps f g (first ∷ xs) x same one = elim one [
  | inl is ↦ subst (λ y. f y ≡ g y) is (cc)
  | inr later ↦ same_of_maps f g xs x (cc) later
]

-- A row that comes by a rename between two directories: its directory is there, and its child is of the kind that is told.
record ComesHere (tree : TreeState) (change : Change) : Type 0 where
  kind : is_directory tree change.dir.0 ≡ true
  alive : is_alive tree change.dir.0 ≡ true
  child : change.kind ≡ kind_of tree change.child.0

comes_here : (tree : TreeState) (core stamp : ℕ) (effect : Effect) (makes : Option Kind) (change : Change) → Fits tree core effect makes
    → IsOneOf (logged_by tree core stamp effect makes) change → is_addition change.act ≡ true → is_some change.other ≡ true → ComesHere tree change
comes_here tree core stamp Stays makes change fits one adds other = absurd one
comes_here tree core stamp (Adds directory name child) makes change fits one adds other = elim one [
  | inl same ↦ absurd (true_not_false (sym other ∙ ap (λ (c : Change). is_some c.other) (sym same)))
  | inr none ↦ absurd none
]
comes_here tree core stamp (Removes directory name child) makes change fits one adds other = elim one [
  | inl same ↦ absurd (true_not_false (sym adds ∙ ap (λ (c : Change). is_addition c.act) (sym same)))
  | inr none ↦ absurd none
]
comes_here tree core stamp (Moves p n q m x) (Some kind) change fits one adds other = absurd fits
comes_here tree core stamp (Moves p n q m x) None change fits one adds other =
    elim (in_either (logged_replaced tree stamp p q m (row_of tree q m)) _ change one) [
      | inl replaced ↦ absurd (of_replaced (row_of tree q m) replaced)
      | inr moved ↦ elim moved [
        | inl same ↦ absurd (true_not_false (sym adds ∙ ap (λ (c : Change). is_addition c.act) (sym same)))
        | inr put ↦ elim put [
          | inl same ↦ subst (ComesHere tree) same (record { kind = fits.holder.kind; alive = fits.holder.alive; child = refl })
          | inr none ↦ absurd none
        ]
      ]
    ]
  where
    of_replaced : (there : Option ℕ) → IsOneOf (logged_replaced tree stamp p q m there) change → ⊥
    of_replaced None one = one
    of_replaced (Some there) one = elim one [ inl same ↦ true_not_false (sym adds ∙ ap (λ (c : Change). is_addition c.act) (sym same)) | inr none ↦ none ]
comes_here tree core stamp (Edits file edit) makes change fits one adds other = absurd one

-- what is due where three things hold, and nothing where one of them does not
due_cases : (a o k : Bool) (walk above : List ℕ) → above ≡ cond (a && o && k) walk [] → ((a ≡ true) × (o ≡ true) × (k ≡ true) × (above ≡ walk)) ⊎ (above ≡ [])
due_cases true true true walk above e = inl (refl, refl, refl, e)
due_cases true true false walk above e = inr e
due_cases true false k walk above e = inr e
due_cases false o k walk above e = inr e

due_full : (a o k : Bool) (walk above : List ℕ) → a ≡ true → o ≡ true → k ≡ true → above ≡ cond (a && o && k) walk [] → above ≡ walk
due_full true true true walk above adds other kind e = e
due_full true true false walk above adds other kind e = absurd (cc)
due_full true false k walk above adds other kind e = absurd (cc)
due_full false o k walk above adds other kind e = absurd (cc)

some_other : (other : Option NodeId) → number_of other ≢ None → is_some other ≡ true
some_other None some = absurd (some refl)
some_other (Some node) some = refl

other_some : (other : Option NodeId) → is_some other ≡ true → number_of other ≢ None
other_some None some none = absurd (cc)
other_some (Some node) some none = some_not_none none

module _ (first : TreeState) (history : List Entry) (counts : Counts) (sound : IsSoundTree first) (legal : IsLegal first history) (change : Change)
    (counted : counts change.stamp.0 ≡ true)
    (one : IsOneOf (logged_at first history change.stamp.0 change.stamp.0) change) where
  abbrev tree : TreeState
  tree = tree_at first history change.stamp.0

  abbrev entry : List Change
  entry = logged_at first history change.stamp.0 change.stamp.0

  abbrev after : TreeState
  after = tree_after first (take change.stamp.0 history)

  same_tree : tree ≡ after
  same_tree = tree_at-after first history change.stamp.0

  is_sound : IsSound tree
  is_sound = sound_at first history 0 change.stamp.0 sound legal

  comes : is_addition change.act ≡ true → is_some change.other ≡ true → ComesHere tree change
  comes =
      comes_here tree (core_at first history change.stamp.0) change.stamp.0 (effect_at first history change.stamp.0)
      (makes_at first history change.stamp.0) change (fits_at first history 0 change.stamp.0 sound legal) one

  due : change.above ≡ above_due tree change
  due =
      same_of_maps (λ (c : Change). c.above) (above_due tree) entry change
      (logs_tell_ways tree (core_at first history change.stamp.0) change.stamp.0 (effect_at first history change.stamp.0)
      (makes_at first history change.stamp.0))
      one

  pub row : IsChange first history (erased entry change)
  row =
      change_in first history change.stamp.0 (erased entry change) legal
      (subst (λ l. IsOneOf l (erased entry change)) (erased_at first history change.stamp.0 sound legal) (to_map (erased entry) entry change one))

  same_kind : ComesHere tree change → is_directory tree change.child.0 ≡ is_directory_kind change.kind
  same_kind here = directory_by_kind tree change.child.0 ∙ ap is_directory_kind (sym here.child)

  told_above : (above : List ℕ) → IsMove first history (erased entry change) → Above after change.dir.0 above → change.above ≡ above
  told_above above move way =
      let other = some_other change.other move.moves.other in
      let here = comes move.moves.places other in
      let kind = subst (λ t. is_directory t change.child.0 ≡ true) (sym same_tree) move.moves.kind in
      due_full (is_addition change.act) (is_some change.other) (is_directory_kind change.kind) _ change.above move.moves.places other
      (sym (same_kind here) ∙ kind) due
      ∙ walk_is tree is_sound (subst (λ t. Above t change.dir.0 above) (sym same_tree) way) here.kind

  any_above : (node : ℕ) → IsOneOf change.above node
      → (is_addition change.act ≡ true) × (is_some change.other ≡ true) × (is_directory_kind change.kind ≡ true)
      × (change.above ≡ walk_up (len tree.rows) tree change.dir.0)
  any_above node among =
      elim (due_cases (is_addition change.act) (is_some change.other) (is_directory_kind change.kind)
      (walk_up (len tree.rows) tree change.dir.0) change.above due) [
        | inl all ↦ all
        | inr none ↦ absurd (subst (λ l. IsOneOf l node) none among)
      ]

  one_is_true : IsTrue first history counts (record { change = erased entry change; above = change.above })
  one_is_true = record {
    is_change = row;
    counted = counted;
    told = told_above;
    moves = λ node among.
        let all = any_above node among in
        record {
          is_change = row;
          moves = record {
            places = all.0;
            other = other_some change.other all.1;
            kind = subst (λ t. is_directory t change.child.0 ≡ true) same_tree (same_kind (comes all.0 all.1) ∙ all.2);
          };
        };
    stands = λ node among.
        let all = any_above node among in
        let here = comes all.0 all.1 in
        let way = way_up tree is_sound change.dir.0 here.kind here.alive in
        subst (λ t. Above t change.dir.0 change.above) same_tree
        (subst (λ l. Above tree change.dir.0 l) (sym (all.3 ∙ walk_is tree is_sound way.1 here.kind)) way.1);
  }

-- a log's changes at a stamp are those of its directory that the entry logs
log_stamped : (first : TreeState) (history : List Entry) (counts : Counts) (log : DirectoryChanges) (is : IsLogOf first history counts log) (stamp : ℕ)
    → IsLegal first history → is.keeps stamp ≡ true
    → filter (is_of_stamp stamp) log.changes.items ≡ filter (is_logged_in log.dir.0) (logged_at first history stamp stamp)
log_stamped first history counts log is stamp legal kept =
    let logged = logged_of first history in
    let own = filter (is_logged_in log.dir.0) logged in
    ap (filter (is_of_stamp stamp)) is.changes
    ∙ pass_both (λ change. is.keeps change.stamp.0) (is_of_stamp stamp) (is_of_stamp stamp) asks own
    ∙ pass_both (is_logged_in log.dir.0) (is_of_stamp stamp) (λ change. is_logged_in log.dir.0 change && is_of_stamp stamp change) (λ change. refl) logged
    ∙ sym
    (pass_both (is_of_stamp stamp) (is_logged_in log.dir.0) (λ change. is_logged_in log.dir.0 change && is_of_stamp stamp change)
    (λ change. and_turned (is_logged_in log.dir.0 change) (is_of_stamp stamp change)) logged)
    ∙ ap (filter (is_logged_in log.dir.0)) (logged_stamped first history stamp legal)
  where
    asks : (x : Change) → is_of_stamp stamp x ≡ (is.keeps x.stamp.0 && is_of_stamp stamp x)
    asks x = elim (nat_eq x.stamp.0 stamp) as (λ b. nat_eq x.stamp.0 stamp ≡ b → b ≡ (is.keeps x.stamp.0 && b)) [
      | true ↦ λ same. sym (ap (λ b. b && true) (ap is.keeps (eqb-true x.stamp.0 stamp same) ∙ kept))
      | false ↦ λ other. sym (and_false (is.keeps x.stamp.0))
    ] refl

    and_turned : (a b : Bool) → (a && b) ≡ (b && a)
    and_turned true true = refl
    and_turned true false = refl
    and_turned false true = refl
    and_turned false false = refl

-- of a log's change: its stamp counts, the history logs it, and by the log it is noted as by its entry
pub record StandsInHistory (first : TreeState) (history : List Entry) (counts : Counts) (log : DirectoryChanges) (change : Change) : Type 0 where
  pub counted : counts change.stamp.0 ≡ true
  pub logged : IsOneOf (logged_of first history) change
  pub noted : noted_as log.changes.items change
      ≡ record { change = erased (logged_at first history change.stamp.0 change.stamp.0) change; above = change.above }

pub stands_in_history : (first : TreeState) (history : List Entry) (counts : Counts) (log : DirectoryChanges) → IsLegal first history
    → IsLogOf first history counts log → (change : Change) → IsOneOf log.changes.items change → StandsInHistory first history counts log change
stands_in_history first history counts log legal is change one =
    let kept =
    in_filter (λ c. is.keeps c.stamp.0) (filter (is_logged_in log.dir.0) (logged_of first history)) change (subst (λ l. IsOneOf l change) is.changes one) in
    let own = in_filter (is_logged_in log.dir.0) (logged_of first history) change kept.0 in
    let directory : change.dir.0 ≡ log.dir.0 = eqb-true change.dir.0 log.dir.0 own.1 in
    let entry = logged_at first history change.stamp.0 change.stamp.0 in
    let at_stamp = log_stamped first history counts log is change.stamp.0 legal kept.1 in
    let same : filter (is_logged_in change.dir.0) (filter (is_of_stamp change.stamp.0) log.changes.items) ≡ filter (is_logged_in change.dir.0) entry =
    ap (filter (is_logged_in change.dir.0)) (at_stamp ∙ ap (λ d. filter (is_logged_in d) entry) (sym directory))
    ∙ pass_both (is_logged_in change.dir.0) (is_logged_in change.dir.0) (is_logged_in change.dir.0) (λ c. and_itself (is_logged_in change.dir.0 c)) entry in
    record {
      counted = is.counted change.stamp.0 kept.1;
      logged = own.0;
      noted = λ i. record {
        change =
            record {
              stamp = change.stamp.0;
              directory = change.dir.0;
              name = change.name;
              child = change.child.0;
              places = is_addition change.act;
              other = number_of change.other;
              ends = is_end_of (same i) change;
            };
        above = change.above;
      };
    }
  where
    and_itself : (b : Bool) → b ≡ (b && b)
    and_itself true = refl
    and_itself false = refl

log_is_true : (first : TreeState) (history : List Entry) (counts : Counts) (log : DirectoryChanges) → IsSoundTree first → IsLegal first history
    → IsLogOf first history counts log → (change : Change) → IsOneOf log.changes.items change → IsTrue first history counts (noted_as log.changes.items change)
log_is_true first history counts log sound legal is change one =
    let stands = stands_in_history first history counts log legal is change one in
    subst (IsTrue first history counts) (sym stands.noted)
    (one_is_true first history counts sound legal change stands.counted (logged_once first history change legal stands.logged))

-- each change of rows in a history is what a logged one erases to
pub logged_row : (first : TreeState) (history : List Entry) (row : RowChange) → IsSoundTree first → IsLegal first history → IsChange first history row
    → (change : Change) × IsOneOf (logged_of first history) change × (erased (logged_at first history change.stamp.0 change.stamp.0) change ≡ row)
logged_row first history row sound legal is =
    let entry = logged_at first history row.stamp row.stamp in
    let here = subst (λ l. IsOneOf l row) (sym (erased_at first history row.stamp sound legal)) (change_of first history row legal is) in
    let logged = from_map (erased entry) entry row here in
    let stamped =
    logged_stamp (tree_at first history row.stamp) (core_at first history row.stamp) row.stamp (effect_at first history row.stamp)
    (makes_at first history row.stamp) logged.0 logged.1 in (
      logged.0,
      (in_filter (is_of_stamp row.stamp) (logged_of first history) logged.0
          (subst (λ l. IsOneOf l logged.0) (sym (logged_stamped first history row.stamp legal)) logged.1)).0,
      ap (λ n. erased (logged_at first history n n) logged.0) stamped ∙ logged.2,
    )

pub logs_are_true : LogsAreTrue
logs_are_true first history counts gathered start below sound legal logs noted one =
    let in_log = from_flat noted_in gathered.logs.items noted one in
    let logged = from_map (noted_as in_log.0.changes.items) in_log.0.changes.items noted in_log.2 in
    subst (IsTrue first history counts) logged.2 (log_is_true first history counts in_log.0 sound legal (logs in_log.0 in_log.1) logged.0 logged.1)

pub lists_are_closures : ListsAreClosures
lists_are_closures first history counts cut inodes gathered start below nodes knows lists node =
    let fit = (looks_fit first history counts cut inodes _ knows).members node in
    ((λ listed. fit.0 ((lists node).0 listed)), (λ closed. (lists node).1 (fit.1 closed)))
