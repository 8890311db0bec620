-- What the logs of all cores keep, from call to call and from fsync to fsync.
use Rattle.std.proofs.Common.{◌≡◌, ℕ, suc, ◌+◌, ◌^◌, ◌-◌, ◌<◌, ◌≤◌, Bool, true, false, cond, nat_eq, List, [], ◌∷◌, ◌++◌, length, get_or, ◌⊎◌, inl, inr, refl, sym, ap, ◌∙◌, subst, arith, append-nil}
use Rattle.std.specs.Prelude.{All, filter, count_by}
use Rattle.std.specs.BTreeSet.{contains}
use Rattle.std.specs.Ordering.{nat_cmp}
use borrow.Author.Tests.{eqb-true, eq-eqb}
use Rattle.std.proofs.lemmas.List.Elements.{All-append, All-nil, All-cons}
use Rattle.std.proofs.lemmas.List.Sums.{count_by-le-length}
use Rattle.std.proofs.lemmas.Bool.Decides.{nat_tests}
use Rattle.sfs_base.specs.Listed.{is_listed}
use Rattle.sfs_base.proofs.BasicNumbers.{plus_zero}
use Rattle.sfs_base.proofs.BasicTruth.{true_not_false}
use Rattle.tree_laws.specs.declared.changes.Change.{Change}
use Rattle.tree_laws.specs.declared.history.Entry.{Entry}
use Rattle.tree_laws.specs.Tree.{TreeState}
use Rattle.tree_laws.specs.History.{tree_after, IsLegal, MayCome}
use Rattle.tree_laws.specs.Logged.{is_logged_in}
use Rattle.mem_cells.specs.Log.{log_place, is_from, IsInOrder}
use Rattle.mem_cells.specs.Part.{CoreLog, changes_kept, mark_kept}
use Rattle.mem_cells.specs.Laws.{IsLeftOf}
use Rattle.mem_cells.proofs.Left.{parts_begin, entries_are_kept, twice_kept}
use Rattle.tree_laws.proofs.Joined.{count-cons}
use Rattle.cut_laws.specs.Cut.{Cut, cut_of}
use Rattle.cut_laws.specs.Rules.{IsOneOf}
use Rattle.cut_laws.proofs.Basics.{filter_none}
use Rattle.cut_laws.proofs.RunFacts.{in_filter}
use Rattle.dep_closure.proofs.Looked.{one_of_all}
use Rattle.dep_closure.proofs.True.{logged_stamp}
use Rattle.core_logs.specs.Logs.{Logs, part_of, AreBlank, AreSameChanges, HasRoom, MayAdd, AreWithEntry, AreTrimmedOf}
use Rattle.core_logs.specs.Kept.{KeepsUnflushed, is_entry_of, logged_in_tree, logged_of_core}
use Rattle.core_logs.specs.Laws.{BlankLogsKeep, RoomKeeps, EntriesMayBeAdded, EntriesKeep, TrimsKeepUnflushed}
use Rattle.core_logs.proofs.Ordered.{all_of, sooner, logged_in_order, logged_below, of_history, logged_push}

pub blank_logs_keep : BlankLogsKeep
blank_logs_keep first cut cores logs blank = record {
  cores = All-nil (λ entry. entry.core.0 < length logs.parts);
  left = λ core within. subst (IsLeftOf [] 0) (sym (blank.each core)) parts_begin;
  marks = λ core directory within. subst (λ part. mark_kept part directory ≤ cut_of cut directory) (sym (blank.each core)) (omega arith);
  listed = λ core directory within. inl (ap (λ part. changes_kept part directory) (blank.each core));
}

pub room_keeps : RoomKeeps
room_keeps first history cut logs after same keeps = record {
  cores = subst (λ n. All (λ entry. entry.core.0 < n) history) (sym same.count) keeps.cores;
  left = λ core within.
      let old = keeps.left core (subst (λ n. core < n) same.count within) in
      let part = same.parts core in
      record {
        changes_left =
            λ directory. part.logs.changes directory ∙ old.changes_left directory
            ∙ ap (λ mark. filter (is_from mark) (filter (is_logged_in directory) (logged_of_core core first history))) (sym (part.logs.marks directory));
        entries_counted = part.entries ∙ old.entries_counted;
      };
  marks =
      λ core directory within. subst (λ n. n ≤ cut_of cut directory) (sym ((same.parts core).logs.marks directory))
      (keeps.marks core directory (subst (λ n. core < n) same.count within));
  listed = λ core directory within. elim (keeps.listed core directory (subst (λ n. core < n) same.count within)) [
    | inl none ↦ inl ((same.parts core).logs.changes directory ∙ none)
    | inr there ↦ inr (same.listed directory there)
  ];
}

-- what is kept of a history lies below its end
kept_below : (first : TreeState) (history : List Entry) → IsLegal first history → (core : ℕ) (part : CoreLog) (entries : ℕ)
    → IsLeftOf (logged_of_core core first history) entries part → (directory : ℕ) (change : Change) → IsOneOf (changes_kept part directory) change
    → change.stamp.0 < length history
kept_below first history legal core part entries left directory change one =
    let own = in_filter (is_from (mark_kept part directory)) _ change (subst (λ l. IsOneOf l change) (left.changes_left directory) one) in
    let logged = in_filter (is_logged_in directory) (logged_of_core core first history) change own.0 in
    let less = logged_below first history 0 legal change (of_history core first history change logged.0) in
    omega (arith, less)

-- how many entries of a longer history are a core's
counted_push : (core : ℕ) (history : List Entry) (entry : Entry)
    → count_by (is_entry_of core) (history ++ entry ∷ []) ≡ count_by (is_entry_of core) history + cond (nat_eq entry.core.0 core) 1 0
counted_push core [] entry = let a = count-cons (is_entry_of core) entry [] in omega arith
counted_push core (next ∷ history) entry = let a = count-cons (is_entry_of core) next (history ++ entry ∷ []) in
    let b = count-cons (is_entry_of core) next history in let h = counted_push core history entry in omega arith

module _ (first : TreeState) (history : List Entry) (entry : Entry) (cut : Cut) (logs : Logs) (legal : IsLegal first history)
    (comes : MayCome (tree_after first history) (length history) entry) where
  abbrev next : List Change
  next = logged_in_tree (tree_after first history) entry

  next_at : (change : Change) → IsOneOf next change → change.stamp.0 ≡ length history
  next_at change one = logged_stamp (tree_after first history) entry.core.0 entry.stamp.0 _ _ change one ∙ comes.stamped

  pub may_be_added : length history < 2 ^ 64 - 1 → entry.core.0 < length logs.parts → KeepsUnflushed first history cut logs → HasRoom logs entry.core.0 next
      → MayAdd logs entry.core.0 next
  may_be_added few within keeps room = record {
    has_room = room;
    order = logged_in_order (tree_after first history) entry.core.0 entry.stamp.0 _ _;
    behind = all_of (λ change. All (λ other. log_place other ≤ log_place change) (changes_kept (part_of logs entry.core.0) change.dir.0)) next
        (λ change one. all_of (λ other. log_place other ≤ log_place change) (changes_kept (part_of logs entry.core.0) change.dir.0) (λ other kept.
        let low = kept_below first history legal entry.core.0 (part_of logs entry.core.0) _ (keeps.left entry.core.0 within) change.dir.0 other kept in
        let at = next_at change one in sooner other change (omega (arith, low, at))));
    entries = let counted = (keeps.left entry.core.0 within).entries_counted in let low = count_by-le-length (is_entry_of entry.core.0) history in
        omega (arith, counted, low, few);
  }

  module _ (low : (node : ℕ) → cut_of cut node ≤ length history) (within : entry.core.0 < length logs.parts) (room : HasRoom logs entry.core.0 next)
      (after : Logs) (adds : AreWithEntry logs entry.core.0 next after) (keeps : KeepsUnflushed first history cut logs) where
    in_before : (core : ℕ) → core < length after.parts → core < length logs.parts
    in_before core lt = subst (λ n. core < n) adds.count lt

    own_left : IsLeftOf (logged_of_core entry.core.0 first history ++ next) (count_by (is_entry_of entry.core.0) history + 1) (part_of after entry.core.0)
    own_left =
        entries_are_kept (logged_of_core entry.core.0 first history) next (count_by (is_entry_of entry.core.0) history) (part_of logs entry.core.0)
        (part_of after entry.core.0) (keeps.left entry.core.0 within)
        (all_of (λ change. mark_kept (part_of logs entry.core.0) change.dir.0 ≤ change.stamp.0) next
        (λ change one. let at = next_at change one in let mark = keeps.marks entry.core.0 change.dir.0 within in let cut_low = low change.dir.0 in
        omega (arith, at, mark, cut_low)))
        adds.own

    -- what is counted and logged of a longer history by a core whose entry the last one is, or is not
    left_by : (core : ℕ) (own : Bool) → nat_eq entry.core.0 core ≡ own → core < length logs.parts
        → IsLeftOf (logged_of_core core first history ++ cond own next []) (count_by (is_entry_of core) history + cond own 1 0) (part_of after core)
    left_by core true is lt =
        subst (λ c. IsLeftOf (logged_of_core c first history ++ next) (count_by (is_entry_of c) history + 1) (part_of after c))
        (eqb-true entry.core.0 core is) own_left
    left_by core false is lt =
        subst (λ (z : List Change × (ℕ × CoreLog)). IsLeftOf z.0 z.1.0 z.1.1)
        (λ i. (
          sym (append-nil (logged_of_core core first history)) i,
          (
            sym (plus_zero (count_by (is_entry_of core) history)) i,
            sym (adds.others core (λ same. true_not_false (sym (eq-eqb entry.core.0 core (sym same)) ∙ is))) i,
          ),
        ))
        (keeps.left core lt)

    listed_next : (directory : ℕ) (l : List Change) → ((change : Change) → IsOneOf l change → IsOneOf next change × (is_logged_in directory change ≡ true))
        → (l ≡ []) ⊎ (contains nat_cmp logs.directories directory ≡ true)
    listed_next directory [] each = inl refl
    listed_next directory (change ∷ l) each = let one = each change (inl refl) in
        inr
        (subst (λ d. contains nat_cmp logs.directories d ≡ true) (eqb-true change.dir.0 directory one.1)
        (one_of_all (λ c. contains nat_cmp logs.directories c.dir.0 ≡ true) next change room.listed one.0))

    listed_by : (core directory : ℕ) (own : Bool) → nat_eq core entry.core.0 ≡ own → core < length logs.parts
        → (changes_kept (part_of after core) directory ≡ []) ⊎ (contains nat_cmp after.directories directory ≡ true)
    listed_by core directory false is lt =
        rw (adds.directories, adds.others core (λ same. true_not_false (sym (eq-eqb core entry.core.0 same) ∙ is))) (keeps.listed core directory lt)
    listed_by core directory true is lt =
        subst (λ c. (changes_kept (part_of after c) directory ≡ []) ⊎ (contains nat_cmp after.directories directory ≡ true))
        (sym (eqb-true core entry.core.0 is))
        (elim (keeps.listed entry.core.0 directory within) [
          | inr there ↦ inr (ap (λ d. contains nat_cmp d directory) adds.directories ∙ there)
          | inl none ↦ elim (listed_next directory (filter (is_logged_in directory) next) (λ change one. in_filter (is_logged_in directory) next change one)) [
            | inr there ↦ inr (ap (λ d. contains nat_cmp d directory) adds.directories ∙ there)
            | inl no_next ↦ inl (adds.own.changes directory ∙ ap (λ l. l ++ filter (is_logged_in directory) next) none ∙ no_next)
          ]
        ])

    pub with_entry : KeepsUnflushed first (history ++ entry ∷ []) cut after
    with_entry = record {
      cores =
          subst (λ n. All (λ one. one.core.0 < n) (history ++ entry ∷ [])) (sym adds.count)
          (All-append (λ one. one.core.0 < length logs.parts) history (entry ∷ []) keeps.cores
          (All-cons (λ one. one.core.0 < length logs.parts) entry [] within (All-nil (λ one. one.core.0 < length logs.parts))));
      left =
          λ core lt. subst (λ (z : List Change × ℕ). IsLeftOf z.0 z.1 (part_of after core))
          (λ i. (sym (logged_push core first history entry) i, sym (counted core) i)) (left_by core (nat_eq entry.core.0 core) refl (in_before core lt));
      marks = λ core directory lt. marks_by core directory (nat_eq core entry.core.0) refl (in_before core lt);
      listed = λ core directory lt. listed_by core directory (nat_eq core entry.core.0) refl (in_before core lt);
    }
      where
        counted : (core : ℕ) → count_by (is_entry_of core) (history ++ entry ∷ []) ≡ count_by (is_entry_of core) history + cond (nat_eq entry.core.0 core) 1 0
        counted core = counted_push core history entry

        marks_by : (core directory : ℕ) (own : Bool) → nat_eq core entry.core.0 ≡ own → core < length logs.parts
            → mark_kept (part_of after core) directory ≤ cut_of cut directory
        marks_by core directory true is lt =
            subst (λ c. mark_kept (part_of after c) directory ≤ cut_of cut directory) (sym (eqb-true core entry.core.0 is))
            (subst (λ n. n ≤ cut_of cut directory) (sym (adds.own.marks directory)) (keeps.marks entry.core.0 directory within))
        marks_by core directory false is lt =
            subst (λ part. mark_kept part directory ≤ cut_of cut directory)
            (sym (adds.others core (λ same. true_not_false (sym (eq-eqb core entry.core.0 same) ∙ is)))) (keeps.marks core directory lt)

pub entries_may_be_added : EntriesMayBeAdded
entries_may_be_added first history entry cut logs legal comes few within keeps room =
    may_be_added first history entry cut logs legal comes few within keeps room

pub entries_keep : EntriesKeep
entries_keep first history entry cut logs after legal comes low within room adds keeps =
    with_entry first history entry cut logs legal comes low within room after adds keeps

module _ (first : TreeState) (history : List Entry) (cut raised : Cut) (directories : List ℕ) (logs after : Logs) (legal : IsLegal first history)
    (rises : (node : ℕ) → cut_of cut node ≤ cut_of raised node) (reached : (node : ℕ) → is_listed directories node ≡ true → length history ≤ cut_of raised node)
    (trims : AreTrimmedOf logs directories (length history) after) (keeps : KeepsUnflushed first history cut logs) where
  in_logs : (core : ℕ) → core < length after.parts → core < length logs.parts
  in_logs core lt = subst (λ n. core < n) trims.count lt

  left_trimmed : (core directory : ℕ) (b : Bool) → is_listed directories directory ≡ b
      → IsLeftOf (logged_of_core core first history) (count_by (is_entry_of core) history) (part_of logs core)
      → changes_kept (part_of after core) directory
      ≡ filter (is_from (mark_kept (part_of after core) directory)) (filter (is_logged_in directory) (logged_of_core core first history))
  left_trimmed core directory false is left = let same = (trims.parts core).others directory is in
      same.changes ∙ left.changes_left directory
      ∙ ap (λ mark. filter (is_from mark) (filter (is_logged_in directory) (logged_of_core core first history))) (sym same.mark)
  left_trimmed core directory true is left = let own : List Change = filter (is_logged_in directory) (logged_of_core core first history) in
      elim ((trims.parts core).trimmed directory is) [
        | inl cuts ↦
            cuts.1 ∙ ap (filter (is_from (length history))) (left.changes_left directory)
            ∙ twice_kept (mark_kept (part_of logs core) directory) (length history) own ∙ ap (λ mark. filter (is_from mark) own) (sym cuts.0)
        | inr blank ↦ blank.1 ∙ sym blank.2 ∙ left.changes_left directory ∙ ap (λ mark. filter (is_from mark) own) (sym blank.0)
      ]

  marks_trimmed : (core directory : ℕ) (b : Bool) → is_listed directories directory ≡ b → core < length logs.parts
      → mark_kept (part_of after core) directory ≤ cut_of raised directory
  marks_trimmed core directory false is lt = let same = ((trims.parts core).others directory is).mark in let old = keeps.marks core directory lt in
      let up = rises directory in omega (arith, same, old, up)
  marks_trimmed core directory true is lt = let old = keeps.marks core directory lt in let up = rises directory in let high = reached directory is in
      elim ((trims.parts core).trimmed directory is) [
        | inl cuts ↦ let mark = cuts.0 in grind (arith, mark, old, up, high)
        | inr blank ↦ let mark = blank.0 in omega (arith, mark, old, up)
      ]

  listed_trimmed : (core directory : ℕ) (b : Bool) → is_listed directories directory ≡ b → core < length logs.parts
      → (changes_kept (part_of after core) directory ≡ []) ⊎ (contains nat_cmp after.directories directory ≡ true)
  listed_trimmed core directory false is lt = elim (keeps.listed core directory lt) [
    | inl none ↦ inl (((trims.parts core).others directory is).changes ∙ none)
    | inr there ↦ inr (trims.listed directory is ∙ there)
  ]
  listed_trimmed core directory true is lt = inl (elim ((trims.parts core).trimmed directory is) [
    | inl cuts ↦ cuts.1 ∙ filter_none (is_from (length history)) (changes_kept (part_of logs core) directory) (λ change one.
        let less = kept_below first history legal core (part_of logs core) _ (keeps.left core lt) directory change one in grind (arith, nat_tests, less))
    | inr blank ↦ blank.1
  ])

  pub trimmed_keeps : KeepsUnflushed first history raised after
  trimmed_keeps = record {
    cores = subst (λ n. All (λ one. one.core.0 < n) history) (sym trims.count) keeps.cores;
    left = λ core lt. let left = keeps.left core (in_logs core lt) in record {
      changes_left = λ directory. left_trimmed core directory (is_listed directories directory) refl left;
      entries_counted = (trims.parts core).entries ∙ left.entries_counted;
    };
    marks = λ core directory lt. marks_trimmed core directory (is_listed directories directory) refl (in_logs core lt);
    listed = λ core directory lt. listed_trimmed core directory (is_listed directories directory) refl (in_logs core lt);
  }

pub trims_keep_unflushed : TrimsKeepUnflushed
trims_keep_unflushed first history cut raised directories logs after legal rises reached trims keeps =
    trimmed_keeps first history cut raised directories logs after legal rises reached trims keeps
