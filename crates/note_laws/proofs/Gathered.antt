-- What is merged of noted parts are logs of the run's calls.
use Rattle.std.proofs.Common.{◌<◌, ◌≡◌, ◌∙◌, ◌&&◌, ◌≤◌, ◌⊎◌, ◌∷◌, List, ℕ, length, subst, filter, ap, sym, arith, Bool, nat_le, nat_lt, refl, eqb-true, true, [], inl, inr, max, slice_index_or, false}
use Rattle.std.proofs.lemmas.Bool.Decides.{nat_tests}
use Rattle.std.proofs.Math.Nat.{le-max_left, le-max_right}
use Rattle.sfs_base.proofs.BasicTruth.{and_first, and_second}
use Rattle.sfs_base.proofs.BasicNumbers.{same_number}
use Rattle.tree_laws.specs.declared.history.Entry.{Entry}
use Rattle.tree_laws.specs.Logged.{is_logged_in}
use Rattle.tree_laws.specs.History.{IsLegal}
use Rattle.tree_laws.specs.declared.changes.Change.{Change}
use Rattle.mem_cells.specs.Part.{changes_kept}
use Rattle.mem_cells.specs.Log.{is_from}
use Rattle.cut_laws.specs.Rules.{IsOneOf}
use Rattle.cut_laws.proofs.Along.{core_at}
use Rattle.cut_laws.proofs.Basics.{filter_same, filter_none}
use Rattle.cut_laws.proofs.RunFacts.{in_filter}
use Rattle.cut_laws.proofs.Listed.{to_filter}
use Rattle.log_merge.specs.Merge.{is_under}
use Rattle.dep_closure.specs.declared.gathered.DirectoryChanges.{DirectoryChanges}
use Rattle.dep_closure.specs.History.{logged_of}
use Rattle.core_logs.specs.Kept.{logged_of_core}
use Rattle.core_logs.specs.Logs.{blank_part}
use Rattle.core_logs.proofs.Ordered.{all_of, logged_below, of_history}
use Rattle.stamp_table.specs.Events.{calls_in}
use Rattle.note_laws.specs.Run.{TableRun, IsTableRun, calls_of}
use Rattle.note_laws.specs.Notes.{CoreNotes, HasNotedAll, calls_noted, part_noted}
use Rattle.note_laws.specs.Merged.{is_noted_by, mark_noted, IsLogNoted, GathersNoted, EndBelow, NotesAreLogs, NotedPartsAreLeft, AreMergedFor, caller_of, IsOfSeen}
use Rattle.note_laws.proofs.Parted.{first_logged, caller_within, caller_is}
use Rattle.note_laws.proofs.Along.{calls_begin}
use Rattle.note_laws.proofs.Merged.{merged_is, is_kept}
use Rattle.note_laws.proofs.Marks.{both_true}

module _ (run : TableRun) (noted : CoreNotes) (is : IsTableRun run) (has : HasNotedAll run noted) where
  abbrev calls : List Entry
  calls = calls_of run

  abbrev count : ℕ → ℕ
  count core = length (calls_noted noted core)

  abbrev mark : ℕ → ℕ → ℕ
  mark core directory = (noted.notes core).mark directory

  known : (core : ℕ) → core < length noted.parts → core < length run.first.made
  known core within = subst (λ n. core < n) has.as_many within

  -- what a part keeps, of all the run's calls
  left : (core directory : ℕ) → core < length noted.parts
      → changes_kept (part_noted noted core) directory
      ≡ filter (is_from (mark core directory)) (filter (is_logged_in directory) (filter (is_under (count core)) (logged_of_core core run.first calls)))
  left core directory within =
      let one = has.each core (known core within) in
      one.left directory
      ∙ ap (λ l. filter (is_from (mark core directory)) (filter (is_logged_in directory) l))
      (first_logged run.first core (calls_noted noted core) (calls_in one.rest)
      (subst (IsLegal run.first) (sym (calls_begin (noted.notes core).at one.rest run.log one.whole)) is.legal)
      ∙ ap (λ l. filter (is_under (count core)) (logged_of_core core run.first l)) (calls_begin (noted.notes core).at one.rest run.log one.whole))

  callers : (stamp : ℕ) → stamp < length calls → core_at run.first calls stamp < length noted.parts
  callers stamp less =
      let within = caller_within run.first calls 0 stamp is.legal less in
      let same = caller_is run.first calls stamp in
      let many = has.as_many in omega (arith, within, same, many)

  abbrev keeps_noted : ℕ → ℕ → Bool
  keeps_noted directory stamp = is_noted_by run noted stamp && nat_le (mark_noted run noted stamp directory) stamp

  abbrev keeps_there : ℕ → ℕ → Bool
  keeps_there directory stamp =
      nat_lt stamp (count (core_at run.first calls stamp)) && nat_le (mark (core_at run.first calls stamp) directory) stamp

  same_keeps : (directory stamp : ℕ) → keeps_there directory stamp ≡ keeps_noted directory stamp
  same_keeps directory stamp = ap (λ core. nat_lt stamp (count core) && nat_le (mark core directory) stamp) (caller_is run.first calls stamp)

  -- what a core logs of a directory up to its part's note
  abbrev logged_there : ℕ → ℕ → List Change
  logged_there core directory = filter (is_logged_in directory) (filter (is_under (count core)) (logged_of_core core run.first calls))

  logged_early : (core directory : ℕ) (change : Change) → IsOneOf (logged_there core directory) change → change.stamp.0 < length calls
  logged_early core directory change one =
      let more = (in_filter (is_logged_in directory) (filter (is_under (count core)) (logged_of_core core run.first calls)) change one).0 in
      let own = (in_filter (is_under (count core)) (logged_of_core core run.first calls) change more).0 in
      let less = logged_below run.first calls 0 is.legal change (of_history core run.first calls change own) in omega (arith, less)

  -- the mark that leaves what a copy has of a directory: its part's, or one past all calls where the copy has nothing of it
  mark_left : List Change → ℕ → ℕ
  mark_left [] low = max low (length calls)
  mark_left (change ∷ changes) low = low

  not_lower : (changes : List Change) (low : ℕ) → low ≤ mark_left changes low
  unfolding mark_left
  not_lower [] low = le-max_left low (length calls)
  not_lower (change ∷ changes) low = omega arith

  mark_where_some : (changes : List Change) (low : ℕ) (change : Change) → IsOneOf changes change → mark_left changes low ≡ low
  unfolding mark_left
  mark_where_some [] low change one = absurd one
  mark_where_some (first ∷ changes) low change one = refl

  module _ (logs : List DirectoryChanges) (merged : AreMergedFor noted logs) where
    abbrev copied : ℕ → ℕ → List Change
    copied core directory = changes_kept (slice_index_or merged.copies core blank_part) directory

    abbrev mark_copied : ℕ → ℕ → ℕ
    mark_copied core directory = mark_left (copied core directory) (mark core directory)

    among_parts : (core : ℕ) → core < length merged.copies → core < length noted.parts
    among_parts core within = subst (λ n. core < n) merged.as_many within

    among_copies : (core : ℕ) → core < length noted.parts → core < length merged.copies
    among_copies core within = subst (λ n. core < n) (sym merged.as_many) within

    -- what a copy has, of all the run's calls
    left_copied : (core directory : ℕ) → core < length merged.copies
        → copied core directory ≡ filter (is_from (mark_copied core directory)) (logged_there core directory)
    unfolding mark_left
    left_copied core directory within =
        by (copied core directory) ((merged.keep core (among_parts core within)).each directory)
      where
        past : (change : Change) → change.stamp.0 < length calls → is_from (max (mark core directory) (length calls)) change ≡ false
        past change less = let up = le-max_right (mark core directory) (length calls) in grind (arith, nat_tests, less, up)

        by : (l : List Change) → (l ≡ changes_kept (part_noted noted core) directory) ⊎ (l ≡ [])
            → l ≡ filter (is_from (mark_left l (mark core directory))) (logged_there core directory)
        by [] either =
            sym (filter_none (is_from (max (mark core directory) (length calls))) (logged_there core directory)
            (λ change one. past change (logged_early core directory change one)))
        by (change ∷ changes) (inl whole) = whole ∙ left core directory (among_parts core within)
        by (change ∷ changes) (inr none) = absurd (cc (none))

    abbrev keeps_copied : ℕ → ℕ → Bool
    keeps_copied directory stamp = is_noted_by run noted stamp && nat_le (mark_copied (caller_of calls stamp) directory) stamp

    log_is : (log : DirectoryChanges) → IsOneOf logs log
        → log.changes.items ≡ filter (λ change. keeps_copied log.dir.0 change.stamp.0) (filter (is_logged_in log.dir.0) (logged_of run.first calls))
    log_is log one =
        merged_is run.first calls merged.copies mark_copied count is.legal (λ stamp less. among_copies _ (callers stamp less)) left_copied log
        (merged.merged.merged log one)
        ∙ filter_same
        (λ change. nat_lt change.stamp.0 (count (core_at run.first calls change.stamp.0))
        && nat_le (mark_copied (core_at run.first calls change.stamp.0) log.dir.0) change.stamp.0)
        (λ change. keeps_copied log.dir.0 change.stamp.0)
        (filter (is_logged_in log.dir.0) (logged_of run.first calls))
        (λ change there.
        ap (λ core. nat_lt change.stamp.0 (count core) && nat_le (mark_copied core log.dir.0) change.stamp.0) (caller_is run.first calls change.stamp.0))

    is_log : (log : DirectoryChanges) → IsOneOf logs log → IsLogNoted run noted log
    is_log log one = record {
      is = record {
        keeps = keeps_copied log.dir.0;
        counted = λ stamp kept. and_first (is_noted_by run noted stamp) (nat_le (mark_copied (caller_of calls stamp) log.dir.0) stamp) kept;
        changes = log_is log one;
      };
      unmarked = λ stamp kept.
          let low = not_lower (copied (caller_of calls stamp) log.dir.0) (mark (caller_of calls stamp) log.dir.0) in
          let le = at_most (mark_copied (caller_of calls stamp) log.dir.0) stamp
          (and_second (is_noted_by run noted stamp) (nat_le (mark_copied (caller_of calls stamp) log.dir.0) stamp) kept) in
          omega (arith, low, le);
      own = record {
        own = all_of (λ change. change.dir.0 ≡ log.dir.0) log.changes.items (λ change in_log.
            eqb-true change.dir.0 log.dir.0
            (in_filter (is_logged_in log.dir.0) (logged_of run.first calls) change
            (in_filter (λ c. keeps_copied log.dir.0 c.stamp.0) (filter (is_logged_in log.dir.0) (logged_of run.first calls)) change
            (subst (λ l. IsOneOf l change) (log_is log one) in_log)).0).1);
        in_order = (merged.merged.merged log one).merge.in_order;
      };
    }
      where
        at_most : (m n : ℕ) → nat_le m n ≡ true → m ≤ n
        at_most m n le = grind (arith, nat_tests, le)

    found : (change : Change) → IsOneOf (logged_of run.first calls) change → IsOfSeen noted change → is_noted_by run noted change.stamp.0 ≡ true
        → mark_noted run noted change.stamp.0 change.dir.0 ≤ change.stamp.0
        → (log : DirectoryChanges) × IsOneOf logs log × IsOneOf log.changes.items change
    found change one seen counted unmarked = (
      log.0,
      log.1,
      subst (λ l. IsOneOf l change) (sym (log_is log.0 log.1))
          (to_filter (λ c. keeps_copied log.0.dir.0 c.stamp.0) (filter (is_logged_in log.0.dir.0) (logged_of run.first calls)) change
          (to_filter (is_logged_in log.0.dir.0) (logged_of run.first calls) change one
          (subst (λ d. is_logged_in d change ≡ true) (sym log.2) (same_number change.dir.0)))
          (subst (λ d. keeps_copied d change.stamp.0 ≡ true) (sym log.2) asks)),
    )
      where
        below : (m : ℕ) → m ≤ change.stamp.0 → nat_le m change.stamp.0 ≡ true
        below m le = grind (arith, nat_tests, le)

        core : ℕ
        core = caller_of calls change.stamp.0

        kept : (core < length noted.parts) × IsOneOf (changes_kept (part_noted noted core) change.dir.0) change
        kept = subst (λ c. (c < length noted.parts) × IsOneOf (changes_kept (part_noted noted c) change.dir.0) change) (caller_is run.first calls change.stamp.0)
            (is_kept run.first calls noted.parts mark count is.legal callers left change one
            (same_keeps change.dir.0 change.stamp.0 ∙ both_true counted (below (mark_noted run noted change.stamp.0 change.dir.0) unmarked)))

        -- the copy of the part in which it is has it
        whole : copied core change.dir.0 ≡ changes_kept (part_noted noted core) change.dir.0
        whole = elim seen [
          | inl own ↦ (merged.keep core kept.0).own change.dir.0 own
          | inr child ↦ (merged.keep core kept.0).naming change.dir.0 change kept.1 child
        ]

        in_copy : IsOneOf (copied core change.dir.0) change
        in_copy = subst (λ l. IsOneOf l change) (sym whole) kept.1

        asks : keeps_copied change.dir.0 change.stamp.0 ≡ true
        asks = both_true counted (below (mark_copied core change.dir.0)
            (subst (λ m. m ≤ change.stamp.0) (sym (mark_where_some (copied core change.dir.0) (mark core change.dir.0) change in_copy)) unmarked))

        by : {l : List Change} → (l ≡ []) ⊎ ((log : DirectoryChanges) × IsOneOf logs log × (log.dir.0 ≡ change.dir.0)) → IsOneOf l change
            → (log : DirectoryChanges) × IsOneOf logs log × (log.dir.0 ≡ change.dir.0)
        by (inl nothing) there = absurd (subst (λ l. IsOneOf l change) nothing there)
        by (inr log) there = log

        log : (log : DirectoryChanges) × IsOneOf logs log × (log.dir.0 ≡ change.dir.0)
        log = by (merged.merged.whole core change.dir.0 (among_copies core kept.0)) in_copy

    gathers : GathersNoted run noted logs
    gathers = record { each = is_log; changes = found }

  ends : EndBelow noted.parts (length calls)
  ends core directory within =
      all_of (λ change. change.stamp.0 < length calls) (changes_kept (part_noted noted core) directory) (λ change one.
      let some =
      (in_filter (is_from (mark core directory)) (filter (is_logged_in directory) (filter (is_under (count core)) (logged_of_core core run.first calls))) change
      (subst (λ l. IsOneOf l change) (left core directory within) one)).0 in
      logged_early core directory change some)

pub notes_are_logs : NotesAreLogs
notes_are_logs run noted logs is has merged = gathers run noted is has logs merged

pub noted_parts_are_left : NotedPartsAreLeft
noted_parts_are_left run noted is has = record { left = left run noted is has; below = ends run noted is has }
