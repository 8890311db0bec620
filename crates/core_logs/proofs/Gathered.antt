-- What is gathered of the logs of all cores is what the history logs of each directory, from the marks on.
use Prim.Native.Nat.{zero}
use Rattle.std.proofs.Common.{◌≡◌, ℕ, suc, ◌+◌, ◌*◌, ◌/◌, ◌<◌, ◌≤◌, Bool, true, false, cond, nat_eq, nat_le, nat_lt, List, [], ◌∷◌, ◌++◌, length, map, get_or, ◌⊎◌, inl, inr, refl, sym, ap, ◌∙◌, subst, arith, append-nil}
use Rattle.std.specs.Prelude.{All, filter, slice_index_or, ◌&&◌}
use Rattle.std.specs.List.Sorted.{IsStrictlyIncreasing}
use Rattle.std.specs.BTreeSet.{contains}
use Rattle.std.specs.Ordering.{nat_cmp}
use borrow.Author.Tests.{eqb-true, eq-eqb}
use Rattle.std.proofs.lemmas.Bool.Decides.{nat_tests}
use Rattle.std.proofs.lemmas.List.Kept.{IsNonDecreasingBy-filter}
use Rattle.std.proofs.lemmas.List.Elements.{filter-append, All-head, All-tail}
use Rattle.sfs_base.proofs.BasicTruth.{true_not_false, and_true, and_false, and_second}
use Rattle.sfs_base.proofs.BasicNumbers.{same_number, zero_plus}
use Rattle.tree_laws.specs.declared.changes.Change.{Change}
use Rattle.tree_laws.specs.declared.history.Entry.{Entry}
use Rattle.tree_laws.specs.Tree.{TreeState}
use Rattle.tree_laws.specs.History.{IsLegal, tree_after_entry}
use Rattle.tree_laws.specs.Logged.{is_logged_in, is_addition}
use Rattle.mem_cells.specs.Log.{log_place, is_from, IsInOrder}
use Rattle.mem_cells.specs.Part.{CoreLog, changes_kept, mark_kept}
use Rattle.log_merge.specs.Merge.{is_under, stands_at, part_changes, parts_changes, IsMergeOf}
use Rattle.log_merge.proofs.OneMerge.{there_is_one_merge}
use Rattle.cut_laws.specs.Cut.{Cut, cut_of}
use Rattle.cut_laws.specs.Closure.{every_entry}
use Rattle.cut_laws.specs.Rules.{IsOneOf}
use Rattle.cut_laws.proofs.Along.{core_at}
use Rattle.cut_laws.proofs.Basics.{filter_same, filter_none, below_or}
use Rattle.cut_laws.proofs.Listed.{from_map}
use Rattle.cut_laws.proofs.RunFacts.{in_filter}
use Rattle.dep_closure.specs.declared.gathered.DirectoryChanges.{DirectoryChanges}
use Rattle.dep_closure.specs.Gathered.{log_directory, IsOwnLog}
use Rattle.dep_closure.specs.History.{logged_of, IsLogOf}
use Rattle.cut_laws.proofs.Listed.{to_filter}
use Rattle.dep_closure.proofs.Looked.{one_of_all}
use Rattle.dep_closure.proofs.Growing.{has_one}
use Rattle.dep_closure.proofs.Parts.{pass_both}
use Rattle.core_logs.specs.Logs.{Logs, part_of, blank_part, AreGathered}
use Rattle.core_logs.specs.Kept.{KeepsUnflushed, logged_of_core}
use Rattle.core_logs.specs.Laws.{UnflushedIsGathered, GathersUnflushed}
use Rattle.core_logs.proofs.Ordered.{all_of, history_in_order, logged_below, one_cores}

module _ (first : TreeState) (history : List Entry) (cut : Cut) (logs : Logs) (legal : IsLegal first history)
    (keeps : KeepsUnflushed first history cut logs) where
  abbrev logged : List Change
  logged = logged_of first history

  -- whether a core's log keeps a directory's changes of a stamp: the core is that of the stamp's entry
  abbrev keeps_stamp : ℕ → ℕ → Bool
  keeps_stamp directory stamp = nat_le (mark_kept (part_of logs (core_at first history stamp)) directory) stamp

  -- what is kept of a directory, of all cores
  abbrev kept_of : ℕ → List Change
  kept_of directory = filter (λ change. keeps_stamp directory change.stamp.0) (filter (is_logged_in directory) logged)

  -- a change stands at a place of its stamp
  place_stamp : (place : ℕ) (change other : Change) → stands_at place change ≡ true → stands_at place other ≡ true → change.stamp.0 ≡ other.stamp.0
  place_stamp place change other here there =
      level change.stamp.0 other.stamp.0 (is_addition change.act) (is_addition other.act)
      (eqb-true (log_place change) place here ∙ sym (eqb-true (log_place other) place there))
    where
      level : (s t : ℕ) (a b : Bool) → 2 * s + cond a 1 0 ≡ 2 * t + cond b 1 0 → s ≡ t
      level s t true true same = omega arith
      level s t true false same = omega arith
      level s t false true same = omega arith
      level s t false false same = omega arith

  -- the tests of what one core keeps of a directory and of what all do
  abbrev core_asks : ℕ → ℕ → Change → Bool
  core_asks core directory change =
      (is_logged_in directory change && is_from (mark_kept (part_of logs core) directory) change) && is_under (length history) change

  abbrev all_ask : ℕ → Change → Bool
  all_ask directory change = is_logged_in directory change && keeps_stamp directory change.stamp.0

  -- each place has one stamp
  abbrev stamp_of : ℕ → ℕ
  stamp_of place = place / 2

  stamped_so : (place : ℕ) (change : Change) → stands_at place change ≡ true → change.stamp.0 ≡ stamp_of place
  stamped_so place change here = half change.stamp.0 (is_addition change.act) (eqb-true (log_place change) place here)
    where
      half : (s : ℕ) (b : Bool) → 2 * s + cond b 1 0 ≡ place → s ≡ place / 2
      half s true same = omega arith
      half s false same = omega arith

  -- what is kept of a directory at a place, as far as one core's log has it
  abbrev here_kept : ℕ → ℕ → List Change
  here_kept directory place = filter (stands_at place) (kept_of directory)

  of_one_core : (core directory place : ℕ) → core < length logs.parts
      → filter (stands_at place) (part_changes directory (length history) (part_of logs core))
      ≡ cond (nat_eq (core_at first history (stamp_of place)) core) (here_kept directory place) []
  of_one_core core directory place within =
      let own = logged_of_core core first history in
      let mark = mark_kept (part_of logs core) directory in
      ap (λ l. filter (stands_at place) (filter (is_under (length history)) l)) ((keeps.left core within).changes_left directory)
      ∙ ap (λ l. filter (stands_at place) (filter (is_under (length history)) l))
      (pass_both (is_logged_in directory) (is_from mark) (λ c. is_logged_in directory c && is_from mark c) (λ c. refl) own)
      ∙ ap (filter (stands_at place))
      (pass_both (λ c. is_logged_in directory c && is_from mark c) (is_under (length history)) (core_asks core directory) (λ c. refl) own)
      ∙ pass_both (core_asks core directory) (stands_at place) (λ c. core_asks core directory c && stands_at place c) (λ c. refl) own
      ∙ one_cores core (λ c. core_asks core directory c && stands_at place c) first history 0 (stamp_of place) legal
      (λ c is. stamped_so place c (and_second (core_asks core directory c) (stands_at place c) is) ∙ sym (zero_plus (stamp_of place)))
      ∙ same_here (nat_eq (core_at first history (stamp_of place)) core) refl
    where
      -- the tests agree on what the history logs
      agree : core_at first history (stamp_of place) ≡ core → (c : Change) → IsOneOf logged c
          → (core_asks core directory c && stands_at place c) ≡ (all_ask directory c && stands_at place c)
      agree is c one = by (stands_at place c) refl
        where
          by : (b : Bool) → stands_at place c ≡ b → (core_asks core directory c && b) ≡ (all_ask directory c && b)
          by false off = and_false (core_asks core directory c) ∙ sym (and_false (all_ask directory c))
          by true on =
              let at = stamped_so place c on in
              let less = logged_below first history 0 legal c one in
              let under : is_under (length history) c ≡ true = grind (arith, nat_tests, less) in
              let mark_same : mark_kept (part_of logs core) directory ≡ mark_kept (part_of logs (core_at first history c.stamp.0)) directory =
              ap (λ k. mark_kept (part_of logs k) directory) (sym is ∙ ap (core_at first history) (sym at)) in
              ap (λ b. ((is_logged_in directory c && is_from (mark_kept (part_of logs core) directory) c) && b) && true) under
              ∙ ap (λ m. ((is_logged_in directory c && nat_le m c.stamp.0) && true) && true) mark_same
              ∙ ap (λ b. b && true)
              (and_true (is_logged_in directory c && nat_le (mark_kept (part_of logs (core_at first history c.stamp.0)) directory) c.stamp.0))

      same_here : (b : Bool) → nat_eq (core_at first history (stamp_of place)) core ≡ b
          → cond b (filter (λ c. core_asks core directory c && stands_at place c) logged) [] ≡ cond b (here_kept directory place) []
      same_here false is = refl
      same_here true is =
          filter_same (λ c. core_asks core directory c && stands_at place c) (λ c. all_ask directory c && stands_at place c) logged
          (agree (eqb-true (core_at first history (stamp_of place)) core is))
          ∙ sym (pass_both (all_ask directory) (stands_at place) (λ c. all_ask directory c && stands_at place c) (λ c. refl) logged)
          ∙ ap (filter (stands_at place))
          (sym (pass_both (is_logged_in directory) (λ c. keeps_stamp directory c.stamp.0) (all_ask directory) (λ c. refl) logged))

  -- no part of some has anything at a place
  none_there : (directory place : ℕ) (parts : List CoreLog)
      → ((i : ℕ) → i < length parts → filter (stands_at place) (part_changes directory (length history) (slice_index_or parts i blank_part)) ≡ [])
      → filter (stands_at place) (parts_changes directory (length history) parts) ≡ []
  none_there directory place [] none = refl
  none_there directory place (part ∷ parts) none =
      filter-append (stands_at place) (part_changes directory (length history) part) (parts_changes directory (length history) parts)
      ∙ ap (λ l. l ++ filter (stands_at place) (parts_changes directory (length history) parts)) (none zero (omega arith))
      ∙ none_there directory place parts (λ i lt. none (suc i) (omega (arith, lt)))

  -- one part alone has something
  one_there : (directory place : ℕ) (found : List Change) (parts : List CoreLog) (j : ℕ) → j < length parts
      → filter (stands_at place) (part_changes directory (length history) (slice_index_or parts j blank_part)) ≡ found
      → ((i : ℕ) → i < length parts → (i ≡ j → ⊥) → filter (stands_at place) (part_changes directory (length history) (slice_index_or parts i blank_part)) ≡ [])
      → filter (stands_at place) (parts_changes directory (length history) parts) ≡ found
  one_there directory place found [] j within is others = absurd (omega (arith, within))
  one_there directory place found (part ∷ parts) zero within is others =
      filter-append (stands_at place) (part_changes directory (length history) part) (parts_changes directory (length history) parts)
      ∙ ap (λ l. filter (stands_at place) (part_changes directory (length history) part) ++ l)
      (none_there directory place parts (λ i lt. others (suc i) (omega (arith, lt)) (λ same. omega (arith, same))))
      ∙ append-nil (filter (stands_at place) (part_changes directory (length history) part)) ∙ is
  one_there directory place found (part ∷ parts) (suc j) within is others =
      filter-append (stands_at place) (part_changes directory (length history) part) (parts_changes directory (length history) parts)
      ∙ ap (λ l. l ++ filter (stands_at place) (parts_changes directory (length history) parts)) (others zero (omega arith) (λ same. omega (arith, same)))
      ∙ one_there directory place found parts j (omega (arith, within)) is (λ i lt not. others (suc i) (omega (arith, lt)) (λ same. not (omega (arith, same))))

  core_within : (tree : TreeState) (entries : List Entry) (t : ℕ) → All (λ entry. entry.core.0 < length logs.parts) entries → t < length entries
      → core_at tree entries t < length logs.parts
  core_within tree [] t all within = absurd (omega (arith, within))
  core_within tree (entry ∷ entries) zero all within = All-head (λ (entry : Entry). entry.core.0 < length logs.parts) entry entries all
  core_within tree (entry ∷ entries) (suc t) all within =
      core_within (tree_after_entry tree entry) entries t (All-tail (λ (entry : Entry). entry.core.0 < length logs.parts) entry entries all)
      (omega (arith, within))

  -- at each place all cores together keep what is kept
  all_there : (directory place : ℕ)
      → filter (stands_at place) (kept_of directory) ≡ filter (stands_at place) (parts_changes directory (length history) logs.parts)
  all_there directory place = elim (below_or (stamp_of place) (length history)) [
    | inl early ↦
        let core = core_at first history (stamp_of place) in
        let within = core_within first history (stamp_of place) keeps.cores early in
        sym (one_there directory place (here_kept directory place) logs.parts core within
        (of_one_core core directory place within ∙ ap (λ b. cond b (here_kept directory place) []) (eq-eqb core core refl))
        (λ i lt not. of_one_core i directory place lt ∙ off i (nat_eq core i) refl (λ same. not (sym same))))
    | inr late ↦
        let none : here_kept directory place ≡ [] = filter_none (stands_at place) (kept_of directory) (λ c one. not_here c (in_kept directory c one) late) in
        none
        ∙ sym
        (none_there directory place logs.parts
        (λ i lt. of_one_core i directory place lt ∙ ap (λ l. cond (nat_eq (core_at first history (stamp_of place)) i) l []) none
        ∙ nothing (nat_eq (core_at first history (stamp_of place)) i)))
  ]
    where
      off : (i : ℕ) (b : Bool) → nat_eq (core_at first history (stamp_of place)) i ≡ b → (core_at first history (stamp_of place) ≡ i → ⊥)
          → cond b (here_kept directory place) [] ≡ []
      off i true is not = absurd (not (eqb-true (core_at first history (stamp_of place)) i is))
      off i false is not = refl

      nothing : (b : Bool) → ◌≡◌ {A = List Change} (cond b [] []) []
      nothing true = refl
      nothing false = refl

      in_kept : (directory : ℕ) (c : Change) → IsOneOf (kept_of directory) c → IsOneOf logged c
      in_kept directory c one =
          (in_filter (is_logged_in directory) logged c
          (in_filter (λ change. keeps_stamp directory change.stamp.0) (filter (is_logged_in directory) logged) c one).0).0

      not_here : (c : Change) → IsOneOf logged c → length history ≤ stamp_of place → stands_at place c ≡ false
      not_here c one late = by (stands_at place c) refl
        where
          by : (b : Bool) → stands_at place c ≡ b → b ≡ false
          by false is = refl
          by true is = let at = stamped_so place c is in let less = logged_below first history 0 legal c one in absurd (omega (arith, at, less, late))

  kept_in_order : (directory : ℕ) → IsInOrder (kept_of directory)
  kept_in_order directory = record {
    rises = IsNonDecreasingBy-filter log_place (λ change. keeps_stamp directory change.stamp.0) (filter (is_logged_in directory) logged)
        (IsNonDecreasingBy-filter log_place (is_logged_in directory) logged (history_in_order first history 0 legal).rises);
  }

  module _ (gathered : List DirectoryChanges) (are : AreGathered logs (length history) gathered) where
    log_is : (log : DirectoryChanges) → IsOneOf gathered log → log.changes.items ≡ kept_of log.dir.0
    log_is log one = there_is_one_merge (parts_changes log.dir.0 (length history) logs.parts) log.changes.items (kept_of log.dir.0)
        (one_of_all (λ l. IsMergeOf (parts_changes l.dir.0 (length history) logs.parts) l.changes.items) gathered log are.merged one)
        (record { in_order = kept_in_order log.dir.0; same = all_there log.dir.0 })

    is_log : (log : DirectoryChanges) → IsOneOf gathered log → IsLogOf first history every_entry log
    is_log log one = record { keeps = keeps_stamp log.dir.0; counted = λ stamp is. refl; changes = log_is log one }

    found : (change : Change) → IsOneOf logged change → cut_of cut change.dir.0 ≤ change.stamp.0
        → (log : DirectoryChanges) × IsOneOf gathered log × IsOneOf log.changes.items change
    found change one unflushed =
        let directory = change.dir.0 in
        let core = core_at first history change.stamp.0 in
        let less : change.stamp.0 < length history = let l = logged_below first history 0 legal change one in omega (arith, l) in
        let within : core < length logs.parts = core_within first history change.stamp.0 keeps.cores less in
        let mark = keeps.marks core directory within in
        let asks : keeps_stamp directory change.stamp.0 ≡ true = grind (arith, nat_tests, mark, unflushed) in
        let kept : IsOneOf (kept_of directory) change =
        to_filter (λ c. keeps_stamp directory c.stamp.0) (filter (is_logged_in directory) logged) change
        (to_filter (is_logged_in directory) logged change one (same_number directory)) asks in
        let some : IsOneOf (changes_kept (part_of logs core) directory) change = in_part core directory change less kept refl in
        let listed : contains nat_cmp logs.directories directory ≡ true = elim (keeps.listed core directory within) [
          | inl none ↦ absurd (subst (λ l. IsOneOf l change) none some)
          | inr there ↦ there
        ] in
        let log =
        from_map log_directory gathered directory (subst (λ l. IsOneOf l directory) (sym are.directories) (has_one logs.directories directory listed)) in
        (log.0, log.1, subst (λ l. IsOneOf l change) (sym (log_is log.0 log.1 ∙ ap kept_of log.2)) kept)
      where
        in_part : (core directory : ℕ) (c : Change) → c.stamp.0 < length history → IsOneOf (kept_of directory) c → core_at first history c.stamp.0 ≡ core
            → IsOneOf (changes_kept (part_of logs core) directory) c
        in_part core directory c less kept is =
            let place = log_place c in
            let at : c.stamp.0 ≡ stamp_of place = stamped_so place c (same_number place) in
            let own : core_at first history (stamp_of place) ≡ core = ap (core_at first history) (sym at) ∙ is in
            let here = to_filter (stands_at place) (kept_of directory) c kept (same_number place) in
            let within : core < length logs.parts = subst (λ k. k < length logs.parts) is (core_within first history c.stamp.0 keeps.cores less) in
            let same =
            of_one_core core directory place within
            ∙ ap (λ b. cond b (here_kept directory place) []) (eq-eqb (core_at first history (stamp_of place)) core own) in
            let some = in_filter (stands_at place) (part_changes directory (length history) (part_of logs core)) c (subst (λ l. IsOneOf l c) (sym same) here) in
            (in_filter (is_under (length history)) (changes_kept (part_of logs core) directory) c some.0).0

    pub gathers : GathersUnflushed first history cut gathered
    gathers = record {
      logs = is_log;
      changes = found;
      ascending = are.ascending;
      own_logs = all_of IsOwnLog gathered (λ log one. record {
        own = all_of (λ change. change.dir.0 ≡ log.dir.0) log.changes.items (λ change in_log.
            eqb-true change.dir.0 log.dir.0
            (in_filter (is_logged_in log.dir.0) logged change
            (in_filter (λ c. keeps_stamp log.dir.0 c.stamp.0) (filter (is_logged_in log.dir.0) logged) change
            (subst (λ l. IsOneOf l change) (log_is log one) in_log)).0).1);
        in_order = (one_of_all (λ l. IsMergeOf (parts_changes l.dir.0 (length history) logs.parts) l.changes.items) gathered log are.merged one).in_order;
      });
    }

pub unflushed_is_gathered : UnflushedIsGathered
unflushed_is_gathered first history cut logs gathered legal keeps are = gathers first history cut logs legal keeps gathered are
