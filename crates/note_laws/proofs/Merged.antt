-- What is merged of parts that were noted one after another, each at its own moment.
use Rattle.std.proofs.Common.{◌<◌, ◌≡◌, ◌&&◌, ◌/◌, ◌*◌, ◌+◌, ◌∙◌, ◌∷◌, ◌++◌, ◌≤◌, List, ℕ, length, slice_index_or, filter, Bool, nat_lt, nat_le, true, eqb-true, cond, arith, false, refl, nat_eq, [], ap, sym, flat_map, zero, suc, append-nil, inl, eq-eqb, inr, subst}
use Rattle.std.proofs.lemmas.List.Elements.{filter-append}
use Rattle.std.proofs.lemmas.List.Kept.{IsNonDecreasingBy-filter}
use Rattle.std.proofs.lemmas.Bool.Decides.{nat_tests}
use Rattle.sfs_base.proofs.BasicTruth.{and_second, and_false}
use Rattle.sfs_base.proofs.BasicNumbers.{zero_plus, same_number}
use Rattle.tree_laws.specs.Tree.{TreeState}
use Rattle.tree_laws.specs.declared.history.Entry.{Entry}
use Rattle.tree_laws.specs.History.{IsLegal}
use Rattle.tree_laws.specs.Logged.{is_logged_in, is_addition}
use Rattle.tree_laws.specs.declared.changes.Change.{Change}
use Rattle.mem_cells.specs.Part.{CoreLog, changes_kept}
use Rattle.mem_cells.specs.Log.{is_from, log_place, IsInOrder}
use Rattle.cut_laws.specs.Rules.{IsOneOf}
use Rattle.cut_laws.proofs.Along.{core_at}
use Rattle.cut_laws.proofs.Basics.{filter_same, filter_all, below_or, filter_none}
use Rattle.cut_laws.proofs.RunFacts.{in_filter}
use Rattle.cut_laws.proofs.Listed.{to_filter}
use Rattle.log_merge.specs.Merge.{is_under, stands_at, part_changes, parts_changes}
use Rattle.log_merge.proofs.OneMerge.{there_is_one_merge}
use Rattle.dep_closure.specs.History.{logged_of}
use Rattle.dep_closure.specs.declared.gathered.DirectoryChanges.{DirectoryChanges}
use Rattle.dep_closure.proofs.Parts.{pass_both}
use Rattle.dep_closure.proofs.Looked.{one_of_all}
use Rattle.core_logs.specs.Logs.{blank_part}
use Rattle.core_logs.specs.Kept.{logged_of_core}
use Rattle.core_logs.proofs.Ordered.{one_cores, history_in_order, logged_below}
use Rattle.note_laws.specs.Merged.{EndBelow, IsMergedOf}

-- Parts that have of each directory what marks leave of what their core's first calls log, of so many calls.
module _ (first : TreeState) (history : List Entry) (parts : List CoreLog) (mark : ℕ → ℕ → ℕ) (count : ℕ → ℕ) (legal : IsLegal first history)
    (callers : (stamp : ℕ) → stamp < length history → core_at first history stamp < length parts)
    (left : (core directory : ℕ) → core < length parts
    → changes_kept (slice_index_or parts core blank_part) directory
    ≡ filter (is_from (mark core directory)) (filter (is_logged_in directory) (filter (is_under (count core)) (logged_of_core core first history)))) where
  abbrev logged : List Change
  logged = logged_of first history

  abbrev kept_by : ℕ → ℕ → List Change
  kept_by core directory = changes_kept (slice_index_or parts core blank_part) directory

  -- whether the change of a stamp is kept by its core's part
  abbrev keeps : ℕ → ℕ → Bool
  keeps directory stamp = nat_lt stamp (count (core_at first history stamp)) && nat_le (mark (core_at first history stamp) directory) stamp

  abbrev all_kept : ℕ → List Change
  all_kept directory = filter (λ change. keeps directory change.stamp.0) (filter (is_logged_in directory) logged)

  abbrev stamp_of : ℕ → ℕ
  stamp_of place = place / 2

  stamped_so : (place : ℕ) (change : Change) → stands_at place change ≡ true → change.stamp.0 ≡ stamp_of place
  stamped_so place change here = half change.stamp.0 (is_addition change.act) (eqb-true (log_place change) place here)
    where
      half : (s : ℕ) (b : Bool) → 2 * s + cond b 1 0 ≡ place → s ≡ place / 2
      half s true same = omega arith
      half s false same = omega arith

  -- the tests of what one core keeps of a directory and of what all do
  abbrev core_asks : ℕ → ℕ → Change → Bool
  core_asks core directory change = is_under (count core) change && (is_logged_in directory change && is_from (mark core directory) change)

  abbrev all_ask : ℕ → Change → Bool
  all_ask directory change = is_logged_in directory change && keeps directory change.stamp.0

  abbrev here_kept : ℕ → ℕ → List Change
  here_kept directory place = filter (stands_at place) (all_kept directory)

  -- what a core keeps, by one test
  kept_is : (core directory : ℕ) → core < length parts → kept_by core directory ≡ filter (core_asks core directory) (logged_of_core core first history)
  kept_is core directory within =
      left core directory within
      ∙ pass_both (is_logged_in directory) (is_from (mark core directory)) (λ c. is_logged_in directory c && is_from (mark core directory) c) (λ c. refl)
      (filter (is_under (count core)) (logged_of_core core first history))
      ∙ pass_both (is_under (count core)) (λ c. is_logged_in directory c && is_from (mark core directory) c) (core_asks core directory) (λ c. refl)
      (logged_of_core core first history)

  -- at a place a core keeps all or nothing
  of_one_core : (core directory place : ℕ) → core < length parts
      → filter (stands_at place) (kept_by core directory) ≡ cond (nat_eq (core_at first history (stamp_of place)) core) (here_kept directory place) []
  of_one_core core directory place within =
      ap (filter (stands_at place)) (kept_is core directory within)
      ∙ pass_both (core_asks core directory) (stands_at place) (λ c. core_asks core directory c && stands_at place c) (λ c. refl)
      (logged_of_core core first history)
      ∙ one_cores core (λ c. core_asks core directory c && stands_at place c) first history 0 (stamp_of place) legal
      (λ c is. stamped_so place c (and_second (core_asks core directory c) (stands_at place c) is) ∙ sym (zero_plus (stamp_of place)))
      ∙ same_here (nat_eq (core_at first history (stamp_of place)) core) refl
    where
      turned : (a b c : Bool) → (a && (b && c)) ≡ (b && (a && c))
      turned true b c = refl
      turned false true c = refl
      turned false false c = refl

      agree : core_at first history (stamp_of place) ≡ core → (c : Change) → IsOneOf logged c
          → (core_asks core directory c && stands_at place c) ≡ (all_ask directory c && stands_at place c)
      agree is c one = by (stands_at place c) refl
        where
          by : (b : Bool) → stands_at place c ≡ b → (core_asks core directory c && b) ≡ (all_ask directory c && b)
          by false off = and_false (core_asks core directory c) ∙ sym (and_false (all_ask directory c))
          by true on =
              let own : core ≡ core_at first history c.stamp.0 = sym is ∙ ap (core_at first history) (sym (stamped_so place c on)) in
              ap (λ b. b && true)
              (turned (is_under (count core) c) (is_logged_in directory c) (is_from (mark core directory) c)
              ∙ ap (λ k. is_logged_in directory c && (nat_lt c.stamp.0 (count k) && nat_le (mark k directory) c.stamp.0)) own)

      same_here : (b : Bool) → nat_eq (core_at first history (stamp_of place)) core ≡ b
          → cond b (filter (λ c. core_asks core directory c && stands_at place c) logged) [] ≡ cond b (here_kept directory place) []
      same_here false is = refl
      same_here true is =
          filter_same (λ c. core_asks core directory c && stands_at place c) (λ c. all_ask directory c && stands_at place c) logged
          (agree (eqb-true (core_at first history (stamp_of place)) core is))
          ∙ sym (pass_both (all_ask directory) (stands_at place) (λ c. all_ask directory c && stands_at place c) (λ c. refl) logged)
          ∙ ap (filter (stands_at place))
          (sym (pass_both (is_logged_in directory) (λ c. keeps directory c.stamp.0) (all_ask directory) (λ c. refl) logged))

  -- no part of some has anything
  none_at_all : (test : Change → Bool) (take_of : CoreLog → List Change) (some : List CoreLog)
      → ((i : ℕ) → i < length some → filter test (take_of (slice_index_or some i blank_part)) ≡ []) → filter test (flat_map take_of some) ≡ []
  none_at_all test take_of [] none = refl
  none_at_all test take_of (part ∷ some) none =
      filter-append test (take_of part) (flat_map take_of some)
      ∙ ap (λ l. l ++ filter test (flat_map take_of some)) (none zero (omega arith))
      ∙ none_at_all test take_of some (λ i lt. none (suc i) (omega (arith, lt)))

  -- what stands of a list of parts at a place, where at most one part has anything there
  one_there : (test : Change → Bool) (take_of : CoreLog → List Change) (found : List Change) (some : List CoreLog) (j : ℕ) → j < length some
      → filter test (take_of (slice_index_or some j blank_part)) ≡ found
      → ((i : ℕ) → i < length some → (i ≡ j → ⊥) → filter test (take_of (slice_index_or some i blank_part)) ≡ [])
      → filter test (flat_map take_of some) ≡ found
  one_there test take_of found [] j within is others = absurd (omega (arith, within))
  one_there test take_of found (part ∷ some) zero within is others =
      filter-append test (take_of part) (flat_map take_of some)
      ∙ ap (λ l. filter test (take_of part) ++ l) (none_at_all test take_of some (λ i lt. others (suc i) (omega (arith, lt)) (λ same. omega (arith, same))))
      ∙ append-nil (filter test (take_of part)) ∙ is
  one_there test take_of found (part ∷ some) (suc j) within is others =
      filter-append test (take_of part) (flat_map take_of some)
      ∙ ap (λ l. l ++ filter test (flat_map take_of some)) (others zero (omega arith) (λ same. omega (arith, same)))
      ∙ one_there test take_of found some j (omega (arith, within)) is (λ i lt not. others (suc i) (omega (arith, lt)) (λ same. not (omega (arith, same))))

  in_kept : (directory : ℕ) (c : Change) → IsOneOf (all_kept directory) c → IsOneOf logged c
  in_kept directory c one =
      (in_filter (is_logged_in directory) logged c
      (in_filter (λ change. keeps directory change.stamp.0) (filter (is_logged_in directory) logged) c one).0).0

  kept_in_order : (directory : ℕ) → IsInOrder (all_kept directory)
  kept_in_order directory = record {
    rises = IsNonDecreasingBy-filter log_place (λ change. keeps directory change.stamp.0) (filter (is_logged_in directory) logged)
        (IsNonDecreasingBy-filter log_place (is_logged_in directory) logged (history_in_order first history 0 legal).rises);
  }

  -- what all parts keep, below a stamp which all have
  module _ (all : ℕ) (below : EndBelow parts all) where
    below_all : (core directory : ℕ) → core < length parts → part_changes directory all (slice_index_or parts core blank_part) ≡ kept_by core directory
    below_all core directory within =
        filter_all (is_under all) (kept_by core directory)
        (λ change one. under change (one_of_all (λ c. c.stamp.0 < all) (kept_by core directory) change (below core directory within) one))
      where
        under : (change : Change) → change.stamp.0 < all → is_under all change ≡ true
        under change less = grind (arith, nat_tests, less)

    flat_parts : (directory : ℕ) (some : List CoreLog) → parts_changes directory all some ≡ flat_map (part_changes directory all) some
    flat_parts directory [] = refl
    flat_parts directory (part ∷ some) = ap (λ l. part_changes directory all part ++ l) (flat_parts directory some)

    one_core_there : (core directory place : ℕ) → core < length parts
        → filter (stands_at place) (part_changes directory all (slice_index_or parts core blank_part))
        ≡ cond (nat_eq (core_at first history (stamp_of place)) core) (here_kept directory place) []
    one_core_there core directory place within = ap (filter (stands_at place)) (below_all core directory within) ∙ of_one_core core directory place within

    all_there : (directory place : ℕ)
        → filter (stands_at place) (all_kept directory) ≡ filter (stands_at place) (parts_changes directory all parts)
    all_there directory place =
        elim (below_or (stamp_of place) (length history)) [
          | inl early ↦
              let core = core_at first history (stamp_of place) in
              let within = callers (stamp_of place) early in
              sym (one_there (stands_at place) (part_changes directory all) (here_kept directory place) parts core within
              (one_core_there core directory place within ∙ ap (λ b. cond b (here_kept directory place) []) (eq-eqb core core refl))
              (λ i lt not. one_core_there i directory place lt ∙ off i (nat_eq core i) refl (λ same. not (sym same))))
          | inr late ↦
              let none : here_kept directory place ≡ [] =
              filter_none (stands_at place) (all_kept directory) (λ c one. not_here c (in_kept directory c one) late) in
              none
              ∙ sym
              (none_at_all (stands_at place) (part_changes directory all) parts
              (λ i lt. one_core_there i directory place lt ∙ ap (λ l. cond (nat_eq (core_at first history (stamp_of place)) i) l []) none
              ∙ nothing (nat_eq (core_at first history (stamp_of place)) i)))
        ]
        ∙ ap (filter (stands_at place)) (sym (flat_parts directory parts))
      where
        off : (i : ℕ) (b : Bool) → nat_eq (core_at first history (stamp_of place)) i ≡ b → (core_at first history (stamp_of place) ≡ i → ⊥)
            → cond b (here_kept directory place) [] ≡ []
        off i true is not = absurd (not (eqb-true (core_at first history (stamp_of place)) i is))
        off i false is not = refl

        nothing : (b : Bool) → ◌≡◌ {A = List Change} (cond b [] []) []
        nothing true = refl
        nothing false = refl

        not_here : (c : Change) → IsOneOf logged c → length history ≤ stamp_of place → stands_at place c ≡ false
        not_here c one late = by (stands_at place c) refl
          where
            by : (b : Bool) → stands_at place c ≡ b → b ≡ false
            by false is = refl
            by true is = let at = stamped_so place c is in let less = logged_below first history 0 legal c one in absurd (omega (arith, at, less, late))

  -- so a merged log has what is kept of its directory
  pub merged_is : (log : DirectoryChanges) → IsMergedOf parts log → log.changes.items ≡ all_kept log.dir.0
  merged_is log is = there_is_one_merge (parts_changes log.dir.0 is.all parts) log.changes.items (all_kept log.dir.0) is.merge
      (record { in_order = kept_in_order log.dir.0; same = all_there is.all is.below log.dir.0 })

  -- and each change that is kept is in its core's part
  pub is_kept : (change : Change) → IsOneOf logged change → keeps change.dir.0 change.stamp.0 ≡ true
      → (core_at first history change.stamp.0 < length parts) × IsOneOf (kept_by (core_at first history change.stamp.0) change.dir.0) change
  is_kept change one asks =
      let less : change.stamp.0 < length history = let l = logged_below first history 0 legal change one in omega (arith, l) in
      let within = callers change.stamp.0 less in (
        within,
        in_part (core_at first history change.stamp.0) change.dir.0 change within
            (to_filter (λ c. keeps change.dir.0 c.stamp.0) (filter (is_logged_in change.dir.0) logged) change
            (to_filter (is_logged_in change.dir.0) logged change one (same_number change.dir.0)) asks) refl,
      )
    where
      in_part : (core directory : ℕ) (c : Change) → core < length parts → IsOneOf (all_kept directory) c → core_at first history c.stamp.0 ≡ core
          → IsOneOf (kept_by core directory) c
      in_part core directory c within kept is =
          let place = log_place c in
          let at : c.stamp.0 ≡ stamp_of place = stamped_so place c (same_number place) in
          let own : core_at first history (stamp_of place) ≡ core = ap (core_at first history) (sym at) ∙ is in
          let here = to_filter (stands_at place) (all_kept directory) c kept (same_number place) in
          let same =
          of_one_core core directory place within
          ∙ ap (λ b. cond b (here_kept directory place) []) (eq-eqb (core_at first history (stamp_of place)) core own) in
          (in_filter (stands_at place) (kept_by core directory) c (subst (λ l. IsOneOf l c) (sym same) here)).0
