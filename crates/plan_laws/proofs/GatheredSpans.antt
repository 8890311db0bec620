-- What was gathered in a member's span is all that the history logs there, where what was gathered is enough.
use Rattle.std.proofs.Common.{◌≡◌, ℕ, ◌<◌, ◌≤◌, Bool, true, false, List, [], filter, Option, Some, None, refl, sym, ap, subst, ◌∙◌, nat_eq, nat_lt}
use Rattle.std.specs.Prelude.{nat_le}
use Rattle.std.specs.List.{find}
use Rattle.std.specs.Option.{option_map_or}
use borrow.Author.Tests.{eqb-true, leb-true, ltb-true}
use Rattle.sfs_base.proofs.BasicOptions.{none_some, some_same}
use Rattle.sfs_base.proofs.BasicTruth.{and_first, and_second}
use Rattle.sfs_base.specs.declared.numbers.NodeId.{NodeId}
use Rattle.sfs_base.specs.declared.numbers.Stamp.{Stamp}
use Rattle.tree_laws.specs.declared.changes.Change.{Change}
use Rattle.tree_laws.specs.declared.history.Entry.{Entry}
use Rattle.tree_laws.specs.Changes.{RowChange}
use Rattle.tree_laws.specs.History.{IsLegal}
use Rattle.tree_laws.specs.Laws.{IsSoundTree}
use Rattle.tree_laws.specs.Logged.{is_logged_in, erased}
use Rattle.tree_laws.specs.Tree.{TreeState}
use Rattle.cut_laws.specs.Closure.{Counts}
use Rattle.cut_laws.specs.Cut.{Cut, cut_of}
use Rattle.cut_laws.specs.Rules.{IsOneOf}
use Rattle.cut_laws.proofs.Basics.{filter_none}
use Rattle.cut_laws.proofs.Listed.{from_map}
use Rattle.cut_laws.proofs.RunFacts.{found_in, in_filter}
use Rattle.look_laws.specs.Fit.{KnowsEnough}
use Rattle.look_laws.specs.Look.{Noted, Gathers, member}
use Rattle.dep_closure.specs.declared.gathered.DirectoryChanges.{DirectoryChanges}
use Rattle.dep_closure.specs.declared.gathered.Gathered.{Gathered}
use Rattle.dep_closure.specs.Gathered.{look_of, cut_in, log_directory, noted_as, noted_in, span_in, IsOwnLog, IsOrderly}
use Rattle.dep_closure.specs.History.{logged_of, IsLogOf}
use Rattle.dep_closure.specs.Spans.{is_in_span}
use Rattle.cut_laws.proofs.Listed.{filter_again, to_filter}
use Rattle.dep_closure.proofs.Looked.{from_flat, one_of_all, only_one}
use Rattle.dep_closure.proofs.True.{logged_at, logged_once, row as logged_row_is}

-- what a history logs of a node in its span, from its cut to below a stamp
abbrev pub logged_span : TreeState → List Entry → Cut → Stamp → ℕ → List Change
logged_span first history cut below node = filter (is_in_span (cut_of cut node) below.0) (filter (is_logged_in node) (logged_of first history))

module _ (first : TreeState) (history : List Entry) (counts : Counts) (cut : Cut) (inodes : ℕ → Bool) (gathered : Gathered) (start : NodeId) (below : Stamp)
    (sound : IsSoundTree first) (legal : IsLegal first history) (orderly : IsOrderly gathered)
    (logs : (log : DirectoryChanges) → IsOneOf gathered.logs.items log → IsLogOf first history counts log)
    (knows : KnowsEnough first history counts cut inodes (look_of start below gathered)) (counted : (stamp : ℕ) → stamp < below.0 → counts stamp ≡ true)
    (d : ℕ) (own_member : Gathers (look_of start below gathered) d) where
  abbrev own : List Change
  own = filter (is_logged_in d) (logged_of first history)

  abbrev from : ℕ
  from = cut_in gathered.cuts.items d

  same_cut : from ≡ cut_of cut d
  same_cut = knows.cuts d (member d own_member)

  -- A log is the directory's, and it has a change.
  abbrev HasChange : Change → DirectoryChanges → Type 0
  HasChange change log = (find (λ (log : DirectoryChanges). nat_eq (log_directory log) d) gathered.logs.items ≡ Some log) × IsOneOf log.changes.items change

  -- the log of a change that was gathered at the stamp of a logged one has the logged one too
  by_noted : (change : Change) → IsOneOf own change → (noted : Noted) → IsOneOf (look_of start below gathered).noted noted
      → noted.change.stamp ≡ change.stamp.0 → noted.change.directory ≡ d → (log : DirectoryChanges) × HasChange change log
  by_noted change one noted is_noted same_stamp same_directory =
      let in_log = from_flat noted_in gathered.logs.items noted is_noted in
      let log = in_log.0 in
      let other = from_map (noted_as log.changes.items) log.changes.items noted in_log.2 in
      let directory : log.dir.0 ≡ d =
      sym
      (one_of_all (λ (c : Change). c.dir.0 ≡ log.dir.0) log.changes.items other.0
      (one_of_all IsOwnLog gathered.logs.items log orderly.own_logs in_log.1).own other.1)
      ∙ ap (λ (n : Noted). n.change.directory) other.2 ∙ same_directory in
      let is : IsLogOf first history counts log = logs log in_log.1 in
      let kept : is.keeps other.0.stamp.0 ≡ true =
      (in_filter (λ (c : Change). is.keeps c.stamp.0) (filter (is_logged_in log.dir.0) (logged_of first history)) other.0
      (subst (λ l. IsOneOf l other.0) is.changes other.1)).1 in
      let keeps : is.keeps change.stamp.0 ≡ true = subst (λ s. is.keeps s ≡ true) (ap (λ (n : Noted). n.change.stamp) other.2 ∙ same_stamp) kept in
      let there = to_filter (λ (c : Change). is.keeps c.stamp.0) own change one keeps in (
        log,
        (
          only_one log_directory gathered.logs.items orderly.logs d log in_log.1 directory,
          subst (λ l. IsOneOf l change)
              (sym (is.changes ∙ ap (λ n. filter (λ (c : Change). is.keeps c.stamp.0) (filter (is_logged_in n) (logged_of first history))) directory)) there,
        ),
      )

  -- a logged change of the span is in the log of its directory
  in_log : (change : Change) → IsOneOf own change → is_in_span from below.0 change ≡ true → (log : DirectoryChanges) × HasChange change log
  in_log change one inside =
      let logged = in_filter (is_logged_in d) (logged_of first history) change one in
      let directory : change.dir.0 ≡ d = eqb-true change.dir.0 d logged.1 in
      let low : cut_of cut d ≤ change.stamp.0 =
      subst (λ n. n ≤ change.stamp.0) same_cut
      (leb-true from change.stamp.0 (and_first (nat_le from change.stamp.0) (nat_lt change.stamp.0 below.0) inside)) in
      let early : change.stamp.0 < below.0 = ltb-true change.stamp.0 below.0 (and_second (nat_le from change.stamp.0) (nat_lt change.stamp.0 below.0) inside) in
      let count = counted change.stamp.0 early in
      let noted =
      knows.spans (erased (logged_at first history change.stamp.0 change.stamp.0) change)
      (subst (Gathers (look_of start below gathered)) (sym directory) own_member) (record {
        is_change = logged_row_is first history counts sound legal change count (logged_once first history change legal logged.0);
        counted = count;
        from = subst (λ n. cut_of cut n ≤ change.stamp.0) (sym directory) low;
        below = early;
      }) in
      by_noted change one noted.0 noted.1 (ap (λ (r : RowChange). r.stamp) noted.2) (ap (λ (r : RowChange). r.directory) noted.2 ∙ directory)

  of_log : (o : Option DirectoryChanges) → find (λ (log : DirectoryChanges). nat_eq (log_directory log) d) gathered.logs.items ≡ o
      → filter (is_in_span from below.0) (option_map_or (λ (log : DirectoryChanges). log.changes.items) o []) ≡ filter (is_in_span from below.0) own
  of_log None none = sym (filter_none (is_in_span from below.0) own (λ change one. by change one (is_in_span from below.0 change) refl))
    where
      by : (change : Change) → IsOneOf own change → (b : Bool) → is_in_span from below.0 change ≡ b → b ≡ false
      by change one false e = refl
      by change one true e = let log = in_log change one e in absurd (none_some (sym none ∙ log.1.0))
  of_log (Some log) found =
      let among = found_in (λ (log : DirectoryChanges). nat_eq (log_directory log) d) gathered.logs.items log found in
      let is : IsLogOf first history counts log = logs log among.0 in
      let changes : log.changes.items ≡ filter (λ (c : Change). is.keeps c.stamp.0) own = is.changes
      ∙ ap (λ n. filter (λ (c : Change). is.keeps c.stamp.0) (filter (is_logged_in n) (logged_of first history))) (eqb-true log.dir.0 d among.1) in
      ap (filter (is_in_span from below.0)) changes
      ∙ filter_again (is_in_span from below.0) (λ (c : Change). is.keeps c.stamp.0) own (λ change one inside.
      let its = in_log change one inside in
      let same : its.0 ≡ log = some_same (sym its.1.0 ∙ found) in
      (in_filter (λ (c : Change). is.keeps c.stamp.0) own change
      (subst (λ l. IsOneOf l change) changes (subst (λ (l : DirectoryChanges). IsOneOf l.changes.items change) same its.1.1))).1)

  pub spans_are_logged : span_in gathered below d ≡ logged_span first history cut below d
  spans_are_logged = of_log (find (λ (log : DirectoryChanges). nat_eq (log_directory log) d) gathered.logs.items) refl
      ∙ ap (λ n. filter (is_in_span n below.0) own) same_cut
