-- Each part has the marks by which commits trimmed it.
use Rattle.std.proofs.Common.{◌&&◌, ◌≡◌, ◌∷◌, ◌||◌, ◌∙◌, if◌then◌else◌, ◌≤◌, ℕ, Bool, nat_eq, true, eqb-true, sym, List, [], false, refl, inl, inr, ap, subst, max, arith, Option, filter}
use Rattle.std.proofs.Math.Nat.{le-max_left, le-max_right}
use Rattle.std.proofs.lemmas.Bool.Decides.{nat_tests}
use Rattle.sfs_base.specs.Listed.{is_listed}
use Rattle.sfs_base.proofs.BasicTruth.{and_first, and_second, false_not_true, or_true}
use Rattle.tree_laws.specs.Tree.{TreeState}
use Rattle.tree_laws.specs.Logged.{is_logged_in}
use Rattle.tree_laws.specs.declared.changes.Change.{Change}
use Rattle.mem_cells.specs.Part.{mark_kept, changes_kept}
use Rattle.mem_cells.specs.Log.{is_from}
use Rattle.disk_nodes.specs.OldKept.{OldKept}
use Rattle.cut_laws.specs.Rules.{IsOneOf}
use Rattle.cut_laws.proofs.Basics.{below_or, filter_all}
use Rattle.cut_laws.proofs.Listed.{listed_one, filter_again}
use Rattle.cut_laws.proofs.RunFacts.{in_filter}
use Rattle.dep_closure.proofs.Looked.{one_of_all}
use Rattle.core_logs.proofs.Ordered.{all_of}
use Rattle.stamp_table.specs.declared.event.Event.{Event}
use Rattle.mem_values.specs.Account.{Commitment, Trimming, account_of, Account}
use Rattle.mem_values.specs.declared.fact.Fact.{Fact}
use Rattle.mem_values.specs.declared.cell.PartCell.{PartCell}
use Rattle.mem_values.specs.Facts.{IsLawfulLog}
use Rattle.sfs_base.proofs.BasicNumbers.{same_number}
use Rattle.mem_values.proofs.Committed.{raised}
use Rattle.mem_values.specs.Stands.{StandsPart, IsTrimmedFor, KeepFrom, IsCapped}
use Rattle.mem_values.specs.Logs.{own_logged}
use Rattle.note_laws.specs.Notes.{HasMarks, PartsHaveMarks}

pub both_true : {a b : Bool} → a ≡ true → b ≡ true → (a && b) ≡ true
both_true {a} {b} one two = ap (λ c. c && b) one ∙ two

-- whether a trimming is one for a commit, of a part
is_for : Commitment → ℕ → Trimming → Bool
is_for commit part trimming = (nat_eq trimming.core commit.core && nat_eq trimming.number commit.number) && nat_eq trimming.part part

for_it : (commit : Commitment) (part : ℕ) (trimming : Trimming) → is_for commit part trimming ≡ true
    → record { core = commit.core; number = commit.number; part = part } ≡ trimming
unfolding is_for
for_it commit part trimming is =
    let core = eqb-true trimming.core commit.core (and_first _ _ (and_first _ _ is)) in
    let number = eqb-true trimming.number commit.number (and_second _ _ (and_first _ _ is)) in
    let there = eqb-true trimming.part part (and_second _ _ is) in
    λ i. record { core = sym core i; number = sym number i; part = sym there i }

own_one : (commit : Commitment) (part : ℕ) → is_for commit part (record { core = commit.core; number = commit.number; part = part }) ≡ true
unfolding is_for
own_one commit part = both_true (both_true (same_number commit.core) (same_number commit.number)) (same_number part)

-- whether a commit trimmed a part, by some trimmings
was_trimmed : List Trimming → Commitment → ℕ → Bool
was_trimmed [] commit part = false
was_trimmed (trimming ∷ trimmings) commit part = is_for commit part trimming || was_trimmed trimmings commit part

is_trimmed : (trimmings : List Trimming) (commit : Commitment) (part : ℕ) → was_trimmed trimmings commit part ≡ true
    → IsOneOf trimmings (record { core = commit.core; number = commit.number; part = part })
unfolding was_trimmed
is_trimmed [] commit part is = absurd (false_not_true is)
is_trimmed (trimming ∷ trimmings) commit part is =
    by (is_for commit part trimming) refl (is_trimmed trimmings commit part)
  where
    by : (b : Bool) → is_for commit part trimming ≡ b
        → (was_trimmed trimmings commit part ≡ true → IsOneOf trimmings (record { core = commit.core; number = commit.number; part = part }))
        → IsOneOf (trimming ∷ trimmings) (record { core = commit.core; number = commit.number; part = part })
    by true own rest = inl (sym (for_it commit part trimming own))
    by false other rest = inr (rest (ap (λ b. b || was_trimmed trimmings commit part) (sym other) ∙ is))

trimmed_is : (trimmings : List Trimming) (commit : Commitment) (part : ℕ)
    → IsOneOf trimmings (record { core = commit.core; number = commit.number; part = part }) → was_trimmed trimmings commit part ≡ true
unfolding was_trimmed
trimmed_is [] commit part one = absurd one
trimmed_is (trimming ∷ trimmings) commit part one = elim one [
  | inl same ↦
      ap (λ b. b || was_trimmed trimmings commit part) (subst (λ t. is_for commit part t ≡ true) (sym same) (own_one commit part))
  | inr more ↦ ap (λ b. is_for commit part trimming || b) (trimmed_is trimmings commit part more) ∙ or_true (is_for commit part trimming)
]

-- whether a commit raised the mark of a directory in a part: it trimmed the part, and the directory is a member
raised_mark : List Trimming → ℕ → ℕ → Commitment → Bool
raised_mark trimmings part directory commit = was_trimmed trimmings commit part && is_listed commit.members directory

-- a mark, raised to the stamps of those commits that raised it
pub mark_raised : List Trimming → ℕ → ℕ → List Commitment → ℕ → ℕ
mark_raised trimmings part directory [] mark = mark
mark_raised trimmings part directory (commit ∷ commits) mark =
    mark_raised trimmings part directory commits (if raised_mark trimmings part directory commit then max mark commit.stamp else mark)

module _ (trimmings : List Trimming) (part directory : ℕ) where
  -- it is no lower
  not_lower : (commits : List Commitment) (mark : ℕ) → mark ≤ mark_raised trimmings part directory commits mark
  unfolding mark_raised
  not_lower [] mark = omega arith
  not_lower (commit ∷ commits) mark = by (raised_mark trimmings part directory commit) (λ m. not_lower commits m)
    where
      by : (b : Bool) → ((m : ℕ) → m ≤ mark_raised trimmings part directory commits m)
          → mark ≤ mark_raised trimmings part directory commits (if b then max mark commit.stamp else mark)
      by true rest = let up = rest (max mark commit.stamp) in let more = le-max_left mark commit.stamp in omega (arith, up, more)
      by false rest = rest mark

  -- nor below the stamp of one that raised it
  reaches : (commits : List Commitment) (mark : ℕ) (commit : Commitment) → IsOneOf commits commit → raised_mark trimmings part directory commit ≡ true
      → commit.stamp ≤ mark_raised trimmings part directory commits mark
  unfolding mark_raised
  reaches [] mark commit one is = absurd one
  reaches (first ∷ commits) mark commit one is = elim one [
    | inl same ↦
        let here : raised_mark trimmings part directory first ≡ true = ap (λ c. raised_mark trimmings part directory c) same ∙ is in
        subst (λ b. commit.stamp ≤ mark_raised trimmings part directory commits (if b then max mark first.stamp else mark)) (sym here)
        (let up = not_lower commits (max mark first.stamp) in let more = le-max_right mark first.stamp in
        let own = ap (λ (c : Commitment). c.stamp) same in omega (arith, up, more, own))
    | inr later ↦ reaches commits (if raised_mark trimmings part directory first then max mark first.stamp else mark) commit later is
  ]

  -- what holds of the mark and of each stamp that raised it holds of the raised one
  holds_of : (P : ℕ → Type 0) (commits : List Commitment) (mark : ℕ) → P mark
      → ((commit : Commitment) → IsOneOf commits commit → raised_mark trimmings part directory commit ≡ true → P commit.stamp)
      → P (mark_raised trimmings part directory commits mark)
  unfolding mark_raised
  holds_of P [] mark own each = own
  holds_of P (commit ∷ commits) mark own each =
      holds_of P commits (if raised_mark trimmings part directory commit then max mark commit.stamp else mark)
      (by (raised_mark trimmings part directory commit) refl) (λ other one is. each other (inr one) is)
    where
      by : (b : Bool) → raised_mark trimmings part directory commit ≡ b → P (if b then max mark commit.stamp else mark)
      by true is = elim (below_or mark commit.stamp) [
        | inl less ↦ subst P (let e : commit.stamp ≡ max mark commit.stamp = omega (arith, less) in e) (each commit (inl refl) is)
        | inr more ↦ subst P (let e : mark ≡ max mark commit.stamp = omega (arith, more) in e) own
      ]
      by false is = own

module _ (given : ℕ → Option OldKept) (first : TreeState) (log : List (Event Fact)) (core : ℕ) (part : PartCell) (lawful : IsLawfulLog given first log)
    (stands : StandsPart first (account_of log) core part) where
  abbrev account : Account
  account = account_of log

  abbrev mark : ℕ → ℕ
  mark directory = mark_raised account.trimmings core directory account.commits (mark_kept part.log directory)

  member_of : (commit : Commitment) (directory : ℕ) → raised_mark account.trimmings core directory commit ≡ true
      → IsTrimmedFor account commit core × IsOneOf commit.members directory
  unfolding raised_mark
  member_of commit directory is = (
    is_trimmed account.trimmings commit core (and_first _ _ is),
    (listed_one commit.members directory).0 (and_second (was_trimmed account.trimmings commit core) _ is),
  )

  all_above : (directory : ℕ) → KeepFrom (mark directory) (changes_kept part.log directory)
  all_above directory =
      holds_of account.trimmings core directory (λ m. KeepFrom m (changes_kept part.log directory)) account.commits (mark_kept part.log directory)
      (subst (KeepFrom (mark_kept part.log directory)) (sym (stands.left.changes_left directory))
      (all_of (λ change. mark_kept part.log directory ≤ change.stamp.0) _
      (λ change one. le_from (mark_kept part.log directory) change
      (in_filter (is_from (mark_kept part.log directory)) (filter (is_logged_in directory) (own_logged first core account.calls)) change one).1)))
      (λ commit one is. let member = member_of commit directory is in stands.kept.trimmed commit directory one member.0 member.1)
    where
      le_from : (m : ℕ) (change : Change) → is_from m change ≡ true → m ≤ change.stamp.0
      le_from m change is = grind (arith, nat_tests, is)

  has_marks : HasMarks first account core part.log
  unfolding raised_mark
  has_marks = record {
    mark = mark;
    are = record {
      capped = λ directory.
          holds_of account.trimmings core directory (IsCapped account directory) account.commits (mark_kept part.log directory) (stands.kept.capped directory)
          (λ commit one is. let raises = raised given first log commit directory lawful one (member_of commit directory is).1 in
          inr (commit, raises.0, one, raises.1, raises.2));
      trimmed = λ commit directory one trimmed member.
          reaches account.trimmings core directory account.commits (mark_kept part.log directory) commit one
          (both_true (trimmed_is account.trimmings commit core trimmed) ((listed_one commit.members directory).1 member));
    };
    left = λ directory.
        let logged = filter (is_logged_in directory) (own_logged first core account.calls) in
        sym
        (sym (filter_again (is_from (mark directory)) (is_from (mark_kept part.log directory)) logged
        (λ change one is. lower directory change is))
        ∙ ap (filter (is_from (mark directory))) (sym (stands.left.changes_left directory))
        ∙ filter_all (is_from (mark directory)) (changes_kept part.log directory)
        (λ change one. from_le (mark directory) change
        (one_of_all (λ c. mark directory ≤ c.stamp.0) (changes_kept part.log directory) change (all_above directory) one)));
  }
    where
      from_le : (m : ℕ) (change : Change) → m ≤ change.stamp.0 → is_from m change ≡ true
      from_le m change le = grind (arith, nat_tests, le)

      between : (low high : ℕ) (change : Change) → low ≤ high → is_from high change ≡ true → is_from low change ≡ true
      between low high change le is = grind (arith, nat_tests, le, is)

      lower : (directory : ℕ) (change : Change) → is_from (mark directory) change ≡ true → is_from (mark_kept part.log directory) change ≡ true
      lower directory change is =
          let low = not_lower account.trimmings core directory account.commits (mark_kept part.log directory) in
          between (mark_kept part.log directory) (mark directory) change low is

pub parts_have_marks : PartsHaveMarks
parts_have_marks given first log core part lawful stands = has_marks given first log core part lawful stands
