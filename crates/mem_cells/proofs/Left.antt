-- What is left of a core's changes once entries are added, and once they are trimmed.
use Rattle.std.proofs.Common.{◌≡◌, ℕ, ◌+◌, ◌≤◌, Bool, true, false, cond, nat_eq, nat_le, max, List, [], ◌∷◌, ◌++◌, get_or, filter, refl, sym, ap, ◌∙◌, subst, arith}
use borrow.Author.Tests.{eqb-true}
use Rattle.std.specs.Prelude.{All}
use Rattle.std.proofs.lemmas.Bool.{cond-true, cond-false}
use Rattle.std.proofs.lemmas.Bool.Decides.{nat_tests}
use Rattle.std.proofs.lemmas.List.Elements.{filter-append, All-head, All-tail}
use Rattle.tree_laws.specs.declared.changes.Change.{Change}
use Rattle.tree_laws.specs.Logged.{is_logged_in}
use Rattle.mem_cells.specs.Log.{is_from}
use Rattle.mem_cells.specs.Part.{changes_kept, mark_kept}
use Rattle.mem_cells.specs.Laws.{PartsBegin, EntriesAreKept, TrimsKeep}

pub parts_begin : PartsBegin
parts_begin = record { changes_left = λ directory. refl; entries_counted = refl }

-- no own change of an entry lies below the mark
all_kept : (directory mark : ℕ) (entry : List Change)
    → ((change : Change) → is_logged_in directory change ≡ true → mark ≤ change.stamp.0 → is_from mark change ≡ true)
    → All (λ change. is_logged_in directory change ≡ true → mark ≤ change.stamp.0) entry
    → filter (is_from mark) (filter (is_logged_in directory) entry) ≡ filter (is_logged_in directory) entry
all_kept directory mark [] tells above = refl
all_kept directory mark (change ∷ entry) tells above =
    let rest = all_kept directory mark entry tells (All-tail (λ one. is_logged_in directory one ≡ true → mark ≤ one.stamp.0) change entry above) in
    elim (is_logged_in directory change) as (λ b. is_logged_in directory change ≡ b
    → filter (is_from mark) (cond b (change ∷ filter (is_logged_in directory) entry) (filter (is_logged_in directory) entry))
    ≡ cond b (change ∷ filter (is_logged_in directory) entry) (filter (is_logged_in directory) entry)) [
      | true ↦ λ own.
          cond-true (is_from mark change) (change ∷ filter (is_from mark) (filter (is_logged_in directory) entry))
          (filter (is_from mark) (filter (is_logged_in directory) entry))
          (tells change own (All-head (λ one. is_logged_in directory one ≡ true → mark ≤ one.stamp.0) change entry above own))
          ∙ ap (λ l. change ∷ l) rest
      | false ↦ λ other. rest
    ] refl

pub entries_are_kept : EntriesAreKept
entries_are_kept changes entry entries part after left above adds = record {
  changes_left = λ directory.
      adds.changes directory
      ∙ ap (λ (l : List Change). l ++ filter (is_logged_in directory) entry) (left.changes_left directory)
      ∙ ap (λ (l : List Change). filter (is_from (mark_kept part directory)) (filter (is_logged_in directory) changes) ++ l)
      (sym (all_kept directory (mark_kept part directory) entry (λ change own le. grind (arith, nat_tests)) (own_above directory entry above)))
      ∙ sym (filter-append (is_from (mark_kept part directory)) (filter (is_logged_in directory) changes) (filter (is_logged_in directory) entry))
      ∙ ap (filter (is_from (mark_kept part directory))) (sym (filter-append (is_logged_in directory) changes entry))
      ∙ ap (λ mark. filter (is_from mark) (filter (is_logged_in directory) (changes ++ entry))) (sym (adds.marks directory));
  entries_counted = adds.entries ∙ ap (λ n. n + 1) left.entries_counted;
}
  where
    own_above : (directory : ℕ) (those : List Change) → All (λ change. mark_kept part change.dir.0 ≤ change.stamp.0) those
        → All (λ change. is_logged_in directory change ≡ true → mark_kept part directory ≤ change.stamp.0) those
    own_above directory those each =
        λ k d within own. subst (λ n. mark_kept part n ≤ (get_or those k d).stamp.0) (eqb-true (get_or those k d).dir.0 directory own) (each k d within)

-- what is left of what is left, for one change more
one_twice : (a b both : Bool) (mark below : ℕ) (change : Change) (rest whole : List Change) → b ≡ is_from below change → (a ≡ true → both ≡ b)
    → (a ≡ false → both ≡ false) → filter (is_from below) rest ≡ whole → filter (is_from below) (cond a (change ∷ rest) rest) ≡ cond both (change ∷ whole) whole
one_twice true b both mark below change rest whole is first none same =
    ap (λ (l : List Change). cond (is_from below change) (change ∷ l) l) same ∙ ap (λ t. cond t (change ∷ whole) whole) (sym (first refl ∙ is))
one_twice false b both mark below change rest whole is first none same = same ∙ sym (cond-false both (change ∷ whole) whole (none refl))

pub twice_kept : (mark below : ℕ) (changes : List Change) → filter (is_from below) (filter (is_from mark) changes) ≡ filter (is_from (max mark below)) changes
twice_kept mark below [] = refl
twice_kept mark below (change ∷ changes) =
    one_twice (is_from mark change) (is_from below change) (is_from (max mark below) change) mark below change (filter (is_from mark) changes)
    (filter (is_from (max mark below)) changes) refl (both_from change.stamp.0 mark below) (none_from change.stamp.0 mark below)
    (twice_kept mark below changes)
  where
    both_from : (stamp mark below : ℕ) → nat_le mark stamp ≡ true → nat_le (max mark below) stamp ≡ nat_le below stamp
    both_from stamp mark below e = grind (arith, nat_tests)

    none_from : (stamp mark below : ℕ) → nat_le mark stamp ≡ false → nat_le (max mark below) stamp ≡ false
    none_from stamp mark below e = grind (arith, nat_tests)

pub trims_keep : TrimsKeep
trims_keep changes entries part directory below after left trims = record {
  changes_left = λ other.
      elim (nat_eq other directory) as (λ b. nat_eq other directory ≡ b
      → changes_kept after other ≡ filter (is_from (mark_kept after other)) (filter (is_logged_in other) changes)) [
        | true ↦ λ e.
            trims.logs.changes other
            ∙ cond-true (nat_eq other directory) (filter (is_from below) (changes_kept part other)) (changes_kept part other) e
            ∙ ap (filter (is_from below)) (left.changes_left other)
            ∙ twice_kept (mark_kept part other) below (filter (is_logged_in other) changes)
            ∙ ap (λ mark. filter (is_from mark) (filter (is_logged_in other) changes))
            (sym (trims.logs.marks other ∙ cond-true (nat_eq other directory) (max (mark_kept part other) below) (mark_kept part other) e))
        | false ↦ λ e.
            trims.logs.changes other
            ∙ cond-false (nat_eq other directory) (filter (is_from below) (changes_kept part other)) (changes_kept part other) e
            ∙ left.changes_left other
            ∙ ap (λ mark. filter (is_from mark) (filter (is_logged_in other) changes))
            (sym (trims.logs.marks other ∙ cond-false (nat_eq other directory) (max (mark_kept part other) below) (mark_kept part other) e))
      ] refl;
  entries_counted = trims.entries ∙ left.entries_counted;
}
