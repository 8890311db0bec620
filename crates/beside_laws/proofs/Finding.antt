-- What a commit found once is so wherever it knows enough.
use Rattle.std.proofs.Common.{◌≡◌, ◌⊎◌, ◌↔◌, ℕ, ◌≤◌, List, length, Some, inl, inr, sym, ap, subst, ◌∙◌, arith}
use Rattle.std.proofs.lemmas.List.{take_all}
use Rattle.std.specs.FinMap.{FinMap, get}
use Rattle.tree_laws.specs.declared.history.Entry.{Entry}
use Rattle.tree_laws.specs.Order.{key_cmp}
use Rattle.tree_laws.specs.Tree.{TreeState}
use Rattle.tree_laws.specs.Changes.{RowChange}
use Rattle.tree_laws.specs.History.{IsLegal}
use Rattle.tree_laws.specs.Laws.{IsSoundTree}
use Rattle.cut_laws.specs.Cut.{Cut, cut_of, rows_at_cut, counted_rows_at_cut}
use Rattle.cut_laws.specs.Closure.{every_entry, IsNamedIn, IsRaised}
use Rattle.cut_laws.specs.Rules.{IsChange}
use Rattle.cut_laws.proofs.Agree.{rows_same}
use Rattle.cut_laws.proofs.Basics.{below_or}
use Rattle.cut_laws.proofs.Prefix.{counted_rows-take}
use Rattle.cut_laws.proofs.Raises.{cuts_rise}
use Rattle.cut_laws.proofs.Views.{below}
use Rattle.look_laws.specs.Look.{Look, Gathers, Touches}
use Rattle.look_laws.specs.Fit.{IsNoted}
use Rattle.beside_laws.specs.Commits.{CoreCommit, commit_fsync}
use Rattle.beside_laws.specs.Progress.{Progress, Standing}
use Rattle.beside_laws.specs.Laws.{KnowsRun, FoundOnce}
use Rattle.beside_laws.proofs.Raising.{of_the_whole}

-- A change does not lie below the cut of its directory, as far as a commit can see: it is not earlier than all its entries, or it is noted and does
-- not lie below what the commit saw of the directory.
abbrev SeesOpen : CoreCommit → RowChange → Type 0
SeesOpen commit change =
    (commit.late ≤ change.stamp) ⊎ (IsNoted commit.look change × (commit.look.cut change.directory ≤ change.stamp))

module _ (run : Progress) (commit : CoreCommit) (is : IsSoundTree run.first) (legal : IsLegal run.first run.history) (stands : Standing run)
    (knows : KnowsRun run commit) where
  abbrev look : Look
  look = commit.look

  sees : (change : RowChange) → IsChange run.first run.history change → Touches look change.child → cut_of run.cut change.directory ≤ change.stamp
      → SeesOpen commit change
  sees change is_change touched open_one = elim (below_or change.stamp commit.late) [
    | inr late ↦ inl late
    | inl less ↦
        let low = knows.enough.cuts_low change.directory in
        inr (knows.enough.namings change touched is_change (knows.early change.stamp less) open_one, omega arith)
  ]

  open_if : (change : RowChange) → IsChange run.first run.history change → Touches look change.child → SeesOpen commit change
      → cut_of run.cut change.directory ≤ change.stamp
  open_if change is_change touched (inl late) = knows.unflushed change touched is_change late
  open_if change is_change touched (inr (noted, low)) =
      subst (λ (c : RowChange). cut_of run.cut c.directory ≤ c.stamp) noted.2
      (knows.enough.unflushed noted.0 noted.1 (subst (λ (c : RowChange). Touches look c.child) (sym noted.2) touched)
      (subst (λ (c : RowChange). look.cut c.directory ≤ c.stamp) (sym noted.2) low))

  module _ (raised : Cut) (raise : IsRaised run.first run.history every_entry run.cut run.inodes (commit_fsync commit) raised) where
    -- and so at a cut that it raises, of a change that is not in the span of what it gathers
    pub raised_sees : (change : RowChange) → IsChange run.first run.history change → Touches look change.child
        → cut_of raised change.directory ≤ change.stamp → SeesOpen commit change × (Gathers look change.directory → (commit_fsync commit).stamp ≤ change.stamp)
    raised_sees change is_change touched open_one =
        let low = cuts_rise run.first run.history every_entry run.cut run.inodes (commit_fsync commit) raised raise change.directory in (
          sees change is_change touched (omega arith),
          λ own.
              let lifted = raise.member change.directory (((of_the_whole run is legal stands commit knows).fits.members change.directory).0 own) in
              omega arith,
        )

    pub raised_open : (change : RowChange) → IsChange run.first run.history change → Touches look change.child
        → SeesOpen commit change × (Gathers look change.directory → (commit_fsync commit).stamp ≤ change.stamp)
        → cut_of raised change.directory ≤ change.stamp
    raised_open change is_change touched both =
        let open_one = open_if change is_change touched both.0 in
        elim (raise.other change.directory) [
          | inr same ↦ omega arith
          | inl own ↦
              let lifted = raise.member change.directory own in
              let past = both.1 (((of_the_whole run is legal stands commit knows).fits.members change.directory).1 own) in
              omega arith
        ]

module _ (first : TreeState) (history : List Entry) (is : IsSoundTree first) (legal : IsLegal first history) where
  -- the rows at a cut are those of all entries of the history
  counted_all : (cut : Cut) → counted_rows_at_cut first history (below (length history)) cut ≡ rows_at_cut first history cut
  counted_all cut =
      sym (counted_rows-take first history (length history) cut legal) ∙ ap (λ (h : List Entry). rows_at_cut first h cut) (take_all (length history) history (omega arith))

  -- cuts that leave the same changes of a node open have the same rows that name it
  pub named_alike : (cut other : Cut) (node : ℕ)
      → ((change : RowChange) → IsChange first history change → change.child ≡ node
      → (cut_of cut change.directory ≤ change.stamp) ↔ (cut_of other change.directory ≤ change.stamp))
      → IsNamedIn (rows_at_cut first history cut) node → IsNamedIn (rows_at_cut first history other) node
  named_alike cut other node same row = record {
    directory = row.directory;
    name = row.name;
    row =
        subst (λ (rows : FinMap key_cmp ℕ). get rows (row.directory, row.name) ≡ Some node) (counted_all other)
        ((rows_same first history (length history) is legal cut other node (λ change is_change less child. same change is_change child) row.directory
        row.name).0 (subst (λ (rows : FinMap key_cmp ℕ). get rows (row.directory, row.name) ≡ Some node) (sym (counted_all cut)) row.row));
  }

pub found_once : FoundOnce
found_once run commit is legal stands knows found done cut inodes stands_there knows_there raised raise = record {
  named = λ node touched. (
    λ has. named_alike run.first run.history is legal found.raised raised node (alike node touched) ((found.finds.named node touched).0 has),
    λ row. (found.finds.named node touched).1 (named_alike run.first run.history is legal raised found.raised node
        (λ change is_change child. let both = alike node touched change is_change child in (both.1, both.0)) row),
  );
  directory = found.finds.directory;
}
  where
    there : Progress
    there = record { first = run.first; history = run.history; done = done; cut = cut; inodes = inodes }

    alike : (node : ℕ) → Touches commit.look node → (change : RowChange) → IsChange run.first run.history change → change.child ≡ node
        → (cut_of found.raised change.directory ≤ change.stamp) ↔ (cut_of raised change.directory ≤ change.stamp)
    alike node touched change is_change child =
        let own = subst (Touches commit.look) (sym child) touched in (
          λ open_one.
              raised_open there commit is legal stands_there knows_there raised raise change is_change own
              (raised_sees run commit is legal stands knows found.raised found.raises change is_change own open_one),
          λ open_one.
              raised_open run commit is legal stands knows found.raised found.raises change is_change own
              (raised_sees there commit is legal stands_there knows_there raised raise change is_change own open_one),
        )
