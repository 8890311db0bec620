-- A row at a cut names a node by the changes that name it alone.
use Rattle.std.proofs.Common.{◌≡◌, ℕ, zero, suc, ◌<◌, ◌≤◌, false, List, [], ◌∷◌, ◌++◌, take, Option, Some, None, ◌⊎◌, inl, inr, refl, sym, ap, ◌∙◌, arith}
use Rattle.std.specs.Prelude.{◌↔◌, filter, fold}
use Rattle.std.specs.FinMap.{FinMap, get, remove}
use Rattle.sfs_base.specs.declared.numbers.Kind.{Kind}
use Rattle.tree_laws.specs.declared.history.Entry.{Entry}
use Rattle.tree_laws.specs.Order.{key_cmp}
use Rattle.tree_laws.specs.Tree.{TreeState, row_of, is_directory}
use Rattle.tree_laws.specs.Effect.{Effect, Stays, Adds, Removes, Moves, Edits, tree_with}
use Rattle.tree_laws.specs.Verdict.{verdict}
use Rattle.tree_laws.specs.Changes.{RowChange, removed, other_side, changes_by, changes_of}
use Rattle.tree_laws.specs.Sound.{IsSound}
use Rattle.tree_laws.specs.Fits.{Fits}
use Rattle.tree_laws.specs.History.{tree_after_entry, IsLegal}
use Rattle.tree_laws.specs.Laws.{IsSoundTree}
use Rattle.tree_laws.proofs.RowFacts.{added_other, removed_other, is_here, same_some, some_not_none}
use Rattle.cut_laws.specs.Cut.{Cut, cut_of, is_within, with_own, counted_rows_at_cut, IsWithin}
use Rattle.cut_laws.specs.Rules.{IsChange}
use Rattle.cut_laws.proofs.Basics.{below_or}
use Rattle.sfs_base.proofs.BasicNumbers.{not_less}
use Rattle.cut_laws.proofs.Own.{stamp_of, goes_in, replaced_in}
use Rattle.cut_laws.proofs.Placed.{row_at}
use Rattle.cut_laws.proofs.Runs.{Run, Made, Seen}
use Rattle.cut_laws.proofs.Seen.{ahead, behind}
use Rattle.cut_laws.proofs.Along.{tree_at, effect_at, run_of, change_in, changes_till}
use Rattle.cut_laws.proofs.Closed.{seen_of, seen_till}
use Rattle.cut_laws.proofs.Children.{HasChange, row_came}
use Rattle.cut_laws.proofs.Prefix.{counted_rows-take}
use Rattle.cut_laws.proofs.Views.{below, NamesDecideRows}

module _ (tree : TreeState) (core t : ℕ) (s : IsSound tree) where
  -- a row before an effect is there after it, or a change of its directory names its child
  pub row_went : (effect : Effect) (makes : Option Kind) → Fits tree core effect makes → (h : ℕ) (k : List ℕ) (a : ℕ) → row_of tree h k ≡ Some a
      → (row_of (tree_with tree core effect makes) h k ≡ Some a) ⊎ HasChange tree core t s effect h a
  row_went Stays makes f h k a row = inl row
  row_went (Edits file edit) makes f h k a row = inl row
  row_went (Adds d n c) None f h k a row = elim (is_here h d k n) [
    | inl same ↦ absurd (some_not_none (row_of tree d n) a (row_at tree h d k n a same.0 same.1 row) f.free)
    | inr other ↦ inl (added_other tree.rows h d k n c other ∙ row)
  ]
  row_went (Adds d n c) (Some kind) f h k a row = elim (is_here h d k n) [
    | inl same ↦ absurd (some_not_none (row_of tree d n) a (row_at tree h d k n a same.0 same.1 row) f.free)
    | inr other ↦ inl (added_other tree.rows h d k n c other ∙ row)
  ]
  row_went (Removes d n c) None f h k a row = elim (is_here h d k n) [
    | inl same ↦
        inr (removed t d n c None (is_directory tree c), inl refl, sym same.0, same_some (row_of tree d n) c a f.row (row_at tree h d k n a same.0 same.1 row))
    | inr other ↦ inl (removed_other tree.rows h d k n other ∙ row)
  ]
  row_went (Moves p n q m c) None f h k a row = elim (is_here h p k n) [
    | inl same ↦
        inr (
          removed t p n c (other_side p q) false,
          goes_in tree t p n q m c,
          sym same.0,
          same_some (row_of tree p n) c a f.row (row_at tree h p k n a same.0 same.1 row),
        )
    | inr away ↦ elim (is_here h q k m) [
      | inl same ↦
          inr (
            removed t q m a (other_side q p) (is_directory tree a),
            replaced_in tree t p n q m c a (row_at tree h q k m a same.0 same.1 row),
            sym same.0,
            refl,
          )
      | inr other ↦ inl (added_other (remove tree.rows (p, n)) h q k m c other ∙ removed_other tree.rows h p k n away ∙ row)
    ]
  ]
  row_went (Removes d n c) (Some kind) f h k a row = absurd f
  row_went (Moves p n q m c) (Some kind) f h k a row = absurd f

-- cuts that part no change of a directory that names a node have the same rows of that directory that name it
row_both : (r : Run) (cut other : ℕ → ℕ) (s : Seen r cut) (seen : Seen r other) (node d n : ℕ)
    → ((t : ℕ) (x : RowChange) → t < n → Made r t x → x.child ≡ node → x.directory ≡ d → (t < cut d) ↔ (t < other d)) → (t : ℕ) → t ≤ n → (m : List ℕ)
    → get (s.rows t) (d, m) ≡ Some node → get (seen.rows t) (d, m) ≡ Some node
row_both r cut other s seen node d n same zero le m row = ahead r other seen zero d m (omega arith) ∙ sym (ahead r cut s zero d m (omega arith)) ∙ row
row_both r cut other s seen node d n same (suc t) le m row = elim (below_or t (cut d)) [
  | inl lt ↦ elim (below_or t (other d)) [
    | inl less ↦ ahead r other seen (suc t) d m (omega arith) ∙ sym (ahead r cut s (suc t) d m (omega arith)) ∙ row
    | inr past ↦
        elim (row_came (r.tree t) (r.core t) t (r.sound t) (r.effect t) (r.makes t) d m node
        (sym (ap (λ (tree : TreeState). row_of tree d m) (r.next t)) ∙ sym (ahead r cut s (suc t) d m (omega arith)) ∙ row)) [
          | inl was ↦ behind r other seen t d m past ∙ row_both r cut other s seen node d n same t (omega arith) m (ahead r cut s t d m (omega arith) ∙ was)
          | inr came ↦ absurd (not_less ((same t came.0 (omega arith) came.1 came.3 came.2).0 lt) past)
        ]
  ]
  | inr from ↦
      let before = row_both r cut other s seen node d n same t (omega arith) m (sym (behind r cut s t d m from) ∙ row) in
      elim (below_or t (other d)) [
        | inr past ↦ behind r other seen t d m past ∙ before
        | inl less ↦
            elim (row_went (r.tree t) (r.core t) t (r.sound t) (r.effect t) (r.makes t) (r.fits t) d m node
            (sym (ahead r other seen t d m (omega arith)) ∙ before)) [
              | inl stays ↦ ahead r other seen (suc t) d m (omega arith) ∙ ap (λ (tree : TreeState). row_of tree d m) (r.next t) ∙ stays
              | inr went ↦ absurd (not_less ((same t went.0 (omega arith) went.1 went.3 went.2).1 less) from)
            ]
      ]
]

-- the changes of the first entries, one more entry's at a time
changes_till-take : (first : TreeState) (history : List Entry) (n : ℕ) → changes_till first history n ≡ changes_of first (take n history)
changes_till-take first [] zero = refl
changes_till-take first (entry ∷ history) zero = refl
changes_till-take first [] (suc n) = refl
changes_till-take first (entry ∷ history) (suc n) =
    ap (λ l. changes_by first entry.stamp.0 (verdict first entry.core.0 entry.call).effect ++ l) (changes_till-take (tree_after_entry first entry) history n)

-- the rows at a cut where the first entries count are those of their stamps
counted_rows-till : (first : TreeState) (history : List Entry) (is : IsSoundTree first) (legal : IsLegal first history) (n : ℕ) (cut : Cut)
    → counted_rows_at_cut first history (below n) cut ≡ (seen_of first history is legal cut).rows n
counted_rows-till first history is legal n cut =
    sym (counted_rows-take first history n cut legal)
    ∙ ap (λ cs. fold with_own first.rows (filter (is_within cut) cs)) (sym (changes_till-take first history n))
    ∙ sym (seen_till first history is legal cut n)

module _ (first : TreeState) (history : List Entry) (n : ℕ) (node d : ℕ) (is : IsSoundTree first) (legal : IsLegal first history) where
  abbrev run : Run
  run = run_of first history is legal

  abbrev PartNone : Cut → Cut → Type 0
  PartNone cut other =
      (change : RowChange) → IsChange first history change → change.stamp < n → change.child ≡ node → change.directory ≡ d
      → IsWithin cut change ↔ IsWithin other change

  by_stamp : (cut other : Cut) → PartNone cut other → (t : ℕ) (x : RowChange) → t < n → Made run t x → x.child ≡ node → x.directory ≡ d
      → (t < cut_of cut d) ↔ (t < cut_of other d)
  by_stamp cut other same t x lt one child dir =
      let e = stamp_of (tree_at first history t) t (effect_at first history t) x one in
      rw dir at (rw e at (same x (change_in first history t x legal one) (rw e lt) child dir))

  one_way : (cut other : Cut) (name : List ℕ) → PartNone cut other → get (counted_rows_at_cut first history (below n) cut) (d, name) ≡ Some node
      → get (counted_rows_at_cut first history (below n) other) (d, name) ≡ Some node
  one_way cut other name same row =
      at_stamp other
      ∙ row_both run (cut_of cut) (cut_of other) (seen_of first history is legal cut) (seen_of first history is legal other) node d n
      (by_stamp cut other same) n (omega arith) name (sym (at_stamp cut) ∙ row)
    where
      at_stamp : (c : Cut) → get (counted_rows_at_cut first history (below n) c) (d, name) ≡ get ((seen_of first history is legal c).rows n) (d, name)
      at_stamp c = ap (λ (rows : FinMap key_cmp ℕ). get rows (d, name)) (counted_rows-till first history is legal n c)

pub names_decide_rows : NamesDecideRows
names_decide_rows first history n cut other node directory name is legal same = (
  one_way first history n node directory is legal cut other name same,
  one_way first history n node directory is legal other cut name (λ x one lt child dir. let both = same x one lt child dir in (both.1, both.0)),
)
