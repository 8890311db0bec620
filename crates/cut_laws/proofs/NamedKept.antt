-- What an fsync does with the rows at the cut, and that what they name keeps an inode.
use Rattle.std.proofs.Common.{◌≡◌, ℕ, zero, suc, ◌<◌, ◌≤◌, Bool, true, false, List, length, Some, ◌⊎◌, inl, inr, refl, sym, ap, subst, ◌∙◌, arith}
use Rattle.std.specs.FinMap.{FinMap, get}
use Rattle.tree_laws.specs.declared.history.Entry.{Entry}
use Rattle.tree_laws.specs.Order.{key_cmp}
use Rattle.tree_laws.specs.Tree.{TreeState, row_of}
use Rattle.tree_laws.specs.Changes.{RowChange}
use Rattle.tree_laws.specs.History.{IsLegal}
use Rattle.tree_laws.specs.Laws.{IsSoundTree}
use Rattle.cut_laws.specs.Cut.{Cut, cut_of, rows_at_cut, counted_rows_at_cut}
use Rattle.cut_laws.specs.Rules.{IsChange}
use Rattle.cut_laws.specs.Closure.{Counts, Flush, Closure, IsConcerned, named, IsNamedIn, IsRaised, AreInodesAfter}
use Rattle.cut_laws.proofs.Basics.{below_or}
use Rattle.sfs_base.proofs.BasicNumbers.{not_less}
use Rattle.sfs_base.proofs.BasicTruth.{not_both}
use Rattle.cut_laws.proofs.Own.{stamp_of}
use Rattle.cut_laws.proofs.Raises.{cuts_rise, was_or_spanned}
use Rattle.cut_laws.proofs.Runs.{Run, Made, Seen}
use Rattle.cut_laws.proofs.Seen.{ahead, behind}
use Rattle.cut_laws.proofs.Along.{tree_at, effect_at, run_of, change_in, change_of}
use Rattle.cut_laws.proofs.Closed.{seen_of, seen_end}
use Rattle.cut_laws.proofs.Children.{row_came}
use Rattle.cut_laws.proofs.NamedRows.{row_went}

-- A change of a directory that names a node, from its cut to below its raised cut.
pub record IsBetween (r : Run) (cut raised : ℕ → ℕ) (node : ℕ) : Type 0 where
  pub stamp : ℕ
  pub change : RowChange
  pub made : Made r stamp change
  pub child : change.child ≡ node
  pub from : cut change.directory ≤ stamp
  pub below : stamp < raised change.directory

-- a row at a raised cut is one at the cut, or such a change names its child
pub raised_row : (r : Run) (cut raised : ℕ → ℕ) (s : Seen r cut) (now : Seen r raised) → ((d : ℕ) → cut d ≤ raised d) → (t h : ℕ) (k : List ℕ) (a : ℕ)
    → get (now.rows t) (h, k) ≡ Some a → (get (s.rows t) (h, k) ≡ Some a) ⊎ IsBetween r cut raised a
raised_row r cut raised s now up zero h k a row = inl (ahead r cut s zero h k (omega arith) ∙ sym (ahead r raised now zero h k (omega arith)) ∙ row)
raised_row r cut raised s now up (suc t) h k a row = elim (below_or t (cut h)) [
  | inl lt ↦ inl (let le = up h in ahead r cut s (suc t) h k (omega arith) ∙ sym (ahead r raised now (suc t) h k (omega arith)) ∙ row)
  | inr le ↦ elim (below_or t (raised h)) [
    | inr past ↦ still le (raised_row r cut raised s now up t h k a (sym (behind r raised now t h k past) ∙ row))
    | inl lt ↦
        elim (row_came (r.tree t) (r.core t) t (r.sound t) (r.effect t) (r.makes t) h k a
        (sym (ap (λ (tree : TreeState). row_of tree h k) (r.next t)) ∙ sym (ahead r raised now (suc t) h k (omega arith)) ∙ row)) [
          | inl was ↦ still le (raised_row r cut raised s now up t h k a (ahead r raised now t h k (omega arith) ∙ was))
          | inr came ↦ inr (record {
            stamp = t;
            change = came.0;
            made = came.1;
            child = came.3;
            from = rw came.2 le;
            below = rw came.2 lt;
          })
        ]
  ]
]
  where
    still : cut h ≤ t → (get (s.rows t) (h, k) ≡ Some a) ⊎ IsBetween r cut raised a → (get (s.rows (suc t)) (h, k) ≡ Some a) ⊎ IsBetween r cut raised a
    still le was = elim was [ inl there ↦ inl (behind r cut s t h k le ∙ there) | inr between ↦ inr between ]

-- a row at a cut is one at a raised cut, or such a change names its child
pub kept_row : (r : Run) (cut raised : ℕ → ℕ) (s : Seen r cut) (now : Seen r raised) → ((d : ℕ) → cut d ≤ raised d) → (t h : ℕ) (k : List ℕ) (a : ℕ)
    → get (s.rows t) (h, k) ≡ Some a → (get (now.rows t) (h, k) ≡ Some a) ⊎ IsBetween r cut raised a
kept_row r cut raised s now up zero h k a row = inl (ahead r raised now zero h k (omega arith) ∙ sym (ahead r cut s zero h k (omega arith)) ∙ row)
kept_row r cut raised s now up (suc t) h k a row = elim (below_or t (cut h)) [
  | inl lt ↦ inl (let le = up h in ahead r raised now (suc t) h k (omega arith) ∙ sym (ahead r cut s (suc t) h k (omega arith)) ∙ row)
  | inr le ↦ elim (kept_row r cut raised s now up t h k a (sym (behind r cut s t h k le) ∙ row)) [
    | inr between ↦ inr between
    | inl was ↦ elim (below_or t (raised h)) [
      | inr past ↦ inl (behind r raised now t h k past ∙ was)
      | inl lt ↦
          elim (row_went (r.tree t) (r.core t) t (r.sound t) (r.effect t) (r.makes t) (r.fits t) h k a (sym (ahead r raised now t h k (omega arith)) ∙ was)) [
            | inl stays ↦ inl (ahead r raised now (suc t) h k (omega arith) ∙ ap (λ (tree : TreeState). row_of tree h k) (r.next t) ∙ stays)
            | inr went ↦ inr (record {
              stamp = t;
              change = went.0;
              made = went.1;
              child = went.3;
              from = rw went.2 le;
              below = rw went.2 lt;
            })
          ]
    ]
  ]
]

module _ (first : TreeState) (history : List Entry) (counts : Counts) (flush : Flush) (cut raised : Cut) (inodes : ℕ → Bool) (is : IsSoundTree first)
    (legal : IsLegal first history) (all : (t : ℕ) → t < flush.stamp → counts t ≡ true) (raise : IsRaised first history counts cut inodes flush raised) where
  abbrev run : Run
  run = run_of first history is legal

  abbrev IsMember : ℕ → Type 0
  IsMember node = Closure first history counts cut inodes flush node

  -- a stamp from a cut to below the raised one is in a member's span
  in_span : (d t : ℕ) → cut_of cut d ≤ t → t < cut_of raised d → IsMember d × (t < flush.stamp)
  in_span d t from lt =
      elim (was_or_spanned first history counts cut inodes flush raised raise t d lt) [
        | inl less ↦ absurd (not_less less from)
        | inr spanned ↦
            (spanned.0, spanned.2)
      ]

  -- the child of a change between the two cuts is concerned
  pub between_concerned : (node : ℕ) → IsBetween run (cut_of cut) (cut_of raised) node → IsConcerned first history counts cut inodes flush node
  between_concerned node b =
      let there = in_span b.change.directory b.stamp b.from b.below in
      subst (IsConcerned first history counts cut inodes flush) b.child (named b.change there.0 (record {
        is_change = change_in first history b.stamp b.change legal b.made;
        counted = all b.change.stamp (let lt = there.1 in let e = same in omega arith);
        from = rw same b.from;
        below = rw same there.1;
      }))
    where
      same : b.change.stamp ≡ b.stamp
      same = stamp_of (tree_at first history b.stamp) b.stamp (effect_at first history b.stamp) b.change b.made

  -- a change between the two cuts is no nearer than that
  pub is_between : (change : RowChange) → IsChange first history change → cut_of cut change.directory ≤ change.stamp
      → change.stamp < cut_of raised change.directory → IsConcerned first history counts cut inodes flush change.child
  is_between change one from below =
      between_concerned change.child
      (record { stamp = change.stamp; change = change; made = change_of first history change legal one; child = refl; from = from; below = below })

  -- the change between them is one of the history that does not lie below the cut
  pub between_change : (node : ℕ) (b : IsBetween run (cut_of cut) (cut_of raised) node)
      → IsChange first history b.change × (cut_of cut b.change.directory ≤ b.change.stamp)
  between_change node b =
      let same = stamp_of (tree_at first history b.stamp) b.stamp (effect_at first history b.stamp) b.change b.made in
      (change_in first history b.stamp b.change legal b.made, rw same b.from)

  -- past the last stamp the rows are those at the cut
  at_end : (c : Cut) (d : ℕ) (m : List ℕ) → get ((seen_of first history is legal c).rows (length history)) (d, m) ≡ get (rows_at_cut first history c) (d, m)
  at_end c d m = ap (λ (rows : FinMap key_cmp ℕ). get rows (d, m)) (seen_end first history is legal c)

  -- a row at the raised cut is one at the cut, or a change between the two names its child
  pub row_raised : (directory : ℕ) (name : List ℕ) (node : ℕ) → get (rows_at_cut first history raised) (directory, name) ≡ Some node
      → (get (rows_at_cut first history cut) (directory, name) ≡ Some node) ⊎ IsBetween run (cut_of cut) (cut_of raised) node
  row_raised directory name node row =
      elim (raised_row run (cut_of cut) (cut_of raised) (seen_of first history is legal cut) (seen_of first history is legal raised)
      (cuts_rise first history counts cut inodes flush raised raise) (length history) directory name node (at_end raised directory name ∙ row)) [
        | inl there ↦ inl (sym (at_end cut directory name) ∙ there)
        | inr between ↦ inr between
      ]

  -- and the other way round
  pub row_before : (directory : ℕ) (name : List ℕ) (node : ℕ) → get (rows_at_cut first history cut) (directory, name) ≡ Some node
      → (get (rows_at_cut first history raised) (directory, name) ≡ Some node) ⊎ IsBetween run (cut_of cut) (cut_of raised) node
  row_before directory name node row =
      elim (kept_row run (cut_of cut) (cut_of raised) (seen_of first history is legal cut) (seen_of first history is legal raised)
      (cuts_rise first history counts cut inodes flush raised raise) (length history) directory name node (at_end cut directory name ∙ row)) [
        | inl there ↦ inl (sym (at_end raised directory name) ∙ there)
        | inr between ↦ inr between
      ]

  -- where what a row at the raised cut names is named by the entries that count, it has an inode
  module _ (after : ℕ → Bool) (sets : AreInodesAfter first history counts cut inodes flush raised after)
      (counted_row : (node : ℕ) → IsNamedIn (rows_at_cut first history raised) node → IsNamedIn (counted_rows_at_cut first history counts raised) node)
      (had : (node : ℕ) → IsNamedIn (rows_at_cut first history cut) node → inodes node ≡ true) where
    pub named_after : (node : ℕ) → IsNamedIn (rows_at_cut first history raised) node → after node ≡ true
    named_after node row = elim (inodes node) as (λ b. inodes node ≡ b → after node ≡ true) [
      | true ↦
          λ has. elim (after node) as (λ b. after node ≡ b → b ≡ true) [
            | true ↦ λ _. refl
            | false ↦
                λ gone. absurd (((sets.leaves node has).0 gone).1.unnamed (counted_row node row))
          ] refl
      | false ↦ λ none. elim (row_raised row.directory row.name node row.row) [
        | inl before ↦ absurd (not_both (had node (record { directory = row.directory; name = row.name; row = before })) none)
        | inr between ↦ (sets.enters node none).1 (between_concerned node between, inl (counted_row node row))
      ]
    ] refl
