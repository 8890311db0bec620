-- What an effect that fits does with the row of a directory.
use Rattle.cut_laws.proofs.Basics.{none_some}
use Rattle.sfs_base.proofs.BasicOptions.{some_is_no_none, some_same}
use Rattle.sfs_base.proofs.BasicTruth.{not_both}
use Rattle.std.proofs.Common.{◌≡◌, ◌≢◌, ℕ, true, false, List, Option, Some, None, ◌⊎◌, inl, inr, refl, sym, ap, ◌∙◌}
use Rattle.std.specs.FinMap.{get, insert, remove}
use Rattle.sfs_base.specs.declared.numbers.Kind.{Kind}
use Rattle.tree_laws.specs.Tree.{TreeState, row_of, is_directory}
use Rattle.tree_laws.specs.Effect.{Effect, Stays, Adds, Removes, Moves, Edits, tree_with}
use Rattle.tree_laws.specs.Sound.{IsSound}
use Rattle.tree_laws.specs.Fits.{Fits}
use Rattle.tree_laws.proofs.RowFacts.{IsNamed, added_cases, added_other, removed_cases, removed_other, is_here, same_some, some_not_none}
use Rattle.tree_laws.proofs.Holders.{directory_stays}

-- the child that an effect places
abbrev pub placed : Effect → Option ℕ
placed (Adds directory name child) = Some child
placed (Moves directory name to_directory to_name child) = Some child
placed _ = None

pub row_at : (tree : TreeState) (d e : ℕ) (k l : List ℕ) (x : ℕ) → d ≡ e → k ≡ l → row_of tree d k ≡ Some x → row_of tree e l ≡ Some x
row_at tree d e k l x same names row = rw same at (rw names at row)

module _ (tree : TreeState) (core : ℕ) (s : IsSound tree) where
  -- a directory's row after an effect was there and the effect places another child, or it places this one
  pub came : (effect : Effect) (makes : Option Kind) → Fits tree core effect makes → (h : ℕ) (k : List ℕ) (a : ℕ)
      → is_directory (tree_with tree core effect makes) a ≡ true → row_of (tree_with tree core effect makes) h k ≡ Some a
      → ((row_of tree h k ≡ Some a) × (placed effect ≢ Some a)) ⊎ (placed effect ≡ Some a)
  came Stays None f h k a kind row = inl (row, none_some)
  came (Edits file edit) None f h k a kind row = inl (row, none_some)
  came (Removes d n c) None f h k a kind row = inl ((removed_cases tree.rows h d k n a row).1, none_some)
  came (Adds d n c) None f h k a kind row = elim (added_cases tree.rows h d k n c a row) [
    | inl new ↦ inr (ap Some (sym new.2))
    | inr old ↦ inl (old.1, λ e. f.placeless (rw (some_same e) kind) h k (old.1 ∙ sym e))
  ]
  came (Moves p n q m c) None f h k a kind row = elim (added_cases (remove tree.rows (p, n)) h q k m c a row) [
    | inl new ↦ inr (ap Some (sym new.2))
    | inr old ↦
        let was = removed_cases tree.rows h p k n a old.1 in
        inl (was.1, λ e. let places = s.once h p k n a was.1 (f.row ∙ e) kind in was.0 places.0 places.1)
  ]
  came (Adds d n c) (Some mk) f h k a kind row = elim (added_cases tree.rows h d k n c a row) [
    | inl new ↦ inr (ap Some (sym new.2))
    | inr old ↦ inl (old.1, λ e. some_is_no_none (s.node h k a old.1) (ap (get tree.nodes) (sym (some_same e)) ∙ f.fresh))
  ]
  came Stays (Some mk) f h k a kind row = absurd f
  came (Edits file edit) (Some mk) f h k a kind row = absurd f
  came (Removes d n c) (Some mk) f h k a kind row = absurd f
  came (Moves p n q m c) (Some mk) f h k a kind row = absurd f

  -- a directory that is named after an effect was named, or is made by it
  pub record IsBorn (effect : Effect) (makes : Option Kind) (x : ℕ) : Type 0 where
    pub directory : ℕ
    pub name : List ℕ
    pub kind : Kind
    pub adds : effect ≡ Adds directory name x
    pub made : makes ≡ Some kind

  abbrev pub WasNamed : ℕ → Type 0
  WasNamed x = (is_directory tree x ≡ true) × IsNamed tree.rows x

  was_named : (effect : Effect) (makes : Option Kind) → Fits tree core effect makes → (d : ℕ) (n : List ℕ) (x : ℕ)
      → is_directory (tree_with tree core effect makes) x ≡ true → row_of tree d n ≡ Some x → WasNamed x
  was_named effect makes f d n x kind row =
      (sym (directory_stays tree core effect makes x f (s.node d n x row)) ∙ kind, record { directory = d; name = n; row = row })

  pub named_before : (effect : Effect) (makes : Option Kind) → Fits tree core effect makes
      → ((d : ℕ) (n : List ℕ) (c : ℕ) → effect ≡ Adds d n c → makes ≡ None → is_directory tree c ≡ false) → (d : ℕ) (n : List ℕ) (x : ℕ)
      → is_directory (tree_with tree core effect makes) x ≡ true → row_of (tree_with tree core effect makes) d n ≡ Some x → WasNamed x ⊎ IsBorn effect makes x
  named_before Stays None f files d n x kind row = inl (was_named Stays None f d n x kind row)
  named_before (Edits file edit) None f files d n x kind row = inl (was_named (Edits file edit) None f d n x kind row)
  named_before (Removes e k c) None f files d n x kind row = inl (was_named (Removes e k c) None f d n x kind (removed_cases tree.rows d e n k x row).1)
  named_before (Adds e k c) None f files d n x kind row = elim (added_cases tree.rows d e n k c x row) [
    | inl new ↦ absurd (not_both (rw new.2 at kind) (files e k c refl refl))
    | inr old ↦ inl (was_named (Adds e k c) None f d n x kind old.1)
  ]
  named_before (Moves p k q m c) None f files d n x kind row = elim (added_cases (remove tree.rows (p, k)) d q n m c x row) [
    | inl new ↦ inl (was_named (Moves p k q m c) None f p k x kind (f.row ∙ ap Some (sym new.2)))
    | inr old ↦ inl (was_named (Moves p k q m c) None f d n x kind (removed_cases tree.rows d p n k x old.1).1)
  ]
  named_before (Adds e k c) (Some mk) f files d n x kind row = elim (added_cases tree.rows d e n k c x row) [
    | inl new ↦ inr (record { directory = e; name = k; kind = mk; adds = ap (Adds e k) (sym new.2); made = refl })
    | inr old ↦ inl (was_named (Adds e k c) (Some mk) f d n x kind old.1)
  ]
  named_before Stays (Some mk) f files d n x kind row = absurd f
  named_before (Edits file edit) (Some mk) f files d n x kind row = absurd f
  named_before (Removes e k c) (Some mk) f files d n x kind row = absurd f
  named_before (Moves p k q m c) (Some mk) f files d n x kind row = absurd f

  -- a directory that stays named keeps its row, or moves from there
  pub record IsMoved (effect : Effect) (d : ℕ) (n : List ℕ) (x : ℕ) : Type 0 where
    pub to_directory : ℕ
    pub to_name : List ℕ
    pub moves : effect ≡ Moves d n to_directory to_name x

  added_stays : (e : ℕ) (k : List ℕ) (c d : ℕ) (n : List ℕ) (x : ℕ) → row_of tree e k ≡ None → row_of tree d n ≡ Some x
      → get (insert tree.rows (e, k) c) (d, n) ≡ Some x
  added_stays e k c d n x free row = elim (is_here d e n k) [
    | inl same ↦ absurd (some_not_none (row_of tree e k) x (row_at tree d e n k x same.0 same.1 row) free)
    | inr other ↦ added_other tree.rows d e n k c other ∙ row
  ]

  pub row_stays : (effect : Effect) (makes : Option Kind) → Fits tree core effect makes → (d : ℕ) (n : List ℕ) (x : ℕ) → is_directory tree x ≡ true
      → row_of tree d n ≡ Some x → IsNamed (tree_with tree core effect makes).rows x
      → (row_of (tree_with tree core effect makes) d n ≡ Some x) ⊎ IsMoved effect d n x
  row_stays Stays None f d n x kind row named = inl row
  row_stays (Edits file edit) None f d n x kind row named = inl row
  row_stays (Adds e k c) None f d n x kind row named = inl (added_stays e k c d n x f.free row)
  row_stays (Adds e k c) (Some mk) f d n x kind row named = inl (added_stays e k c d n x f.free row)
  row_stays (Removes e k c) None f d n x kind row named = elim (is_here d e n k) [
    | inl same ↦
        let was = removed_cases tree.rows named.directory e named.name k x named.row in
        let places = s.once named.directory d named.name n x was.1 row kind in
        absurd (was.0 (places.0 ∙ same.0) (places.1 ∙ same.1))
    | inr other ↦ inl (removed_other tree.rows d e n k other ∙ row)
  ]
  row_stays (Moves p k q m c) None f d n x kind row named = elim (is_here d p n k) [
    | inl same ↦
        let child : c ≡ x = same_some (row_of tree p k) c x f.row (row_at tree d p n k x same.0 same.1 row) in
        inr (record {
          to_directory = q;
          to_name = m;
          moves = ap (λ (y : ℕ). Moves y k q m c) (sym same.0) ∙ ap (λ (y : List ℕ). Moves d y q m c) (sym same.1) ∙ ap (Moves d n q m) child;
        })
    | inr apart ↦ elim (is_here d q n m) [
      | inl same ↦ elim (added_cases (remove tree.rows (p, k)) named.directory q named.name m c x named.row) [
        | inl new ↦ absurd (f.apart (row_at tree d q n m x same.0 same.1 row ∙ ap Some new.2))
        | inr old ↦
            let was = removed_cases tree.rows named.directory p named.name k x old.1 in
            let places = s.once named.directory d named.name n x was.1 row kind in
            absurd (old.0 (places.0 ∙ same.0) (places.1 ∙ same.1))
      ]
      | inr other ↦ inl (added_other (remove tree.rows (p, k)) d q n m c other ∙ removed_other tree.rows d p n k apart ∙ row)
    ]
  ]
  row_stays Stays (Some mk) f d n x kind row named = absurd f
  row_stays (Edits file edit) (Some mk) f d n x kind row named = absurd f
  row_stays (Removes e k c) (Some mk) f d n x kind row named = absurd f
  row_stays (Moves p k q m c) (Some mk) f d n x kind row named = absurd f
