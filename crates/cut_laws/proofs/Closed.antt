-- A closed cut gives a sound tree.
use Rattle.std.proofs.Common.{◌≡◌, ℕ, ◌<◌, ◌≤◌, true, false, List, [], ◌∷◌, ◌++◌, length, take, Some, None, inl, inr, refl, sym, ap, subst, ◌∙◌}
use Rattle.std.specs.Prelude.{filter, fold}
use Rattle.std.specs.FinMap.{FinMap}
use Rattle.std.proofs.lemmas.List.Sums.{fold-append}
use Rattle.std.proofs.lemmas.List.Elements.{filter-append}
use Rattle.sfs_base.specs.declared.numbers.Kind.{Kind}
use Rattle.tree_laws.specs.declared.history.Entry.{Entry}
use Rattle.tree_laws.specs.Order.{key_cmp}
use Rattle.tree_laws.specs.Tree.{TreeState, row_of, is_directory}
use Rattle.tree_laws.specs.Effect.{Effect, Stays, Adds, Removes, Moves, Edits}
use Rattle.tree_laws.specs.Changes.{RowChange, added, removed, other_side, replaced, changes_by, bytes_at}
use Rattle.tree_laws.specs.Sound.{IsSound}
use Rattle.tree_laws.specs.History.{tree_after, IsLegal}
use Rattle.tree_laws.specs.Laws.{IsSoundTree}
use Rattle.tree_laws.proofs.KeepsSound.{with_rows}
use Rattle.tree_laws.proofs.KeepsNodes.{IsSound-nodes}
use Rattle.cut_laws.specs.Cut.{Cut, cut_of, is_within, with_own, rows_at_cut, nodes_at_cut, tree_at_cut}
use Rattle.cut_laws.specs.Rules.{IsOneOf, IsChange, births_by, IsLastPlacing, IsClosed}
use Rattle.cut_laws.specs.Laws.{ClosedCutsAreSound}
use Rattle.sfs_base.proofs.BasicOptions.{some_same}
use Rattle.sfs_base.proofs.BasicTruth.{not_both}
use Rattle.cut_laws.proofs.Own.{stamp_of, comes_in}
use Rattle.cut_laws.proofs.Placed.{placed}
use Rattle.cut_laws.proofs.Runs.{Run, Made, IsLast, Keeps, Seen}
use Rattle.cut_laws.proofs.Fit.{HasNodes, seen_sound}
use Rattle.cut_laws.proofs.Along.{node_first, tree_at, effect_at, makes_at, tree_at-after, run_of, change_in, change_of, birth_in, changes_till, changes_till-end, changes_till-past, changes_till-more, nodes_at}
use Rattle.cut_laws.proofs.CutNodes.{still_node, still_kind}

-- a change that places a child, where an effect places one
pub placing : (tree : TreeState) (t : ℕ) (effect : Effect) (node : ℕ) → placed effect ≡ Some node
    → (x : RowChange) × IsOneOf (changes_by tree t effect) x × (x.places ≡ true) × (x.child ≡ node)
placing tree t Stays node e = cc
placing tree t (Edits file edit) node e = cc
placing tree t (Removes d n c) node e = cc
placing tree t (Adds d n c) node e = (added t d n c None, inl refl, refl, some_same e)
placing tree t (Moves p n q m c) node e = (added t q m c (other_side q p), comes_in tree t p n q m c, refl, some_same e)

no_place : {P : Type 0} (x y : RowChange) → x ≡ y → y.places ≡ true → x.places ≡ false → P
no_place x y e places not = absurd (not_both (ap (λ (z : RowChange). z.places) e ∙ places) not)

-- where a change places a child, its effect does
pub placed_by : (tree : TreeState) (t : ℕ) (effect : Effect) (x : RowChange) → IsOneOf (changes_by tree t effect) x → x.places ≡ true
    → placed effect ≡ Some x.child
placed_by tree t Stays x one places = absurd one
placed_by tree t (Edits file edit) x one places = absurd one
placed_by tree t (Removes d n c) x one places =
    elim one [ inl e ↦ no_place (removed t d n c None (is_directory tree c)) x e places refl | inr none ↦ absurd none ]
placed_by tree t (Adds d n c) x one places = elim one [ inl e ↦ ap (λ (y : RowChange). Some y.child) e | inr none ↦ absurd none ]
placed_by tree t (Moves p n q m c) x one places =
    elim (row_of tree q m) as (λ o. IsOneOf (replaced tree t p q m o ++ removed t p n c (other_side p q) false ∷ added t q m c (other_side q p) ∷ []) x
    → Some c ≡ Some x.child) [
      | None ↦ λ h. two h
      | Some there ↦ λ h. elim h [ inl e ↦ no_place (removed t q m there (other_side q p) (is_directory tree there)) x e places refl | inr rest ↦ two rest ]
    ] one
  where
    two : IsOneOf (removed t p n c (other_side p q) false ∷ added t q m c (other_side q p) ∷ []) x → Some c ≡ Some x.child
    two h = elim h [
      | inl e ↦ no_place (removed t p n c (other_side p q) false) x e places refl
      | inr rest ↦ elim rest [ inl e ↦ ap (λ (y : RowChange). Some y.child) e | inr none ↦ absurd none ]
    ]

module _ (first : TreeState) (history : List Entry) (is : IsSoundTree first) (legal : IsLegal first history) (cut : Cut) where
  abbrev run : Run
  run = run_of first history is legal

  at_stamp : (t : ℕ) (x : RowChange) → Made run t x → x.stamp ≡ t
  at_stamp t x one = stamp_of (tree_at first history t) t (effect_at first history t) x one

  in_history : (t : ℕ) (x : RowChange) → Made run t x → IsChange first history x
  in_history t x one = change_in first history t x legal one

  last_change : (node t s : ℕ) → IsLast run node t s → (x : RowChange) × IsLastPlacing first history node t x × (x.stamp ≡ s)
  last_change node t s last =
      let found = placing (tree_at first history s) s (effect_at first history s) node last.places in
      let x = found.0 in
      let e : x.stamp ≡ s = at_stamp s x found.1 in (
        x,
        record {
          is_change = in_history s x found.1;
          places = found.2;
          child = found.3;
          below = rw e last.below;
          latest =
              λ other one places child lt. rw e
              (last.latest other.stamp lt
              (placed_by (tree_at first history other.stamp) other.stamp (effect_at first history other.stamp) other
              (change_of first history other legal one) places
              ∙ ap Some child));
        },
        e,
      )

  -- the rules, stamp by stamp
  pub keeps_of : IsClosed first history cut → Keeps run (cut_of cut)
  keeps_of closed = record {
    renames = λ t x other one two lt. rw (at_stamp t x one) at (closed.renames x other (in_history t x one) two (rw (at_stamp t x one) lt));
    removals =
        λ t x u y one ends lt own same. rw (at_stamp u y own) at
        (closed.removals x y (in_history t x one) ends (rw (at_stamp t x one) lt) (in_history u y own) same);
    births =
        λ b d n kind c u x adds makes one same lt. closed.births (record { stamp = b; directory = d; node = c }) x
        (birth_in first history b (record { stamp = b; directory = d; node = c }) legal (born b d n kind c adds makes)) (in_history u x one) same
        (rw (at_stamp u x one) (rw same lt));
    ancestors = λ t x above node holder name s one places other kind lt way among row last.
        let e = at_stamp t x one in
        let tree : tree_at first history t ≡ tree_after first (take x.stamp history) =
        tree_at-after first history t ∙ ap (λ (k : ℕ). tree_after first (take k history)) (sym e) in
        let found = last_change node t s last in
        subst (λ (k : ℕ). k < cut_of cut holder) found.2 (closed.ancestors x above node holder name found.0 (record {
          is_change = in_history t x one;
          moves = record { places = places; other = other; kind = subst (λ (w : TreeState). is_directory w x.child ≡ true) tree kind };
        }) (rw e lt) (rw tree at way) among (rw tree at row) (rw e found.1));
  }
    where
      born : (b d : ℕ) (n : List ℕ) (kind : Kind) (c : ℕ) → effect_at first history b ≡ Adds d n c → makes_at first history b ≡ Some kind
          → IsOneOf (births_by b (effect_at first history b) (makes_at first history b)) (record { stamp = b; directory = d; node = c })
      born b d n kind c adds makes = rw makes (rw adds (inl refl))

  -- the rows at the cut, stamp by stamp
  abbrev till : ℕ → FinMap key_cmp ℕ
  till t = fold with_own first.rows (filter (is_within cut) (changes_till first history t))

  pub seen_of : Seen run (cut_of cut)
  seen_of = record {
    rows = till;
    begin = nothing history;
    more = λ t.
        ap (λ cs. fold with_own first.rows (filter (is_within cut) cs)) (changes_till-more first history t legal)
        ∙ ap (fold with_own first.rows)
        (filter-append (is_within cut) (changes_till first history t) (changes_by (tree_at first history t) t (effect_at first history t)))
        ∙ fold-append with_own first.rows (filter (is_within cut) (changes_till first history t))
        (filter (is_within cut) (changes_by (tree_at first history t) t (effect_at first history t)));
  }
    where
      nothing : (h : List Entry) → fold with_own first.rows (filter (is_within cut) (changes_till first h 0)) ≡ (tree_at first h 0).rows
      nothing [] = refl
      nothing (e ∷ h) = refl

  -- at each stamp they have the changes till then made
  pub seen_till : (t : ℕ) → seen_of.rows t ≡ fold with_own first.rows (filter (is_within cut) (changes_till first history t))
  unfolding seen_of
  seen_till t = refl

  -- past the last stamp they are the rows at the cut
  pub seen_end : seen_of.rows (length history) ≡ rows_at_cut first history cut
  unfolding seen_of
  seen_end = ap (λ cs. fold with_own first.rows (filter (is_within cut) cs)) (changes_till-end first history)

  pub seen_past : (t : ℕ) → length history ≤ t → seen_of.rows t ≡ rows_at_cut first history cut
  unfolding seen_of
  seen_past t le = ap (λ cs. fold with_own first.rows (filter (is_within cut) cs)) (changes_till-past first history t le)

  abbrev whole : TreeState
  whole = tree_at_cut first history cut

  abbrev cut_bytes : ℕ → List ℕ
  cut_bytes x = bytes_at first history x (cut_of cut x)

  has_nodes : HasNodes run whole
  has_nodes = record {
    node = λ t x some. still_node cut_bytes (tree_after first history).nodes x (nodes_at first history t is legal x some).0;
    kind = λ t x some. still_kind cut_bytes (tree_after first history).nodes x ∙ (nodes_at first history t is legal x some).1;
  }

  begins : IsSound (with_rows whole first.rows)
  begins = IsSound-nodes first (nodes_at_cut first history cut) (tree_after first history).made is.sound (record {
    node = λ x some. still_node cut_bytes (tree_after first history).nodes x (nodes_at first history 0 is legal x (node_first first history x some)).0;
    kind =
        λ x some. still_kind cut_bytes (tree_after first history).nodes x ∙ (nodes_at first history 0 is legal x (node_first first history x some)).1
        ∙ kind_first history x;
  })
    where
      kind_first : (h : List Entry) (x : ℕ) → is_directory (tree_at first h 0) x ≡ is_directory first x
      kind_first [] x = refl
      kind_first (e ∷ h) x = refl

  cut_sound : IsClosed first history cut → IsSound whole
  cut_sound closed =
      subst (λ (rows : FinMap key_cmp ℕ). IsSound (with_rows whole rows)) seen_end
      (seen_sound run (cut_of cut) seen_of (keeps_of closed) whole has_nodes (rw (seen_of.begin ∙ rows_first history) begins) (length history))
    where
      rows_first : (h : List Entry) → (tree_at first h 0).rows ≡ first.rows
      rows_first [] = refl
      rows_first (e ∷ h) = refl

pub closed_cuts_are_sound : ClosedCutsAreSound
closed_cuts_are_sound first history cut is legal closed = cut_sound first history is legal cut closed
