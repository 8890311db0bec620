-- What moves in a sound tree keeps it sound.
use Rattle.std.proofs.Common.{◌≡◌, ℕ, true, false, List, [], ◌∷◌, Some, ◌⊎◌, inl, inr, refl, sym, ap, subst, ◌∙◌, nat_eq}
use borrow.Author.Tests.{eqb-true, eqb-false}
use Rattle.std.specs.FinMap.{insert, remove}
use Rattle.tree_laws.specs.Tree.{TreeState, row_of, is_alive, is_directory}
use Rattle.tree_laws.specs.Sound.{Above, at_root, below, IsSound}
use Rattle.tree_laws.specs.Fits.{Lacks, FitsMoves}
use Rattle.tree_laws.proofs.RowFacts.{alive_named, root_alive, named_alive, added_cases, added_there, added_other, removed_cases, removed_other, is_here, same_some, some_not_none}
use Rattle.tree_laws.proofs.KeepsSound.{with_rows}

-- a child moves from one row to another
module _ (tree : TreeState) (s : IsSound tree) (p : ℕ) (n : List ℕ) (q : ℕ) (m : List ℕ) (c : ℕ) (f : FitsMoves tree p n q m c) where
  abbrev moved_tree : TreeState
  moved_tree = with_rows tree (insert (remove tree.rows (p, n)) (q, m) c)

  row_at : (d e : ℕ) (k l : List ℕ) (x : ℕ) → d ≡ e → k ≡ l → row_of tree d k ≡ Some x → row_of tree e l ≡ Some x
  row_at d e k l x same names row = subst (λ (y : ℕ). row_of tree y l ≡ Some x) same (subst (λ (y : List ℕ). row_of tree d y ≡ Some x) names row)

  -- a row after the move: the new one, or another that was there
  moved_cases : (d : ℕ) (k : List ℕ) (x : ℕ) → row_of moved_tree d k ≡ Some x
      → ((d ≡ q) × (k ≡ m) × (x ≡ c)) ⊎ ((d ≡ q → k ≡ m → ⊥) × (d ≡ p → k ≡ n → ⊥) × (row_of tree d k ≡ Some x))
  moved_cases d k x row = elim (added_cases (remove tree.rows (p, n)) d q k m c x row) [
    | inl new ↦ inl new
    | inr old ↦ let was = removed_cases tree.rows d p k n x old.1 in inr (old.0, was.0, was.1)
  ]

  moved_kept : (d : ℕ) (k : List ℕ) (x : ℕ) → (d ≡ q → k ≡ m → ⊥) → (d ≡ p → k ≡ n → ⊥) → row_of tree d k ≡ Some x → row_of moved_tree d k ≡ Some x
  moved_kept d k x new old row = added_other (remove tree.rows (p, n)) d q k m c new ∙ removed_other tree.rows d p k n old ∙ row

  moved_there : row_of moved_tree q m ≡ Some c
  moved_there = added_there (remove tree.rows (p, n)) q m c

  -- a node that the new row does not name in the old tree
  abbrev Stays : ℕ → Type 0
  Stays node = row_of tree q m ≡ Some node → ⊥

  -- what has a row is not replaced
  holder_stays : (d : ℕ) (k : List ℕ) (x : ℕ) → row_of tree d k ≡ Some x → Stays d
  holder_stays d k x row there = some_not_none (row_of tree d k) x row (f.bare d there (s.holds d k x row).0 k)

  target_stays : Stays q
  target_stays there = some_not_none (row_of tree q m) q there (f.bare q there f.holder.kind m)

  -- a way up without the child stays
  above_kept : {node : ℕ} {above : List ℕ} → Above tree node above → Lacks (node ∷ above) c → Stays node → Above moved_tree node above
  above_kept at_root lacks stays = at_root
  above_kept (below node holder name above row rest) lacks stays =
      below node holder name above
      (moved_kept holder name node (λ d k. stays (row_at holder q name m node d k row))
      (λ d k. lacks.0 (same_some (row_of tree p n) node c (row_at holder p name n node d k row) f.row)) row)
      (above_kept rest lacks.1 (holder_stays holder name node row))

  -- the way up from the child, where its old directory has one
  child_up : (above : List ℕ) → Above moved_tree p above → is_directory tree c ≡ true → (up : List ℕ) × Above moved_tree c up
  child_up above old kind =
      elim (nat_eq p q) as (λ b. nat_eq p q ≡ b → (up : List ℕ) × Above moved_tree c up) [
        | true ↦ λ t. (q ∷ above, below c q m above moved_there (subst (λ (d : ℕ). Above moved_tree d above) (eqb-true _ _ t) old))
        | false ↦ λ t. let way = f.away kind (eqb-false _ _ t) in (q ∷ way.0, below c q m way.0 moved_there (above_kept way.1 way.2 target_stays))
      ] refl

  -- each way up has one in its place
  reroute : {node : ℕ} {above : List ℕ} → Above tree node above → is_directory tree node ≡ true → Stays node → (up : List ℕ) × Above moved_tree node up
  reroute at_root kind stays = ([], at_root)
  reroute (below node holder name above row rest) kind stays =
      let up = reroute rest (s.holds holder name node row).0 (holder_stays holder name node row) in
      elim (is_here holder p name n) [
        | inl same ↦
            let child : node ≡ c = same_some (row_of tree p n) node c (row_at holder p name n node same.0 same.1 row) f.row in
            let way = child_up up.0 (subst (λ (d : ℕ). Above moved_tree d up.0) same.0 up.1) (subst (λ (d : ℕ). is_directory tree d ≡ true) child kind) in
            (way.0, subst (λ (d : ℕ). Above moved_tree d way.0) (sym child) way.1)
        | inr apart ↦
            (holder ∷ up.0, below node holder name up.0 (moved_kept holder name node (λ d k. stays (row_at holder q name m node d k row)) apart row) up.1)
      ]

  once_moved : (d o : ℕ) (k l : List ℕ) (x : ℕ) → row_of moved_tree d k ≡ Some x → row_of moved_tree o l ≡ Some x → is_directory tree x ≡ true
      → (d ≡ o) × (k ≡ l)
  once_moved d o k l x one two kind = elim (moved_cases d k x one) [
    | inl new ↦ elim (moved_cases o l x two) [
      | inl also ↦ (new.0 ∙ sym also.0, new.1 ∙ sym also.1)
      | inr old ↦ let places = s.once o p l n x old.2 (f.row ∙ ap Some (sym new.2)) kind in absurd (old.1 places.0 places.1)
    ]
    | inr new ↦ elim (moved_cases o l x two) [
      | inl old ↦ let places = s.once d p k n x new.2 (f.row ∙ ap Some (sym old.2)) kind in absurd (new.1 places.0 places.1)
      | inr old ↦ s.once d o k l x new.2 old.2 kind
    ]
  ]

  alive_moved : (d : ℕ) → Stays d → is_alive tree d ≡ true → is_alive moved_tree d ≡ true
  alive_moved d stays alive = elim (alive_named tree d alive) [
    | inl root ↦ root_alive moved_tree d root
    | inr named ↦ named_alive moved_tree d (elim (is_here named.directory p named.name n) [
      | inl same ↦
          record {
            directory = q;
            name = m;
            row = moved_there ∙ ap Some (same_some (row_of tree p n) c d f.row (row_at named.directory p named.name n d same.0 same.1 named.row));
          }
      | inr apart ↦
          record {
            directory = named.directory;
            name = named.name;
            row = moved_kept named.directory named.name d (λ e k. stays (row_at named.directory q named.name m d e k named.row)) apart named.row;
          }
    ])
  ]

  climbs_moved : (d : ℕ) (k : List ℕ) (x : ℕ) → row_of moved_tree d k ≡ Some x → is_directory tree x ≡ true → (above : List ℕ) × Above moved_tree x above
  climbs_moved d k x row kind = elim (moved_cases d k x row) [
    | inl new ↦ reroute (s.climbs p n x (f.row ∙ ap Some (sym new.2)) kind).1 kind (λ there. f.apart (there ∙ ap Some new.2))
    | inr old ↦ reroute (s.climbs d k x old.2 kind).1 kind (λ there. let places = s.once d q k m x old.2 there kind in old.0 places.0 places.1)
  ]

  pub IsSound-moves : IsSound moved_tree
  IsSound-moves = record {
    root = s.root;
    unnamed = λ d k row. elim (moved_cases d k 0 row) [ inl new ↦ s.unnamed p n (f.row ∙ ap Some (sym new.2)) | inr old ↦ s.unnamed d k old.2 ];
    node = λ d k x row. elim (moved_cases d k x row) [ inl new ↦ s.node p n x (f.row ∙ ap Some (sym new.2)) | inr old ↦ s.node d k x old.2 ];
    once = once_moved;
    holds = λ d k x row. elim (moved_cases d k x row) [
      | inl new ↦ (
        subst (λ (y : ℕ). is_directory tree y ≡ true) (sym new.0) f.holder.kind,
        subst (λ (y : ℕ). is_alive moved_tree y ≡ true) (sym new.0) (alive_moved q target_stays f.holder.alive),
      )
      | inr old ↦ let both = s.holds d k x old.2 in (both.0, alive_moved d (holder_stays d k x old.2) both.1)
    ];
    climbs = climbs_moved;
  }
