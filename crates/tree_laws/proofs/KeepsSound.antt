-- What fits a sound tree keeps it sound.
use Rattle.std.proofs.Common.{◌≡◌, ◌≢◌, ℕ, true, List, [], ◌∷◌, Some, IsSome, inl, inr, sym, ap, subst, ◌∙◌}
use Rattle.std.specs.FinMap.{FinMap, get, insert, remove}
use Rattle.tree_laws.specs.Order.{key_cmp}
use Rattle.tree_laws.specs.Tree.{TreeState, row_of, is_alive, is_directory}
use Rattle.tree_laws.specs.Sound.{Above, at_root, below, IsSound}
use Rattle.tree_laws.specs.Fits.{FitsAdds, FitsRemoves}
use Rattle.tree_laws.proofs.RowFacts.{alive_named, root_alive, named_alive, added_cases, added_there, added_other, removed_cases, removed_other, is_here, same_some, some_not_none}

-- a tree with other rows
abbrev pub with_rows : TreeState → FinMap key_cmp ℕ → TreeState
with_rows tree rows = record tree { rows = rows }

-- rows that stay keep the way up
pub above_up : (tree next : TreeState) → ((d : ℕ) (n : List ℕ) (x : ℕ) → row_of tree d n ≡ Some x → row_of next d n ≡ Some x) → {node : ℕ} {above : List ℕ}
    → Above tree node above → Above next node above
above_up tree next up at_root = at_root
above_up tree next up (below node holder name above row rest) = below node holder name above (up holder name node row) (above_up tree next up rest)

-- the way up from a live directory
pub way_up : (tree : TreeState) → IsSound tree → (directory : ℕ) → is_directory tree directory ≡ true → is_alive tree directory ≡ true
    → (above : List ℕ) × Above tree directory above
way_up tree s directory kind alive = elim (alive_named tree directory alive) [
  | inl root ↦ ([], subst (λ (d : ℕ). Above tree d []) (sym root) at_root)
  | inr named ↦ s.climbs named.directory named.name directory named.row kind
]

-- named by a row that stays, or the root, it stays alive
alive_up : (tree next : TreeState) → ((d : ℕ) (n : List ℕ) (x : ℕ) → row_of tree d n ≡ Some x → row_of next d n ≡ Some x) → (node : ℕ)
    → is_alive tree node ≡ true → is_alive next node ≡ true
alive_up tree next up node alive = elim (alive_named tree node alive) [
  | inl root ↦ root_alive next node root
  | inr named ↦ named_alive next node (record { directory = named.directory; name = named.name; row = up named.directory named.name node named.row })
]

-- a row that comes
module _ (tree : TreeState) (s : IsSound tree) (e : ℕ) (m : List ℕ) (c : ℕ) (f : FitsAdds tree e m c) where
  abbrev added_tree : TreeState
  added_tree = with_rows tree (insert tree.rows (e, m) c)

  up_added : (d : ℕ) (n : List ℕ) (x : ℕ) → row_of tree d n ≡ Some x → row_of added_tree d n ≡ Some x
  up_added d n x row = elim (is_here d e n m) [
    | inl same ↦
        absurd
        (some_not_none (row_of tree e m) x
        (subst (λ (k : ℕ). row_of tree k m ≡ Some x) same.0 (subst (λ (k : List ℕ). row_of tree d k ≡ Some x) same.1 row)) f.free)
    | inr other ↦ added_other tree.rows d e n m c other ∙ row
  ]

  once_added : (d o : ℕ) (n k : List ℕ) (x : ℕ) → row_of added_tree d n ≡ Some x → row_of added_tree o k ≡ Some x → is_directory tree x ≡ true
      → (d ≡ o) × (n ≡ k)
  once_added d o n k x p q kind = elim (added_cases tree.rows d e n m c x p) [
    | inl new ↦ elim (added_cases tree.rows o e k m c x q) [
      | inl also ↦ (new.0 ∙ sym also.0, new.1 ∙ sym also.1)
      | inr old ↦ absurd (f.placeless (subst (λ (y : ℕ). is_directory tree y ≡ true) new.2 kind) o k (old.1 ∙ ap Some new.2))
    ]
    | inr new ↦ elim (added_cases tree.rows o e k m c x q) [
      | inl old ↦ absurd (f.placeless (subst (λ (y : ℕ). is_directory tree y ≡ true) old.2 kind) d n (new.1 ∙ ap Some old.2))
      | inr old ↦ s.once d o n k x new.1 old.1 kind
    ]
  ]

  climbs_added : (d : ℕ) (n : List ℕ) (x : ℕ) → row_of added_tree d n ≡ Some x → is_directory tree x ≡ true → (above : List ℕ) × Above added_tree x above
  climbs_added d n x row kind = elim (added_cases tree.rows d e n m c x row) [
    | inl new ↦
        let way = way_up tree s e f.holder.kind f.holder.alive in
        (e ∷ way.0, below x e m way.0 (added_there tree.rows e m c ∙ ap Some (sym new.2)) (above_up tree added_tree up_added way.1))
    | inr old ↦ let way = s.climbs d n x old.1 kind in (way.0, above_up tree added_tree up_added way.1)
  ]

  pub IsSound-adds : IsSound added_tree
  IsSound-adds = record {
    root = s.root;
    unnamed = λ d n row. elim (added_cases tree.rows d e n m c 0 row) [ inl new ↦ f.no_root (sym new.2) | inr old ↦ s.unnamed d n old.1 ];
    node =
        λ d n x row. elim (added_cases tree.rows d e n m c x row) [
          | inl new ↦ subst (λ (y : ℕ). IsSome (get tree.nodes y)) (sym new.2) f.node
          | inr old ↦
              s.node d n x old.1
        ];
    once = once_added;
    holds = λ d n x row. elim (added_cases tree.rows d e n m c x row) [
      | inl new ↦ (
        subst (λ (y : ℕ). is_directory tree y ≡ true) (sym new.0) f.holder.kind,
        alive_up tree added_tree up_added d (subst (λ (y : ℕ). is_alive tree y ≡ true) (sym new.0) f.holder.alive),
      )
      | inr old ↦ let both = s.holds d n x old.1 in (both.0, alive_up tree added_tree up_added d both.1)
    ];
    climbs = climbs_added;
  }

-- a row that goes
module _ (tree : TreeState) (s : IsSound tree) (e : ℕ) (m : List ℕ) (c : ℕ) (f : FitsRemoves tree e m c) where
  abbrev removed_tree : TreeState
  removed_tree = with_rows tree (remove tree.rows (e, m))

  -- a row of another child stays
  stays_removed : (d : ℕ) (n : List ℕ) (x : ℕ) → x ≢ c → row_of tree d n ≡ Some x → row_of removed_tree d n ≡ Some x
  stays_removed d n x other row = elim (is_here d e n m) [
    | inl same ↦
        absurd
        (other
        (same_some (row_of tree e m) x c
        (subst (λ (k : ℕ). row_of tree k m ≡ Some x) same.0 (subst (λ (k : List ℕ). row_of tree d k ≡ Some x) same.1 row)) f.row))
    | inr apart ↦ removed_other tree.rows d e n m apart ∙ row
  ]

  -- what has a row is not the child that goes
  holder_stays : (d : ℕ) (n : List ℕ) (x : ℕ) → row_of tree d n ≡ Some x → d ≢ c
  holder_stays d n x row same =
      let kind = (s.holds d n x row).0 in
      some_not_none (row_of tree c n) x (subst (λ (k : ℕ). row_of tree k n ≡ Some x) same row)
      (f.bare (subst (λ (k : ℕ). is_directory tree k ≡ true) same kind) n)

  above_removed : {node : ℕ} {above : List ℕ} → Above tree node above → node ≢ c → Above removed_tree node above
  above_removed at_root other = at_root
  above_removed (below node holder name above row rest) other =
      below node holder name above (stays_removed holder name node other row) (above_removed rest (holder_stays holder name node row))

  alive_removed : (d : ℕ) → d ≢ c → is_alive tree d ≡ true → is_alive removed_tree d ≡ true
  alive_removed d other alive = elim (alive_named tree d alive) [
    | inl root ↦ root_alive removed_tree d root
    | inr named ↦
        named_alive removed_tree d (record { directory = named.directory; name = named.name; row = stays_removed named.directory named.name d other named.row })
  ]

  pub IsSound-removes : IsSound removed_tree
  IsSound-removes = record {
    root = s.root;
    unnamed = λ d n row. s.unnamed d n (removed_cases tree.rows d e n m 0 row).1;
    node = λ d n x row. s.node d n x (removed_cases tree.rows d e n m x row).1;
    once = λ d o n k x p q kind. s.once d o n k x (removed_cases tree.rows d e n m x p).1 (removed_cases tree.rows o e k m x q).1 kind;
    holds = λ d n x row.
        let old = (removed_cases tree.rows d e n m x row).1 in
        let both = s.holds d n x old in
        (both.0, alive_removed d (holder_stays d n x old) both.1);
    climbs = λ d n x row kind.
        let cases = removed_cases tree.rows d e n m x row in
        let way = s.climbs d n x cases.1 kind in (
          way.0,
          above_removed way.1 (λ same.
              let places = s.once d e n m x cases.1 (f.row ∙ ap Some (sym same)) kind in
              cases.0 places.0 places.1),
        );
  }
