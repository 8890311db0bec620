-- The children of a run's changes: they are nodes, and were named before or are made.
use Rattle.std.proofs.Common.{◌≡◌, ℕ, zero, suc, ◌<◌, ◌≤◌, false, List, [], ◌∷◌, ◌++◌, Option, Some, None, IsSome, ◌⊎◌, inl, inr, refl, sym, ap, subst, ◌∙◌, arith}
use Rattle.std.specs.FinMap.{get, remove}
use Rattle.sfs_base.specs.declared.numbers.Kind.{Kind}
use Rattle.tree_laws.specs.declared.history.Entry.{Entry}
use Rattle.tree_laws.specs.Tree.{TreeState, row_of, is_directory}
use Rattle.tree_laws.specs.Effect.{Effect, Stays, Adds, Removes, Moves, Edits, tree_with}
use Rattle.tree_laws.specs.Changes.{RowChange, added, removed, other_side, replaced, changes_by}
use Rattle.tree_laws.specs.Sound.{IsSound}
use Rattle.tree_laws.specs.Fits.{Fits}
use Rattle.tree_laws.specs.History.{IsLegal}
use Rattle.tree_laws.specs.Laws.{IsSoundTree}
use Rattle.tree_laws.proofs.RowFacts.{IsNamed, alive_named, added_cases, removed_cases}
use Rattle.cut_laws.specs.Rules.{IsOneOf}
use Rattle.cut_laws.proofs.Basics.{below_or, is_next, none_below}
use Rattle.sfs_base.proofs.BasicTruth.{not_both}
use Rattle.cut_laws.proofs.Own.{comes_in}
use Rattle.cut_laws.proofs.Placed.{IsBorn}
use Rattle.cut_laws.proofs.Runs.{Run, Made, Seen}
use Rattle.cut_laws.proofs.Seen.{ahead, behind}
use Rattle.cut_laws.proofs.Lives.{made_node, no_node_yet, later}
use Rattle.cut_laws.proofs.Along.{tree_at, run_of, sound_at, files_at}

-- the changes of a move are that by which what it replaces goes, and those by which its child goes and comes
pub data OfMove (tree : TreeState) (q : ℕ) (m : List ℕ) (c : ℕ) (x : RowChange) : Type 0 where
  replaces : x.directory ≡ q → row_of tree q m ≡ Some x.child → OfMove tree q m c x
  moves : x.child ≡ c → OfMove tree q m c x

pub of_move : (tree : TreeState) (t p : ℕ) (n : List ℕ) (q : ℕ) (m : List ℕ) (c : ℕ) (x : RowChange) → IsOneOf (changes_by tree t (Moves p n q m c)) x
    → OfMove tree q m c x
of_move tree t p n q m c x one =
    elim (row_of tree q m) as (λ o. row_of tree q m ≡ o
    → IsOneOf (replaced tree t p q m o ++ removed t p n c (other_side p q) false ∷ added t q m c (other_side q p) ∷ []) x → OfMove tree q m c x) [
      | None ↦ λ _ h. two h
      | Some there ↦
          λ row h. elim h [
            | inl e ↦ replaces (sym (ap (λ (y : RowChange). y.directory) e)) (row ∙ ap (λ (y : RowChange). Some y.child) e)
            | inr rest ↦
                two rest
          ]
    ] refl one
  where
    two : IsOneOf (removed t p n c (other_side p q) false ∷ added t q m c (other_side q p) ∷ []) x → OfMove tree q m c x
    two h = elim h [
      | inl e ↦ moves (ap (λ (y : RowChange). y.child) (sym e))
      | inr rest ↦ elim rest [ inl e ↦ moves (ap (λ (y : RowChange). y.child) (sym e)) | inr none ↦ absurd none ]
    ]

-- what adds a row without making a node adds one of a node that is named
abbrev pub LinksNamed : TreeState → Effect → Option Kind → Type 0
LinksNamed tree effect makes = (d : ℕ) (n : List ℕ) (c : ℕ) → effect ≡ Adds d n c → makes ≡ None → IsNamed tree.rows c

module _ (tree : TreeState) (core t : ℕ) (s : IsSound tree) where
  same_child : (P : RowChange → Type 0) (y x : RowChange) → P y → IsOneOf (y ∷ []) x → P x
  same_child P y x h one = elim one [ inl e ↦ rw e at h | inr none ↦ absurd none ]

  -- a change's child is a node after it
  pub child_there : (effect : Effect) (makes : Option Kind) → Fits tree core effect makes → (x : RowChange) → IsOneOf (changes_by tree t effect) x
      → IsSome (get (tree_with tree core effect makes).nodes x.child)
  child_there Stays makes f x one = absurd one
  child_there (Edits file edit) makes f x one = absurd one
  child_there (Adds d n c) None f x one = same_child (λ y. IsSome (get tree.nodes y.child)) (added t d n c None) x f.node one
  child_there (Adds d n c) (Some kind) f x one =
      same_child (λ y. IsSome (get (tree_with tree core (Adds d n c) (Some kind)).nodes y.child)) (added t d n c None) x (made_node tree core d n c kind f) one
  child_there (Removes d n c) None f x one =
      same_child (λ y. IsSome (get tree.nodes y.child)) (removed t d n c None (is_directory tree c)) x (s.node d n c f.row) one
  child_there (Moves p n q m c) None f x one = elim (of_move tree t p n q m c x one) [
    | replaces _ row ↦ s.node q m x.child row
    | moves e ↦ rw e (s.node p n c f.row)
  ]
  child_there (Removes d n c) (Some kind) f x one = absurd f
  child_there (Moves p n q m c) (Some kind) f x one = absurd f

  -- it was named before, or is made
  pub child_named : (effect : Effect) (makes : Option Kind) → Fits tree core effect makes → LinksNamed tree effect makes → (x : RowChange)
      → IsOneOf (changes_by tree t effect) x → IsNamed tree.rows x.child ⊎ IsBorn tree core s effect makes x.child
  child_named Stays makes f links x one = absurd one
  child_named (Edits file edit) makes f links x one = absurd one
  child_named (Adds d n c) None f links x one = inl (same_child (λ y. IsNamed tree.rows y.child) (added t d n c None) x (links d n c refl refl) one)
  child_named (Adds d n c) (Some kind) f links x one =
      inr
      (same_child (λ y. IsBorn tree core s (Adds d n c) (Some kind) y.child) (added t d n c None) x
      (record { directory = d; name = n; kind = kind; adds = refl; made = refl }) one)
  child_named (Removes d n c) None f links x one =
      inl (same_child (λ y. IsNamed tree.rows y.child) (removed t d n c None (is_directory tree c)) x (record { directory = d; name = n; row = f.row }) one)
  child_named (Moves p n q m c) None f links x one = elim (of_move tree t p n q m c x one) [
    | replaces _ row ↦ inl (record { directory = q; name = m; row = row })
    | moves e ↦ inl (record { directory = p; name = n; row = f.row ∙ ap Some (sym e) })
  ]
  child_named (Removes d n c) (Some kind) f links x one = absurd f
  child_named (Moves p n q m c) (Some kind) f links x one = absurd f

  -- what a row names after an effect was named before, or is made
  pub named_was : (effect : Effect) (makes : Option Kind) → Fits tree core effect makes → LinksNamed tree effect makes → (d : ℕ) (n : List ℕ) (x : ℕ)
      → row_of (tree_with tree core effect makes) d n ≡ Some x → IsNamed tree.rows x ⊎ IsBorn tree core s effect makes x
  named_was Stays None f links d n x row = inl (record { directory = d; name = n; row = row })
  named_was (Edits file edit) None f links d n x row = inl (record { directory = d; name = n; row = row })
  named_was (Removes e k c) None f links d n x row = inl (record { directory = d; name = n; row = (removed_cases tree.rows d e n k x row).1 })
  named_was (Adds e k c) None f links d n x row = elim (added_cases tree.rows d e n k c x row) [
    | inl new ↦ inl (rw new.2 (links e k c refl refl))
    | inr old ↦ inl (record { directory = d; name = n; row = old.1 })
  ]
  named_was (Adds e k c) (Some kind) f links d n x row = elim (added_cases tree.rows d e n k c x row) [
    | inl new ↦ inr (record { directory = e; name = k; kind = kind; adds = ap (Adds e k) (sym new.2); made = refl })
    | inr old ↦ inl (record { directory = d; name = n; row = old.1 })
  ]
  named_was (Moves p k q m c) None f links d n x row = elim (added_cases (remove tree.rows (p, k)) d q n m c x row) [
    | inl new ↦ inl (record { directory = p; name = k; row = f.row ∙ ap Some (sym new.2) })
    | inr old ↦ inl (record { directory = d; name = n; row = (removed_cases tree.rows d p n k x old.1).1 })
  ]
  named_was Stays (Some kind) f links d n x row = absurd f
  named_was (Edits file edit) (Some kind) f links d n x row = absurd f
  named_was (Removes e k c) (Some kind) f links d n x row = absurd f
  named_was (Moves p k q m c) (Some kind) f links d n x row = absurd f

  -- a change of a directory that names a child
  abbrev pub HasChange : Effect → ℕ → ℕ → Type 0
  HasChange effect h a = (x : RowChange) × IsOneOf (changes_by tree t effect) x × (x.directory ≡ h) × (x.child ≡ a)

  -- a row after an effect was there, or a change of its directory names its child
  pub row_came : (effect : Effect) (makes : Option Kind) (h : ℕ) (k : List ℕ) (a : ℕ) → row_of (tree_with tree core effect makes) h k ≡ Some a
      → (row_of tree h k ≡ Some a) ⊎ HasChange effect h a
  row_came Stays makes h k a row = inl row
  row_came (Edits file edit) makes h k a row = inl row
  row_came (Removes d n c) makes h k a row = inl (removed_cases tree.rows h d k n a row).1
  row_came (Adds d n c) makes h k a row = elim (added_cases tree.rows h d k n c a row) [
    | inl new ↦ inr (added t d n c None, inl refl, sym new.0, sym new.2)
    | inr old ↦ inl old.1
  ]
  row_came (Moves p n q m c) makes h k a row = elim (added_cases (remove tree.rows (p, n)) h q k m c a row) [
    | inl new ↦ inr (added t q m c (other_side q p), comes_in tree t p n q m c, sym new.0, sym new.2)
    | inr old ↦ inl (removed_cases tree.rows h p k n a old.1).1
  ]

-- links of a run add rows of nodes that are named
abbrev pub AreNamed : Run → Type 0
AreNamed r = (t : ℕ) → LinksNamed (r.tree t) (r.effect t) (r.makes t)

module _ (r : Run) where
  pub child_node : (t : ℕ) (x : RowChange) → Made r t x → (u : ℕ) → t < u → IsSome (get (r.tree u).nodes x.child)
  child_node t x one u lt =
      later r (suc t) u x.child (omega arith) (rw (r.next t) (child_there (r.tree t) (r.core t) t (r.sound t) (r.effect t) (r.makes t) (r.fits t) x one))

  module _ (links : AreNamed r) where
    -- a node that is there and is named later is named
    pub named_since : (u t x : ℕ) → u ≤ t → IsSome (get (r.tree u).nodes x) → IsNamed (r.tree t).rows x → IsNamed (r.tree u).rows x
    named_since u zero x le some named = rw (none_below u le) named
    named_since u (suc t) x le some named = elim (below_or t u) [
      | inl lt ↦ rw (is_next u t le lt) named
      | inr less ↦
          elim (named_was (r.tree t) (r.core t) t (r.sound t) (r.effect t) (r.makes t) (r.fits t) (links t) named.directory named.name x
          (sym (ap (λ (tree : TreeState). row_of tree named.directory named.name) (r.next t)) ∙ named.row)) [
            | inl was ↦ named_since u t x less some was
            | inr born ↦ absurd (no_node_yet r t born.directory born.name x born.kind born.adds born.made u less some)
          ]
    ]

    -- a node that is there and that a later change names is named
    pub naming_since : (u t : ℕ) (x : RowChange) → u ≤ t → Made r t x → IsSome (get (r.tree u).nodes x.child) → IsNamed (r.tree u).rows x.child
    naming_since u t x le one some = elim (child_named (r.tree t) (r.core t) t (r.sound t) (r.effect t) (r.makes t) (r.fits t) (links t) x one) [
      | inl named ↦ named_since u t x.child le some named
      | inr born ↦ absurd (no_node_yet r t born.directory born.name x.child born.kind born.adds born.made u le some)
    ]

-- A change below a stamp that names a node and does not lie below its directory's cut.
pub record IsOpen (r : Run) (cut : ℕ → ℕ) (t a : ℕ) : Type 0 where
  pub stamp : ℕ
  pub change : RowChange
  pub made : Made r stamp change
  pub before : stamp < t
  pub child : change.child ≡ a
  pub unflushed : cut change.directory ≤ stamp

-- a row of a tree is one at the cut, or its child has an unflushed change below the stamp
pub flushed_or_open : (r : Run) (cut : ℕ → ℕ) (s : Seen r cut) (t h : ℕ) (k : List ℕ) (a : ℕ) → row_of (r.tree t) h k ≡ Some a
    → (get (s.rows t) (h, k) ≡ Some a) ⊎ IsOpen r cut t a
flushed_or_open r cut s zero h k a row = inl (ahead r cut s zero h k (omega arith) ∙ row)
flushed_or_open r cut s (suc t) h k a row = elim (below_or t (cut h)) [
  | inl lt ↦ inl (ahead r cut s (suc t) h k (omega arith) ∙ row)
  | inr le ↦
      elim (row_came (r.tree t) (r.core t) t (r.sound t) (r.effect t) (r.makes t) h k a (sym (ap (λ (tree : TreeState). row_of tree h k) (r.next t)) ∙ row)) [
        | inl was ↦ elim (flushed_or_open r cut s t h k a was) [
          | inl there ↦ inl (behind r cut s t h k le ∙ there)
          | inr o ↦
              inr
              (record {
                stamp = o.stamp;
                change = o.change;
                made = o.made;
                before = let lt = o.before in
                    omega arith;
                child = o.child;
                unflushed = o.unflushed;
              })
        ]
        | inr came ↦
            inr
            (record {
              stamp = t;
              change = came.0;
              made = came.1;
              before = omega arith;
              child = came.3;
              unflushed = subst (λ (d : ℕ). cut d ≤ t) (sym came.2) le;
            })
      ]
]

-- in the run of a legal history links add rows of nodes that are named
pub links_named : (first : TreeState) (history : List Entry) (is : IsSoundTree first) (legal : IsLegal first history) → AreNamed (run_of first history is legal)
links_named first history is legal t d n c adds makes =
    let file = files_at first history t d n c adds makes in
    elim (alive_named (tree_at first history t) c file.1) [
      | inl root ↦ absurd (not_both (rw root (sound_at first history 0 t is legal).root) file.0)
      | inr named ↦ named
    ]
