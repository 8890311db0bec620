-- The nodes that an fsync concerns are nodes at its stamp.
use Rattle.std.proofs.Common.{◌≡◌, ℕ, ◌<◌, ◌≤◌, Bool, true, false, cond, List, [], ◌∷◌, ◌++◌, take, Some, None, IsSome, inl, inr, refl, sym, ap, subst, ◌∙◌, nat_eq, arith}
use Rattle.std.specs.FinMap.{get}
use Rattle.tree_laws.specs.declared.history.Entry.{Entry}
use Rattle.tree_laws.specs.Tree.{TreeState, row_of, is_directory}
use Rattle.tree_laws.specs.Effect.{Effect, Stays, Adds, Removes, Moves, Edits}
use Rattle.tree_laws.specs.Changes.{RowChange, added, removed, other_side, replaced, changes_by}
use Rattle.tree_laws.specs.Sound.{Above, at_root, below, IsSound}
use Rattle.tree_laws.specs.History.{tree_after, IsLegal}
use Rattle.tree_laws.specs.Laws.{IsSoundTree}
use Rattle.tree_laws.proofs.KeepsNodes.{directory_node}
use Rattle.cut_laws.specs.Cut.{Cut}
use Rattle.cut_laws.specs.Rules.{IsOneOf, IsChange, Birth, births_of}
use Rattle.cut_laws.specs.Closure as closure
use Rattle.cut_laws.specs.Closure.{Counts, Flush, HasLiveNode, Closure, IsConcerned}
use Rattle.cut_laws.proofs.Basics.{below_or, none_some}
use Rattle.cut_laws.proofs.Own.{goes_in, comes_in}
use Rattle.cut_laws.proofs.Runs.{Run, Made}
use Rattle.cut_laws.proofs.Along.{effect_at, made_at, run_of, sound_at, tree_at, tree_at-after}
use Rattle.cut_laws.proofs.Lives.{live_at, later, no_node_yet}
use Rattle.cut_laws.proofs.Commit.{IsBornAt, birth_at}
use Rattle.cut_laws.proofs.Children.{child_node}
use Rattle.cut_laws.proofs.Prefixes.{live_node}

-- the other one of two directories is the second
other_is : (a b o : ℕ) → other_side a b ≡ Some o → b ≡ o
other_is a b o e = elim (nat_eq a b) as (λ t. cond t None (Some b) ≡ Some o → b ≡ o) [ true ↦ λ q. cc | false ↦ λ q. some_is q ] e
  where
    some_is : Some b ≡ Some o → b ≡ o
    some_is q = cc

-- a change with this directory
abbrev pub HasOwn : TreeState → ℕ → Effect → ℕ → Type 0
HasOwn tree t effect d = (y : RowChange) × IsOneOf (changes_by tree t effect) y × (y.directory ≡ d)

-- the other directory of a rename has a change, too
pub other_changes : (tree : TreeState) (t : ℕ) (effect : Effect) (x : RowChange) (o : ℕ) → IsOneOf (changes_by tree t effect) x → x.other ≡ Some o
    → HasOwn tree t effect o
other_changes tree t Stays x o one two = absurd one
other_changes tree t (Edits file edit) x o one two = absurd one
other_changes tree t (Adds d n c) x o one two = elim one [ inl e ↦ absurd (none_some (ap (λ (y : RowChange). y.other) e ∙ two)) | inr none ↦ absurd none ]
other_changes tree t (Removes d n c) x o one two = elim one [ inl e ↦ absurd (none_some (ap (λ (y : RowChange). y.other) e ∙ two)) | inr none ↦ absurd none ]
other_changes tree t (Moves p n q m c) x o one two =
    elim (row_of tree q m) as (λ r. IsOneOf (replaced tree t p q m r ++ removed t p n c (other_side p q) false ∷ added t q m c (other_side q p) ∷ []) x
    → HasOwn tree t (Moves p n q m c) o) [
      | None ↦ λ h. both h
      | Some there ↦ λ h. elim h [ inl e ↦ first (ap (λ (y : RowChange). y.other) e ∙ two) | inr rest ↦ both rest ]
    ] one
  where
    first : other_side q p ≡ Some o → HasOwn tree t (Moves p n q m c) o
    first e = (removed t p n c (other_side p q) false, goes_in tree t p n q m c, other_is q p o e)

    second : other_side p q ≡ Some o → HasOwn tree t (Moves p n q m c) o
    second e = (added t q m c (other_side q p), comes_in tree t p n q m c, other_is p q o e)

    both : IsOneOf (removed t p n c (other_side p q) false ∷ added t q m c (other_side q p) ∷ []) x → HasOwn tree t (Moves p n q m c) o
    both h = elim h [
      | inl e ↦ second (ap (λ (y : RowChange). y.other) e ∙ two)
      | inr rest ↦ elim rest [ inl e ↦ first (ap (λ (y : RowChange). y.other) e ∙ two) | inr none ↦ absurd none ]
    ]

-- those above another are directories
pub above_directory : (tree : TreeState) → IsSound tree → {d : ℕ} {above : List ℕ} → Above tree d above → (a : ℕ) → IsOneOf above a → is_directory tree a ≡ true
above_directory tree s at_root a one = absurd one
above_directory tree s (below d holder name above row rest) a one = elim one [
  | inl e ↦ rw e at (s.holds holder name d row).0
  | inr more ↦ above_directory tree s rest a more
]

module _ (first : TreeState) (history : List Entry) (is : IsSoundTree first) (legal : IsLegal first history) where
  abbrev run : Run
  run = run_of first history is legal

  -- a directory with a change is a node from its stamp on
  own_node : (x : RowChange) (t : ℕ) → Made run t x → (u : ℕ) → t ≤ u → IsSome (get (tree_at first history u).nodes x.directory)
  own_node x t one u le = later run t u x.directory le (directory_node (tree_at first history t) x.directory (live_at run t x one).kind)

  module _ (counts : Counts) (cut : Cut) (inodes : ℕ → Bool) (flush : Flush) (live : HasLiveNode first history flush) where
    abbrev IsThen : ℕ → Type 0
    IsThen node = IsSome (get (tree_at first history flush.stamp).nodes node)

    other_then : (change : RowChange) (o : ℕ) → IsChange first history change → change.stamp < flush.stamp → change.other ≡ Some o → IsThen o
    other_then change o one lt two =
        let own =
        other_changes (tree_at first history change.stamp) change.stamp (effect_at first history change.stamp) change o
        (made_at first history is legal change one) two in
        rw own.2 at (own_node own.0 change.stamp own.1 flush.stamp (omega arith))

    above_then : (change : RowChange) (above : List ℕ) (node : ℕ) → change.stamp < flush.stamp
        → Above (tree_after first (take change.stamp history)) change.directory above → IsOneOf above node → IsThen node
    above_then change above node lt way among =
        later run change.stamp flush.stamp node (omega arith)
        (directory_node (tree_at first history change.stamp) node
        (above_directory (tree_at first history change.stamp) (sound_at first history 0 change.stamp is legal)
        (subst (λ (tree : TreeState). Above tree change.directory above) (sym (tree_at-after first history change.stamp)) way) node among))

    place_then : (birth : Birth) → IsOneOf (births_of first history) birth → IsThen birth.node → IsThen birth.directory
    place_then birth one there = elim (below_or birth.stamp flush.stamp) [
      | inl lt ↦ own_node (added birth.stamp birth.directory born.name birth.node None) birth.stamp makes flush.stamp (omega arith)
      | inr le ↦ absurd (no_node_yet run birth.stamp birth.directory born.name birth.node born.kind born.adds born.made flush.stamp le there)
    ]
      where
        born : IsBornAt first history birth birth.stamp
        born = birth_at first history birth legal one

        makes : Made run birth.stamp (added birth.stamp birth.directory born.name birth.node None)
        makes = rw born.adds (inl refl)

    -- members are nodes at the stamp
    pub member_then : {node : ℕ} → Closure first history counts cut inodes flush node → IsThen node
    member_then closure.itself = live_node first history is legal flush live flush.stamp (omega arith)
    member_then (closure.other_side change o own span two) = other_then change o span.is_change span.below two
    member_then (closure.ended change own span ends) =
        child_node run change.stamp change (made_at first history is legal change span.is_change) flush.stamp span.below
    member_then (closure.ancestor change above node own span move way among) = above_then change above node span.below way among
    member_then (closure.birth_place birth own one none naming) = place_then birth one (member_then own)

    -- so are all nodes that are concerned
    pub concerned_then : (node : ℕ) → IsConcerned first history counts cut inodes flush node → IsThen node
    concerned_then node (closure.member _ own) = member_then own
    concerned_then _ (closure.named change own span) =
        child_node run change.stamp change (made_at first history is legal change span.is_change) flush.stamp span.below
