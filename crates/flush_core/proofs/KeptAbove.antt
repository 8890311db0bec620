-- When the directories above are noted of a change.
use Rattle.std.proofs.Common.{◌≡◌, ◌≢◌, ◌++◌, ℕ, Bool, true, false, cond, List, [], ◌∷◌, Option, Some, None, IsSome, Vec, Global, inl, inr, refl, sym, ap, subst, ◌∙◌, nat_eq}
use borrow.Author.Tests.{eqb-true, eqb-false}
use Rattle.tree_laws.specs.Tree.{TreeState, is_directory, is_alive}
use Rattle.tree_laws.specs.Sound.{Above, IsSound}
use Rattle.tree_laws.specs.Changes.{RowChange, added, removed, other_side}
use Rattle.tree_laws.proofs.KeepsSound.{way_up}
use Rattle.tree_laws.proofs.Walks.{walk_is}
use Rattle.flush_core.specs.declared.past.OwnChange.{OwnChange}
use Rattle.cut_laws.specs.Rules.{MovesDirectory}
use Rattle.flush_core.specs.Past.{row_change_of, KeepsAbove}
use Rattle.flush_core.specs.Plan.{KeepAllAbove, IsAboveNew}
use Rattle.cut_laws.proofs.Basics.{in_either, no_true, none_some}

-- none are noted of a change that moves no directory
pub noted_none : (tree : TreeState) (change : OwnChange) → (MovesDirectory tree (row_change_of change) → ⊥) → change.above ≡ None → KeepsAbove tree change
noted_none tree change still none = record {
  moves = λ v e. absurd (none_some (sym none ∙ e));
  stand = λ v e. absurd (none_some (sym none ∙ e));
  all = λ moves above way. absurd (still moves);
}

-- a row that goes moves nothing
pub noted_taken : (tree : TreeState) (change : OwnChange) (stamp directory : ℕ) (name : List ℕ) (child : ℕ) (other : Option ℕ) (ends : Bool)
    → row_change_of change ≡ removed stamp directory name child other ends → change.above ≡ None → KeepsAbove tree change
noted_taken tree change stamp directory name child other ends row none =
    noted_none tree change (λ moves. no_true (sym (ap (λ (c : RowChange). c.places) row) ∙ moves.places)) none

-- a row that comes by a rename
pub noted_put : (tree : TreeState) (change : OwnChange) (stamp directory to_directory : ℕ) (name : List ℕ) (child : ℕ) → IsSound tree
    → row_change_of change ≡ added stamp to_directory name child (other_side to_directory directory)
    → IsAboveNew tree directory to_directory child change.above → is_directory tree to_directory ≡ true → is_alive tree to_directory ≡ true
    → KeepsAbove tree change
noted_put tree change stamp directory to_directory name child s row new kind alive = record {
  moves = λ v e. record {
    places = ap (λ (c : RowChange). c.places) row;
    other = λ none. two_sides to_directory directory (λ same. new.two v e (sym same)) (sym (ap (λ (c : RowChange). c.other) row) ∙ none);
    kind = ap (λ (c : RowChange). is_directory tree c.child) row ∙ new.kind v e;
  };
  stand =
      λ v e. subst (λ (d : ℕ). Above tree d v.items) (sym (ap (λ (c : RowChange). c.directory) row))
      (subst (λ l. Above tree to_directory l) (sym (walk_is tree s way.1 kind) ∙ sym (new.walk v e)) way.1);
  all = λ moves above up.
      let some =
      new.there (λ same. one_side to_directory directory (sym same) (λ none. moves.other (ap (λ (c : RowChange). c.other) row ∙ none)))
      (ap (λ (c : RowChange). is_directory tree c.child) (sym row) ∙ moves.kind) kind in
      noted_all change.above refl some (rw (ap (λ (c : RowChange). c.directory) row) at up);
}
  where
    way : (above : List ℕ) × Above tree to_directory above
    way = way_up tree s to_directory kind alive

    two_sides : (a b : ℕ) → a ≢ b → other_side a b ≡ None → ⊥
    two_sides a b differ e = elim (nat_eq a b) as (λ t. nat_eq a b ≡ t → cond t None (Some b) ≡ None → ⊥) [
      | true ↦ λ t _. differ (eqb-true _ _ t)
      | false ↦ λ t some. no_none some
    ] refl e
      where
        no_none : Some b ≡ None → ⊥
        no_none e = cc

    one_side : {P : Type 0} (a b : ℕ) → a ≡ b → (other_side a b ≡ None → ⊥) → P
    one_side a b same differ = absurd (differ (elim (nat_eq a b) as (λ t. nat_eq a b ≡ t → cond t None (Some b) ≡ None) [
      | true ↦ λ _. refl
      | false ↦ λ t. absurd (eqb-false _ _ t same)
    ] refl))

    noted_all : {above : List ℕ} (o : Option (Vec ℕ Global)) → change.above ≡ o → IsSome o → Above tree to_directory above
        → (v : Vec ℕ Global) × (change.above ≡ Some v) × (v.items ≡ above)
    noted_all None e some up = cc
    noted_all (Some v) e some up = (v, e, new.walk v e ∙ walk_is tree s up kind)

-- some are noted, and one more is
pub noted_more : (tree : TreeState) (changes more : List OwnChange) (change : OwnChange) → more ≡ changes ++ change ∷ [] → KeepAllAbove tree changes
    → (is_directory tree change.directory ≡ true → is_alive tree change.directory ≡ true → KeepsAbove tree change) → KeepAllAbove tree more
noted_more tree changes more change is noted one other among kind alive = elim (in_either changes (change ∷ []) other (rw is at among)) [
  | inl old ↦ noted other old kind alive
  | inr new ↦ elim new [
    | inl same ↦ rw same at (one (rw same kind) (rw same alive))
    | inr none ↦ absurd none
  ]
]

-- a row that comes by no rename
pub noted_plain : (tree : TreeState) (change : OwnChange) (stamp directory : ℕ) (name : List ℕ) (child : ℕ)
    → row_change_of change ≡ added stamp directory name child None → change.above ≡ None → KeepsAbove tree change
noted_plain tree change stamp directory name child row none = noted_none tree change (λ moves. moves.other (ap (λ (c : RowChange). c.other) row)) none
