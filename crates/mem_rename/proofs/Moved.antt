-- A rename does nothing, or it moves a child; and what is known where it does.
use Rattle.std.proofs.Common.{◌≡◌, ℕ, true, not, ◌&&◌, Option, Some, None, ◌⊎◌, inl, inr, refl, sym, ap, subst, ◌∙◌, nat_eq}
use borrow.Author.Tests.{eqb-true}
use Rattle.tree_laws.specs.Tree.{TreeState, row_of}
use Rattle.tree_laws.specs.Effect.{Effect, Moves}
use Rattle.tree_laws.specs.Footprints.{DoesNothing}
use Rattle.tree_laws.specs.Lock.{needs_lock, moves_between}
use Rattle.tree_laws.specs.Parts.{is_this}
use Rattle.tree_laws.specs.Verdict.{verdict}
use Rattle.tree_laws.specs.Laws.{IsSoundTree}
use Rattle.tree_laws.proofs.OwnEffects.{does_its_own}
use Rattle.mem_rename.specs.declared.sides.Move.{Move}
use Rattle.mem_rename.specs.Sights.{Sight, rename_call, goes_between, rename_by, ShowsMove}
use Rattle.mem_rename.specs.Laws.{RenamesNeedLock}
use Rattle.mem_rename.proofs.Verdicts.{child_kind, renames_are_as_seen}

-- a child moves
pub record MovesChild (tree : TreeState) (core : ℕ) (move : Move) (child : ℕ) : Type 0 where
  pub row : row_of tree move.directory.0 move.name ≡ Some child
  pub effect : (verdict tree core (rename_call move)).effect ≡ Moves move.directory.0 move.name move.to_directory.0 move.to_name child
  pub makes : (verdict tree core (rename_call move)).makes ≡ None

own_of : (move : Move) (row : Option ℕ) (effect : Effect)
    → Rattle.std.specs.Prelude.option_map (Moves move.directory.0 move.name move.to_directory.0 move.to_name) row ≡ Some effect
    → (child : ℕ) × (row ≡ Some child) × (effect ≡ Moves move.directory.0 move.name move.to_directory.0 move.to_name child)
own_of move None effect e = absurd (cc (e))
own_of move (Some child) effect e = (child, refl, some_same e)
  where
    some_same : {a b : Effect} → ◌≡◌ {A = Option Effect} (Some a) (Some b) → b ≡ a
    some_same e = cc

-- it does nothing, or moves a child
pub moves_or_not : (tree : TreeState) (core : ℕ) (move : Move) → DoesNothing (verdict tree core (rename_call move))
    ⊎ ((child : ℕ) × MovesChild tree core move child)
moves_or_not tree core move = elim (does_its_own tree core (rename_call move)) [
  | inl nothing ↦ inl nothing
  | inr own ↦
      let moved = own_of move (row_of tree move.directory.0 move.name) (verdict tree core (rename_call move)).effect own.effect in
      inr (moved.0, record { row = moved.1; effect = moved.2; makes = sym own.makes })
]

-- this is the node that is there
pub is_this_there : (node : ℕ) (there : Option ℕ) → is_this node there ≡ true → there ≡ Some node
is_this_there node None e = absurd (cc (e))
is_this_there node (Some other) e = ap Some (eqb-true _ _ e)

module _ (tree : TreeState) (core : ℕ) (move : Move) (seen : Sight) (is : IsSoundTree tree) (shows : ShowsMove tree move seen) where
  -- the same by the values
  pub effect_seen : (rename_by seen move).effect ≡ (verdict tree core (rename_call move)).effect
  effect_seen = ap (λ (v : Rattle.tree_laws.specs.Verdict.Verdict). v.effect) (sym (renames_are_as_seen tree core move seen is shows))

  same_child : (child other : ℕ)
      → ◌≡◌ {A = Effect} (Moves move.directory.0 move.name move.to_directory.0 move.to_name child)
      (Moves move.directory.0 move.name move.to_directory.0 move.to_name other) → other ≡ child
  same_child child other e = cc

  -- a child moves by the values, so it does
  pub moves_child : (child : ℕ) → (rename_by seen move).effect ≡ Moves move.directory.0 move.name move.to_directory.0 move.to_name child
      → MovesChild tree core move child
  moves_child child moves = elim (moves_or_not tree core move) [
    | inl nothing ↦ absurd (never (sym nothing.effect ∙ (sym effect_seen ∙ moves)))
    | inr moved ↦ subst (MovesChild tree core move) (same_child child moved.0 (sym moves ∙ (effect_seen ∙ moved.1.effect))) moved.1
  ]
    where
      never : ◌≡◌ {A = Effect} Rattle.tree_laws.specs.Effect.Stays (Moves move.directory.0 move.name move.to_directory.0 move.to_name child) → ⊥
      never e = cc

  -- a directory comes to another one exactly where the lock is needed
  pub lock_of : (child : ℕ) → MovesChild tree core move child → needs_lock tree core (rename_call move) ≡ goes_between seen move
  lock_of child moves = ap (moves_between tree) moves.effect
      ∙ ap (λ k. not (nat_eq move.directory.0 move.to_directory.0) && k) (sym (child_kind tree move seen is shows child moves.row))

pub renames_need_lock : RenamesNeedLock
renames_need_lock tree core move seen child is shows moves = lock_of tree core move seen is shows child (moves_child tree core move seen is shows child moves)
