-- A child that moves: each cell goes home with what the rename leaves in it.
use Rattle.std.proofs.Common.{◌≡◌, ℕ, Bool, true, false, cond, not, ◌&&◌, nat_eq, List, [], ◌∷◌, Option, Some, None, IsSome, option_map, refl, sym, ap, ap₂, subst, ◌∙◌}
use Rattle.std.specs.Prelude.{is_some}
use Rattle.sfs_base.proofs.BasicTruth.{true_or_false, and_first, and_second, not_both}
use Rattle.sfs_base.specs.declared.numbers.NodeId.{NodeId}
use Rattle.disk_nodes.specs.OldKept.{OldKept}
use Rattle.tree_laws.specs.Tree.{TreeState}
use Rattle.tree_laws.specs.Logged.{numbered_node}
use Rattle.tree_laws.specs.Verdict.{names_child}
use Rattle.stamp_table.specs.declared.held.HeldCell.{HeldCell}
use Rattle.stamp_table.specs.Hand.{places_of}
use Rattle.stamp_table.specs.Table.{cell_at}
use Rattle.mem_values.specs.Start.{FileHand, FileState}
use Rattle.mem_values.specs.declared.cell.Cell.{Cell}
use Rattle.mem_values.proofs.Basics.{first_false}
use Rattle.mem_calls.specs.Table.{IsFileTable}
use Rattle.mem_rename.specs.declared.sides.Move.{Move}
use Rattle.mem_rename.specs.declared.plans.Plan.{Plan}
use Rattle.mem_rename.specs.declared.looking.Look.{Look}
use Rattle.mem_rename.specs.Sights.{Sight, child_seen, there_seen, moves_directory, meets_directory, goes_between}
use Rattle.mem_rename.specs.Decisions.{look_seen, same_child}
use Rattle.mem_rename.specs.Ready.{sight_of, AreSidesWithin, HoldsRename, MayMeetOn}
use Rattle.mem_rename.proofs.Moved.{MovesChild}
use Rattle.mem_rename.proofs.Readies as readies
use Rattle.mem_rename.proofs.Fitted as fitted
use Rattle.mem_rename.proofs.Home as home
use Rattle.mem_rename.proofs.Shifting.{PlansMove}

drop_last : (a b c : Bool) → (b && c) ≡ false → ((a && b) && c) ≡ false
drop_last true b c is = is
drop_last false b c is = refl

drop_third : (a b c d : Bool) → c ≡ false → (((a && b) && c) && d) ≡ false
drop_third true true true d is = absurd (Rattle.sfs_base.proofs.BasicTruth.true_not_false is)
drop_third true true false d is = refl
drop_third true false c d is = refl
drop_third false b c d is = refl

none_either : {X : Type 0} (b : Bool) (o : Option X) → o ≡ None → cond b o None ≡ None
none_either true o is = is
none_either false o is = refl

-- in a tree that a core may meet which is ready to move a child its plan is this
module _ (given : ℕ → Option OldKept) (t : FileState) (nodes : ℕ) (table : IsFileTable t nodes) (move : Move) (within : AreSidesWithin nodes move)
    (plan : Plan) (above : List ℕ) (hand : FileHand)
    (ready : HoldsRename given t nodes move plan above hand) (tree : TreeState) (on : MayMeetOn plan move.to_directory.0 above hand tree) (child : NodeId)
    (moves : MovesChild tree hand.view.core move child.0) where
  abbrev seen : Sight
  seen = sight_of nodes hand.held move plan above

  abbrev look : Look
  look = look_seen seen move

  child_is : child_seen seen move ≡ Some child.0
  child_is = fitted.child_is given t nodes table move within plan above hand ready tree on child.0 moves

  apart : names_child (there_seen seen move) child.0 ≡ false
  apart = fitted.apart given t nodes table move within plan above hand ready tree on child.0 moves

  same_kind : (there : ℕ) → there_seen seen move ≡ Some there → moves_directory seen move ≡ meets_directory seen move
  same_kind there is = fitted.same_kind given t nodes table move within plan above hand ready tree on child.0 moves there is

  comes_by : (between : Bool) → goes_between seen move ≡ between → plan.comes ≡ cond between (Some child) None
  comes_by true is = readies.comes_is given t nodes table move within plan above hand ready tree on child.0 child_is
      (fitted.new_stands given t nodes table move within plan above hand ready tree on child.0 moves) is
  comes_by false is = ap (λ (x : Plan). x.comes) ready.asked
      ∙ ap (λ b. cond b look.child None) (drop_last look.to_stands (not (nat_eq move.directory.0 move.to_directory.0)) look.child_is_directory is)

  directory_by : (meets : Bool) (there : Option ℕ) → meets_directory seen move ≡ meets → there_seen seen move ≡ there
      → plan.directory ≡ cond meets (option_map numbered_node there) None
  directory_by true None is met = ap (λ (x : Plan). x.directory) ready.asked
      ∙ none_either ((look.child_is_directory && look.there_is_directory) && not (same_child look.child look.there)) look.there
      (ap (option_map numbered_node) met)
  directory_by true (Some there) is met = readies.directory_is given t nodes table move within plan above hand ready tree on child.0 there child_is
      (ap₂ (λ x y. x && y) (same_kind there met ∙ is) is) apart met
  directory_by false there is met = ap (λ (x : Plan). x.directory) ready.asked
      ∙ ap (λ b. cond b look.there None)
      (drop_last look.child_is_directory look.there_is_directory (not (same_child look.child look.there))
      (first_false look.there_is_directory (not (same_child look.child look.there)) is))

  file_by : (meets : Bool) (there : Option ℕ) → meets_directory seen move ≡ meets → there_seen seen move ≡ there
      → plan.file ≡ cond meets None (option_map numbered_node there)
  file_by true there is met = ap (λ (x : Plan). x.file) ready.asked
      ∙ ap (λ b. cond b look.there None)
      (drop_third (is_some look.child) (not look.child_is_directory) (not look.there_is_directory) (not (same_child look.child look.there)) (ap not is))
  file_by false None is met = ap (λ (x : Plan). x.file) ready.asked
      ∙ none_either (((is_some look.child && not look.child_is_directory) && not look.there_is_directory) && not (same_child look.child look.there)) look.there
      (ap (option_map numbered_node) met)
  file_by false (Some there) is met = readies.file_is given t nodes table move within plan above hand ready tree on child.0 there child_is
      (same_kind there met ∙ is) is apart met

  pub plans : PlansMove seen move plan child
  plans = record {
    comes = comes_by (goes_between seen move) refl;
    directory = directory_by (meets_directory seen move) (there_seen seen move) refl refl;
    file = file_by (meets_directory seen move) (there_seen seen move) refl refl;
    apart = λ same name. (home.fits tree hand.view.core move seen on.meets.sound
        (fitted.core_there given t nodes table move within plan above hand ready tree on)
        (fitted.shows given t nodes table move within plan above hand ready tree on) child.0 moves).apart
        ((λ i. Rattle.tree_laws.specs.Tree.row_of tree (sym same i) (name i)) ∙ moves.row);
  }

-- what is held at a place is held there too where the places are the same
here_too : (place : ℕ) (c d : HeldCell Cell) (a b : List (HeldCell Cell)) (here : Bool) → nat_eq d.place place ≡ here
    → (IsSome (cell_at place a) → IsSome (cell_at place b)) → IsSome (cond (nat_eq d.place place) (Some c) (cell_at place a))
    → IsSome (cond (nat_eq d.place place) (Some d) (cell_at place b))
here_too place c d a b true is rest some = subst (λ x. IsSome (cond x (Some d) (cell_at place b))) (sym is) refl
here_too place c d a b false is rest some = subst (λ x. IsSome (cond x (Some d) (cell_at place b))) (sym is)
    (rest (subst (λ x. IsSome (cond x (Some c) (cell_at place a))) is some))

pub held_too : (place : ℕ) (a b : List (HeldCell Cell)) → places_of a ≡ places_of b → IsSome (cell_at place a) → IsSome (cell_at place b)
held_too place [] b same some = absurd cc
held_too place (c ∷ a) [] same some = absurd (cc (same))
held_too place (c ∷ a) (d ∷ b) same some =
    let first : c.place ≡ d.place = cc (same) in
    let rest : places_of a ≡ places_of b = cc (same) in
    here_too place c d a b (nat_eq d.place place) refl (held_too place a b rest)
    (subst (λ p. IsSome (cond (nat_eq p place) (Some c) (cell_at place a))) first some)
