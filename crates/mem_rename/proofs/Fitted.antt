-- What a core holds that is ready is all that its rename changes.
use Rattle.std.proofs.Common.{◌≡◌, ℕ, ◌<◌, Bool, true, false, cond, not, ◌&&◌, List, [], ◌∷◌, ◌++◌, length, Option, Some, None, IsSome, ◌⊎◌, inl, inr, refl, sym, ap, subst, ◌∙◌, arith, nat_eq}
use borrow.Author.Tests.{eqb-true}
use Rattle.std.specs.Prelude.{is_some}
use Rattle.sfs_base.specs.Name.{bucket as name_bucket}
use Rattle.sfs_base.proofs.BasicTruth.{true_or_false, true_not_false}
use Rattle.disk_nodes.specs.OldKept.{OldKept}
use Rattle.tree_laws.specs.Tree.{TreeState, row_of, is_directory}
use Rattle.tree_laws.specs.Effect.{Effect}
use Rattle.tree_laws.specs.Logged.{numbered_node}
use Rattle.tree_laws.specs.Verdict.{names_child, place_fault}
use Rattle.tree_laws.proofs.Fitting.{not_so}
use Rattle.cut_laws.specs.Rules.{IsOneOf}
use Rattle.cut_laws.proofs.Basics.{in_either}
use Rattle.mem_values.specs.Start.{FileHand, FileState}
use Rattle.mem_values.specs.declared.cell_id.CellId.{CellId}
use Rattle.mem_values.specs.declared.cell_id.CellId.TheVariants as id
use Rattle.mem_values.specs.Places.{IsCell}
use Rattle.mem_values.specs.Touches.{KeepsCell}
use Rattle.mem_calls.specs.Table.{IsFileTable}
use Rattle.mem_calls.specs.Held.{value_held, as_part}
use Rattle.mem_calls.proofs.Nothing.{some_first}
use Rattle.mem_rename.specs.declared.sides.Move.{Move}
use Rattle.mem_rename.specs.declared.plans.Plan.{Plan}
use Rattle.mem_rename.specs.Sights.{Sight, rename_call, stands_by, child_seen, there_seen, moves_directory, meets_directory, goes_between, rename_by, ShowsMove}
use Rattle.mem_rename.specs.Cells.{moved_cells, replaced_cells, cells_changed}
use Rattle.mem_rename.specs.Holding.{HoldsCell}
use Rattle.mem_rename.specs.Ready.{sight_of, AreSidesWithin, HoldsRename, MayMeetOn}
use Rattle.mem_rename.specs.Laws.{ReadyCoresHoldAll}
use Rattle.mem_rename.proofs.Verdicts.{child_row, there_row, child_kind, there_kind, stands}
use Rattle.mem_rename.proofs.Moved.{MovesChild, moves_or_not, effect_seen}
use Rattle.mem_rename.proofs.Kept.{renames_keep_cells}
use Rattle.mem_rename.proofs.Logged.{holder_of_moved}
use Rattle.mem_rename.proofs.Home as home
use Rattle.mem_rename.proofs.Readies as readies

value_there : (nodes : ℕ) (hand : FileHand) (cell : CellId) → HoldsCell nodes hand.held cell → IsSome (value_held nodes hand.held cell)
value_there nodes hand cell holds = subst IsSome (sym holds.1) refl

module _ (given : ℕ → Option OldKept) (t : FileState) (nodes : ℕ) (table : IsFileTable t nodes) (move : Move) (within : AreSidesWithin nodes move)
    (plan : Plan) (above : List ℕ) (hand : FileHand)
    (ready : HoldsRename given t nodes move plan above hand) (tree : TreeState) (on : MayMeetOn plan move.to_directory.0 above hand tree) where
  abbrev seen : Sight
  seen = sight_of nodes hand.held move plan above

  abbrev core : ℕ
  core = hand.view.core

  pub shows : ShowsMove tree move seen
  shows = readies.shows_move given t nodes table move within plan above hand ready tree on

  pub core_there : core < length tree.made
  core_there = let lt = ready.work.core in let same = on.meets.cores in let first = ap (λ (f : TreeState). length f.made) ready.work.first in
      omega (arith, lt, same, first)

  module _ (child : ℕ) (moves : MovesChild tree core move child) where
    pub child_is : child_seen seen move ≡ Some child
    child_is = child_row tree move seen on.meets.sound shows ∙ moves.row

    pub new_stands : stands_by move.to_directory.0 seen.new ≡ true
    new_stands = stands tree move seen on.meets.sound shows move.to_directory.0 (name_bucket move.to_name) seen.new shows.new
        (holder_of_moved tree core move child moves)

    pub apart : names_child (there_seen seen move) child ≡ false
    apart = by_there (there_seen seen move) refl
      where
        by_there : (there : Option ℕ) → there_seen seen move ≡ there → names_child there child ≡ false
        by_there None is = refl
        by_there (Some there) is = elim (true_or_false (nat_eq there child)) [
          | inl same ↦ absurd ((home.fits tree core move seen on.meets.sound core_there shows child moves).apart
              (sym (there_row tree move seen on.meets.sound shows) ∙ (is ∙ ap Some (eqb-true _ _ same))))
          | inr other ↦ other
        ]

    -- what is replaced is of the child's kind
    pub same_kind : (there : ℕ) → there_seen seen move ≡ Some there → moves_directory seen move ≡ meets_directory seen move
    same_kind there is =
        let met : row_of tree move.to_directory.0 move.to_name ≡ Some there = sym (there_row tree move seen on.meets.sound shows) ∙ is in
        let free = ap (place_fault tree child move.to_directory.0 move.to_name) (sym met)
        ∙ home.place_free tree core move seen on.meets.sound core_there shows child moves in
        let one = not_so _ _ _ free in
        let two = not_so _ _ _ one.1 in
        child_kind tree move seen on.meets.sound shows child moves.row
        ∙ (equal (is_directory tree child) (is_directory tree there) one.0 two.0 ∙ sym (there_kind tree move seen on.meets.sound shows there met))
      where
        equal : (a b : Bool) → (a && not b) ≡ false → (not a && b) ≡ false → a ≡ b
        equal true true e f = refl
        equal true false e f = absurd (true_not_false e)
        equal false true e f = absurd (true_not_false f)
        equal false false e f = refl

    moved_held : (cell : CellId) (between : Bool) → goes_between seen move ≡ between → IsOneOf (moved_cells between child) cell → HoldsCell nodes hand.held cell
    moved_held cell false is among = absurd among
    moved_held cell true is among =
        let comes = readies.comes_is given t nodes table move within plan above hand ready tree on child child_is new_stands is in
        elim among [
          | inl lock ↦ subst (HoldsCell nodes hand.held) lock (ready.lock (ap is_some comes))
          | inr bucket ↦ ready.cells cell (readies.comes_asked move plan (numbered_node child) cell comes bucket)
        ]

    replaced_held : (cell : CellId) (meets : Bool) (there : Option ℕ) → meets_directory seen move ≡ meets → there_seen seen move ≡ there
        → IsOneOf (replaced_cells meets there) cell → HoldsCell nodes hand.held cell
    replaced_held cell true None meets_is is among = absurd among
    replaced_held cell false None meets_is is among = absurd among
    replaced_held cell true (Some there) meets_is is among =
        let moves_is : moves_directory seen move ≡ true = same_kind there is ∙ meets_is in
        let directory = readies.directory_is given t nodes table move within plan above hand ready tree on child there child_is
        (Rattle.std.proofs.Common.ap₂ (λ x y. x && y) moves_is meets_is) apart is in
        ready.cells cell (readies.directory_asked move plan (numbered_node there) cell directory among)
    replaced_held cell false (Some there) meets_is is among =
        let moves_is : moves_directory seen move ≡ false = same_kind there is ∙ meets_is in
        let file = readies.file_is given t nodes table move within plan above hand ready tree on child there child_is moves_is meets_is apart is in
        ready.cells cell (readies.file_asked move plan (numbered_node there) cell file among)

    changed_held : (cell : CellId)
        → IsOneOf (cells_changed seen move (Rattle.tree_laws.specs.Effect.Moves move.directory.0 move.name move.to_directory.0 move.to_name child)) cell
        → HoldsCell nodes hand.held cell
    changed_held cell among = elim among [
      | inl old ↦ ready.cells cell (inl old)
      | inr rest ↦ elim rest [
        | inl new ↦ ready.cells cell (inr (inl new))
        | inr others ↦ elim (in_either (moved_cells (goes_between seen move) child)
            (replaced_cells (meets_directory seen move) (there_seen seen move)) cell others) [
              | inl moved ↦ moved_held cell (goes_between seen move) refl moved
              | inr replaced ↦ replaced_held cell (meets_directory seen move) (there_seen seen move) refl refl replaced
            ]
      ]
    ]

  by_effect : (cell : CellId) → IsOneOf (cells_changed seen move (rename_by seen move).effect) cell → HoldsCell nodes hand.held cell
  by_effect cell among = elim (moves_or_not tree core move) [
    | inl nothing ↦ absurd (subst (λ e. IsOneOf (cells_changed seen move e) cell) (effect_seen tree core move seen on.meets.sound shows ∙ nothing.effect) among)
    | inr moved ↦ changed_held moved.0 moved.1 cell
        (subst (λ e. IsOneOf (cells_changed seen move e) cell) (effect_seen tree core move seen on.meets.sound shows ∙ moved.1.effect) among)
  ]

  pub keeps_or_holds : (which : CellId) → IsCell nodes (length t.first.made) which → KeepsCell tree core (rename_call move) which
      ⊎ IsSome (value_held nodes hand.held which)
  keeps_or_holds which is_cell = elim (renames_keep_cells tree core move seen nodes (length t.first.made) which on.meets.sound core_there shows is_cell) [
    | inl kept ↦ inl kept
    | inr one ↦ elim one [
      | inl part ↦ inr (subst (λ c. IsSome (value_held nodes hand.held c)) part
          (some_first as_part (value_held nodes hand.held (id.Part (record { 0 = core }))) ready.part))
      | inr changed ↦ inr (value_there nodes hand which (by_effect which changed))
    ]
  ]

pub ready_cores_hold_all : ReadyCoresHoldAll
ready_cores_hold_all given t nodes move plan above hand tree which table within ready on is_cell =
    keeps_or_holds given t nodes table move within plan above hand ready tree on which is_cell
