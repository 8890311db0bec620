-- A rename logs what the values say.
use Rattle.std.proofs.Common.{◌≡◌, ℕ, Bool, true, cond, not, ◌&&◌, List, [], ◌∷◌, ◌++◌, Option, Some, None, inl, inr, refl, sym, ap, ap₂, ◌∙◌, nat_eq}
use Rattle.std.specs.Option.{option_or}
use Rattle.std.specs.FinMap.{len}
use Rattle.sfs_base.specs.Name.{bucket as name_bucket}
use Rattle.sfs_base.specs.declared.numbers.Kind.{Kind}
use Rattle.sfs_base.proofs.BasicTruth.{true_or_false}
use Rattle.tree_laws.specs.declared.changes.Act.TheVariants.{Add, Remove}
use Rattle.tree_laws.specs.declared.changes.Change.{Change}
use Rattle.tree_laws.specs.declared.reply.Code.{Code}
use Rattle.tree_laws.specs.Tree.{TreeState, row_of, is_directory, kind_if, kind_again, kind_of, walk_up}
use Rattle.tree_laws.specs.Changes.{other_side}
use Rattle.tree_laws.specs.Effect.{Effect, Stays, Moves}
use Rattle.tree_laws.specs.Fits.{MayHold}
use Rattle.tree_laws.specs.Logged.{log_entry, logged_by, logged_replaced, recorded_above}
use Rattle.tree_laws.specs.Verdict.{or_else, directory_fault, move_row}
use Rattle.tree_laws.specs.Laws.{IsSoundTree}
use Rattle.tree_laws.proofs.Fitting.{neither, may_hold}
use Rattle.tree_laws.proofs.Holders.{read_holders_are_above}
use Rattle.tree_laws.proofs.Readings.{directory_by_kind}
use Rattle.mem_rename.specs.declared.sides.Move.{Move}
use Rattle.mem_rename.specs.Sights.{Sight, moves_directory, meets_directory, goes_between, ShowsMove}
use Rattle.mem_rename.specs.Logged.{replaced_logged, effect_logged}
use Rattle.mem_rename.specs.Laws.{RenamesLog}
use Rattle.mem_rename.proofs.Verdicts.{child_kind, there_kind, there_row, stands}
use Rattle.mem_rename.proofs.Moved.{MovesChild, moves_or_not, effect_seen}

-- the kind of a node by whether it is a directory
kind_by : (tree : TreeState) (node : ℕ) (b : Bool) → b ≡ is_directory tree node → kind_if b ≡ kind_of tree node
kind_by tree node b is = ap kind_if (is ∙ directory_by_kind tree node) ∙ kind_again (kind_of tree node)

-- a rename that moves a child was refused by neither directory
pub not_refused : (tree : TreeState) (core : ℕ) (move : Move) (child : ℕ) → MovesChild tree core move child → (fault : Option Code)
    → option_or (directory_fault tree move.directory.0) (directory_fault tree move.to_directory.0) ≡ fault → fault ≡ None
not_refused tree core move child moves None is = refl
not_refused tree core move child moves (Some code) is = absurd
    (never (sym (ap (λ f. (or_else f
    (move_row tree move.directory.0 move.name move.to_directory.0 move.to_name (row_of tree move.directory.0 move.name))).effect) is) ∙ moves.effect))
  where
    never : ◌≡◌ {A = Effect} Stays (Moves move.directory.0 move.name move.to_directory.0 move.to_name child) → ⊥
    never e = cc

-- so its new directory may hold rows
pub holder_of_moved : (tree : TreeState) (core : ℕ) (move : Move) (child : ℕ) → MovesChild tree core move child → MayHold tree move.to_directory.0
holder_of_moved tree core move child moves = may_hold tree move.to_directory.0
    (neither (directory_fault tree move.directory.0) (directory_fault tree move.to_directory.0) (not_refused tree core move child moves _ refl)).1

module _ (tree : TreeState) (core stamp : ℕ) (move : Move) (seen : Sight) (is : IsSoundTree tree) (shows : ShowsMove tree move seen) where
  replaced_told : (there : Option ℕ) → row_of tree move.to_directory.0 move.to_name ≡ there
      → replaced_logged seen move stamp there ≡ logged_replaced tree stamp move.directory.0 move.to_directory.0 move.to_name there
  replaced_told None met = refl
  replaced_told (Some there) met =
      ap (λ kind. log_entry stamp move.to_directory.0 move.to_name there kind Remove (other_side move.to_directory.0 move.directory.0) [] ∷ [])
      (kind_by tree there (meets_directory seen move) (there_kind tree move seen is shows there met))

  module _ (child : ℕ) (moves : MovesChild tree core move child) where
    abbrev effect : Effect
    effect = Moves move.directory.0 move.name move.to_directory.0 move.to_name child

    way_up : goes_between seen move ≡ true → seen.above ≡ walk_up (len tree.rows) tree move.to_directory.0
    way_up between =
        let holder = holder_of_moved tree core move child moves in
        let way = shows.above (stands tree move seen is shows move.to_directory.0 (name_bucket move.to_name) seen.new shows.new holder) between in
        sym (read_holders_are_above tree move.to_directory.0 seen.above is holder.alive holder.kind way.holders way.ends).1

    between_is : goes_between seen move ≡ (not (nat_eq move.directory.0 move.to_directory.0) && is_directory tree child)
    between_is = ap (λ k. not (nat_eq move.directory.0 move.to_directory.0) && k) (child_kind tree move seen is shows child moves.row)

    above_told : cond (goes_between seen move) seen.above [] ≡ recorded_above tree effect move.to_directory.0
    above_told = elim (true_or_false (goes_between seen move)) [
      | inl between ↦
          ap (λ b. cond b seen.above []) between
          ∙ (way_up between ∙ sym (ap (λ b. cond b (walk_up (len tree.rows) tree move.to_directory.0) []) (sym between_is ∙ between)))
      | inr not_between ↦ ap (λ b. cond b seen.above []) not_between
          ∙ sym (ap (λ b. cond b (walk_up (len tree.rows) tree move.to_directory.0) []) (sym between_is ∙ not_between))
    ]

    abbrev rows_put : Kind → List ℕ → List Change
    rows_put kind above =
        log_entry stamp move.directory.0 move.name child kind Remove (other_side move.directory.0 move.to_directory.0) []
        ∷ log_entry stamp move.to_directory.0 move.to_name child kind Add (other_side move.to_directory.0 move.directory.0) above
        ∷ []

    moved_logged : effect_logged seen move stamp effect ≡ logged_by tree core stamp effect None
    moved_logged =
        ap₂ (λ front rest. front ++ rest)
        (ap (replaced_logged seen move stamp) (there_row tree move seen is shows) ∙ replaced_told (row_of tree move.to_directory.0 move.to_name) refl)
        (ap₂ rows_put (kind_by tree child (moves_directory seen move) (child_kind tree move seen is shows child moves.row)) above_told)

pub renames_log : RenamesLog
renames_log tree core stamp move seen is shows = elim (moves_or_not tree core move) [
  | inl nothing ↦ ap₂ (λ e m. logged_by tree core stamp e m) nothing.effect nothing.makes
      ∙ sym (ap (effect_logged seen move stamp) (effect_seen tree core move seen is shows ∙ nothing.effect))
  | inr moved ↦
      ap₂ (λ e m. logged_by tree core stamp e m) moved.1.effect moved.1.makes
      ∙ (sym (moved_logged tree core stamp move seen is shows moved.0 moved.1)
      ∙ sym (ap (effect_logged seen move stamp) (effect_seen tree core move seen is shows ∙ moved.1.effect)))
]
