-- A rename keeps every cell but those that the values name.
use Rattle.std.proofs.Common.{◌≡◌, ℕ, zero, suc, ◌<◌, Bool, true, false, not, ◌||◌, ◌&&◌, List, ◌∷◌, ◌++◌, length, Option, Some, ◌⊎◌, inl, inr, refl, sym, ap, ap₂, subst, ◌∙◌, nat_eq}
use borrow.Author.Tests.{eqb-true}
use Rattle.sfs_base.specs.Name.{bucket as name_bucket}
use Rattle.sfs_base.specs.declared.numbers.NodeId.{NodeId}
use Rattle.sfs_base.proofs.BasicTruth.{and_first, and_second, true_or_false}
use Rattle.tree_laws.specs.Tree.{TreeState, row_of, is_directory}
use Rattle.tree_laws.specs.Effect.{Effect}
use Rattle.tree_laws.specs.Fits.{Fits}
use Rattle.tree_laws.specs.Parts.{is_this, is_in_part}
use Rattle.tree_laws.specs.Verdict.{verdict, tree_after_call}
use Rattle.tree_laws.specs.Laws.{IsSoundTree}
use Rattle.tree_laws.proofs.Holders.{directory_stays}
use Rattle.tree_laws.proofs.KeepsNodes.{directory_node}
use Rattle.tree_laws.proofs.SoundTrees.{calls_fit}
use Rattle.cut_laws.specs.Rules.{IsOneOf}
use Rattle.cut_laws.proofs.Basics.{in_left, in_right}
use Rattle.mem_values.specs.declared.cell_id.CellId.{CellId}
use Rattle.mem_values.specs.declared.cell_id.CellId.TheVariants as id
use Rattle.mem_values.specs.Places.{IsCell}
use Rattle.mem_values.specs.Touches.{touches_standing, KeepsCell}
use Rattle.mem_values.proofs.Basics.{both_false}
use Rattle.mem_rename.specs.declared.sides.Move.{Move}
use Rattle.mem_rename.specs.Sights.{Sight, rename_call, there_seen, meets_directory, goes_between, ShowsMove}
use Rattle.mem_rename.specs.Cells.{buckets_of, replaced_cells, moved_cells, cells_changed, cells_of}
use Rattle.mem_rename.specs.Laws.{RenamesKeepCells}
use Rattle.mem_rename.proofs.Verdicts.{child_kind, there_kind, there_row}
use Rattle.mem_rename.proofs.Moved.{MovesChild, moves_or_not, is_this_there, effect_seen, lock_of}
use Rattle.mem_rename.proofs.Buckets.{too_many}

-- each of the eight buckets is one of a directory's
pub bucket_in : (node : NodeId) (number : ℕ) → number < 8 → IsOneOf (buckets_of node) (id.Bucket node number)
bucket_in node zero lt = inl refl
bucket_in node (suc zero) lt = inr (inl refl)
bucket_in node (suc (suc zero)) lt = inr (inr (inl refl))
bucket_in node (suc (suc (suc zero))) lt = inr (inr (inr (inl refl)))
bucket_in node (suc (suc (suc (suc zero)))) lt = inr (inr (inr (inr (inl refl))))
bucket_in node (suc (suc (suc (suc (suc zero))))) lt = inr (inr (inr (inr (inr (inl refl)))))
bucket_in node (suc (suc (suc (suc (suc (suc zero)))))) lt = inr (inr (inr (inr (inr (inr (inl refl))))))
bucket_in node (suc (suc (suc (suc (suc (suc (suc zero))))))) lt = inr (inr (inr (inr (inr (inr (inr (inl refl)))))))
bucket_in node (suc (suc (suc (suc (suc (suc (suc (suc n)))))))) lt = absurd (too_many lt)

module _ (tree : TreeState) (core : ℕ) (move : Move) (seen : Sight) (is : IsSoundTree tree) (lt : core < length tree.made)
    (shows : ShowsMove tree move seen) where
  abbrev changed : Effect → List CellId
  changed effect = id.Part (record { 0 = core }) ∷ cells_changed seen move effect

  module _ (child : ℕ) (moves : MovesChild tree core move child) where
    abbrev others : List CellId
    others = moved_cells (goes_between seen move) child ++ replaced_cells (meets_directory seen move) (there_seen seen move)

    -- a cell of these is changed
    among : (cell : CellId) → IsOneOf (id.Bucket move.directory (name_bucket move.name) ∷ id.Bucket move.to_directory (name_bucket move.to_name) ∷ others) cell
        → IsOneOf (cells_of seen move core) cell
    among cell one = subst (λ e. IsOneOf (changed e) cell) (sym (effect_seen tree core move seen is shows ∙ moves.effect)) (inr one)

    of_moved : (cell : CellId) → goes_between seen move ≡ true → IsOneOf (moved_cells true child) cell → IsOneOf (cells_of seen move core) cell
    of_moved cell between one = among cell
        (inr (inr (in_left _ (replaced_cells (meets_directory seen move) (there_seen seen move)) cell
        (subst (λ b. IsOneOf (moved_cells b child) cell) (sym between) one))))

    of_replaced : (cell : CellId) (kind : Bool) (there : ℕ) → meets_directory seen move ≡ kind → row_of tree move.to_directory.0 move.to_name ≡ Some there
        → IsOneOf (replaced_cells kind (Some there)) cell → IsOneOf (cells_of seen move core) cell
    of_replaced cell kind there kind_is met one =
        among cell (inr (inr (in_right (moved_cells (goes_between seen move) child) _ cell
        (subst (λ b. IsOneOf (replaced_cells b (there_seen seen move)) cell) (sym kind_is)
        (subst (λ o. IsOneOf (replaced_cells kind o) cell) (sym (there_row tree move seen is shows ∙ met)) one)))))

    lock_kept : KeepsCell tree core (rename_call move) id.Lock ⊎ IsOneOf (cells_of seen move core) id.Lock
    lock_kept = elim (true_or_false (goes_between seen move)) [
      | inl between ↦ inr (of_moved id.Lock between (inl refl))
      | inr not_between ↦ inl (inl (lock_of tree core move seen is shows child moves ∙ not_between))
    ]

    -- a directory whose standing the rename may change is replaced, or comes to another directory
    standing_named : (node : NodeId) (number : ℕ) → number < 8 → touches_standing tree core (rename_call move) node.0 ≡ true
        → IsOneOf (cells_of seen move core) (id.Bucket node number)
    standing_named node number small touched = elim (true_or_false (is_this node.0 (row_of tree move.to_directory.0 move.to_name))) [
      | inl met ↦
          let there = is_this_there node.0 _ met in
          of_replaced (id.Bucket node number) true node.0 (there_kind tree move seen is shows node.0 there ∙ and_first _ _ touched) there
          (bucket_in node number small)
      | inr apart ↦
          let source : (not (nat_eq move.directory.0 move.to_directory.0) && is_this node.0 (row_of tree move.directory.0 move.name)) ≡ true =
          sym (ap (λ b. b || (not (nat_eq move.directory.0 move.to_directory.0) && is_this node.0 (row_of tree move.directory.0 move.name))) apart)
          ∙ and_second (is_directory tree node.0) _ touched in
          let row = is_this_there node.0 _ (and_second (not (nat_eq move.directory.0 move.to_directory.0)) _ source) in
          let between : goes_between seen move ≡ true =
          ap₂ (λ s k. s && k) (and_first (not (nat_eq move.directory.0 move.to_directory.0)) _ source)
          (child_kind tree move seen is shows node.0 row ∙ and_first _ _ touched) in
          of_moved (id.Bucket node number) between
          (subst (λ (x : ℕ). IsOneOf (moved_cells true x) (id.Bucket node number)) (same_number (sym row ∙ moves.row)) (inr (bucket_in node number small)))
    ]
      where
        same_number : {a b : ℕ} → ◌≡◌ {A = Option ℕ} (Some a) (Some b) → a ≡ b
        same_number e = cc

    -- a place in a bucket is that of the bucket's number
    at_place : (directory node : NodeId) (name : List ℕ) (number : ℕ) → is_in_part node.0 (λ n. nat_eq (name_bucket n) number) directory.0 name ≡ true
        → id.Bucket directory (name_bucket name) ≡ id.Bucket node number
    at_place directory node name number here =
        let same : directory.0 ≡ node.0 = eqb-true _ _ (and_first _ _ here) in
        let numbered : name_bucket name ≡ number = eqb-true _ _ (and_second (nat_eq directory.0 node.0) _ here) in
        λ i. id.Bucket (record { 0 = same i }) (numbered i)

    bucket_kept : (node : NodeId) (number : ℕ) → number < 8 → KeepsCell tree core (rename_call move) (id.Bucket node number)
        ⊎ IsOneOf (cells_of seen move core) (id.Bucket node number)
    bucket_kept node number small = elim (true_or_false (is_in_part node.0 (λ n. nat_eq (name_bucket n) number) move.directory.0 move.name)) [
      | inl here ↦ inr (among _ (inl (at_place move.directory node move.name number here)))
      | inr not_old ↦ elim (true_or_false (is_in_part node.0 (λ n. nat_eq (name_bucket n) number) move.to_directory.0 move.to_name)) [
        | inl here ↦ inr (among _ (inr (inl (at_place move.to_directory node move.to_name number here))))
        | inr not_new ↦ elim (true_or_false (touches_standing tree core (rename_call move) node.0)) [
          | inl touched ↦ inr (standing_named node number small touched)
          | inr untouched ↦ inl (inl (both_false _ _ (both_false _ _ not_old not_new) untouched))
        ]
      ]
    ]

    fits : Fits tree core (verdict tree core (rename_call move)).effect (verdict tree core (rename_call move)).makes
    fits = calls_fit tree core (rename_call move) is lt

    -- a directory that is replaced stays a directory
    still_directory : (node : ℕ) → is_directory tree node ≡ true → is_directory (tree_after_call tree core (rename_call move)) node ≡ true
    still_directory node kind = directory_stays tree core (verdict tree core (rename_call move)).effect (verdict tree core (rename_call move)).makes node fits
        (directory_node tree node kind) ∙ kind

    file_kept : (node : NodeId) → KeepsCell tree core (rename_call move) (id.File node) ⊎ IsOneOf (cells_of seen move core) (id.File node)
    file_kept node = elim (true_or_false (is_this node.0 (row_of tree move.to_directory.0 move.to_name))) [
      | inr apart ↦ inl (inl (ap (λ b. b && not (is_directory (tree_after_call tree core (rename_call move)) node.0)) apart))
      | inl met ↦
          let there = is_this_there node.0 _ met in
          elim (true_or_false (is_directory tree node.0)) [
            | inl kind ↦ inl (inl (ap₂ (λ a b. a && not b) met (still_directory node.0 kind)))
            | inr file ↦ inr (of_replaced (id.File node) false node.0 (there_kind tree move seen is shows node.0 there ∙ file) there (inl refl))
          ]
    ]

  part_kept : (other : ℕ) → KeepsCell tree core (rename_call move) (id.Part (record { 0 = other }))
      ⊎ IsOneOf (cells_of seen move core) (id.Part (record { 0 = other }))
  part_kept other = elim (true_or_false (nat_eq core other)) [
    | inl same ↦ inr (inl (ap (λ (c : ℕ). id.Part (record { 0 = c })) (eqb-true _ _ same)))
    | inr apart ↦ inl (inl apart)
  ]

  kept : (nodes cores : ℕ) (cell : CellId) → IsCell nodes cores cell → KeepsCell tree core (rename_call move) cell ⊎ IsOneOf (cells_of seen move core) cell
  kept nodes cores (id.Part other) known = part_kept other.0
  kept nodes cores (id.Pending node) known = inl (inl refl)
  kept nodes cores id.Lock known = elim (moves_or_not tree core move) [ inl nothing ↦ inl (inr (nothing, refl)) | inr moved ↦ lock_kept moved.0 moved.1 ]
  kept nodes cores (id.Bucket node number) known = elim (moves_or_not tree core move)
      [ inl nothing ↦ inl (inr (nothing, refl)) | inr moved ↦ bucket_kept moved.0 moved.1 node number known.1 ]
  kept nodes cores (id.File node) known = elim (moves_or_not tree core move)
      [ inl nothing ↦ inl (inr (nothing, refl)) | inr moved ↦ file_kept moved.0 moved.1 node ]

pub renames_keep_cells : RenamesKeepCells
renames_keep_cells tree core move seen nodes cores cell is lt shows known = kept tree core move seen is lt shows nodes cores cell known
