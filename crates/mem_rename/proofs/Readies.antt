-- What a core holds that is ready shows each tree that it may meet, and is all that its rename changes.
use Rattle.std.proofs.Common.{◌≡◌, ℕ, ◌<◌, Bool, true, false, cond, not, ◌&&◌, List, [], ◌∷◌, ◌++◌, Option, Some, None, IsSome, inl, inr, refl, sym, ap, ap₂, subst, ◌∙◌, arith, nat_eq}
use Rattle.std.specs.Prelude.{is_some, option_map}
use Rattle.std.specs.Option.{option_and_then}
use Rattle.std.specs.FinMap.{get}
use Rattle.sfs_base.specs.Name.{bucket as name_bucket}
use Rattle.sfs_base.specs.declared.numbers.NodeId.{NodeId}
use Rattle.sfs_base.proofs.BasicTruth.{true_or_false, and_first, and_second}
use Rattle.sfs_base.proofs.BasicOptions.{none_some}
use Rattle.disk_nodes.specs.OldKept.{OldKept}
use Rattle.tree_laws.specs.Tree.{TreeState}
use Rattle.tree_laws.specs.Logged.{numbered_node}
use Rattle.tree_laws.specs.Verdict.{names_child}
use Rattle.tree_laws.proofs.Joined.{bucket_small}
use Rattle.cut_laws.specs.Rules.{IsOneOf}
use Rattle.cut_laws.proofs.Basics.{in_left, in_right}
use Rattle.mem_values.specs.Start.{FileHand, FileState}
use Rattle.mem_values.specs.declared.cell.FileCell.{FileCell}
use Rattle.mem_values.specs.declared.cell_id.CellId.{CellId}
use Rattle.mem_values.specs.declared.cell_id.CellId.TheVariants as id
use Rattle.mem_values.specs.declared.bucket.Bucket.{Bucket}
use Rattle.mem_values.specs.Stands.{ShowsBucket, file_links, if_directory}
use Rattle.mem_values.proofs.Basics.{is_value}
use Rattle.mem_calls.specs.Table.{IsFileTable}
use Rattle.mem_calls.specs.Held.{as_bucket, as_file, bucket_held, file_held}
use Rattle.mem_calls.proofs.Shown.{bucket_shows, file_shows}
use Rattle.mem_calls.proofs.HeldKinds.{bucket_kind, file_kind}
use Rattle.mem_calls.proofs.Stamped.{counted}
use Rattle.mem_rename.specs.declared.sides.Move.{Move}
use Rattle.mem_rename.specs.declared.plans.Plan.{Plan}
use Rattle.mem_rename.specs.declared.looking.Look.{Look}
use Rattle.mem_rename.specs.Sights.{Sight, stands_by, child_seen, there_seen, moves_directory, meets_directory, goes_between, replaced_directory, ShowBucketsFrom, ShowsMove}
use Rattle.mem_rename.specs.Cells.{buckets_of}
use Rattle.mem_rename.specs.Decisions.{look_seen, same_child}
use Rattle.mem_rename.specs.Plans.{file_if, buckets_if, file_of, asked_cells}
use Rattle.mem_rename.specs.Holding.{HoldsCell}
use Rattle.mem_rename.specs.Ready.{bucket_or, links_if, buckets_held, sight_of, AreSidesWithin, HoldsRename, MayMeetOn}

module _ (nodes : ℕ) (hand : FileHand) where
  -- a bucket of which the cell is held, and a file
  pub held_bucket : (node : NodeId) (number : ℕ) → HoldsCell nodes hand.held (id.Bucket node number) → (b : Bucket)
      × (bucket_held nodes hand.held node number ≡ Some b)
  held_bucket node number holds = is_value (bucket_held nodes hand.held node number)
      (subst (λ o. IsSome (option_and_then as_bucket o)) (sym holds.1) (bucket_kind node number holds.0 holds.2))

  pub held_file : (node : NodeId) → HoldsCell nodes hand.held (id.File node) → (f : FileCell) × (file_held nodes hand.held node ≡ Some f)
  held_file node holds = is_value (file_held nodes hand.held node)
      (subst (λ o. IsSome (option_and_then as_file o)) (sym holds.1) (file_kind node holds.0 holds.2))

module _ (move : Move) (plan : Plan) where
  abbrev rest_after : List CellId → List CellId
  rest_after cells = id.Bucket move.directory (name_bucket move.name) ∷ id.Bucket move.to_directory (name_bucket move.to_name) ∷ cells

  abbrev files : List CellId
  files = file_if plan.old_file move.directory ++ file_if plan.new_file move.to_directory

  abbrev with_comes : List CellId
  with_comes = files ++ buckets_if plan.comes

  abbrev with_directory : List CellId
  with_directory = with_comes ++ buckets_if plan.directory

  of_files : (cell : CellId) → IsOneOf files cell → IsOneOf (asked_cells move plan) cell
  of_files cell among = inr (inr
      (in_left with_directory (file_of plan.file) cell
      (in_left with_comes (buckets_if plan.directory) cell (in_left files (buckets_if plan.comes) cell among))))

  pub old_file_asked : plan.old_file ≡ true → IsOneOf (asked_cells move plan) (id.File move.directory)
  old_file_asked is =
      of_files (id.File move.directory) (in_left (file_if plan.old_file move.directory) (file_if plan.new_file move.to_directory) (id.File move.directory)
      (subst (λ b. IsOneOf (file_if b move.directory) (id.File move.directory)) (sym is) (inl refl)))

  pub new_file_asked : plan.new_file ≡ true → IsOneOf (asked_cells move plan) (id.File move.to_directory)
  new_file_asked is =
      of_files (id.File move.to_directory)
      (in_right (file_if plan.old_file move.directory) (file_if plan.new_file move.to_directory) (id.File move.to_directory)
      (subst (λ b. IsOneOf (file_if b move.to_directory) (id.File move.to_directory)) (sym is) (inl refl)))

  pub comes_asked : (node : NodeId) (cell : CellId) → plan.comes ≡ Some node → IsOneOf (buckets_of node) cell → IsOneOf (asked_cells move plan) cell
  comes_asked node cell is among =
      inr (inr (in_left with_directory (file_of plan.file) cell (in_left with_comes (buckets_if plan.directory) cell
      (in_right files (buckets_if plan.comes) cell (subst (λ o. IsOneOf (buckets_if o) cell) (sym is) among)))))

  pub directory_asked : (node : NodeId) (cell : CellId) → plan.directory ≡ Some node → IsOneOf (buckets_of node) cell → IsOneOf (asked_cells move plan) cell
  directory_asked node cell is among =
      inr (inr (in_left with_directory (file_of plan.file) cell
      (in_right with_comes (buckets_if plan.directory) cell (subst (λ o. IsOneOf (buckets_if o) cell) (sym is) among))))

  pub file_asked : (node : NodeId) (cell : CellId) → plan.file ≡ Some node → IsOneOf (id.File node ∷ []) cell → IsOneOf (asked_cells move plan) cell
  file_asked node cell is among = inr (inr (in_right with_directory (file_of plan.file) cell (subst (λ o. IsOneOf (file_of o) cell) (sym is) among)))

module _ (given : ℕ → Option OldKept) (t : FileState) (nodes : ℕ) (table : IsFileTable t nodes) (move : Move) (within : AreSidesWithin nodes move)
    (plan : Plan) (above : List ℕ) (hand : FileHand)
    (ready : HoldsRename given t nodes move plan above hand) where
  abbrev pub seen : Sight
  seen = sight_of nodes hand.held move plan above

  abbrev look : Look
  look = look_seen seen move

  count : nodes ≡ Rattle.mem_values.specs.Places.node_count hand.view.first
  count = counted given t nodes hand table ready.work

  -- where the child is there that would move
  same_told : (child : ℕ) → child_seen seen move ≡ Some child → same_child look.child look.there ≡ names_child (there_seen seen move) child
  same_told child is = ap (λ (o : Option ℕ). same_child (option_map numbered_node o) look.there) is ∙ by_there (there_seen seen move)
    where
      by_there : (there : Option ℕ) → same_child (Some (numbered_node child)) (option_map numbered_node there) ≡ names_child there child
      by_there None = refl
      by_there (Some there) = refl

  module _ (tree : TreeState) (on : MayMeetOn plan move.to_directory.0 above hand tree) where
    shown : (node : NodeId) (number : ℕ) → node.0 < nodes → number < 8 → HoldsCell nodes hand.held (id.Bucket node number)
        → ShowsBucket tree node.0 number (bucket_or (bucket_held nodes hand.held node number))
    shown node number lt small holds =
        let b = held_bucket nodes hand node number holds in
        subst (λ o. ShowsBucket tree node.0 number (bucket_or o)) (sym b.1) (bucket_shows hand nodes count tree on.meets node number b.0 lt small b.1)

    old_shown : ShowsBucket tree move.directory.0 (name_bucket move.name) seen.old
    old_shown = shown move.directory (name_bucket move.name) within.old (bucket_small move.name)
        (ready.cells (id.Bucket move.directory (name_bucket move.name)) (inl refl))

    new_shown : ShowsBucket tree move.to_directory.0 (name_bucket move.to_name) seen.new
    new_shown = shown move.to_directory (name_bucket move.to_name) within.new (bucket_small move.to_name)
        (ready.cells (id.Bucket move.to_directory (name_bucket move.to_name)) (inr (inl refl)))

    links_shown : (asked : Bool) (node : NodeId) → asked ≡ true → node.0 < nodes → HoldsCell nodes hand.held (id.File node)
        → links_if asked (file_held nodes hand.held node) ≡ file_links tree node.0
    links_shown asked node is lt holds =
        let f = held_file nodes hand node holds in
        ap₂ links_if is f.1 ∙ (file_shows hand nodes count tree on.meets node f.0 lt f.1).0

    -- a row's child is there where the bucket names it as a directory
    child_there : moves_directory seen move ≡ true → (child : ℕ) × (child_seen seen move ≡ Some child)
    child_there moves = by_row (child_seen seen move) refl
      where
        by_row : (row : Option ℕ) → child_seen seen move ≡ row → (child : ℕ) × (child_seen seen move ≡ Some child)
        by_row (Some child) is = (child, is)
        by_row None is = absurd (never
            (sym (ap is_some (old_shown.directories move.name
            ∙ ap (λ (o : Option ℕ). if_directory tree o) (ap (λ m. get m move.name) (sym old_shown.rows) ∙ is))) ∙ moves))
          where
            never : ◌≡◌ {A = Bool} false true → ⊥
            never e = Rattle.sfs_base.proofs.BasicTruth.false_not_true e

    -- where the way is needed, the lock was asked for
    pub comes_is : (child : ℕ) → child_seen seen move ≡ Some child → stands_by move.to_directory.0 seen.new ≡ true → goes_between seen move ≡ true
        → plan.comes ≡ Some (numbered_node child)
    comes_is child is stands between =
        ap (λ (x : Plan). x.comes) ready.asked
        ∙ (ap (λ s. cond ((s && not (nat_eq move.directory.0 move.to_directory.0)) && moves_directory seen move) look.child None) stands
        ∙ (ap (λ b. cond b look.child None) between ∙ ap (option_map numbered_node) is))

    pub directory_is : (child there : ℕ) → child_seen seen move ≡ Some child → (moves_directory seen move && meets_directory seen move) ≡ true
        → names_child (there_seen seen move) child ≡ false → there_seen seen move ≡ Some there
        → plan.directory ≡ Some (numbered_node there)
    directory_is child there is both apart met =
        ap (λ (x : Plan). x.directory) ready.asked
        ∙ (ap (λ b. cond (b && not (same_child look.child look.there)) look.there None) both
        ∙ (ap (λ b. cond (not b) look.there None) (same_told child is ∙ apart) ∙ ap (option_map numbered_node) met))

    pub file_is : (child there : ℕ) → child_seen seen move ≡ Some child → moves_directory seen move ≡ false → meets_directory seen move ≡ false
        → names_child (there_seen seen move) child ≡ false → there_seen seen move ≡ Some there
        → plan.file ≡ Some (numbered_node there)
    file_is child there is file met_file apart met =
        ap (λ (x : Plan). x.file) ready.asked
        ∙ (ap₂ (λ x y. cond (((is_some look.child && not x) && not y) && not (same_child look.child look.there)) look.there None) file met_file
        ∙ (ap (λ (o : Option ℕ). cond (((is_some (option_map numbered_node o) && true) && true) && not (same_child look.child look.there)) look.there None) is
        ∙ (ap (λ b. cond (not b) look.there None) (same_told child is ∙ apart) ∙ ap (option_map numbered_node) met)))

    -- the directory that would be replaced is the plan's
    replaced_is : (child : Option ℕ) → child_seen seen move ≡ child → (there : ℕ) → replaced_directory seen move child ≡ Some there
        → plan.directory ≡ Some (numbered_node there)
    replaced_is None is there met = absurd (none_some met)
    replaced_is (Some child) is there met = elim
        (true_or_false (moves_directory seen move && meets_directory seen move && not (names_child (there_seen seen move) child))) [
          | inr not_all ↦ absurd (none_some (sym (ap (λ b. cond b (there_seen seen move) None) not_all) ∙ met))
          | inl all ↦
              directory_is child there is (and_first _ _ all)
              (Rattle.sfs_base.proofs.BasicTruth.not_true _ (and_second (moves_directory seen move && meets_directory seen move) _ all))
              (sym (ap (λ b. cond b (there_seen seen move) None) all) ∙ met)
        ]

    eight_shown : (node : NodeId) → node.0 < nodes → ((cell : CellId) → IsOneOf (buckets_of node) cell → HoldsCell nodes hand.held cell)
        → ShowBucketsFrom tree node.0 0 (buckets_held nodes hand.held (Some node))
    eight_shown node lt holds = (
      shown node 0 lt (omega arith) (holds (id.Bucket node 0) (inl refl)),
      (
        shown node 1 lt (omega arith) (holds (id.Bucket node 1) (inr (inl refl))),
        (
          shown node 2 lt (omega arith) (holds (id.Bucket node 2) (inr (inr (inl refl)))),
          (
            shown node 3 lt (omega arith) (holds (id.Bucket node 3) (inr (inr (inr (inl refl))))),
            (
              shown node 4 lt (omega arith) (holds (id.Bucket node 4) (inr (inr (inr (inr (inl refl)))))),
              (
                shown node 5 lt (omega arith) (holds (id.Bucket node 5) (inr (inr (inr (inr (inr (inl refl))))))),
                (
                  shown node 6 lt (omega arith) (holds (id.Bucket node 6) (inr (inr (inr (inr (inr (inr (inl refl)))))))),
                  (
                    shown node 7 lt (omega arith) (holds (id.Bucket node 7) (inr (inr (inr (inr (inr (inr (inr (inl refl))))))))),
                    refl,
                  ),
                ),
              ),
            ),
          ),
        ),
      ),
    )

    there_within : (there : ℕ) → there_seen seen move ≡ Some there → there < nodes
    there_within there met =
        let row = Rattle.mem_rename.proofs.Told.row_told tree move.to_directory.0 move.to_name seen.new new_shown in
        let lt = Rattle.mem_calls.proofs.Faults.node_within tree on.meets.sound there
        (on.meets.sound.sound.node move.to_directory.0 move.to_name there (sym row ∙ met)) in
        let same = Rattle.mem_calls.proofs.Faults.same_count hand tree on.meets in
        omega (arith, lt, same, count)

    target_shown : (there : ℕ) → replaced_directory seen move (child_seen seen move) ≡ Some there → there_seen seen move ≡ Some there
        → ShowBucketsFrom tree there 0 seen.target
    target_shown there is met =
        let directory = replaced_is (child_seen seen move) refl there is in
        subst (λ o. ShowBucketsFrom tree there 0 (buckets_held nodes hand.held o)) (sym directory)
        (eight_shown (numbered_node there) (there_within there met)
        (λ cell among. ready.cells cell (directory_asked move plan (numbered_node there) cell directory among)))

    replaced_there : (child : Option ℕ) (there : ℕ) → replaced_directory seen move child ≡ Some there → there_seen seen move ≡ Some there
    replaced_there None there is = absurd (none_some is)
    replaced_there (Some child) there is = elim
        (true_or_false (moves_directory seen move && meets_directory seen move && not (names_child (there_seen seen move) child))) [
          | inr not_all ↦ absurd (none_some (sym (ap (λ b. cond b (there_seen seen move) None) not_all) ∙ is))
          | inl all ↦ sym (ap (λ b. cond b (there_seen seen move) None) all) ∙ is
        ]

    -- What is held shows the tree.
    pub shows_move : ShowsMove tree move seen
    shows_move = record {
      old = old_shown;
      new = new_shown;
      old_links = λ apart.
          let asked : plan.old_file ≡ true = ap (λ (x : Plan). x.old_file) ready.asked ∙ ap not apart in
          links_shown plan.old_file move.directory asked within.old (ready.cells (id.File move.directory) (old_file_asked move plan asked));
      new_links = λ stands apart.
          let asked : plan.new_file ≡ true = ap (λ (x : Plan). x.new_file) ready.asked ∙ ap₂ (λ a b. a && not b) stands apart in
          links_shown plan.new_file move.to_directory asked within.new (ready.cells (id.File move.to_directory) (new_file_asked move plan asked));
      target = λ there is. target_shown there is (replaced_there (child_seen seen move) there is);
      above = λ stands between.
          let child = child_there (and_second (not (nat_eq move.directory.0 move.to_directory.0)) _ between) in
          let comes : is_some plan.comes ≡ true = ap is_some (comes_is child.0 child.1 stands between) in
          record { holders = on.holders comes; ends = ready.ends comes };
    }
