-- A plan that changes its own file by its marks has the pages of touched blocks.
use Rattle.std.proofs.Common.{◌≡◌, ◌≢◌, ℕ, Bool, true, false, cond, ◌&&◌, [], ◌∷◌, Some, None, is_some, inl, inr, refl, sym, ap, ◌∙◌, arith, nat_eq, nat_lt, nat_le, subst}
use Rattle.std.specs.Option.{option_map_or}
use Rattle.std.proofs.Math.Nat.{max-eq_right}
use Rattle.std.proofs.lemmas.Bool.{cases_lt, eqb-true, eqb-false}
use Rattle.std.proofs.lemmas.Bool.Decides.{nat_tests}
use Rattle.sfs_base.proofs.BasicNumbers.{not_below, not_same, same_number}
use Rattle.sfs_base.proofs.BasicTruth.{and_false, true_not_false, true_or_false}
use Rattle.tree_laws.specs.Changes.{FileChange as Edited, edits_of, bytes_at}
use Rattle.tree_laws.specs.History.{tree_after}
use Rattle.tree_laws.specs.Tree.{TreeState, is_directory, is_directory_kind}
use Rattle.tree_laws.proofs.Readings.{directory_by_kind}
use Rattle.sfs_base.specs.declared.numbers.NodeId.{NodeId}
use Rattle.keyed_list.specs.Ascending.{item_with}
use Rattle.disk_change.specs.Pages.{page_block}
use Rattle.disk_change.specs.declared.files.FileChange.{FileChange}
use Rattle.commit_laws.specs.CommitOfPlan.{has_inode_then}
use Rattle.commit_laws.specs.Rewritten.{has_page}
use Rattle.cut_laws.specs.Closure.{every_entry, itself}
use Rattle.cut_laws.specs.Cut.{cut_of, tree_at_cut}
use Rattle.cut_laws.proofs.CutNodes.{cuts_keep_kinds}
use Rattle.cut_laws.proofs.MemberKinds.{members_are_directories}
use Rattle.raise_laws.specs.Next.{IsMountedHistory}
use Rattle.raise_laws.specs.Spans.{is_edit_between}
use Rattle.turn_laws.specs.Touched.{is_touched_by, is_touched_between}
use Rattle.flush_laws.specs.Volume.{Volume}
use Rattle.turn_ties.specs.Laws.{OwnFilesAreTouched}
use Rattle.turn_ties.specs.Plans.{HasPlan, HasTouchedPages, ChangesOwnFile, Planning}
use Rattle.turn_ties.proofs.Planned.{ready}
use Rattle.turn_ties.proofs.Touched.{none_pass, marked_pages_are_touched}

module _ (volume : Volume) (planning : Planning)
    (is : HasPlan volume planning) where
  history_is : IsMountedHistory volume.first volume.history
  history_is = (ready volume planning is).history_is

  -- a span without stamps touches nothing
  no_span : (node c n : ℕ) → is_touched_between volume.first volume.history node c c n ≡ false
  no_span node c n = ap (λ changes. is_touched_by changes (bytes_at volume.first volume.history node c) n)
      (none_pass (is_edit_between node c c) (edits_of volume.first volume.history) (λ x _. none x))
    where
      none : (x : Edited) → is_edit_between node c c x ≡ false
      none x = ap (λ b. b && nat_eq x.file node) (elim (cases_lt x.stamp c) [
        | inl low ↦ ap (λ b. b && nat_lt x.stamp c) (let test : nat_le c x.stamp ≡ false = grind (arith, nat_tests) in test)
        | inr high ↦ ap (λ b. nat_le c x.stamp && b) (not_below x.stamp c high) ∙ and_false (nat_le c x.stamp)
      ])

  abbrev last : TreeState
  last = tree_after volume.first volume.history

  -- what changes touch of a file between the two cuts
  abbrev touched_of : ℕ → ℕ → Bool
  touched_of node n = is_touched_between volume.first volume.history node (cut_of volume.cut node) (cut_of planning.raised node) n

  -- a file is one also after the history
  still_file : (node : ℕ) → is_directory (tree_at_cut volume.first volume.history planning.raised) node ≡ false → is_directory last node ≡ false
  still_file node file =
      directory_by_kind last node
      ∙ ap is_directory_kind (sym ((cuts_keep_kinds volume.first volume.history planning.raised).kinds node))
      ∙ sym (directory_by_kind (tree_at_cut volume.first volume.history planning.raised) node) ∙ file

  -- the stamp of another file stays
  same_stamp : (node : ℕ) → node ≢ planning.flush.node → is_directory last node ≡ false → cut_of planning.raised node ≡ cut_of volume.cut node
  same_stamp node apart file = elim (is.raises.other node) [
    | inr same ↦ same
    | inl member ↦ elim (members_are_directories volume.first volume.history every_entry volume.cut volume.inodes planning.flush node history_is.sound
        history_is.legal member) [
          | inl own ↦ absurd (apart own)
          | inr directory ↦ absurd (true_not_false (sym directory ∙ file))
        ]
  ]

  other_file : (node n : ℕ) → node ≢ planning.flush.node → is_directory last node ≡ false → touched_of node n ≡ false
  other_file node n apart file =
      ap (λ c. is_touched_between volume.first volume.history node (cut_of volume.cut node) c n) (same_stamp node apart file)
      ∙ no_span node (cut_of volume.cut node) n

  -- by what the plan changes of files
  touched : ChangesOwnFile volume planning → HasTouchedPages volume planning
  touched (ChangesOwnFile.no_file directory none) node n among held_then file low =
      let apart : node ≢ planning.flush.node = λ own. true_not_false (sym directory ∙ ap (is_directory last) (sym own) ∙ still_file node file) in
      ap (λ files. has_page files node n) none ∙ sym (other_file node n apart (still_file node file))
  touched (ChangesOwnFile.unwritten is_file none stays) node n among held_then file low =
      ap (λ files. has_page files node n) none ∙ sym (elim (true_or_false (nat_eq node planning.flush.node)) [
        | inr other ↦ other_file node n (eqb-false node planning.flush.node other) (still_file node file)
        | inl same ↦
            let own : node ≡ planning.flush.node = eqb-true node planning.flush.node same in
            ap (λ c. is_touched_between volume.first volume.history node (cut_of volume.cut node) c n)
            (subst (λ k. cut_of planning.raised k ≡ cut_of volume.cut k) (sym own)
            (stays (subst (λ k. has_inode_then planning.plan k ≡ true) own held_then)))
            ∙ no_span node (cut_of volume.cut node) n
      ])
  touched (ChangesOwnFile.own_file held change only at changed timely) node n among held_then file low =
      ap (λ files. has_page files node n) only ∙ by (nat_eq node planning.flush.node) refl
    where
      own_node : change.node.0 ≡ planning.flush.node
      own_node = ap (λ (x : NodeId). x.0) changed.own

      found : (b : Bool) → nat_eq change.node.0 node ≡ b
          → has_page (change ∷ []) node n ≡ is_some (item_with page_block n (option_map_or (λ (c : FileChange). c.pages.items) (cond b (Some change) None) []))
      found b e = ap (λ t. is_some (item_with page_block n (option_map_or (λ (c : FileChange). c.pages.items) (cond t (Some change) None) []))) e

      by : (b : Bool) → nat_eq node planning.flush.node ≡ b → has_page (change ∷ []) node n ≡ touched_of node n
      by false e =
          let apart : node ≢ planning.flush.node = eqb-false node planning.flush.node e in
          found false (not_same change.node.0 node (λ same. apart (sym same ∙ own_node))) ∙ sym (other_file node n apart (still_file node file))
      by true e =
          let own : node ≡ planning.flush.node = eqb-true node planning.flush.node e in
          found true (ap (λ k. nat_eq k node) (own_node ∙ sym own) ∙ same_number node)
          ∙ marked_pages_are_touched volume.first volume.history (record { 0 = planning.flush.node }) (cut_of volume.cut planning.flush.node)
          planning.flush.stamp held change history_is.legal at changed n
          ∙ sym (ap (λ k. touched_of k n) own
          ∙ ap (λ c. is_touched_between volume.first volume.history planning.flush.node (cut_of volume.cut planning.flush.node) c n)
          (is.raises.member planning.flush.node itself ∙ max-eq_right {n = cut_of volume.cut planning.flush.node} {m = planning.flush.stamp} timely))

pub own_files_are_touched : OwnFilesAreTouched
own_files_are_touched volume planning is own = touched volume planning is own
