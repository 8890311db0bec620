-- What an fsync makes, and what it needs, has one value.
use Rattle.std.proofs.Common.{◌≡◌, ℕ, ◌*◌, ◌/◌, ◌%◌, ◌&&◌, Bool, true, false, not, cond, List, inl, inr, refl, sym, ap, subst, ◌<◌, ◌≤◌, ◌∙◌, nat_lt}
use Rattle.std.proofs.Math.Path.{fun_ext}
use Rattle.std.specs.Prelude.{◌↔◌, max, filter, fold, map}
use Rattle.std.specs.FinMap.{entries, from_sorted}
use Rattle.sfs_image.specs.Seen.{PLACES}
use Rattle.tree_laws.specs.declared.history.Entry.{Entry}
use Rattle.tree_laws.specs.Changes.{RowChange, changes_of, bytes_at}
use Rattle.tree_laws.specs.History.{tree_after}
use Rattle.tree_laws.specs.Tree.{TreeState, bytes_of, is_directory, names_of}
use Rattle.absorb.specs.declared.nets.NetRow.{NetRow}
use Rattle.absorb.specs.Net.{IsNet}
use Rattle.absorb.proofs.OneNet.{one_net}
use Rattle.image_laws.specs.Commit.{slots_after}
use Rattle.image_laws.specs.Need.{Rewrite, directory_rewrite, file_rewrite, takes_place, rank}
use Rattle.cut_laws.specs.Closure.{every_entry, Flush, Closure, HasNaming, IsNamedIn, IsConcerned, IsRaised, IsReached, IsDead, AreInodesAfter}
use Rattle.cut_laws.specs.Cut.{Cut, cut_of, with_own, counted_rows_at_cut, tree_at_cut}
use Rattle.cut_laws.specs.Machine.{MachineState}
use Rattle.beside_laws.proofs.OneCut.{reached_there, dead_there}
use Rattle.turn_laws.specs.LawsNeed.{NeedsOnce}
use Rattle.turn_laws.specs.Need.{ImageState, Amount, Made, IsMadeBy, tree_before, tree_made, seen_under, stand_in, rewrite_needed, node_bound, enters_by_made, needs_place, need_of, IsNeed}
use Rattle.turn_laws.specs.Touched.{is_touched_between}
use Rattle.cut_laws.proofs.Raising.{true_alike, false_alike}

-- the tree at stamps that a cut has
abbrev tree_by : TreeState → List Entry → (ℕ → ℕ) → TreeState
tree_by first history stamps = record {
  rows = fold with_own first.rows (filter (λ change. nat_lt change.stamp (stamps change.directory)) (changes_of first history));
  nodes =
      from_sorted
      (map (λ entry. (entry.0, record entry.1 { bytes = bytes_at first history entry.0 (stamps entry.0) })) (entries (tree_after first history).nodes));
  first = first.first;
  share = first.share;
  made = (tree_after first history).made;
}

-- two that an fsync makes of one state
module _ (state : MachineState) (flush : Flush) (made other : Made) (is : IsMadeBy state flush made) (also : IsMadeBy state flush other) where
  pub same_concerns : (node : ℕ) → made.concerns node ≡ other.concerns node
  same_concerns node =
      true_alike (made.concerns node) (other.concerns node) (λ t. (also.concerned node).1 ((is.concerned node).0 t))
      (λ t. (is.concerned node).1 ((also.concerned node).0 t))

  pub same_stamp : (node : ℕ) → cut_of made.raised node ≡ cut_of other.raised node
  same_stamp node = elim (is.raises.other node) [
    | inl own ↦ is.raises.member node own ∙ sym (also.raises.member node own)
    | inr still ↦ elim (also.raises.other node) [
      | inl own ↦ is.raises.member node own ∙ sym (also.raises.member node own)
      | inr stays ↦ still ∙ sym stays
    ]
  ]

  same_stamps : cut_of made.raised ≡ cut_of other.raised
  same_stamps = fun_ext same_stamp

  pub same_tree : tree_made state made ≡ tree_made state other
  same_tree = ap (tree_by state.first state.history) same_stamps

  pub same_nets : (node : ℕ) → made.nets node ≡ other.nets node
  same_nets node =
      one_net (names_of node (tree_before state).rows) (names_of node (tree_made state made).rows) (made.nets node) (other.nets node) (is.each_net node)
      (subst (λ (tree : TreeState). IsNet (names_of node (tree_before state).rows) (names_of node tree.rows) (other.nets node)) (sym same_tree)
      (also.each_net node))

  pub same_after : (node : ℕ) → made.after node ≡ other.after node
  same_after node = elim (state.inodes node) as (λ b. state.inodes node ≡ b → made.after node ≡ other.after node) [
    | true ↦ λ has. false_alike (made.after node) (other.after node)
        (λ gone. let now = (is.inodes_after.leaves node has).0 gone in
        (also.inodes_after.leaves node has).1 (now.0, dead_there state.first state.history made.raised other.raised same_stamp node now.1))
        (λ gone. let now = (also.inodes_after.leaves node has).0 gone in
        (is.inodes_after.leaves node has).1 (now.0, dead_there state.first state.history other.raised made.raised (λ x. sym (same_stamp x)) node now.1))
    | false ↦ λ lacks. true_alike (made.after node) (other.after node)
        (λ came. let now = (is.inodes_after.enters node lacks).0 came in
        (also.inodes_after.enters node lacks).1 (now.0, reached_there state.first state.history made.raised other.raised same_stamp flush node now.1))
        (λ came. let now = (also.inodes_after.enters node lacks).0 came in
        (is.inodes_after.enters node lacks).1
        (now.0, reached_there state.first state.history other.raised made.raised (λ x. sym (same_stamp x)) flush node now.1))
  ] refl

  pub same_rewrite : (image : ImageState) (node : ℕ) → rewrite_needed state image made node ≡ rewrite_needed state image other node
  same_rewrite image node = λ i. cond (is_directory (same_tree i) node)
      (directory_rewrite (seen_under image node) (slots_after (stand_in image.image) (same_tree i) (same_nets node i) (seen_under image node).slots))
      (file_rewrite (is_touched_between state.first state.history node (cut_of state.cut node) (same_stamp node i)) (seen_under image node)
      (bytes_of (same_tree i) node))

  pub same_need : (image : ImageState) → need_of state image made ≡ need_of state image other
  same_need image = λ i. record {
    inodes = rank (λ node. same_after node i && not (state.inodes node)) (node_bound state.first);
    blocks =
        rank (needs_place (record made { concerns = λ node. same_concerns node i; after = λ node. same_after node i }) (λ node. same_rewrite image node i))
        (PLACES * node_bound state.first);
  }

pub needs_once : NeedsOnce
needs_once state image flush need other is also = is.counted ∙ same_need state flush is.made also.made is.is_made also.is_made image ∙ sym also.counted
