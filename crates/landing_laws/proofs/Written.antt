-- Renewed values are what a commit wrote, cell by cell.
use Rattle.std.proofs.Common.{◌≡◌, ◌∙◌, ◌<◌, ◌++◌, ℕ, zero, suc, Bool, true, false, nat_eq, List, [], ◌∷◌, map, length, get_or, Option, Some, None, IsSome, inl, inr, refl, sym, ap, subst, arith, eq-eqb}
use Rattle.std.specs.Prelude.{All, option_map, option_and_then, if◌then◌else◌}
use Rattle.std.specs.List.{find}
use Rattle.std.specs.List.Sorted.{IsStrictlyIncreasing}
use Rattle.std.proofs.lemmas.List.Elements.{All-head, All-tail}
use Rattle.std.proofs.lemmas.Bool.Decides.{eqb_tells}
use Rattle.sfs_base.specs.declared.numbers.NodeId.{NodeId}
use Rattle.sfs_base.specs.Listed.{is_listed}
use Rattle.sfs_base.proofs.BasicOptions.{none_some, some_same}
use Rattle.sfs_base.proofs.BasicTruth.{true_not_false}
use Rattle.cut_laws.proofs.Listed.{listed_one, one_at, to_map}
use Rattle.tree_laws.specs.NameRow.{node_number, number_of}
use Rattle.tree_laws.specs.Tree.{TreeState}
use Rattle.stamp_table.specs.Hand.{places_of}
use Rattle.stamp_table.specs.Table.{cell_at, values_in}
use Rattle.stamp_table.specs.declared.held.HeldCell.{HeldCell}
use Rattle.mem_values.specs.Account.{Commitment, held_by, is_held_of}
use Rattle.mem_values.specs.Stands.{Flushed}
use Rattle.mem_values.specs.declared.cell.Cell.{Cell}
use Rattle.mem_values.specs.declared.cell.Cell.TheVariants as cell
use Rattle.mem_values.specs.declared.cell.Pending.{Pending}
use Rattle.mem_values.specs.declared.fact.HeldNode.{HeldNode}
use Rattle.mem_calls.specs.Held.{as_pending, pending_held}
use Rattle.home_laws.specs.Laws.{IsNodeOf}
use Rattle.fsync_look.specs.Look.{IsBelow, flushed_place}
use Rattle.fsync_gather.specs.Gathers.{IsHeldOf}
use Rattle.fsync_gather.proofs.Rising.{head_below, tail_rises}
use Rattle.fsync_values.specs.Renewing.{cut_then, kept_of_node, renewed_value, values_renewed}
use Rattle.fsync_end.specs.Finishing.{AreWritten, IsWritten}
use Rattle.landing_laws.proofs.HeldNodes.{apart, first_held, first_listed, later_held, later_listed}
use Rattle.landing_laws.specs.Written.{CommitDone, HoldsWhatItWrote, RenewedAreWritten, cut_of_value, node_wrote, nodes_wrote}

-- what the first of some nodes has, and what another one has
pub find_first : (held : HeldNode) (others : List HeldNode) (node : ℕ) → held.node.0 ≡ node → find (is_held_of node) (held ∷ others) ≡ Some held
find_first held others node is = ap (λ b. if b then Some held else find (is_held_of node) others) (eq-eqb held.node.0 node is)

pub find_other : (held : HeldNode) (others : List HeldNode) (node : ℕ) → (held.node.0 ≡ node → ⊥)
    → find (is_held_of node) (held ∷ others) ≡ find (is_held_of node) others
find_other held others node apart = elim (eqb_tells held.node.0 node) [
  | inl same ↦ absurd (apart same.1)
  | inr away ↦ ap (λ b. if b then Some held else find (is_held_of node) others) away.0
]

module _ (tree : TreeState) (nodes : ℕ) (done : CommitDone) (commit : Commitment) (numbered : commit.number ≡ done.renewal.number) where
  -- one value
  one_written : (node : NodeId) (c : HeldCell Cell) → node.0 < nodes → IsNodeOf tree node.0 → c.place ≡ flushed_place nodes node
      → held_by commit node.0 ≡ Some (node_wrote done node c.value) → (value : Cell) → value ≡ c.value → IsSome (as_pending value)
      → IsWritten tree nodes commit c (renewed_value done.renewal done.members done.after node c.value)
  one_written node c within is_node place holds (cell.Pending pending) same some = record {
    node = node;
    within = within;
    there = place;
    what = node_wrote done node c.value;
    holds = holds;
    old = pending.value;
    old_is = ap as_pending (sym same);
    new = record pending.value {
      cut = cut_then done.renewal.stamp (is_listed (map node_number done.members) node.0) pending.value.cut;
      last = done.renewal.number;
      old = kept_of_node done.after node.0;
    };
    new_is = ap (λ v. as_pending (renewed_value done.renewal done.members done.after node v)) (sym same);
    wrote = λ i. record {
      cut = (cut_then done.renewal.stamp (is_listed (map node_number done.members) node.0) (cut_of_value (same i))).0;
      last = sym numbered i;
      old = kept_of_node done.after node.0;
    };
    made_in = refl;
    is_node = is_node;
  }
  one_written node c within is_node place holds (cell.Lock lock) same some = absurd (true_not_false (sym some))
  one_written node c within is_node place holds (cell.Bucket bucket) same some = absurd (true_not_false (sym some))
  one_written node c within is_node place holds (cell.File file) same some = absurd (true_not_false (sym some))
  one_written node c within is_node place holds (cell.Part part) same some = absurd (true_not_false (sym some))

  -- all of them
  all_written : (list : List NodeId) (cells : List (HeldCell Cell)) → places_of cells ≡ map (flushed_place nodes) list
      → IsStrictlyIncreasing (map node_number list)
      → All (IsHeldOf nodes cells) list → All (IsBelow nodes) list → All (λ (node : NodeId). IsNodeOf tree node.0) list
      → ((node : ℕ) → is_listed (map node_number list) node ≡ true → held_by commit node ≡ find (is_held_of node) (nodes_wrote done list (values_in cells)))
      → AreWritten tree nodes commit cells (values_renewed done.renewal done.members done.after list (values_in cells))
  all_written [] [] places up held within are holds = tt
  all_written [] (c ∷ cells) places up held within are holds = absurd (cc (places))
  all_written (n ∷ list) [] places up held within are holds = absurd (cc (places))
  all_written (n ∷ list) (c ∷ cells) places up held within are holds =
      let place : c.place ≡ flushed_place nodes n = cc (places) in
      let rest : places_of cells ≡ map (flushed_place nodes) list = cc (places) in (
        one_written n c (All-head (IsBelow nodes) n list within) (All-head (λ (node : NodeId). IsNodeOf tree node.0) n list are) place
            (holds n.0 (first_listed n list)
            ∙ find_first (node_wrote done n c.value) (nodes_wrote done list (values_in cells)) n.0 refl)
            c.value refl (subst IsSome (first_held nodes c cells n place) (All-head (IsHeldOf nodes (c ∷ cells)) n list held)),
        all_written list cells rest (tail_rises n.0 (map node_number list) up) (later_held nodes n list c cells place up held)
            (All-tail (IsBelow nodes) n list within) (All-tail (λ (node : NodeId). IsNodeOf tree node.0) n list are)
            (λ node listed. holds node (later_listed n list node listed)
            ∙ find_other (node_wrote done n c.value) (nodes_wrote done list (values_in cells)) node (apart n list node up listed)),
      )

pub renewed_are_written : RenewedAreWritten
renewed_are_written tree nodes list cells done commit is =
    all_written tree nodes done commit is.numbered list cells is.places is.ascend is.held is.within is.are_nodes
    (λ node listed. ap (find (is_held_of node)) is.wrote)
