-- The fact that tells a commit, by how its fsync ends.
use Rattle.std.proofs.Common.{◌≡◌, ◌+◌, ℕ, suc, Bool, List, [], ◌∷◌, map, length, Some, None, IsSome, is_some, refl, sym, ap, subst}
use Rattle.std.specs.Prelude.{All, ◌&&◌, not, if◌then◌else◌}
use Rattle.std.specs.List.Sorted.{IsStrictlyIncreasing}
use Rattle.std.proofs.lemmas.List.Elements.{All-head}
use Rattle.std_alloc.specs.formers.vec.Vec.{fits, holding}
use Rattle.sfs_base.specs.declared.numbers.NodeId.{NodeId}
use Rattle.sfs_base.specs.Listed.{is_listed}
use Rattle.sfs_base.proofs.BasicTruth.{true_not_false}
use Rattle.tree_laws.specs.NameRow.{node_number}
use Rattle.disk_nodes.specs.declared.old.OldEntry.{OldEntry}
use Rattle.stamp_table.specs.Hand.{places_of}
use Rattle.stamp_table.specs.Table.{values_in}
use Rattle.stamp_table.specs.declared.held.HeldCell.{HeldCell}
use Rattle.mem_values.specs.declared.cell.Cell.{Cell}
use Rattle.mem_values.specs.declared.cell.Cell.TheVariants as cell
use Rattle.mem_values.specs.declared.fact.Fact.{Fact}
use Rattle.mem_values.specs.declared.fact.Fact.TheVariants.{Committed}
use Rattle.mem_calls.specs.Held.{as_pending}
use Rattle.fsync_look.specs.Look.{flushed_place}
use Rattle.fsync_gather.specs.Gathers.{IsHeldOf}
use Rattle.fsync_gather.proofs.Rising.{tail_rises}
use Rattle.fsync_values.specs.Lending.{HOLLOW, lent_value, old_of_value}
use Rattle.fsync_values.specs.Renewing.{boxes_asked, kept_of_node, renewed_by, values_renewed}
use Rattle.fsync_values.specs.declared.renewing.Renewal.{Renewal}
use Rattle.fsync_end.specs.declared.finishing.Ending.{Ending}
use Rattle.landing_laws.specs.Written.{CommitDone, node_wrote, nodes_wrote}
use Rattle.landing_laws.proofs.HeldNodes.{first_held, later_held}
use Rattle.fsync_dir.specs.Ending.{node_told, nodes_told}

-- a node is told for each value
pub told_long : (nodes : List NodeId) (values : List Cell) → length (nodes_told nodes values) ≡ length values
told_long nodes [] = refl
told_long [] (value ∷ values) = ap suc (told_long [] values)
told_long (node ∷ nodes) (value ∷ values) = ap suc (told_long nodes values)

-- the fact, by how the fsync ends
abbrev pub fact_of : Ending → Fact
fact_of ending = Committed ending.number ending.node ending.stamp ending.members
    (holding ending.values (nodes_told ending.nodes.items ending.values.items)
    (fits ending.values (nodes_told ending.nodes.items ending.values.items) (told_long ending.nodes.items ending.values.items)))

module _ (renewal : Renewal) (members : List NodeId) (after : List OldEntry) where
  -- what is renewed of a value that was lent is what is renewed of it
  lent_renewed : (member : Bool) (number : ℕ) (old : _) (value : Cell)
      → renewed_by renewal.stamp member number old (lent_value value) ≡ renewed_by renewal.stamp member number old value
  lent_renewed member number old (cell.Pending pending) = refl
  lent_renewed member number old (cell.Lock lock) = refl
  lent_renewed member number old (cell.Bucket bucket) = refl
  lent_renewed member number old (cell.File file) = refl
  lent_renewed member number old (cell.Part part) = refl

  pub lents_renewed : (nodes : List NodeId) (values : List Cell)
      → values_renewed renewal members after nodes (map lent_value values) ≡ values_renewed renewal members after nodes values
  lents_renewed [] values = refl
  lents_renewed (node ∷ nodes) [] = refl
  lents_renewed (node ∷ nodes) (value ∷ values) = λ i.
      lent_renewed (is_listed (map node_number members) node.0) renewal.number (kept_of_node after node.0) value i ∷ lents_renewed nodes values i

-- what a value that was lent has of the disk is something where it had something
lent_some : (value : Cell) → is_some (old_of_value (lent_value value)) ≡ is_some (old_of_value value)
lent_some (cell.Pending pending) = by pending.value.old
  where
    by : (old : _) → is_some (Rattle.std.specs.Prelude.option_map (λ (o : Rattle.disk_nodes.specs.OldKept.OldKept). HOLLOW) old) ≡ is_some old
    by None = refl
    by (Some old) = refl
lent_some (cell.Lock lock) = refl
lent_some (cell.Bucket bucket) = refl
lent_some (cell.File file) = refl
lent_some (cell.Part part) = refl

-- so it asks for as many boxes
pub lents_ask : (after : List OldEntry) (nodes : List NodeId) (values : List Cell)
    → boxes_asked after nodes (map lent_value values) ≡ boxes_asked after nodes values
lents_ask after [] values = refl
lents_ask after (node ∷ nodes) [] = refl
lents_ask after (node ∷ nodes) (value ∷ values) = λ i.
    (if is_some (kept_of_node after node.0) && not (lent_some value i) then 1 else 0) + lents_ask after nodes values i

module _ (nodes : ℕ) (done : CommitDone) where
  -- what is told of a node by the renewed value is what the commit wrote of it
  one_told : (node : NodeId) (value : Cell) → IsSome (as_pending value)
      → node_told node (renewed_by done.renewal.stamp (is_listed (map node_number done.members) node.0) done.renewal.number
      (kept_of_node done.after node.0) value)
      ≡ node_wrote done node value
  one_told node (cell.Pending pending) some = refl
  one_told node (cell.Lock lock) some = absurd (true_not_false (sym some))
  one_told node (cell.Bucket bucket) some = absurd (true_not_false (sym some))
  one_told node (cell.File file) some = absurd (true_not_false (sym some))
  one_told node (cell.Part part) some = absurd (true_not_false (sym some))

  -- and so of all
  pub told_is_written : (list : List NodeId) (cells : List (HeldCell Cell)) → places_of cells ≡ map (flushed_place nodes) list
      → IsStrictlyIncreasing (map node_number list) → All (IsHeldOf nodes cells) list
      → nodes_told list (values_renewed done.renewal done.members done.after list (values_in cells)) ≡ nodes_wrote done list (values_in cells)
  told_is_written [] [] places up held = refl
  told_is_written [] (c ∷ cells) places up held = absurd (cc (places))
  told_is_written (n ∷ list) [] places up held = absurd (cc (places))
  told_is_written (n ∷ list) (c ∷ cells) places up held =
      let place : c.place ≡ flushed_place nodes n = cc (places) in
      let rest : places_of cells ≡ map (flushed_place nodes) list = cc (places) in
      let one = one_told n c.value (subst IsSome (first_held nodes c cells n place) (All-head (IsHeldOf nodes (c ∷ cells)) n list held)) in
      let more = told_is_written list cells rest (tail_rises n.0 (map node_number list) up) (later_held nodes n list c cells place up held) in
      λ i. one i ∷ more i
