-- The nodes of a plan have numbers of the table.
use Rattle.std.proofs.Common.{◌≡◌, ℕ, ◌<◌, Bool, true, false, cond, List, Option, Some, None, refl, sym, ap, subst, ◌∙◌, arith}
use Rattle.std.specs.Prelude.{option_map}
use Rattle.std.specs.FinMap.{get}
use Rattle.sfs_base.specs.Name.{bucket as name_bucket}
use Rattle.sfs_base.specs.declared.numbers.NodeId.{NodeId}
use Rattle.sfs_base.proofs.BasicOptions.{none_some, some_is}
use Rattle.tree_laws.specs.Tree.{TreeState}
use Rattle.tree_laws.specs.Logged.{numbered_node}
use Rattle.tree_laws.proofs.Joined.{bucket_small}
use Rattle.mem_values.specs.Start.{FileHand}
use Rattle.mem_values.specs.declared.cell_id.CellId.TheVariants as id
use Rattle.mem_values.specs.Places.{node_count}
use Rattle.mem_values.specs.Laws.{MayMeet}
use Rattle.mem_calls.specs.Held.{bucket_held}
use Rattle.mem_calls.proofs.Faults.{node_within, same_count}
use Rattle.mem_calls.proofs.Shown.{bucket_shows}
use Rattle.mem_rename.specs.declared.sides.Move.{Move}
use Rattle.mem_rename.specs.declared.plans.Plan.{Plan}
use Rattle.mem_rename.specs.declared.looking.Look.{Look}
use Rattle.mem_rename.specs.Decisions.{look_by}
use Rattle.mem_rename.specs.Holding.{HoldsCells}
use Rattle.mem_rename.specs.Plans.{asked_cells, plan_by}
use Rattle.mem_rename.specs.Ready.{bucket_or, AreSidesWithin}
use Rattle.mem_rename.specs.Rounds.{IsPlanWithin}
use Rattle.mem_rename.proofs.Told.{row_told}
use Rattle.mem_rename.proofs.Readies.{held_bucket}

module _ (nodes : ℕ) (hand : FileHand) (count : nodes ≡ node_count hand.view.first) (move : Move) (within : AreSidesWithin nodes move) (plan : Plan)
    (holds : HoldsCells nodes hand.held (asked_cells move plan))
    (tree : TreeState) (met : MayMeet hand.view hand.held tree) where
  -- what a row of a held bucket names has a number of the table
  named_within : (node : NodeId) (name : List ℕ) → node.0 < nodes
      → Rattle.mem_rename.specs.Holding.HoldsCell nodes hand.held (id.Bucket node (name_bucket name)) → (child : NodeId)
      → option_map numbered_node (get (bucket_or (bucket_held nodes hand.held node (name_bucket name))).rows name) ≡ Some child → child.0 < nodes
  named_within node name lt holds_it child is =
      let b = held_bucket nodes hand node (name_bucket name) holds_it in
      let shows = bucket_shows hand nodes count tree met node (name_bucket name) b.0 lt (bucket_small name) b.1 in
      let row = by_row (get b.0.rows name) (ap (λ o. option_map numbered_node (get (bucket_or o).rows name)) (sym b.1) ∙ is) in
      let there = node_within tree met.sound child.0 (met.sound.sound.node node.0 name child.0 (sym (row_told tree node.0 name b.0 shows) ∙ row)) in
      let same = same_count hand tree met in
      omega (arith, there, same, count)
    where
      by_row : (row : Option ℕ) → option_map numbered_node row ≡ Some child → row ≡ Some child.0
      by_row None e = absurd (none_some e)
      by_row (Some x) e = ap (λ (n : NodeId). Some n.0) (some_is (numbered_node x) child e)

  abbrev look : Look
  look = look_by (bucket_or (bucket_held nodes hand.held move.directory (name_bucket move.name)))
      (bucket_or (bucket_held nodes hand.held move.to_directory (name_bucket move.to_name))) move

  either : (b : Bool) (o : Option NodeId) (node : NodeId) → cond b o None ≡ Some node → o ≡ Some node
  either true o node e = e
  either false o node e = absurd (none_some e)

  child_within : (node : NodeId) → look.child ≡ Some node → node.0 < nodes
  child_within node is = named_within move.directory move.name within.old
      (holds (id.Bucket move.directory (name_bucket move.name)) (Rattle.std.proofs.Common.inl refl)) node is

  there_within : (node : NodeId) → look.there ≡ Some node → node.0 < nodes
  there_within node is = named_within move.to_directory move.to_name within.new
      (holds (id.Bucket move.to_directory (name_bucket move.to_name)) (Rattle.std.proofs.Common.inr (Rattle.std.proofs.Common.inl refl))) node is

  pub plan_within : IsPlanWithin nodes (plan_by look move)
  plan_within = record {
    comes = λ node is. child_within node (either _ look.child node is);
    directory = λ node is. there_within node (either _ look.there node is);
    file = λ node is. there_within node (either _ look.there node is);
  }
