use Rattle.std.proofs.Common.{get_or, ◌++◌, ◌∷◌, [], Bool, Some, None, take, filter_map, ◌∙◌, sym, ap}
use Rattle.std.specs.Prelude.{if◌then◌else◌}
use Rattle.std.specs.List.{cons_option}
use Rattle.std.proofs.lemmas.List.{append-nil}
use Rattle.sfs_base.specs.declared.numbers.NodeId.{NodeId}
use Rattle.fsync_gather.specs.Gathers.{nodes_seen, inode_seen}
use Rattle.fsync_gather.proofs.Nodes.{given_next}
use Rattle.fsync_gather.proofs.flushed.gather_inodes.Goals as goal
use Rattle.fsync_gather.proofs.flushed.gather_inodes.Goals.{then-is_some+in_ok-reserve, else-is_some}

pub loop-node-preserved : goal.loop-node-preserved
loop-node-preserved c =
    let node : NodeId = get_or c.args.held.now c.loop-node.node-index (record { 0 = 0 }) in
    let cells = c.args.core.now.held in
    let front = filter_map inode_seen (nodes_seen c.args.nodes cells (take c.loop-node.node-index c.args.held.now)) in
    let next =
    given_next inode_seen c.args.nodes cells c.args.held.now c.loop-node.node-index (record { 0 = 0 }) c.flushed_value.result.now c.loop-node-test.true
    c.flushed_value.ensures in
    elim c.if-is_some.branch [
      | then-is_some+in_ok-reserve w ↦
          ap (λ m. m.items) w.inodes-is ∙ w.push.ensures.items ∙ ap (λ l. l ++ node ∷ []) (w.in_ok-reserve.ensures.items ∙ c.loop-node.invariant)
          ∙ ap (λ (b : Bool). front ++ cons_option (if b then Some node else None) []) (sym (sym c.is_some.ensures ∙ w.if-is_some.true)) ∙ sym next
      | else-is_some w ↦
          ap (λ m. m.items) w.inodes-is ∙ c.loop-node.invariant ∙ sym (append-nil front)
          ∙ ap (λ (b : Bool). front ++ cons_option (if b then Some node else None) []) (sym (sym c.is_some.ensures ∙ w.if-is_some.false)) ∙ sym next
    ]
