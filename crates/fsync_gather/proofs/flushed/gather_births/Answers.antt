use Rattle.std.proofs.Common.{get_or, ◌++◌, ◌∷◌, [], Option, take, filter_map, ◌∙◌, sym, ap}
use Rattle.std.specs.Prelude.{option_map}
use Rattle.std.specs.List.{cons_option}
use Rattle.std.proofs.lemmas.List.{append-nil}
use Rattle.sfs_base.specs.declared.numbers.NodeId.{NodeId}
use Rattle.dep_closure.specs.declared.gathered.NodeBirth.{NodeBirth}
use Rattle.fsync_gather.specs.Gathers.{nodes_seen, birth_seen}
use Rattle.fsync_gather.proofs.Nodes.{given_next}
use Rattle.fsync_gather.proofs.flushed.gather_births.Goals as goal
use Rattle.fsync_gather.proofs.flushed.gather_births.Goals.{in-Some+in_ok-reserve, in_default}

pub loop-node-preserved : goal.loop-node-preserved
loop-node-preserved c =
    let node : NodeId = get_or c.args.held.now c.loop-node.node-index (record { 0 = 0 }) in
    let cells = c.args.core.now.held in
    let front = filter_map birth_seen (nodes_seen c.args.nodes cells (take c.loop-node.node-index c.args.held.now)) in
    let next =
    given_next birth_seen c.args.nodes cells c.args.held.now c.loop-node.node-index (record { 0 = 0 }) c.flushed_value.result.now c.loop-node-test.true
    c.flushed_value.ensures in
    elim c.match-flushed_value.branch [
      | in-Some+in_ok-reserve w ↦
          let birth : NodeBirth = record { node = node; dir = w.in-Some.dir } in
          ap (λ m. m.items) w.births-is ∙ w.push.ensures.items ∙ ap (λ l. l ++ birth ∷ []) (w.in_ok-reserve.ensures.items ∙ c.loop-node.invariant)
          ∙ ap (λ (o : Option NodeId). front ++ cons_option (option_map (λ d. record { node = node; dir = d }) o) []) (sym w.in-Some.is) ∙ sym next
      | in_default w ↦
          ap (λ m. m.items) w.births-is ∙ c.loop-node.invariant ∙ sym (append-nil front)
          ∙ ap (λ (o : Option NodeId). front ++ cons_option (option_map (λ d. record { node = node; dir = d }) o) []) (sym w.in_default.is) ∙ sym next
    ]
