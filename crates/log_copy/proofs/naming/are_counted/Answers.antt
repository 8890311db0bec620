use Rattle.std.specs.Prelude.{All}
use Rattle.std.proofs.Common.{List, subst, sym, take, arith}
use Rattle.std.proofs.lemmas.List.{take_more, take_all}
use Rattle.sfs_base.specs.declared.numbers.NodeId.{NodeId}
use Rattle.log_copy.specs.Steps.{IsCounted}
use Rattle.log_copy.proofs.Counted.{one_more}
use Rattle.log_copy.proofs.naming.are_counted.Goals as goal

pub loop-node-preserved : goal.loop-node-preserved
loop-node-preserved c =
    let m : NodeId = record { 0 = 0 } in
    subst (λ (l : List NodeId). All (IsCounted c.args.part.now c.args.copy.now) l) (sym (take_more c.args.nodes.now c.loop-node.node-index m c.loop-node-test.true))
    (one_more (IsCounted c.args.part.now c.args.copy.now) (take c.loop-node.node-index c.args.nodes.now) _ c.loop-node.invariant (record {
      no_more =
          let log = c.namings.ensures.count in
          let copy = c.namings-in-loop-node.ensures.count in
          let le = c.if-namings.false in omega (arith, log, copy, le);
      log_ascends = c.namings.ensures.ascending;
      copy_ascends = c.namings-in-loop-node.ensures.ascending;
    }))

pub returns : goal.returns
returns c all =
    let end = c.loop-node-test.false in
    subst (λ (l : List NodeId). All (IsCounted c.args.part.now c.args.copy.now) l) (take_all c.loop-node.node-index c.args.nodes.now (omega (arith, end)))
    c.loop-node.invariant
