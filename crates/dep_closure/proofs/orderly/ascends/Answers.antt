use Rattle.std.proofs.Common.{arith}
use Rattle.dep_closure.proofs.Searches.{falls_there, rises_there}
use Rattle.dep_closure.proofs.orderly.ascends.Goals as goal

pub returns-then-node : goal.returns-then-node
returns-then-node g c =
    let number = g.T.ByNode.number in (
      λ e. absurd (cc),
      λ up. absurd
          (falls_there number c.args.items.now c.loop-at.at
          (omega arith) c.loop-at-test.true c.index-items-at.result c.index-items-at-in-loop-at.result c.index-items-at.is c.index-items-at-in-loop-at.is
          (omega (arith, c.node.ensures, c.node-in-loop-at.ensures, c.if-node.true)) up),
    )

pub loop-at-preserved : goal.loop-at-preserved
loop-at-preserved g c =
    rises_there g.T.ByNode.number c.args.items.now c.loop-at.at
    (omega arith) c.loop-at-test.true c.index-items-at.result c.index-items-at-in-loop-at.result c.index-items-at.is c.index-items-at-in-loop-at.is
    (omega (arith, c.node.ensures, c.node-in-loop-at.ensures, c.if-node.false)) c.loop-at.invariant
