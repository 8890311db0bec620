use Rattle.std.proofs.Common.{◌≡◌, ◌∷◌, ◌++◌, [], cond, get_or, ap, Bool, ◌∙◌}
use Rattle.sfs_base.specs.Lists.{Roomy}
use Rattle.sfs_base.specs.declared.numbers.NodeId.{NodeId}
use Rattle.flush_plan.specs.Moved.{loses_inode}
use Rattle.flush_plan.proofs.Picked.{picked, pushed_if, kept_if}
use Rattle.flush_plan.proofs.moved.leaving.Goals as goal
use Rattle.flush_plan.proofs.moved.leaving.Goals.{then-loses+in_ok-reserve, else-loses}

grown : (c : goal.Joined-loses)
    → c.if-loses.leave.items
    ≡ c.loop-node.leave.items ++ cond c.loses.result (get_or c.as_slice-touched.result.now c.loop-node.node-index (record { 0 = 0 }) ∷ []) []
grown c =
    elim c.if-loses.branch [
      | then-loses+in_ok-reserve w ↦
          pushed_if c.loses.result c.loop-node.leave.items w.reserve.new.self.items c.if-loses.leave.items _ w.if-loses.true w.in_ok-reserve.ensures.items
          (ap (λ (l : Roomy NodeId). l.items) w.leave-is ∙ w.push.ensures.items)
      | else-loses w ↦ kept_if c.loses.result c.loop-node.leave.items c.if-loses.leave.items _ w.if-loses.false (ap (λ (l : Roomy NodeId). l.items) w.leave-is)
    ]

pub loop-node-preserved : goal.loop-node-preserved
loop-node-preserved c =
    let test : NodeId → Bool = λ node. loses_inode c.args.logs.now c.args.facts.now node.0 in
    picked test c.as_slice-touched.result.now c.loop-node.node-index
    (record { 0 = 0 }) c.loop-node-test.true c.loses.result c.loses.ensures c.loop-node.leave.items c.if-loses.leave.items c.loop-node.invariant (grown c)
