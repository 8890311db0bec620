use Rattle.std.proofs.Common.{◌≡◌, take, filter, map}
use Rattle.flush_plan.specs.Moved.{gets_inode, enter_by}
use Rattle.flush_plan.proofs.moved.entering.Given as goal

abbrev pub invariant-loop-node : goal.invariant-loop-node
invariant-loop-node l =
    l.enter.items ≡ map (enter_by l.start l.is_file l.facts) (filter (λ node. gets_inode l.start l.is_file l.logs l.facts node.0) (take l.node-index l.touched))
