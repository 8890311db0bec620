use Rattle.std.proofs.Common.{◌≡◌, take, filter}
use Rattle.flush_plan.specs.Moved.{loses_inode}
use Rattle.flush_plan.proofs.moved.leaving.Given as goal

abbrev pub invariant-loop-node : goal.invariant-loop-node
invariant-loop-node l = l.leave.items ≡ filter (λ node. loses_inode l.logs l.facts node.0) (take l.node-index l.touched)
