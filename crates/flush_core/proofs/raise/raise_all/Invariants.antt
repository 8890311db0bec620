use Rattle.std.proofs.Common.{take}
use Rattle.flush_core.specs.Engine.{RaisesThose}
use Rattle.flush_core.proofs.raise.raise_all.Given as goal

abbrev pub invariant-loop-node : goal.invariant-loop-node
invariant-loop-node l = RaisesThose l.initial.cut (take l.node-index l.nodes) l.stamp l.cut
