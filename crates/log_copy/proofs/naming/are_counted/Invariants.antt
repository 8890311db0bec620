use Rattle.std.specs.Prelude.{All, take}
use Rattle.log_copy.specs.Steps.{IsCounted}
use Rattle.log_copy.proofs.naming.are_counted.Given as goal

abbrev pub invariant-loop-node : goal.invariant-loop-node
invariant-loop-node l = All (IsCounted l.part l.copy) (take l.node-index l.nodes)
