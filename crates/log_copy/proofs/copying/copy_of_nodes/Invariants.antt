use Rattle.std.proofs.Common.{take}
use Rattle.log_copy.specs.Steps.{HasDirectories}
use Rattle.log_copy.proofs.copying.copy_of_nodes.Given as goal

abbrev pub invariant-loop-node : goal.invariant-loop-node
invariant-loop-node l = HasDirectories l.part (take l.node-index l.nodes) l.copy
