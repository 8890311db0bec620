use Rattle.mem_values.specs.Start.{given_by}
use Rattle.mem_rename.proofs.Walking.{HasWalked}
use Rattle.mem_rename.proofs.ways.read_way.Given as goal

abbrev pub invariant-loop : goal.invariant-loop
invariant-loop g l = HasWalked (given_by l.shared) l.shared l.nodes l.fn.node.0 l.initial.core l.core l.above.items l.at
