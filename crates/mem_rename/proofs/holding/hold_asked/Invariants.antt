use Rattle.mem_values.specs.Start.{given_by}
use Rattle.mem_rename.proofs.SoFar.{HoldsSoFar}
use Rattle.mem_rename.proofs.holding.hold_asked.Given as goal

abbrev pub invariant-loop : goal.invariant-loop
invariant-loop g l = HoldsSoFar (given_by l.shared) l.shared l.nodes l.cells l.last l.initial.core l.core
