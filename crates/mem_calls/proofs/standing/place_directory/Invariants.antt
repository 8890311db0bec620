use Rattle.mem_calls.specs.Ends.{PlacesDirectory}
use Rattle.mem_calls.proofs.standing.place_directory.Given as goal

abbrev pub invariant-loop-number : goal.invariant-loop-number
invariant-loop-number l = PlacesDirectory l.nodes l.node l.number l.place l.initial.core l.core
