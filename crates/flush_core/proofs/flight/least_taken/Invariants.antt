use Rattle.std.proofs.Common.{take, map}
use Rattle.flush_core.specs.Flights.{flight_as}
use Rattle.flush_core.proofs.Least.{IsLeastOf}
use Rattle.flush_core.proofs.flight.least_taken.Given as goal

abbrev pub invariant-loop-node : goal.invariant-loop-node
invariant-loop-node l = IsLeastOf (map flight_as l.flights) (take l.node-index l.node-items) l.least
