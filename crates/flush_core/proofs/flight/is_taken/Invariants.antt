use Rattle.std.proofs.Common.{◌≡◌, true, take}
use Rattle.flush_core.specs.declared.flight.InFlight.{InFlight}
use Rattle.flush_core.specs.NodeSets.{has_node}
use Rattle.cut_laws.specs.Rules.{IsOneOf}
use Rattle.flush_core.proofs.flight.is_taken.Given as goal

abbrev pub invariant-loop-flight : goal.invariant-loop-flight
invariant-loop-flight l = (flight : InFlight) → IsOneOf (take l.flight-index l.flights) flight → has_node flight.concerned l.node ≡ true → ⊥
