use Rattle.std.proofs.Common.{◌≡◌, map, drop}
use Rattle.flush_core.specs.Flights.{flight_as, flight_in}
use Rattle.flush_core.proofs.flight.flush_of.Given as goal

abbrev pub invariant-loop-flight : goal.invariant-loop-flight
invariant-loop-flight l = flight_in (map flight_as (drop l.flight-index l.flights)) l.commit ≡ flight_in (map flight_as l.flights) l.commit
