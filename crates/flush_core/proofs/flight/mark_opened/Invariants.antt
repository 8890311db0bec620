use Rattle.flush_core.specs.Flights.{kept_opened}
use Rattle.flush_core.proofs.InPlace.{IsChanged}
use Rattle.flush_core.proofs.flight.mark_opened.Given as goal

abbrev pub invariant-loop-flight : goal.invariant-loop-flight
invariant-loop-flight l = IsChanged (kept_opened l.commit) l.initial.flight-items l.flight-index l.flight-items
