use Rattle.driven_journals.specs.Seats.{SeatGoes}
use Rattle.driven_journals.proofs.seat.commit_all.Given as goal

abbrev pub invariant-loop : goal.invariant-loop
invariant-loop g l = SeatGoes l.set l.layout l.fn.seat l.seat
