use Rattle.driven_journals.specs.Seats.{IsDriven}
use Rattle.driven_journals.proofs.driven.Driven.drive.Given as goal

abbrev pub invariant-loop : goal.invariant-loop
invariant-loop g l = IsDriven l.self
