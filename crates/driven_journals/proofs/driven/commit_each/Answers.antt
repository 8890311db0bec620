use Rattle.std.proofs.Common.{subst}
use Rattle.driven_journals.specs.declared.seat.Seat.{Seat}
use Rattle.driven_journals.specs.Seats.{SeatGoes}
use Rattle.driven_journals.proofs.driven.commit_each.Goals as goal

pub returns-clause-each : goal.returns-clause-each
returns-clause-each g c = λ place d within.
    let at = (c.for_each_mut.ensures place d within).1 in
    subst (λ (z : Seat g.row.D.Denot × Seat g.row.D.Denot). SeatGoes c.args.set.now c.args.layout.now z.0 z.1) (λ i. (at.argument_is i, at.left i)) at.call
