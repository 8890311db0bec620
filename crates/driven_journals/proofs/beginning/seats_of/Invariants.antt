use Rattle.std.proofs.Common.{◌≡◌, ◌+◌, ◌≤◌, ◌++◌, All, length, map}
use Rattle.std.specs.Vec.{vec_capacity}
use Rattle.driven_journals.specs.Seats.{pen_of}
use Rattle.driven_journals.specs.declared.due.Due.TheVariants as due
use Rattle.driven_journals.specs.declared.seat.Seat.{Seat}
use Rattle.driven_journals.proofs.beginning.seats_of.Given as goal

abbrev pub invariant-loop-pen : goal.invariant-loop-pen
invariant-loop-pen g l = record {
  room : length l.seats.items + length l.pen-iterator.rest.items ≤ vec_capacity l.seats;
  made : map pen_of l.seats.items ++ l.pen-iterator.rest.items ≡ l.fn.pens.items;
  rest : All (λ (seat : Seat g.row.D.Denot). seat.due ≡ due.Rests) l.seats.items;
}
