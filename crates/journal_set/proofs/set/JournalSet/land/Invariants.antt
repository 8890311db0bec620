use Rattle.std.proofs.Common.{◌≡◌, Bool}
use Rattle.disk_box.specs.Pens.{IsOutside, PenGoes, own_at}
use Rattle.journal_set.specs.Flying.{GoesOn, flight_of, flush_of}
use Rattle.journal_set.specs.Telling.{AreTurns, TellsCall, TellsGoing}
use Rattle.journal_set.proofs.set.JournalSet.land.Given as goal
use Rattle.journal_set.proofs.Alone.{GoesDownAlone}

abbrev pub invariant-loop : goal.invariant-loop
invariant-loop g l = record {
  outside : IsOutside l.self l.pen;
  goes : PenGoes l.fn.pen l.pen;
  room : l.pen.room ≡ l.fn.pen.room;
  flight : (opened : Bool) → flight_of l.flight opened ≡ flight_of l.fn.flight opened;
  own : GoesOn l.fn.pen.view.core (own_at l.fn.pen) (own_at l.pen);
  tells : TellsCall (AreTurns (TellsGoing l.fn.pen.view.core l.fn.flight.commit (flush_of l.fn.flight))) l.fn.pen l.pen;
  down : GoesDownAlone l.fn.flight.slot l.fn.pen l.pen;
}
