use Rattle.std.proofs.Common.{◌≡◌}
use Rattle.disk_box.specs.Pens.{IsOutside, PenGoes, own_at}
use Rattle.journal_set.specs.Grants.{grant_at}
use Rattle.journal_set.specs.Telling.{AreTurns, TellsCall, TellsWork}
use Rattle.journal_set.proofs.set.JournalSet.begin.Given as goal
use Rattle.journal_set.proofs.Alone.{HasFoundSome}

abbrev pub invariant-loop : goal.invariant-loop
invariant-loop g l = record {
  outside : IsOutside l.self l.pen;
  goes : PenGoes l.fn.pen l.pen;
  room : l.pen.room ≡ l.fn.pen.room;
  own : own_at l.pen ≡ own_at l.fn.pen;
  grant : grant_at l.pen ≡ grant_at l.fn.pen;
  writing : record l.writing { patience = l.fn.writing.patience } ≡ l.fn.writing;
  tells : TellsCall (AreTurns TellsWork) l.fn.pen l.pen;
  found : HasFoundSome l.fn.pen l.pen;
}
