use Rattle.journal_set.specs.Ready.{IsReady}
use Rattle.fsync_catch.specs.Catch.{GoesOn}
use Rattle.fsync_dir.specs.Flush.{TellsNoTurn, WaitsToFlush}
use Rattle.fsync_dir.specs.Site.{IsSite, ToldAsReserved}
use Rattle.mem_calls.specs.Table.{nodes_of}
use Rattle.fsync_dir.proofs.serving.serve.Given as goal

abbrev pub invariant-loop : goal.invariant-loop
invariant-loop g l = record {
  site : IsSite l.site.table.now (nodes_of l.site.table.now) l.site.cores l.pen.table.given;
  ready : IsReady l.site.set.now l.pen;
  waits : WaitsToFlush l.site.table.now (nodes_of l.site.table.now) l.own.fsync l.own.file l.core;
  agree : ToldAsReserved l.core l.pen;
  on : GoesOn l.initial.core l.core;
  none : TellsNoTurn l.initial.pen l.pen;
}
