use Rattle.std.specs.Prelude.{vec_capacity}
use Rattle.std.proofs.Common.{◌≤◌}
use Rattle.mem_values.specs.Start.{given_by}
use Rattle.mem_calls.specs.Working.{IsWorking}
use Rattle.fsync_look.specs.Look.{SawMore, AreCopies}
use Rattle.fsync_look.proofs.logs.copy_logs.Given as goal

abbrev pub invariant-loop-number : goal.invariant-loop-number
invariant-loop-number g l = record {
  work : IsWorking (given_by l.shared) l.shared l.core;
  saw : SawMore l.initial.core l.core;
  copies : AreCopies (given_by l.shared) l.nodes l.number l.held l.initial.core l.core l.logs.items;
  room : l.cores ≤ vec_capacity l.logs;
}
