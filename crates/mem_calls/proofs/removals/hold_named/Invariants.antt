use Rattle.std.proofs.Common.{◌≡◌, []}
use Rattle.mem_values.specs.Start.{given_by}
use Rattle.mem_calls.specs.Working.{IsWorking, WorksOn}
use Rattle.mem_calls.proofs.removals.hold_named.Given as goal

abbrev pub invariant-loop : goal.invariant-loop
invariant-loop g l = record {
  work : IsWorking (given_by l.shared) l.shared l.core;
  on : WorksOn l.initial.core l.core;
  none : (l.core.held ≡ []) × (l.core.view.held ≡ []);
}
