use Rattle.std.proofs.Common.{take}
use Rattle.std.specs.Prelude.{All}
use Rattle.dep_closure.specs.Gathered.{IsOwnLog}
use Rattle.dep_closure.proofs.orderly.are_own_logs.Given as goal

abbrev pub invariant-loop-log : goal.invariant-loop-log
invariant-loop-log l = All IsOwnLog (take l.log-index l.logs)
