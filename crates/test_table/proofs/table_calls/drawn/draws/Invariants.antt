use Rattle.std.proofs.Common.{◌≡◌, length}
use Rattle.test_table.proofs.table_calls.drawn.draws.Given as goal

abbrev pub invariant-loop-core : goal.invariant-loop-core
invariant-loop-core l = length l.all.items ≡ l.core
