use Rattle.std.proofs.Common.{rules}
use Rattle.stamp_table.proofs.Calling.{root_may_be_flushed, fact_may_be_told}
use Rattle.test_table.proofs.table_ends.work_while_waiting.Goals as goal

pub stamp-stamp-requires-clause-may : goal.stamp-stamp-requires-clause-may
stamp-stamp-requires-clause-may g c = root_may_be_flushed _ _ _ (search rules) (λ log. tt) (λ log next place value stood. tt)

pub tell-requires-clause-may : goal.tell-requires-clause-may
tell-requires-clause-may g c = fact_may_be_told _ _ _ _ (λ log. tt) (λ log next place value stood. tt)
