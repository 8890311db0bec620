use Rattle.std.proofs.Common.{rules}
use Rattle.stamp_table.proofs.Calling.{root_may_be_flushed}
use Rattle.test_table.proofs.table.count_once.Goals as goal

pub stamp-stamp-requires-clause-may : goal.stamp-stamp-requires-clause-may
stamp-stamp-requires-clause-may g c = root_may_be_flushed _ _ _ (search rules) (λ log. tt) (λ log next place value stood. tt)
