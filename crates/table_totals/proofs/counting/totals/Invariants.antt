use Rattle.table_totals.proofs.Whole.{IsAbout}
use Rattle.table_totals.proofs.counting.totals.Given as goal

-- it is about to count, and knows how many calls it has seen
abbrev pub invariant-loop : goal.invariant-loop
invariant-loop g l = IsAbout l.shared l.fn.core l.core l.before
