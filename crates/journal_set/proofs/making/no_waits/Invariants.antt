use Rattle.std.proofs.Common.{◌≡◌, None, replicate}
use Rattle.journal_set.proofs.making.no_waits.Given as goal

abbrev pub invariant-loop : goal.invariant-loop
invariant-loop l = l.waits.items ≡ replicate l.counter None
