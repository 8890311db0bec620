use Rattle.std.proofs.Common.{◌≡◌, None, replicate}
use Rattle.commit_ledger.proofs.ledger.Ledger.new.Given as goal

abbrev pub invariant-loop : goal.invariant-loop
invariant-loop l = l.opens.items ≡ replicate l.counter None
