use Rattle.std.specs.Prelude.{All}
use Rattle.tree_laws.specs.Step.{IsReadable}
use Rattle.bench_calls.proofs.workers.calls_of.Given as goal

abbrev pub invariant-loop-round : goal.invariant-loop-round
invariant-loop-round l = All IsReadable l.calls.items

abbrev pub decreases-loop-round : goal.decreases-loop-round
decreases-loop-round l = l.round
