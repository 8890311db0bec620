use Rattle.std.specs.Prelude.{All}
use Rattle.bench_calls.specs.Ready.{IsReadyAlone}
use Rattle.bench_calls.proofs.owns.begun_owns.Given as goal

abbrev pub invariant-loop-thread : goal.invariant-loop-thread
invariant-loop-thread l = All IsReadyAlone l.owns.items
