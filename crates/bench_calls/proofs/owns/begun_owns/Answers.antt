use Rattle.std.specs.Prelude.{is_ok}
use Rattle.bench_calls.specs.Ready.{IsReadyAlone}
use Rattle.bench_calls.proofs.Lists.{put_has}
use Rattle.bench_calls.proofs.owns.begun_owns.Goals as goal

pub loop-thread-preserved : goal.loop-thread-preserved
loop-thread-preserved c =
    put_has IsReadyAlone c.loop-thread.owns.items c.push.new.self.items c.in_ok-begun_own.field-0 (is_ok c.push.result) c.push.ensures.items
    c.loop-thread.invariant c.in_ok-begun_own.ensures
