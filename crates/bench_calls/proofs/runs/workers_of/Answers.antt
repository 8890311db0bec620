use Rattle.std.proofs.Common.{◌≡◌, ◌∷◌, All, List, arith, sym, subst}
use Rattle.std.specs.Prelude.{is_ok}
use Rattle.std.proofs.lemmas.Grind.{common_steps}
use Rattle.std.proofs.lemmas.List.Elements.{All-head, All-tail}
use Rattle.stamp_table.specs.Table.{IsBetweenCalls}
use Rattle.mem_values.specs.Start.{FileHand}
use Rattle.bench_calls.specs.Ready.{IsReady}
use Rattle.bench_calls.proofs.Lists.{put_has}
use Rattle.bench_calls.proofs.runs.workers_of.Goals as goal

pub loop-core-preserved : goal.loop-core-preserved
loop-core-preserved c =
    let goes : c.loop-core.core-iterator.rest.items ≡ c.in-Some.core ∷ c.next.new.self.rest.items = grind (arith, common_steps) in
    let all = subst (λ (l : List FileHand). All (IsBetweenCalls c.args.table.now) l) goes c.loop-core.invariant.rest in
    record {
      rest = All-tail (IsBetweenCalls c.args.table.now) c.in-Some.core c.next.new.self.rest.items all;
      ready = put_has (IsReady c.args.table.now) c.loop-core.workers.items c.push.new.self.items c.in_ok-begun_worker.field-0 (is_ok c.push.result)
          c.push.ensures.items c.loop-core.invariant.ready (record {
            between = subst (IsBetweenCalls c.args.table.now) (sym c.in_ok-begun_worker.ensures.core)
                (All-head (IsBetweenCalls c.args.table.now) c.in-Some.core c.next.new.self.rest.items all);
            readable = c.in_ok-begun_worker.ensures.calls;
          });
    }
