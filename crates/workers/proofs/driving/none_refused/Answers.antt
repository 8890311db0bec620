use Rattle.std.proofs.Common.{◌≡◌, false, sym, arith}
use Rattle.std.proofs.lemmas.List.Folds.{list_any_none, list_any-from_Any}
use Rattle.workers.specs.declared.worker.Worker.{Worker}
use Rattle.workers.proofs.Places.{one_place_more}
use Rattle.workers.proofs.driving.none_refused.Goals as goal

pub loop-worker-preserved : goal.loop-worker-preserved
loop-worker-preserved g c =
    one_place_more (λ (w : Worker g.row.P.Denot). w.refused ≡ false) c.args.workers.now c.loop-worker.worker-index c.worker-item.result
    c.loop-worker-test.true c.worker-item.is c.loop-worker.invariant c.if-worker.false

pub returns-then-worker : goal.returns-then-worker
returns-then-worker g c =
    sym (list_any-from_Any (λ (w : Worker g.row.P.Denot). w.refused) c.args.workers.now
    (c.loop-worker.worker-index, c.worker-item.result, c.loop-worker-test.true, sym c.worker-item.is, c.if-worker.true))

pub returns : goal.returns
returns g c =
    sym (list_any_none (λ (w : Worker g.row.P.Denot). w.refused) c.args.workers.now
    (λ k d within. c.loop-worker.invariant k d (let end = c.loop-worker-test.false in omega (arith, end, within))))
