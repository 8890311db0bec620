use Rattle.std.proofs.Common.{◌<◌, length, arith, subst, sym}
use Rattle.stamp_table.specs.Table.{IsSameCore, TableState}
use Rattle.mem_values.specs.Start.{FileState}
use Rattle.disk_box.specs.Pens.{PenHand}
use Rattle.disk_box.specs.declared.key.BoxKey.{BoxKey}
use Rattle.workers.specs.Works.{Rests}
use Rattle.workers.specs.declared.worker.Worker.{Worker}
use Rattle.mount.specs.Workers.{AgreeAt}
use Rattle.bench_fsync.proofs.Back.{one_again}
use Rattle.bench_fsync.proofs.calls.call_at.Goals as goal

pub returns : goal.returns
returns g c =
    let site = c.site-site.ensures in
    let called = c.make_call.ensures in
    let before = c.args.workers.now in
    let after = c.make_call.new.worker in
    let within : c.args.place < length before = (let past = c.if-workers-place.false in omega (arith, past)) in
    let rests =
    subst (λ (z : FileState × TableState (BoxKey _)). Rests z.0 (AgreeAt z.0 z.1) after) (λ i. (site.table i, site.set i)) called.rest
    in
    let same = subst (λ (w : Worker (PenHand _)). IsSameCore w.core after.core) (sym c.index-workers-place.is) called.same in
    record {
      workers = one_again c.args.volume.now before c.args.place c.index-workers-place.result after within c.index-workers-place.is c.requires.workers rests
          same;
    }
