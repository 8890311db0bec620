use Rattle.std.proofs.Common.{◌≡◌, ◌∙◌, ◌++◌, drop, length, refl, sym, ap, subst, take}
use Rattle.stamp_table.proofs.Exchanging.{written_over}
use Rattle.mount.specs.Workers.{AreWorkers}
use Rattle.bench_spool.proofs.spools.deliver.Goals as goal

pub unmount-disk-requires-clause-workers : goal.unmount-disk-requires-clause-workers
unmount-disk-requires-clause-workers g c κs within =
    let ran = c.timed-passed.ensures in
    let workers = c.in-Some-mounted_on.field-0.workers in
    let after = c.timed-passed.new.workers in
    let long : length after ≡ length workers.items = ran.count ∙ ap length c.as_mut_slice.ensures.value in
    let written : take workers.len (after ++ drop (length after) workers.items) ≡ after =
    ap (λ k. take k (after ++ drop (length after) workers.items)) workers.ok.0 ∙ written_over workers.items after (length workers.items) refl long
    in
    subst (AreWorkers c.in-Some-mounted_on.field-0.volume) (sym written) ran.workers
