use Rattle.std.proofs.Common.{◌≡◌, ◌∙◌, ◌++◌, drop, length, refl, sym, ap, subst, take}
use Rattle.stamp_table.proofs.Exchanging.{written_over}
use Rattle.mount.specs.Workers.{AreWorkers}
use Rattle.test_volume.proofs.runs.run_on.Goals as goal

pub unmount-disk-requires-clause-workers : goal.unmount-disk-requires-clause-workers
unmount-disk-requires-clause-workers g c κs within =
    let value = c.as_mut_slice.ensures.value in
    let ran = c.run_and_count-ended.ensures in
    let workers = c.in_ok-volume.field-0.workers in
    let after = c.run_and_count-ended.new.workers in
    let long : length after ≡ length workers.items = ran.count ∙ ap length value in
    let written : take workers.len (after ++ drop (length after) workers.items) ≡ after =
    ap (λ k. take k (after ++ drop (length after) workers.items)) workers.ok.0 ∙ written_over workers.items after (length workers.items) refl long
    in
    subst (AreWorkers c.in_ok-volume.field-0.volume) (sym written) ran.workers
