use Rattle.std.proofs.Common.{◌≡◌, ◌∙◌, ◌++◌, List, drop, length, map, refl, sym, ap, subst, take}
use Rattle.stamp_table.specs.Table.{TableState}
use Rattle.stamp_table.proofs.Exchanging.{written_over}
use Rattle.mem_values.specs.Start.{FileState}
use Rattle.disk_box.specs.declared.key.BoxKey.{BoxKey}
use Rattle.mount.specs.Workers.{AreWorkers}
use Rattle.library_example.specs.Seats.{AllAreBack, AllRest, worker_at}
use Rattle.library_example.specs.declared.seats.Seat.{Seat}
use Rattle.library_example.proofs.Back.{all_rest, seats_again}
use Rattle.library_example.proofs.visit.visit.Goals as goal

pub run_all-requires-clause-rest : goal.run_all-requires-clause-rest
run_all-requires-clause-rest g c κs within =
    let site = c.site.ensures in
    let value = c.as_mut_slice.ensures.value in
    let volume = c.in_ok-volume.field-0.volume in
    let seats = c.in_ok-seats.seats.items in
    let are : AreWorkers volume (map worker_at seats) = subst (AreWorkers volume) (sym c.in_ok-seats.ensures) c.in_ok-volume.ensures.workers in
    subst (λ (z : FileState × TableState (BoxKey g.row.D.Denot) × List (Seat g.row.D.Denot)). AllRest z.0 z.1 z.2)
    (λ i. (sym site.table i, sym site.set i, sym value i)) (all_rest volume seats are)

pub unmount-disk-requires-clause-workers : goal.unmount-disk-requires-clause-workers
unmount-disk-requires-clause-workers g c κs within =
    let site = c.site.ensures in
    let value = c.as_mut_slice.ensures.value in
    let ran = c.run_all.ensures in
    let volume = c.in_ok-volume.field-0.volume in
    let seats = c.in_ok-seats.seats.items in
    let after = c.run_all.new.seats in
    let are : AreWorkers volume (map worker_at seats) = subst (AreWorkers volume) (sym c.in_ok-seats.ensures) c.in_ok-volume.ensures.workers in
    let back : AllAreBack volume.table volume.set seats after =
    subst (λ (z : FileState × TableState (BoxKey g.row.D.Denot) × List (Seat g.row.D.Denot)). AllAreBack z.0 z.1 z.2 after)
    (λ i. (site.table i, site.set i, value i)) ran.back
    in
    let long : length after ≡ length seats = ran.count ∙ ap length value in
    let written : take c.in_ok-seats.seats.len (after ++ drop (length after) seats) ≡ after =
    ap (λ k. take k (after ++ drop (length after) seats)) c.in_ok-seats.seats.ok.0 ∙ written_over seats after (length seats) refl long
    in
    subst (AreWorkers volume) (sym (c.in_ok-workers.ensures ∙ ap (map worker_at) written)) (seats_again volume seats after long back are)

pub returns : goal.returns
returns g c =
    let mounted = c.in_ok-volume.ensures.mounts in
    let left = c.unmount-disk.ensures in
    record {
      volume = c.in_ok-volume.field-0.volume;
      workers = c.in_ok-workers.workers.items;
      mounted = mounted;
      leaves = left.leaves;
      survives = left.survives c.args.nodes c.args.disk mounted;
    }
