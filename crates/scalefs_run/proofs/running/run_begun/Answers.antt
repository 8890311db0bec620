-- A volume is begun, runs the phases and is unmounted.
use Rattle.std.proofs.Common.{List, length, sym, ap, subst, ◌∙◌}
use Rattle.std.proofs.lemmas.Result.{IfOk-weaker}
use Rattle.tree_laws.specs.Tree.{TreeState}
use Rattle.disk_box.specs.Pens.{PenHand}
use Rattle.workers.specs.declared.worker.Worker.{Worker}
use Rattle.mount.specs.Ends.{LeavesVolume}
use Rattle.mount.specs.Workers.{AreWorkers, HaveMadeNothing}
use Rattle.scalefs_run.specs.Writing.{text_behind}
use Rattle.scalefs_run.proofs.Made.{has_calls, of_workers}
use Rattle.scalefs_run.proofs.Ran.{leaves_run}
use Rattle.scalefs_run.proofs.Within.{written_back}
use Rattle.scalefs_run.proofs.running.run_begun.Goals as goal

pub run_on-ended-requires-clause-none : goal.run_on-ended-requires-clause-none
run_on-ended-requires-clause-none g c κs within =
    subst (λ (l : List (Worker (PenHand _))). HaveMadeNothing l) (sym c.deref_mut.ensures.value) c.in-Ok.ensures.new

pub unmount-disk-requires-clause-workers : goal.unmount-disk-requires-clause-workers
unmount-disk-requires-clause-workers g c κs within =
    let ran = c.run_on-ended in
    let old = c.in-Ok.mounted.workers in
    subst (AreWorkers c.in-Ok.mounted.volume) (sym (written_back old.len ran.new.workers old.items (ran.ensures.count ∙ ap length c.deref_mut.ensures.value)
    (sym c.deref_mut.ensures.len ∙ ap length c.deref_mut.ensures.value))) ran.ensures.workers

pub returns-clause-leaves : goal.returns-clause-leaves
returns-clause-leaves g c old was =
    let view = g.D.Disk.view in
    let ran = c.run_on-ended in
    let volume = c.in-Ok.mounted.volume in
    let workers = ran.new.workers in
    let left = c.unmount-disk.result in
    let vec = c.in-Ok.mounted.workers in
    let leaves =
    subst (λ (w : List (Worker (PenHand g.row.D.Denot))). LeavesVolume view volume w left.0 left.1 left.2.items)
    (written_back vec.len workers vec.items
    (ran.ensures.count ∙ ap length c.deref_mut.ensures.value) (sym c.deref_mut.ensures.len ∙ ap length c.deref_mut.ensures.value))
    c.unmount-disk.ensures.leaves
    in
    leaves_run view c.args.nodes old left.0 volume left.1 left.2.items
    (record {
      workers = workers;
      leaves = leaves;
      survives = c.unmount-disk.ensures.survives;
      mounted = c.in-Ok.ensures.mounts old was;
    }) c.args.begun.tree c.in-Ok.ensures.first

pub returns-clause-calls : goal.returns-clause-calls
returns-clause-calls g c =
    let ran = c.run_on-ended in
    let volume = c.in-Ok.mounted.volume in
    let workers = ran.new.workers in
    let left = c.unmount-disk.result in
    let old = c.in-Ok.mounted.workers in
    has_calls volume.table.first left.1 workers c.args.phases.now ran.result.0
    (of_workers g.D.Disk.view volume workers left.0 left.1 left.2.items c.in-Ok.ensures.volume ran.ensures.workers
    (subst (λ (w : List (Worker (PenHand _))). LeavesVolume g.D.Disk.view volume w left.0 left.1 left.2.items) (written_back old.len workers old.items
    (ran.ensures.count ∙ ap length c.deref_mut.ensures.value) (sym c.deref_mut.ensures.len ∙ ap length c.deref_mut.ensures.value))
    c.unmount-disk.ensures.leaves))
    ran.ensures.ok ran.ensures.err

pub returns-clause-due : goal.returns-clause-due
returns-clause-due g c =
    let view = g.D.Disk.view in
    let ran = c.run_on-ended in
    let volume = c.in-Ok.mounted.volume in
    let workers = ran.new.workers in
    let left = c.unmount-disk.result in
    let vec = c.in-Ok.mounted.workers in
    let leaves =
    subst (λ (w : List (Worker (PenHand g.row.D.Denot))). LeavesVolume view volume w left.0 left.1 left.2.items)
    (written_back vec.len workers vec.items
    (ran.ensures.count ∙ ap length c.deref_mut.ensures.value) (sym c.deref_mut.ensures.len ∙ ap length c.deref_mut.ensures.value))
    c.unmount-disk.ensures.leaves
    in
    IfOk-weaker ran.result.1 _ _
    (λ ending ends. ends left.0 left.1 left.2.items leaves ∙ ap (λ (t : TreeState). text_behind c.args.writing t left.1) c.in-Ok.ensures.first)
    ran.ensures.due
