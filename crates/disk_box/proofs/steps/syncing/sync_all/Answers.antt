use Rattle.std.proofs.Common.{◌∙◌, Err, Ok, refl, sym, ap, subst, length}
use Rattle.slot_laws.specs.declared.label.Label.TheVariants as label
use Rattle.disk_box.specs.declared.desk.Desk.{Desk}
use Rattle.disk_box.specs.Serving.{IsServing}
use Rattle.disk_box.proofs.CountSteps.{sync_counts}
use Rattle.disk_box.proofs.StepsTold.{call_told}
use Rattle.disk_box.proofs.SyncSteps.{served_steps, sync_failed, synced_now, syncs_as}
use Rattle.disk_box.proofs.steps.syncing.sync_all.Goals as goal

pub returns-in-Err-clause-steps : goal.returns-in-Err-clause-steps
returns-in-Err-clause-steps g c =
    let view = g.D.Disk.view in
    let desk = c.args.desk.now in
    let disk = c.sync.new.disk in
    let sync = c.in-Err.ensures.sync in
    sync_failed view c.args.table.now c.args.pen.now desk c.requires.work disk c.in-Err.doubt.faults
    (syncs_as (view desk.disk) (view disk) (Err c.in-Err.doubt) sync) (record {
      cause = record { never_falls = sync.call.cause.never_falls; risen = sync.call.cause.risen; kept = tt };
      counted = c.in-Err.ensures.faults;
    })

pub serve_all-requires-clause-serving : goal.serve_all-requires-clause-serving
serve_all-requires-clause-serving g c κs within =
    let view = g.D.Disk.view in
    let desk = c.args.desk.now in
    let disk = c.sync.new.disk in
    let sync = c.in_default.ensures.sync in
    let beside = c.seal_all.ensures.beside in
    subst (λ (d : Desk _). IsServing view c.args.table.now c.note.new.pen d 0) (sym beside)
    (synced_now view c.args.table.now c.args.pen.now desk c.requires.work disk c.seal_all.new.desk.slots
    (record { count = c.seal_all.ensures.count; each = c.seal_all.ensures.sealed }) c.note.new.pen c.now-now.result c.note.ensures.holds c.note.ensures.tells
    (c.now-now.ensures.now ∙ ap (λ (d : Desk _). (view d.disk).now) beside)
    (syncs_as (view desk.disk) (view disk) (Ok c.in_default.field-0) sync) (record {
      cause = record { never_falls = sync.call.cause.never_falls; risen = tt; kept = sync.call.cause.kept };
      counted = tt;
    }))

pub returns-clause-steps : goal.returns-clause-steps
returns-clause-steps g c =
    let view = g.D.Disk.view in
    let desk = c.args.desk.now in
    let disk = c.sync.new.disk in
    let sync = c.in_default.ensures.sync in
    served_steps view c.args.table.now c.args.pen.now desk c.requires.work disk c.seal_all.new.desk.slots
    (record { count = c.seal_all.ensures.count; each = c.seal_all.ensures.sealed }) c.note.new.pen c.now-now.result c.note.ensures.holds c.note.ensures.tells
    (c.now-now.ensures.now ∙ ap (λ (d : Desk _). (view d.disk).now) c.seal_all.ensures.beside)
    (syncs_as (view desk.disk) (view disk) (Ok c.in_default.field-0) sync) (record {
      cause = record { never_falls = sync.call.cause.never_falls; risen = tt; kept = sync.call.cause.kept };
      counted = tt;
    }) c.serve_all.new.pen c.serve_all.new.desk (length c.serve_all.new.desk.slots.items) c.serve_all.ensures.serving c.serve_all.ensures.beside

pub returns-clause-calls : goal.returns-clause-calls
returns-clause-calls g c =
    c.serve_all.ensures.beside.calls ∙ call_told c.args.pen.now c.note.new.pen (label.Synced c.now-now.result) c.note.ensures.tells refl

pub returns-clause-counts : goal.returns-clause-counts
returns-clause-counts g c k has =
    sync_counts g.D.Disk.view c.args.table.now c.args.pen.now c.args.desk.now k c.requires.work c.note.new.pen c.serve_all.new.pen c.now-now.result
    c.note.ensures.tells c.serve_all.ensures.beside c.serve_all.ensures.told has
