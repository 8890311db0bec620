use Rattle.std.specs.Vec.{with_item}
use Rattle.std.proofs.Common.{refl}
use Rattle.slot_laws.specs.declared.label.Label.TheVariants as label
use Rattle.disk_box.specs.declared.kind.Kind.TheVariants as kind
use Rattle.disk_box.proofs.AtSlots.{kind_read}
use Rattle.disk_box.proofs.WriteSteps.{called_for, shut_large, shut_may, shut_steps}
use Rattle.disk_box.proofs.steps.shutting.shut_one.Goals as goal
use Rattle.disk_box.proofs.StepsTold.{call_told, on_ok}

pub shut-result-requires-clause-large : goal.shut-result-requires-clause-large
shut-result-requires-clause-large g c κs within =
    let desk = c.args.desk.now in
    let has = kind_read desk.slots.items c.args.k kind.Copied c.index_mut.result.now c.requires.kind c.index_mut.ensures.value in
    shut_large g.D.Disk.view c.args.table.now c.args.pen.now desk c.args.k c.requires.work has

pub note-requires-clause-may : goal.note-requires-clause-may
note-requires-clause-may g c κs within =
    shut_may g.D.Disk.view c.args.table.now c.args.pen.now c.args.desk.now c.args.k c.requires.work c.requires.kind

pub returns-clause-steps : goal.returns-clause-steps
returns-clause-steps g c =
    let desk = c.args.desk.now in
    let has = kind_read desk.slots.items c.args.k kind.Copied c.index_mut.result.now c.requires.kind c.index_mut.ensures.value in
    let slots = with_item desk.slots c.args.k c.shut-result.new.self in
    shut_steps g.D.Disk.view c.args.table.now c.args.pen.now desk c.args.k c.requires.work has c.note.new.pen
    (record desk { disk = c.shut-result.new.disk; slots = slots }) c.shut-result.new.self c.shut-result.result c.is_ok-done.result
    c.note.ensures.holds c.note.ensures.tells
    (called_for g.D.Disk.view desk c.shut-result.new.disk slots c.args.k c.index_mut.result.now c.shut-result.new.self c.shut-result.result refl
    c.shut-result.ensures)
    c.shut-result.ensures refl c.is_ok-done.ensures.value

pub returns-clause-calls : goal.returns-clause-calls
returns-clause-calls g c =
    on_ok c.shut-result.result (call_told c.args.pen.now c.note.new.pen (label.Shut c.args.k c.is_ok-done.result) c.note.ensures.tells refl)
