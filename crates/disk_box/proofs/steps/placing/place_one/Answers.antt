use Rattle.std.specs.Vec.{with_item}
use Rattle.std.proofs.Common.{refl, subst}
use Rattle.slot_laws.specs.declared.label.Label.TheVariants as label
use Rattle.disk_box.specs.declared.desk.Slot.{Slot}
use Rattle.disk_box.specs.declared.kind.Kind.TheVariants as kind
use Rattle.disk_box.specs.Calls.{WritesNext}
use Rattle.disk_box.proofs.AtSlots.{kind_read, slot_read}
use Rattle.disk_box.proofs.WriteSteps.{called_for, place_large, place_may, place_steps}
use Rattle.disk_box.proofs.steps.placing.place_one.Goals as goal
use Rattle.disk_box.proofs.StepsTold.{call_told, on_ok}

pub place-result-requires-clause-large : goal.place-result-requires-clause-large
place-result-requires-clause-large g c κs within =
    let desk = c.args.desk.now in
    let has = kind_read desk.slots.items c.args.k kind.Durable c.index_mut.result.now c.requires.kind c.index_mut.ensures.value in
    place_large g.D.Disk.view c.args.table.now c.args.pen.now desk c.args.k c.requires.work has

pub note-requires-clause-may : goal.note-requires-clause-may
note-requires-clause-may g c κs within =
    let desk = c.args.desk.now in
    let has = kind_read desk.slots.items c.args.k kind.Durable c.index.result.now c.requires.kind c.index.ensures in
    let oldest = c.requires.oldest has.slot has.there in
    place_may g.D.Disk.view c.args.table.now c.args.pen.now desk c.args.k c.requires.work has c.written-record.result oldest
    c.written-record.ensures.written c.written-record.ensures.more

pub returns-clause-steps : goal.returns-clause-steps
returns-clause-steps g c =
    let desk = c.args.desk.now in
    let has = kind_read desk.slots.items c.args.k kind.Durable c.index.result.now c.requires.kind c.index.ensures in
    let oldest = c.requires.oldest has.slot has.there in
    let slots = with_item desk.slots c.args.k c.place-result.new.self in
    let same = slot_read desk.slots.items c.args.k c.index_mut.result.now c.index.result.now c.requires.kind.slot c.requires.kind.there
    c.index_mut.ensures.value c.index.ensures
    in
    let wrote = subst (λ (s : Slot). WritesNext s c.place-result.new.self (g.D.Disk.view desk.disk) (g.D.Disk.view c.place-result.new.disk)
    c.place-result.result) same c.place-result.ensures
    in
    place_steps g.D.Disk.view c.args.table.now c.args.pen.now desk c.args.k c.requires.work has c.note.new.pen
    (record desk { disk = c.place-result.new.disk; slots = slots }) c.place-result.new.self c.place-result.result c.written-record.result c.is_ok-done.result
    c.note.ensures.holds c.note.ensures.tells
    (place_may g.D.Disk.view c.args.table.now c.args.pen.now desk c.args.k c.requires.work has c.written-record.result oldest
    c.written-record.ensures.written c.written-record.ensures.more)
    (called_for g.D.Disk.view desk c.place-result.new.disk slots c.args.k c.index.result.now c.place-result.new.self c.place-result.result refl wrote)
    wrote refl (c.written-record.ensures.written, c.is_ok-done.ensures.value)

pub returns-clause-calls : goal.returns-clause-calls
returns-clause-calls g c =
    on_ok c.place-result.result (call_told c.args.pen.now c.note.new.pen (label.Placed c.args.k c.written-record.result c.is_ok-done.result)
    c.note.ensures.tells refl)
