use Rattle.std.specs.Vec.{with_item}
use Rattle.std.proofs.Common.{refl, subst}
use Rattle.slot_laws.specs.declared.label.Label.TheVariants as label
use Rattle.disk_box.specs.declared.desk.Slot.{Slot}
use Rattle.disk_box.specs.declared.kind.Kind.TheVariants as kind
use Rattle.disk_box.specs.Calls.{WritesNext}
use Rattle.disk_box.proofs.AtSlots.{kind_read, slot_read}
use Rattle.disk_box.proofs.CountSteps.{fill_counts}
use Rattle.disk_box.proofs.WriteSteps.{called_for, fill_large, fill_may, fill_steps}
use Rattle.disk_box.proofs.steps.filling.fill_one.Goals as goal
use Rattle.disk_box.proofs.StepsTold.{call_told, on_ok}

pub fill-result-requires-clause-large : goal.fill-result-requires-clause-large
fill-result-requires-clause-large g c κs within =
    let desk = c.args.desk.now in
    let has = kind_read desk.slots.items c.args.k kind.Filling c.index_mut.result.now c.requires.kind c.index_mut.ensures.value in
    fill_large g.D.Disk.view c.args.table.now c.args.pen.now desk c.args.k c.requires.work has

pub note-requires-clause-may : goal.note-requires-clause-may
note-requires-clause-may g c κs within =
    let desk = c.args.desk.now in
    let has = kind_read desk.slots.items c.args.k kind.Filling c.index.result.now c.requires.kind c.index.ensures in
    fill_may g.D.Disk.view c.args.table.now c.args.pen.now desk c.args.k c.requires.work has c.written-piece.result c.requires.own
    c.written-piece.ensures.written c.written-piece.ensures.more

pub returns-clause-steps : goal.returns-clause-steps
returns-clause-steps g c =
    let desk = c.args.desk.now in
    let has = kind_read desk.slots.items c.args.k kind.Filling c.index.result.now c.requires.kind c.index.ensures in
    let slots = with_item desk.slots c.args.k c.fill-result.new.self in
    let same = slot_read desk.slots.items c.args.k c.index_mut.result.now c.index.result.now c.requires.kind.slot c.requires.kind.there
    c.index_mut.ensures.value c.index.ensures
    in
    let wrote = subst (λ (s : Slot). WritesNext s c.fill-result.new.self (g.D.Disk.view desk.disk) (g.D.Disk.view c.fill-result.new.disk)
    c.fill-result.result) same c.fill-result.ensures
    in
    fill_steps g.D.Disk.view c.args.table.now c.args.pen.now desk c.args.k c.requires.work has c.note.new.pen
    (record desk { disk = c.fill-result.new.disk; slots = slots }) c.fill-result.new.self c.fill-result.result c.written-piece.result c.is_ok-done.result
    c.note.ensures.holds c.note.ensures.tells
    (fill_may g.D.Disk.view c.args.table.now c.args.pen.now desk c.args.k c.requires.work has c.written-piece.result c.requires.own
    c.written-piece.ensures.written c.written-piece.ensures.more)
    (called_for g.D.Disk.view desk c.fill-result.new.disk slots c.args.k c.index.result.now c.fill-result.new.self c.fill-result.result refl wrote)
    wrote refl (c.written-piece.ensures.written, c.is_ok-done.ensures.value)

pub returns-clause-counts : goal.returns-clause-counts
returns-clause-counts g c =
    let desk = c.args.desk.now in
    let has = kind_read desk.slots.items c.args.k kind.Filling c.index.result.now c.requires.kind c.index.ensures in
    let same = slot_read desk.slots.items c.args.k c.index_mut.result.now c.index.result.now c.requires.kind.slot c.requires.kind.there
    c.index_mut.ensures.value c.index.ensures
    in
    let wrote = subst (λ (s : Slot). WritesNext s c.fill-result.new.self (g.D.Disk.view desk.disk) (g.D.Disk.view c.fill-result.new.disk)
    c.fill-result.result) same c.fill-result.ensures
    in
    fill_counts g.D.Disk.view c.args.table.now c.args.pen.now desk c.args.k c.requires.work has c.note.new.pen c.fill-result.new.self
    c.written-piece.result c.is_ok-done.result c.note.ensures.tells c.fill-result.result c.written-piece.ensures.written c.is_ok-done.ensures.value wrote.ok

pub returns-clause-calls : goal.returns-clause-calls
returns-clause-calls g c =
    on_ok c.fill-result.result (call_told c.args.pen.now c.note.new.pen (label.Filled c.args.k c.written-piece.result c.is_ok-done.result)
    c.note.ensures.tells refl)
