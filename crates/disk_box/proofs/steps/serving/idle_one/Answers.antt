use Rattle.std.specs.Vec.{with_item}
use Rattle.std.proofs.Common.{refl}
use Rattle.slot_laws.specs.declared.label.Label.TheVariants as label
use Rattle.disk_box.specs.declared.kind.Kind.TheVariants as kind
use Rattle.disk_box.proofs.AtSlots.{kind_read}
use Rattle.disk_box.proofs.CountSteps.{idled_served}
use Rattle.disk_box.proofs.Served.{goes_told, idle_may, idle_now}
use Rattle.disk_box.proofs.steps.serving.idle_one.Goals as goal

pub note-requires-clause-may : goal.note-requires-clause-may
note-requires-clause-may g c κs within =
    idle_may g.D.Disk.view c.args.table.now c.args.pen.now c.args.desk.now c.args.k c.requires.serving c.requires.kind

pub returns-clause-serving : goal.returns-clause-serving
returns-clause-serving g c =
    let desk = c.args.desk.now in
    let has = kind_read desk.slots.items c.args.k kind.Closing c.index_mut.result.now c.requires.kind c.index_mut.ensures.value in
    idle_now g.D.Disk.view c.args.table.now c.args.pen.now desk c.args.k c.requires.serving has c.note.new.pen
    (with_item desk.slots c.args.k c.close.new.self) c.close.new.self refl c.note.ensures.holds c.note.ensures.tells c.close.ensures

pub returns-clause-beside : goal.returns-clause-beside
returns-clause-beside g c = goes_told c.args.pen.now c.note.new.pen (label.Idled c.args.k) c.note.ensures.tells tt refl refl

pub returns-clause-told : goal.returns-clause-told
returns-clause-told g c =
    idled_served g.D.Disk.view c.args.table.now c.args.pen.now c.args.desk.now c.args.k c.requires.serving c.note.new.pen c.requires.kind
    c.note.ensures.tells
