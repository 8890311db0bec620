use Rattle.std.specs.Vec.{with_item}
use Rattle.std.proofs.Common.{refl, subst}
use Rattle.disk_box.specs.declared.kind.Kind.TheVariants as kind
use Rattle.disk_box.specs.Kind.{HasKind}
use Rattle.disk_box.proofs.AtSlots.{kind_read}
use Rattle.disk_box.proofs.CountSteps.{still_served}
use Rattle.disk_box.proofs.Served.{awaits_not, copied_now, none_filled, serves_next}
use Rattle.disk_box.proofs.steps.serving.serve_one.Goals as goal

pub returns-in-Placed-clause-serving : goal.returns-in-Placed-clause-serving
returns-in-Placed-clause-serving g c =
    let desk = c.args.desk.now in
    let has = kind_read desk.slots.items c.args.k kind.Placed c.index_mut.result.now c.in-Placed.ensures c.index_mut.ensures.value in
    copied_now g.D.Disk.view c.args.table.now c.args.pen.now desk c.args.k c.requires.serving (with_item desk.slots c.args.k c.copy.new.self)
    c.copy.new.self refl has c.copy.ensures

pub returns-in_default-clause-serving : goal.returns-in_default-clause-serving
returns-in_default-clause-serving g c =
    serves_next g.D.Disk.view c.args.table.now c.args.pen.now c.args.desk.now c.args.k c.requires.serving c.kind_at.result c.kind_at.ensures
    (awaits_not c.kind_at.result (λ filled. none_filled g.D.Disk.view c.args.table.now c.args.pen.now c.args.desk.now c.args.k c.requires.serving
    (subst (HasKind c.args.desk.now.slots.items c.args.k) filled c.kind_at.ensures)) c.in_default.not-Opened c.in_default.not-Placed c.in_default.not-Closing)

pub returns-in-Placed-clause-told : goal.returns-in-Placed-clause-told
returns-in-Placed-clause-told g c =
    still_served g.D.Disk.view c.args.table.now c.args.pen.now c.args.desk.now c.args.k c.requires.serving kind.Placed c.in-Placed.ensures
    (λ e. absurd (cc e))

pub returns-in_default-clause-told : goal.returns-in_default-clause-told
returns-in_default-clause-told g c =
    still_served g.D.Disk.view c.args.table.now c.args.pen.now c.args.desk.now c.args.k c.requires.serving c.kind_at.result c.kind_at.ensures
    c.in_default.not-Opened
