use Rattle.std.specs.Vec.{with_item}
use Rattle.std.proofs.Common.{◌∷◌, ◌++◌, ◌∙◌, [], ap, arith, refl, subst}
use Rattle.std.proofs.lemmas.List.{length-set}
use Rattle.std.proofs.lemmas.Option.{slice_get_within}
use Rattle.tree_laws.specs.declared.turns.TurnAct.TheVariants as act
use Rattle.slot_laws.specs.Labels.{fsync_told}
use Rattle.slot_laws.specs.Rules.{IsTurnBy}
use Rattle.slot_laws.specs.declared.label.Label.TheVariants as label
use Rattle.disk_box.specs.declared.kind.Kind.TheVariants as kind
use Rattle.disk_box.specs.Pens.{past_at}
use Rattle.disk_box.proofs.AtSlots.{kind_read}
use Rattle.disk_box.proofs.GateOpened.{AreOpening, faults_calm, open_large, open_may, open_room, open_steps, opens_flight, slot_turn_by}
use Rattle.disk_box.proofs.SlotSteps.{called_beside}
use Rattle.disk_box.proofs.WriteSteps.{called_for}
use Rattle.disk_box.proofs.steps.opening.open_one.Goals as goal
use Rattle.disk_box.proofs.CountSteps.{open_counts}
use Rattle.disk_box.proofs.StepsTold.{call_told, on_ok}

pub open-result-requires-clause-large : goal.open-result-requires-clause-large
open-result-requires-clause-large g c κs within =
    let desk = c.args.desk.now in
    let has = kind_read desk.slots.items c.args.k kind.Sealed c.index_mut.result.now c.requires.kind c.index_mut.ensures.value in
    open_large g.D.Disk.view c.args.table.now c.args.pen.now desk c.args.k c.requires.work c.requires.own has

pub slot_turn-cut-requires-clause-within : goal.slot_turn-cut-requires-clause-within
slot_turn-cut-requires-clause-within g c =
    let slots = c.args.desk.now.slots.items in
    let low = slice_get_within slots c.args.k c.requires.kind.slot c.requires.kind.there in
    let long = length-set slots c.args.k c.open-result.new.self in
    omega (arith, low, long)

pub slot_turn-opened-requires-clause-within : goal.slot_turn-opened-requires-clause-within
slot_turn-opened-requires-clause-within g c =
    let slots = c.args.desk.now.slots.items in
    let low = slice_get_within slots c.args.k c.requires.kind.slot c.requires.kind.there in
    let long = length-set slots c.args.k c.open-result.new.self in
    omega (arith, low, long)

pub push-requires : goal.push-requires
push-requires g c =
    let room = open_room g.D.Disk.view c.args.table.now c.args.pen.now c.args.desk.now c.args.k c.requires.work c.requires.own c.requires.kind in
    omega (arith, room)

pub push-requires-2 : goal.push-requires-2
push-requires-2 g c =
    let room = open_room g.D.Disk.view c.args.table.now c.args.pen.now c.args.desk.now c.args.k c.requires.work c.requires.own c.requires.kind in
    let spare = c.push.ensures.spare in
    omega (arith, room, spare)

pub note-requires-clause-may : goal.note-requires-clause-may
note-requires-clause-may g c κs within =
    let view = g.D.Disk.view in
    let pen = c.args.pen.now in
    let desk = c.args.desk.now in
    let k = c.args.k in
    let work = c.requires.work in
    let core = c.number-core.result.0 in
    let has = kind_read desk.slots.items k kind.Sealed c.index_mut.result.now c.requires.kind c.index_mut.ensures.value in
    let new = c.open-result.new.self in
    let disk = c.open-result.new.disk in
    let wrote = c.open-result.ensures in
    let slots = with_item desk.slots k new in
    let cut = c.slot_turn-cut.result in
    let opened = c.slot_turn-opened.result in
    let turns : AreOpening pen.view.core pen.table.given.faults (view disk).now has.slot cut opened = record {
      cut_by = subst (λ n. IsTurnBy cut act.CutAt n has.slot.commit (fsync_told has.slot.node has.slot.stamp)) c.number-core.ensures
          (slot_turn_by desk.slots.items k core has.slot new cut act.CutAt has.there wrote.beside c.slot_turn-cut.ensures.by);
      opened_by = subst (λ n. IsTurnBy opened act.Opened n has.slot.commit (fsync_told has.slot.node has.slot.stamp)) c.number-core.ensures
          (slot_turn_by desk.slots.items k core has.slot new opened act.Opened has.there wrote.beside c.slot_turn-opened.ensures.by);
      cut_now = c.slot_turn-cut.ensures.now;
      opened_now = c.slot_turn-opened.ensures.now;
      cut_faults = faults_calm view pen.table.given (past_at pen) desk cut.faults (view disk).faults work.fits.frame work.calm c.slot_turn-cut.ensures.faults;
      opened_faults = faults_calm view pen.table.given (past_at pen) desk opened.faults (view disk).faults work.fits.frame work.calm
          c.slot_turn-opened.ensures.faults;
    } in
    let called = called_for view desk disk slots k has.slot new c.open-result.result refl wrote in
    let later = (called_beside view desk (record desk { disk = disk; slots = slots }) c.open-result.result (work.fits.frame.laws desk.disk) called).later in
    open_may view c.args.table.now pen desk k work c.requires.own has disk cut opened turns later

pub returns-clause-steps : goal.returns-clause-steps
returns-clause-steps g c =
    let view = g.D.Disk.view in
    let pen = c.args.pen.now in
    let desk = c.args.desk.now in
    let k = c.args.k in
    let work = c.requires.work in
    let core = c.number-core.result.0 in
    let has = kind_read desk.slots.items k kind.Sealed c.index_mut.result.now c.requires.kind c.index_mut.ensures.value in
    let new = c.open-result.new.self in
    let disk = c.open-result.new.disk in
    let wrote = c.open-result.ensures in
    let slots = with_item desk.slots k new in
    let cut = c.slot_turn-cut.result in
    let opened = c.slot_turn-opened.result in
    let turns : AreOpening pen.view.core pen.table.given.faults (view disk).now has.slot cut opened = record {
      cut_by = subst (λ n. IsTurnBy cut act.CutAt n has.slot.commit (fsync_told has.slot.node has.slot.stamp)) c.number-core.ensures
          (slot_turn_by desk.slots.items k core has.slot new cut act.CutAt has.there wrote.beside c.slot_turn-cut.ensures.by);
      opened_by = subst (λ n. IsTurnBy opened act.Opened n has.slot.commit (fsync_told has.slot.node has.slot.stamp)) c.number-core.ensures
          (slot_turn_by desk.slots.items k core has.slot new opened act.Opened has.there wrote.beside c.slot_turn-opened.ensures.by);
      cut_now = c.slot_turn-cut.ensures.now;
      opened_now = c.slot_turn-opened.ensures.now;
      cut_faults = faults_calm view pen.table.given (past_at pen) desk cut.faults (view disk).faults work.fits.frame work.calm c.slot_turn-cut.ensures.faults;
      opened_faults = faults_calm view pen.table.given (past_at pen) desk opened.faults (view disk).faults work.fits.frame work.calm
          c.slot_turn-opened.ensures.faults;
    } in
    let called = called_for view desk disk slots k has.slot new c.open-result.result refl wrote in
    let later = (called_beside view desk (record desk { disk = disk; slots = slots }) c.open-result.result (work.fits.frame.laws desk.disk) called).later in
    let list = c.push-2.new.self in
    let one = c.push.ensures.spare in
    let two = c.push-2.ensures.spare in
    let items = c.push-2.ensures.items ∙ ap (λ l. l ++ opened ∷ []) c.push.ensures.items in
    open_steps view c.args.table.now pen desk k work c.requires.own has disk cut opened turns later c.note.new.pen slots list new c.open-result.result
    c.is_ok-done.result c.note.ensures.holds c.note.ensures.tells wrote refl c.is_ok-done.ensures.value items (omega (arith, one, two))

pub returns-clause-own : goal.returns-clause-own
returns-clause-own g c =
    let view = g.D.Disk.view in
    let pen = c.args.pen.now in
    let desk = c.args.desk.now in
    let k = c.args.k in
    let work = c.requires.work in
    let core = c.number-core.result.0 in
    let has = kind_read desk.slots.items k kind.Sealed c.index_mut.result.now c.requires.kind c.index_mut.ensures.value in
    let new = c.open-result.new.self in
    let disk = c.open-result.new.disk in
    let wrote = c.open-result.ensures in
    let slots = with_item desk.slots k new in
    let cut = c.slot_turn-cut.result in
    let opened = c.slot_turn-opened.result in
    let turns : AreOpening pen.view.core pen.table.given.faults (view disk).now has.slot cut opened = record {
      cut_by = subst (λ n. IsTurnBy cut act.CutAt n has.slot.commit (fsync_told has.slot.node has.slot.stamp)) c.number-core.ensures
          (slot_turn_by desk.slots.items k core has.slot new cut act.CutAt has.there wrote.beside c.slot_turn-cut.ensures.by);
      opened_by = subst (λ n. IsTurnBy opened act.Opened n has.slot.commit (fsync_told has.slot.node has.slot.stamp)) c.number-core.ensures
          (slot_turn_by desk.slots.items k core has.slot new opened act.Opened has.there wrote.beside c.slot_turn-opened.ensures.by);
      cut_now = c.slot_turn-cut.ensures.now;
      opened_now = c.slot_turn-opened.ensures.now;
      cut_faults = faults_calm view pen.table.given (past_at pen) desk cut.faults (view disk).faults work.fits.frame work.calm c.slot_turn-cut.ensures.faults;
      opened_faults = faults_calm view pen.table.given (past_at pen) desk opened.faults (view disk).faults work.fits.frame work.calm
          c.slot_turn-opened.ensures.faults;
    } in
    let called = called_for view desk disk slots k has.slot new c.open-result.result refl wrote in
    let later = (called_beside view desk (record desk { disk = disk; slots = slots }) c.open-result.result (work.fits.frame.laws desk.disk) called).later in
    let list = c.push-2.new.self in
    let one = c.push.ensures.spare in
    let two = c.push-2.ensures.spare in
    let items = c.push-2.ensures.items ∙ ap (λ l. l ++ opened ∷ []) c.push.ensures.items in
    opens_flight view c.args.table.now pen desk k work c.requires.own has disk cut opened turns later c.note.new.pen slots list new c.open-result.result
    c.is_ok-done.result c.note.ensures.holds c.note.ensures.tells wrote refl c.is_ok-done.ensures.value items (omega (arith, one, two))

pub returns-clause-tells : goal.returns-clause-tells
returns-clause-tells g c =
    record { done = c.is_ok-done.result; cut = c.slot_turn-cut.result; opened = c.slot_turn-opened.result; mine_is = c.note.ensures.tells.mine_is }

pub returns-clause-calls : goal.returns-clause-calls
returns-clause-calls g c =
    on_ok c.open-result.result
    (call_told c.args.pen.now c.note.new.pen (label.Opened c.args.k c.is_ok-done.result c.slot_turn-cut.result c.slot_turn-opened.result) c.note.ensures.tells
    refl)

pub returns-clause-counts : goal.returns-clause-counts
returns-clause-counts g c =
    let desk = c.args.desk.now in
    let has = kind_read desk.slots.items c.args.k kind.Sealed c.index_mut.result.now c.requires.kind c.index_mut.ensures.value in
    open_counts g.D.Disk.view c.args.table.now c.args.pen.now desk c.args.k c.requires.work has c.note.new.pen c.open-result.new.self
    c.is_ok-done.result c.slot_turn-cut.result c.slot_turn-opened.result c.note.ensures.tells c.open-result.result c.is_ok-done.ensures.value
