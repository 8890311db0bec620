use Rattle.std.proofs.Common.{◌≤◌, ◌∙◌, Some, refl, sym, ap, subst, arith}
use Rattle.tree_laws.specs.declared.turns.Turn.{Turn}
use Rattle.slot_laws.specs.Labels.{OwnTold, after_label}
use Rattle.slot_laws.specs.declared.label.Label.TheVariants as label
use Rattle.disk_box.specs.Pens.{past_at}
use Rattle.disk_box.proofs.Failure.{fail_at}
use Rattle.disk_box.proofs.Frames.{own_after, others_after}
use Rattle.disk_box.proofs.NotedRules.{fail_rule}
use Rattle.disk_box.proofs.Owes.{room_for, owed_ends, last_over}
use Rattle.disk_box.proofs.failing.fail_opened.Goals as goal

pub push-requires : goal.push-requires
push-requires g c =
    let pen = c.args.pen.now in
    let broken = c.requires.broken in
    room_for pen.table.given pen.view.core 1 (past_at pen) c.args.desk.now broken.holds.core_is broken.room c.requires.learned c.requires.owes

pub returns-clause-at : goal.returns-clause-at
returns-clause-at g c =
    let pen = c.args.pen.now in
    let desk = c.args.desk.now in
    let broken = c.requires.broken in
    let by = c.turn.ensures.by in
    let turn : Turn = record c.turn.result { faults = c.args.faults } in
    let learned = c.requires.learned in
    let moment = broken.frame.moment in
    let now = c.turn.ensures.now in
    let rises : (past_at pen).moment ≤ turn.now = omega (arith, moment, now) in
    let rule = fail_rule pen.table.given.faults pen.view.core (past_at pen) turn (by.core_is ∙ c.number.ensures) learned rises by.did_is broken.calm
    broken.risen
    in
    let low = broken.holds.core_is in
    let over = ap (λ (o : OwnTold). o.over) (own_after pen.table.given.layout pen.view.core (label.Noted turn) (past_at pen))
    ∙ last_over turn ((past_at pen).owns pen.view.core) by.did_is
    in
    let owes = subst (λ w. 1 ≤ Rattle.disk_box.specs.Desk.owed_of ((past_at pen).owns pen.view.core) w) (sym learned) c.requires.owes in
    let ends = owed_ends pen.table.given.layout.cores pen.view.core 1 (past_at pen)
    (after_label pen.table.given.layout pen.view.core (label.Noted turn) (past_at pen)) low owes over
    (others_after pen.table.given.layout pen.view.core (label.Noted turn) (past_at pen)) (λ other. refl)
    in
    let spare = c.push.ensures.spare in
    let room = broken.room in
    fail_at g.D.Disk.view c.args.table.now pen c.note.new.pen turn desk (record desk { turns = c.push.new.self; failed = Some c.args.faults })
    broken.holds c.note.ensures.holds c.note.ensures.tells broken.frame broken.space broken.calm rule by.did_is (broken.counted, now) refl
    c.push.ensures.items (omega (arith, ends, spare, room))

pub returns-clause-tells : goal.returns-clause-tells
returns-clause-tells g c =
    let by = c.turn.ensures.by in
    record {
      fail = record c.turn.result { faults = c.args.faults };
      by = record { did_is = by.did_is; core_is = by.core_is ∙ c.number.ensures; commit_is = by.commit_is; flush_is = by.flush_is };
      counts = refl;
      mine_is = c.note.ensures.tells.mine_is;
    }
