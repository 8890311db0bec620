use Rattle.std.proofs.Common.{◌≡◌, ◌≢◌, ◌≤◌, ◌∷◌, ◌∙◌, ℕ, [], Some, refl, sym, ap, subst, arith}
use Rattle.tree_laws.specs.Tree.{TreeState}
use Rattle.tree_laws.specs.declared.turns.Turn.{Turn}
use Rattle.stamp_table.specs.declared.event.Event.{Event}
use Rattle.stamp_table.specs.declared.view.View.{View as Sight}
use Rattle.slot_laws.specs.declared.label.Label.{Label}
use Rattle.slot_laws.specs.declared.label.Label.TheVariants as label
use Rattle.slot_laws.specs.Labels.{BoxPast, OwnTold, after_label}
use Rattle.disk_box.specs.declared.key.BoxKey.{BoxKey}
use Rattle.disk_box.specs.Desk.{owed_by, owed_of, turn_faults}
use Rattle.disk_box.specs.Pens.{PenHand, past_at}
use Rattle.disk_box.proofs.Failure.{GoesOnBroken, cut_goes_on, fail_at}
use Rattle.disk_box.proofs.Frames.{own_after, others_after}
use Rattle.disk_box.proofs.NotedRules.{cut_rule, fail_rule}
use Rattle.disk_box.proofs.StepsTold.{tells_both}
use Rattle.disk_box.proofs.Owes.{room_for, owed_ends, last_over}
use Rattle.disk_box.proofs.failing.fail_unopened.Goals as goal

pub push-requires : goal.push-requires
push-requires g c =
    let pen = c.args.pen.now in
    let broken = c.requires.broken in
    let room = room_for pen.table.given pen.view.core 2 (past_at pen) c.args.desk.now broken.holds.core_is broken.room c.requires.learned c.requires.owes in
    omega (arith, room)

pub push-requires-2 : goal.push-requires-2
push-requires-2 g c =
    let pen = c.args.pen.now in
    let broken = c.requires.broken in
    let room = room_for pen.table.given pen.view.core 2 (past_at pen) c.args.desk.now broken.holds.core_is broken.room c.requires.learned c.requires.owes in
    let spare = c.push.ensures.spare in
    omega (arith, room, spare)

pub returns-clause-at : goal.returns-clause-at
returns-clause-at g c =
    let D = g.row.D.Denot in
    let pen = c.args.pen.now in
    let mid = c.note.new.pen in
    let desk = c.args.desk.now in
    let between = record desk { turns = c.push.new.self } in
    let broken = c.requires.broken in
    let cut = c.turn-cut.result in
    let cut_by = c.turn-cut.ensures.by in
    let cut_now = c.turn-cut.ensures.now in
    let low_moment = broken.frame.moment in
    let calm_desk = broken.frame.failed ∙ broken.calm in
    let cut_faults = c.turn-cut.ensures.faults ∙ (ap (λ f. turn_faults desk.faults f (g.D.Disk.view desk.disk).faults) calm_desk ∙ broken.frame.faults) in
    let rule = cut_rule pen.table.given.faults pen.view.core (past_at pen) cut (cut_by.core_is ∙ c.number-core.ensures) c.requires.learned
    (omega (arith, low_moment, cut_now)) cut_by.did_is broken.calm cut_faults
    in
    let tells = c.note.ensures.tells in
    let on : GoesOnBroken g.D.Disk.view pen.view.core mid between = cut_goes_on g.D.Disk.view c.args.table.now pen mid cut desk between broken.holds
    c.note.ensures.holds tells broken.frame broken.space broken.calm c.requires.learned rule cut_by.did_is cut_now refl c.push.ensures.items
    in
    let core_same : mid.view.core ≡ pen.view.core = ap (λ (v : Sight TreeState (Event Label)). v.core) tells.goes.view in
    let key_same : mid.table.given ≡ pen.table.given = ap (λ (h : PenHand D). h.table.given) tells.goes.frame in
    let turn : Turn = record c.turn.result { faults = c.args.faults } in
    let by = c.turn.ensures.by in
    let now = c.turn.ensures.now in
    let mid_moment = on.frame.moment in
    let fail = fail_rule mid.table.given.faults mid.view.core (past_at mid) turn (by.core_is ∙ (c.number-core.ensures ∙ sym core_same))
    (ap (λ n. (past_at mid).waits n) core_same ∙ on.learned) (omega (arith, mid_moment, now)) by.did_is on.calm
    (subst (λ (k : BoxKey _). Rattle.sfs_base.specs.Ends.HasRisen k.faults c.args.faults) (sym key_same) broken.risen)
    in
    let later = after_label mid.table.given.layout mid.view.core (label.Noted turn) (past_at mid) in
    let over = ap (λ n. (later.owns n).over) (sym core_same) ∙ (ap (λ (o : OwnTold). o.over) (own_after mid.table.given.layout mid.view.core (label.Noted turn) (past_at mid))
    ∙ last_over turn ((past_at mid).owns mid.view.core) by.did_is)
    in
    let others : (other : ℕ) → other ≢ pen.view.core → later.owns other ≡ (past_at pen).owns other = λ other not.
    others_after mid.table.given.layout mid.view.core (label.Noted turn) (past_at mid) other (λ e. not (e ∙ core_same))
    ∙ (ap (λ (p : BoxPast). p.owns other) tells.past ∙ others_after pen.table.given.layout pen.view.core (label.Noted cut) (past_at pen) other not)
    in
    let owes = subst (λ w. 2 ≤ owed_of ((past_at pen).owns pen.view.core) w) (sym c.requires.learned) c.requires.owes in
    let ends = owed_ends pen.table.given.layout.cores pen.view.core 2 (past_at pen) later broken.holds.core_is owes over others
    (λ other. ap (λ (p : BoxPast). p.waits other) tells.past)
    in
    let spare = c.push.ensures.spare in
    let again = c.push-2.ensures.spare in
    let room = broken.room in
    let cores : owed_by mid.table.given.layout.cores later ≡ owed_by pen.table.given.layout.cores later = ap (λ (k : BoxKey _). owed_by k.layout.cores later) key_same in
    fail_at g.D.Disk.view c.args.table.now mid c.note-2.new.pen turn between (record desk { turns = c.push-2.new.self; failed = Some c.args.faults })
    c.note.ensures.holds c.note-2.ensures.holds c.note-2.ensures.tells on.frame on.space on.calm fail by.did_is (broken.counted, now) refl
    c.push-2.ensures.items (omega (arith, ends, spare, again, room, cores))

pub returns-clause-tells : goal.returns-clause-tells
returns-clause-tells g c =
    let pen = c.args.pen.now in
    let cut = c.turn-cut.result in
    let cut_by = c.turn-cut.ensures.by in
    let by = c.turn.ensures.by in
    let fail : Turn = record c.turn.result { faults = c.args.faults } in
    record {
      cut = cut;
      fail = fail;
      cut_by = record { did_is = cut_by.did_is; core_is = cut_by.core_is ∙ c.number-core.ensures; commit_is = cut_by.commit_is; flush_is = cut_by.flush_is };
      fail_by = record { did_is = by.did_is; core_is = by.core_is ∙ c.number-core.ensures; commit_is = by.commit_is; flush_is = by.flush_is };
      counts = refl;
      mine_is = tells_both pen c.note.new.pen c.note-2.new.pen (label.Noted cut ∷ []) (label.Noted fail ∷ []) c.note.ensures.tells.goes
          c.note.ensures.tells.mine_is c.note-2.ensures.tells.mine_is;
    }
