use Rattle.std.proofs.Common.{◌≡◌, ◌*◌, ◌<◌, ◌≤◌, ◌∙◌, ◌∷◌, MatchOption, None, sym, ap, subst, arith, refl, []}
use Rattle.space_map.specs.Space.{shortage}
use Rattle.space_map.specs.declared.fault.SpaceFault.{SpaceFault}
use Rattle.space_map.specs.declared.fault.SpaceFault.TheVariants.{NoMemory as WantsMemory}
use Rattle.tree_laws.specs.Tree.{TreeState}
use Rattle.tree_laws.specs.declared.turns.TurnAct.TheVariants as act
use Rattle.stamp_table.specs.declared.event.Event.{Event}
use Rattle.stamp_table.specs.declared.view.View.{View as Sight}
use Rattle.slot_laws.specs.declared.label.Label.{Label}
use Rattle.slot_laws.specs.declared.label.Label.TheVariants as label
use Rattle.slot_laws.specs.Labels.{OwnTold, own_label, fsync_told}
use Rattle.slot_laws.specs.Telling.{turn_refuses, turn_reserves}
use Rattle.disk_box.specs.declared.key.BoxKey.{BoxKey}
use Rattle.disk_box.specs.declared.desk.Desk.{Desk}
use Rattle.disk_box.specs.Pens.{PenHand, TellsLabel, WorksAtDesk, past_at, own_at}
use Rattle.disk_box.proofs.NotedRules.{granted_rule, short_rule}
use Rattle.disk_box.proofs.StepsTold.{tells_both}
use Rattle.journal_set.specs.Grants.{grant_from}
use Rattle.journal_set.specs.Telling.{TellsAtBox, TellsOf, TellsNothing}
use Rattle.journal_set.proofs.Lacking.{finds_short}
use Rattle.journal_set.proofs.Nothing.{over_calm}
use Rattle.journal_set.proofs.Parts.{grant_more, reserved_later}
use Rattle.journal_set.proofs.Working.{calm_faults, learned_none, room_beside}
use Rattle.journal_set.proofs.reserving.grant_or_refuse.Goals as goal
use Rattle.journal_set.proofs.Told.{tells_nothing}
use Rattle.journal_set.proofs.Turned.{core_kept}

pub note_turn-requires-clause-may : goal.note_turn-requires-clause-may
note_turn-requires-clause-may g c κs within =
    let t = c.args.table.now in
    let pen = c.number_commit.new.pen in
    let desk = c.number_commit.new.desk in
    let same = c.in-Err-NoSpace.ensures.err in
    let work : WorksAtDesk g.D.Disk.view t pen desk =
    subst (λ (z : PenHand g.row.D.Denot × Desk g.row.D.Denot). WorksAtDesk g.D.Disk.view t z.0 z.1) (λ i. (sym same.0 i, sym same.1 i)) c.requires.may.work
    in
    let idle = ap (λ (h : PenHand g.row.D.Denot). (own_at h).flight) same.0 ∙ c.requires.may.rests.1 in
    let by = c.turn-turn.ensures.by in
    let moment = work.fits.frame.moment in
    let now = c.turn-turn.ensures.now in
    short_rule pen.table.given.faults pen.view.core (past_at pen) c.turn-turn.result (by.core_is ∙ c.number.ensures)
    (learned_none t pen work.holds idle) (omega (arith, moment, now)) c.in-Err-NoSpace.kind c.in-Err-NoSpace.need c.in-Err-NoSpace.free by.did_is work.calm
    (calm_faults g.D.Disk.view pen.table.given (past_at pen) desk c.turn-turn.result work.fits.frame work.calm c.turn-turn.ensures.faults)

pub note_turn-requires-clause-room : goal.note_turn-requires-clause-room
note_turn-requires-clause-room g c κs within =
    let t = c.args.table.now in
    let pen = c.number_commit.new.pen in
    let same = c.in-Err-NoSpace.ensures.err in
    let room = subst (λ (z : PenHand g.row.D.Denot × Desk g.row.D.Denot). 4 * z.0.table.given.layout.cores ≤ z.1.turns.spare) (λ i. (
      sym same.0 i,
      sym same.1
          i,
    ))
    c.requires.may.room
    in
    let low = subst (λ (h : PenHand g.row.D.Denot). h.view.core < h.table.given.layout.cores) (sym same.0) c.requires.may.work.holds.core_is in
    room_beside pen.table.given.layout.cores pen.view.core c.number_commit.new.desk.turns.spare _ low room

pub note_turn-requires-2-clause-may : goal.note_turn-requires-2-clause-may
note_turn-requires-2-clause-may g c κs within =
    let t = c.args.table.now in
    let pen = c.number_commit.new.pen in
    let ok = c.in-Ok.ensures.ok in
    let idle = ap (λ (o : OwnTold). o.flight) ok.own ∙ c.requires.may.rests.1 in
    let by = c.turn-turn-2.ensures.by in
    let moment = ok.work.fits.frame.moment in
    let now = c.turn-turn-2.ensures.now in
    granted_rule pen.table.given.faults pen.view.core (past_at pen) c.turn-turn-2.result (by.core_is ∙ c.number-2.ensures)
    (learned_none t pen ok.work.holds idle) (omega (arith, moment, now)) by.did_is ok.work.calm
    (calm_faults g.D.Disk.view pen.table.given (past_at pen) c.number_commit.new.desk c.turn-turn-2.result ok.work.fits.frame ok.work.calm
    c.turn-turn-2.ensures.faults)

pub note_turn-requires-2-clause-room : goal.note_turn-requires-2-clause-room
note_turn-requires-2-clause-room g c κs within =
    let pen = c.number_commit.new.pen in
    let ok = c.in-Ok.ensures.ok in
    let key_same : pen.table.given ≡ c.args.pen.now.table.given = ap (λ (h : PenHand g.row.D.Denot). h.table.given) ok.goes.frame in
    let room : 4 * pen.table.given.layout.cores ≤ c.number_commit.new.desk.turns.spare =
    subst (λ (z : BoxKey _ × Rattle.sfs_base.specs.Lists.Roomy Rattle.tree_laws.specs.declared.turns.Turn.Turn). 4 * z.0.layout.cores ≤ z.1.spare)
    (λ i. (sym key_same i, sym ok.turns i)) c.requires.may.room
    in
    room_beside pen.table.given.layout.cores pen.view.core c.number_commit.new.desk.turns.spare _ ok.work.holds.core_is room

pub returns-in-Err-NoSpace-clause-comes : goal.returns-in-Err-NoSpace-clause-comes
returns-in-Err-NoSpace-clause-comes g c =
    let D = g.row.D.Denot in
    let same = c.in-Err-NoSpace.ensures.err in
    let by = c.turn-turn.ensures.by in
    finds_short g.D.Disk.view c.args.table.now (record { flush = fsync_told c.args.fsync.node c.args.fsync.stamp; seen = c.args.seen.now; need = c.args.need })
    c.args.pen.now c.note_turn.new.pen c.args.desk.now c.requires.may c.turn-turn.result c.in-Err-NoSpace.kind c.in-Err-NoSpace.need c.in-Err-NoSpace.free
    (record {
      did_is = by.did_is;
      core_is = by.core_is ∙ (c.number.ensures ∙ ap (λ (h : PenHand D). h.view.core) same.0);
      commit_is = by.commit_is;
      flush_is = by.flush_is;
    })
    (subst (λ (h : PenHand D). TellsLabel (label.Noted c.turn-turn.result) h c.note_turn.new.pen) same.0 c.note_turn.ensures.tells)
    (subst (λ (fault : SpaceFault). MatchOption (shortage c.args.desk.now.ledger.space c.args.need) (fault ≡ WantsMemory) (λ due. fault ≡ due))
    c.in-Err-NoSpace.field-0-is c.in-Err-NoSpace.ensures.cause)

pub returns-clause-comes : goal.returns-clause-comes
returns-clause-comes g c =
    let pen = c.number_commit.new.pen in
    let ok = c.in-Ok.ensures.ok in
    let tells = c.note_turn-2.ensures.tells in
    let by = c.turn-turn-2.ensures.by in
    let core_same : pen.view.core ≡ c.args.pen.now.view.core = ap (λ (v : Sight TreeState (Event Label)). v.core) ok.goes.view in
    record {
      number = c.in-Ok.numbered.number;
      turn = c.turn-turn-2.result;
      by = record { did_is = by.did_is; core_is = by.core_is ∙ (c.number-2.ensures ∙ core_same); commit_is = by.commit_is; flush_is = by.flush_is };
      own = tells.own ∙ ap (own_label (label.Noted c.turn-turn-2.result)) ok.own;
      grant_is = ap (λ l. grant_from l None) tells.mine_is ∙ (grant_more pen.view.mine (label.Noted c.turn-turn-2.result) pen.view.core None ∙ ok.grant);
      goes_on = over_calm c.args.table.now c.args.pen.now c.requires.may.work.holds c.requires.may.work.calm;
      newer = ok.newer;
      reserved = reserved_later pen c.note_turn-2.new.pen pen.view.core c.args.pen.now.view.core core_same tells.goes ok.reserved;
    }

pub returns-in-Err-NoSpace-clause-tells : goal.returns-in-Err-NoSpace-clause-tells
returns-in-Err-NoSpace-clause-tells g c =
    let by = c.turn-turn.ensures.by in
    subst (λ (h : PenHand g.row.D.Denot). TellsAtBox (TellsOf h.view.core 0 (fsync_told c.args.fsync.node c.args.fsync.stamp)
    (act.Short c.in-Err-NoSpace.kind c.in-Err-NoSpace.need c.in-Err-NoSpace.free)) h c.note_turn.new.pen) c.in-Err-NoSpace.ensures.err.0 (record {
      one = turn_refuses c.turn-turn.result;
      is = record { did_is = by.did_is; core_is = by.core_is ∙ c.number.ensures; commit_is = by.commit_is; flush_is = by.flush_is };
      mine_is = c.note_turn.ensures.tells.mine_is;
    })

pub returns-in-Err-NoMemory-clause-tells : goal.returns-in-Err-NoMemory-clause-tells
returns-in-Err-NoMemory-clause-tells g c =
    subst (λ (h : PenHand g.row.D.Denot). TellsAtBox TellsNothing c.args.pen.now h) (sym c.in-Err-NoMemory.ensures.err.0)
    (tells_nothing c.args.pen.now TellsNothing tt)

pub returns-clause-tells : goal.returns-clause-tells
returns-clause-tells g c =
    let pen = c.number_commit.new.pen in
    let ok = c.in-Ok.ensures.ok in
    let by = c.turn-turn-2.ensures.by in
    record {
      one = turn_reserves c.in-Ok.numbered.number ok.reserved.told c.in-Ok.numbered.grant c.turn-turn-2.result;
      is = (
        refl,
        ok.reserved.seen_is,
        record {
          did_is = by.did_is;
          core_is = by.core_is ∙ (c.number-2.ensures ∙ core_kept c.args.pen.now pen ok.goes);
          commit_is = by.commit_is;
          flush_is = by.flush_is;
        },
      );
      mine_is = tells_both c.args.pen.now pen c.note_turn-2.new.pen
          (label.Reserved c.in-Ok.numbered.number ok.reserved.told c.in-Ok.numbered.grant ∷ []) (label.Noted c.turn-turn-2.result ∷ []) ok.goes ok.tells
          c.note_turn-2.ensures.tells.mine_is;
    }
