use Rattle.std.proofs.Common.{◌≡◌, ◌∷◌, ◌++◌, ◌∙◌, [], None, refl, sym, ap, subst, arith, append_assoc}
use Rattle.tree_laws.specs.declared.turns.TurnAct.TheVariants as act
use Rattle.cut_laws.specs.Closure.{Flush}
use Rattle.slot_laws.specs.declared.label.Label.TheVariants as label
use Rattle.slot_laws.specs.Labels.{OwnTold, fsync_told}
use Rattle.slot_laws.specs.Nodes.{no_numbers}
use Rattle.slot_laws.specs.Rules.{IsTurnBy}
use Rattle.commit_ledger.specs.Calls.{HasEntered}
use Rattle.commit_ledger.specs.View.{number_in}
use Rattle.disk_box.specs.declared.desk.Desk.{Desk}
use Rattle.disk_box.specs.Pens.{past_at}
use Rattle.disk_box.proofs.After.{at_told, past_fits_at}
use Rattle.disk_box.proofs.Owes.{owns_own, room_for}
use Rattle.journal_set.proofs.Emptied.{ThreeTurns, emptied_fits, empty_rule}
use Rattle.journal_set.proofs.Grants.{has_reserved}
use Rattle.journal_set.proofs.Returned.{may_return, none_waits, number_there, owed_three}
use Rattle.journal_set.proofs.Working.{calm_faults}
use Rattle.journal_set.proofs.emptying.end_at_once.Goals as goal

pub push-requires : goal.push-requires
push-requires g c =
    let t = c.args.table.now in
    let pen = c.args.pen.now in
    let desk = c.args.desk.now in
    let work = c.requires.work in
    let fits = past_fits_at t pen work.holds in
    let own = owns_own t pen work.holds in
    let reserved = ap (λ (o : OwnTold). o.reserved) own ∙ c.requires.reserved in
    let over = ap (λ (o : OwnTold). o.over) own ∙ c.requires.goes_on in
    let three = owed_three g.D.Disk.view pen.table.given pen.view.core (past_at pen) fits desk work.fits.frame work.holds.core_is c.args.number reserved
    ((past_at pen).owns pen.view.core) reserved over
    in
    let room = room_for pen.table.given pen.view.core 3 (past_at pen) desk work.holds.core_is work.fits.room
    (none_waits g.D.Disk.view pen.table.given pen.view.core (past_at pen) fits desk work.fits.frame work.holds.core_is c.args.number reserved)
    (omega (arith, three))
    in
    omega (arith, room)

pub push-requires-2 : goal.push-requires-2
push-requires-2 g c =
    let t = c.args.table.now in
    let pen = c.args.pen.now in
    let desk = c.args.desk.now in
    let work = c.requires.work in
    let fits = past_fits_at t pen work.holds in
    let own = owns_own t pen work.holds in
    let reserved = ap (λ (o : OwnTold). o.reserved) own ∙ c.requires.reserved in
    let over = ap (λ (o : OwnTold). o.over) own ∙ c.requires.goes_on in
    let three = owed_three g.D.Disk.view pen.table.given pen.view.core (past_at pen) fits desk work.fits.frame work.holds.core_is c.args.number reserved
    ((past_at pen).owns pen.view.core) reserved over
    in
    let room = room_for pen.table.given pen.view.core 3 (past_at pen) desk work.holds.core_is work.fits.room
    (none_waits g.D.Disk.view pen.table.given pen.view.core (past_at pen) fits desk work.fits.frame work.holds.core_is c.args.number reserved)
    (omega (arith, three))
    in
    let spare = c.push.ensures.spare in
    omega (arith, room, spare)

pub push-requires-3 : goal.push-requires-3
push-requires-3 g c =
    let t = c.args.table.now in
    let pen = c.args.pen.now in
    let desk = c.args.desk.now in
    let work = c.requires.work in
    let fits = past_fits_at t pen work.holds in
    let own = owns_own t pen work.holds in
    let reserved = ap (λ (o : OwnTold). o.reserved) own ∙ c.requires.reserved in
    let over = ap (λ (o : OwnTold). o.over) own ∙ c.requires.goes_on in
    let three = owed_three g.D.Disk.view pen.table.given pen.view.core (past_at pen) fits desk work.fits.frame work.holds.core_is c.args.number reserved
    ((past_at pen).owns pen.view.core) reserved over
    in
    let room = room_for pen.table.given pen.view.core 3 (past_at pen) desk work.holds.core_is work.fits.room
    (none_waits g.D.Disk.view pen.table.given pen.view.core (past_at pen) fits desk work.fits.frame work.holds.core_is c.args.number reserved)
    (omega (arith, three))
    in
    let spare = c.push.ensures.spare in
    let again = c.push-2.ensures.spare in
    omega (arith, room, spare, again)

pub note-requires-clause-may : goal.note-requires-clause-may
note-requires-clause-may g c κs within =
    let pen = c.args.pen.now in
    let desk = c.args.desk.now in
    let work = c.requires.work in
    let view = g.D.Disk.view in
    let flush : Flush = fsync_told c.args.fsync.node c.args.fsync.stamp in
    let reserved = ap (λ (o : OwnTold). o.reserved) (owns_own c.args.table.now pen work.holds) ∙ c.requires.reserved in
    let one = c.turn-cut.ensures in
    let two = c.turn-opened.ensures in
    let last = c.turn-durable.ensures in
    let three : ThreeTurns pen.table.given.faults pen.view.core c.args.number (view desk.disk).now flush c.turn-cut.result c.turn-opened.result
    c.turn-durable.result = record {
      cut_is = subst (λ n. IsTurnBy c.turn-cut.result act.CutAt n c.args.number flush) c.number-core.ensures one.by;
      opened_is = subst (λ n. IsTurnBy c.turn-opened.result act.Opened n c.args.number flush) c.number-core.ensures two.by;
      durable_is = subst (λ n. IsTurnBy c.turn-durable.result act.Durable n c.args.number flush) c.number-core.ensures last.by;
      cut_now = (one.now, calm_faults view pen.table.given (past_at pen) desk c.turn-cut.result work.fits.frame work.calm one.faults);
      opened_now = (two.now, calm_faults view pen.table.given (past_at pen) desk c.turn-opened.result work.fits.frame work.calm two.faults);
      durable_now = (last.now, calm_faults view pen.table.given (past_at pen) desk c.turn-durable.result work.fits.frame work.calm last.faults);
    } in
    empty_rule view pen.table.given pen.view.core (past_at pen) (past_fits_at c.args.table.now pen work.holds) desk work.fits.frame work.holds.core_is
    c.args.number reserved work.calm flush c.turn-cut.result c.turn-opened.result c.turn-durable.result three

pub end_empty-requires : goal.end_empty-requires
end_empty-requires g c =
    let t = c.args.table.now in
    let pen = c.args.pen.now in
    let work = c.requires.work in
    let has = has_reserved t pen no_numbers work.holds c.requires.grant in
    record {
      may = subst (λ n. HasEntered n c.args.desk.now.ledger) (sym c.number-core.ensures)
          (may_return g.D.Disk.view pen.table.given pen.view.core (past_at pen) (past_fits_at t pen work.holds) c.args.desk.now work.fits.frame
          work.holds.core_is has.number has.reserved no_numbers has.was).entered;
    }

pub returns-clause-at : goal.returns-clause-at
returns-clause-at g c =
    let t = c.args.table.now in
    let pen = c.args.pen.now in
    let desk = c.args.desk.now in
    let work = c.requires.work in
    let view = g.D.Disk.view in
    let fits = past_fits_at t pen work.holds in
    let flush : Flush = fsync_told c.args.fsync.node c.args.fsync.stamp in
    let own = owns_own t pen work.holds in
    let reserved = ap (λ (o : OwnTold). o.reserved) own ∙ c.requires.reserved in
    let over = ap (λ (o : OwnTold). o.over) own ∙ c.requires.goes_on in
    let one = c.turn-cut.ensures in
    let two = c.turn-opened.ensures in
    let last = c.turn-durable.ensures in
    let three : ThreeTurns pen.table.given.faults pen.view.core c.args.number (view desk.disk).now flush c.turn-cut.result c.turn-opened.result
    c.turn-durable.result = record {
      cut_is = subst (λ n. IsTurnBy c.turn-cut.result act.CutAt n c.args.number flush) c.number-core.ensures one.by;
      opened_is = subst (λ n. IsTurnBy c.turn-opened.result act.Opened n c.args.number flush) c.number-core.ensures two.by;
      durable_is = subst (λ n. IsTurnBy c.turn-durable.result act.Durable n c.args.number flush) c.number-core.ensures last.by;
      cut_now = (one.now, calm_faults view pen.table.given (past_at pen) desk c.turn-cut.result work.fits.frame work.calm one.faults);
      opened_now = (two.now, calm_faults view pen.table.given (past_at pen) desk c.turn-opened.result work.fits.frame work.calm two.faults);
      durable_now = (last.now, calm_faults view pen.table.given (past_at pen) desk c.turn-durable.result work.fits.frame work.calm last.faults);
    } in
    let has = has_reserved t pen no_numbers work.holds c.requires.grant in
    let same : has.number ≡ c.args.number = Rattle.sfs_base.proofs.BasicOptions.some_same (sym has.reserved ∙ reserved) in
    let there = ap (number_in desk.ledger) c.number-core.ensures
    ∙ number_there view pen.table.given pen.view.core (past_at pen) fits desk work.fits.frame work.holds.core_is c.args.number reserved
    in
    let turns : Rattle.slot_laws.specs.Rules.EmptyTurns = record { cut = c.turn-cut.result; opened = c.turn-opened.result; durable = c.turn-durable.result } in
    let goes = c.end_empty.ensures.goes (past_at pen) c.args.number turns work.fits.frame.ledger there
    (subst (λ n. Rattle.commit_ledger.specs.Keeps.WasGranted (past_at pen).opens n no_numbers) same has.was)
    in
    let opens = c.end_empty.ensures.ends.ends.opens ∙ ap (λ n. Rattle.std.proofs.Common.slice_set desk.ledger.opens n None) c.number-core.ensures in
    let now : Desk g.row.D.Denot = record desk { ledger = c.end_empty.new.self; turns = c.push-3.new.self } in
    let items = c.push-3.ensures.items ∙ ap (λ l. l ++ c.turn-durable.result ∷ []) (c.push-2.ensures.items
    ∙ ap (λ l. l ++ c.turn-opened.result ∷ []) c.push.ensures.items)
    in
    let all = items ∙ (ap (λ l. l ++ c.turn-durable.result ∷ []) (append_assoc desk.turns.items (c.turn-cut.result ∷ []) (c.turn-opened.result ∷ []))
    ∙ append_assoc desk.turns.items (c.turn-cut.result ∷ c.turn-opened.result ∷ []) (c.turn-durable.result ∷ []))
    in
    let first = c.push.ensures.spare in
    let second = c.push-2.ensures.spare in
    let third = c.push-3.ensures.spare in
    at_told view t pen c.note.new.pen (label.Empty c.args.number c.turn-cut.result c.turn-opened.result c.turn-durable.result) c.note.ensures.holds
    c.note.ensures.tells desk now work.space (goes.space (record { 0 = pen.view.core }))
    (emptied_fits view pen.table.given pen.view.core (past_at pen) fits desk work.fits.frame work.holds.core_is c.args.number reserved work.calm flush
    c.turn-cut.result c.turn-opened.result c.turn-durable.result three now refl opens goes all (omega (arith, first, second, third)) work.fits over)

pub returns-clause-tells : goal.returns-clause-tells
returns-clause-tells g c =
    let flush : Flush = fsync_told c.args.fsync.node c.args.fsync.stamp in
    record {
      cut = c.turn-cut.result;
      opened = c.turn-opened.result;
      durable = c.turn-durable.result;
      cut_by = subst (λ n. IsTurnBy c.turn-cut.result act.CutAt n c.args.number flush) c.number-core.ensures c.turn-cut.ensures.by;
      opened_by = subst (λ n. IsTurnBy c.turn-opened.result act.Opened n c.args.number flush) c.number-core.ensures c.turn-opened.ensures.by;
      durable_by = subst (λ n. IsTurnBy c.turn-durable.result act.Durable n c.args.number flush) c.number-core.ensures c.turn-durable.ensures.by;
      moment = refl;
      mine_is = c.note.ensures.tells.mine_is;
    }
