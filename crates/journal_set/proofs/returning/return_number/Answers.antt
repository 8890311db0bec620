use Rattle.std.proofs.Common.{◌≡◌, ◌∙◌, ◌∷◌, Some, sym, ap, subst, arith, refl, []}
use Rattle.sfs_base.proofs.BasicOptions.{some_not_none, some_same}
use Rattle.slot_laws.specs.declared.label.Label.TheVariants as label
use Rattle.slot_laws.specs.Labels.{OwnTold, after_label, own_label}
use Rattle.slot_laws.specs.Telling.{turn_returns}
use Rattle.commit_ledger.specs.View.{number_in}
use Rattle.commit_ledger.specs.Calls.{MayReturn, Returns}
use Rattle.commit_ledger.specs.Keeps.{LedgerGoes}
use Rattle.disk_box.specs.Desk.{owed_by}
use Rattle.disk_box.specs.Pens.{PenHand, past_at}
use Rattle.disk_box.proofs.After.{at_told, past_fits_at}
use Rattle.disk_box.proofs.Owes.{owns_own}
use Rattle.disk_box.proofs.StepsTold.{tells_both}
use Rattle.journal_set.proofs.Grants.{has_reserved}
use Rattle.journal_set.proofs.Returned.{may_return, number_there, returned_fits, room_returned}
use Rattle.journal_set.proofs.Working.{owed_by_noted}
use Rattle.journal_set.proofs.returning.return_number.Goals as goal

pub unreachable-requires : goal.unreachable-requires
unreachable-requires g c =
    let pen = c.args.pen.now in
    let at = c.requires.at in
    let has = has_reserved c.args.table.now pen c.args.grant at.holds c.requires.grant in
    let there = number_there g.D.Disk.view pen.table.given pen.view.core (past_at pen) (past_fits_at c.args.table.now pen at.holds) c.args.desk.now
    at.fits.frame at.holds.core_is has.number has.reserved
    in
    some_not_none (sym there ∙ (ap (number_in c.args.desk.now.ledger) (sym c.number-core.ensures) ∙ (sym c.number.ensures ∙ c.in_default.is)))

pub note-requires-clause-may : goal.note-requires-clause-may
note-requires-clause-may g c κs within =
    let pen = c.args.pen.now in
    let at = c.requires.at in
    let has = has_reserved c.args.table.now pen c.args.grant at.holds c.requires.grant in
    let there = number_there g.D.Disk.view pen.table.given pen.view.core (past_at pen) (past_fits_at c.args.table.now pen at.holds) c.args.desk.now
    at.fits.frame at.holds.core_is has.number has.reserved
    in
    has.reserved ∙ (sym there ∙ (ap (number_in c.args.desk.now.ledger) (sym c.number-core.ensures) ∙ (sym c.number.ensures ∙ c.in-Some.is)))

pub give_back-requires : goal.give_back-requires
give_back-requires g c =
    let pen = c.args.pen.now in
    let at = c.requires.at in
    let has = has_reserved c.args.table.now pen c.args.grant at.holds c.requires.grant in
    record {
      may = subst (λ n. MayReturn n c.args.grant c.args.desk.now.ledger) (sym c.number-core.ensures)
          (may_return g.D.Disk.view pen.table.given pen.view.core (past_at pen) (past_fits_at c.args.table.now pen at.holds) c.args.desk.now
          at.fits.frame at.holds.core_is has.number has.reserved c.args.grant has.was);
    }

pub note_turn-requires-clause-at : goal.note_turn-requires-clause-at
note_turn-requires-clause-at g c κs within =
    let t = c.args.table.now in
    let pen = c.args.pen.now in
    let desk = c.args.desk.now in
    let at = c.requires.at in
    let has = has_reserved t pen c.args.grant at.holds c.requires.grant in
    let fits = past_fits_at t pen at.holds in
    let there = number_there g.D.Disk.view pen.table.given pen.view.core (past_at pen) fits desk at.fits.frame at.holds.core_is has.number has.reserved in
    let same : has.number ≡ c.in-Some.number =
    some_same (sym there ∙ (ap (number_in desk.ledger) (sym c.number-core.ensures) ∙ (sym c.number.ensures ∙ c.in-Some.is)))
    in
    let reserved = has.reserved ∙ ap Some same in
    let returns : Returns pen.view.core c.args.grant desk.ledger c.give_back.new.self =
    subst (λ n. Returns n c.args.grant desk.ledger c.give_back.new.self) c.number-core.ensures c.give_back.ensures.returns
    in
    let goes : LedgerGoes (label.Returned c.in-Some.number) (past_at pen) desk.ledger c.give_back.new.self =
    c.give_back.ensures.goes (past_at pen) c.in-Some.number at.fits.frame.ledger (sym c.number.ensures ∙ c.in-Some.is)
    (subst (λ n. Rattle.commit_ledger.specs.Keeps.WasGranted (past_at pen).opens n c.args.grant) same has.was)
    in
    let over = ap (λ (o : OwnTold). o.over) (owns_own t pen at.holds) ∙ c.requires.goes_on in
    at_told g.D.Disk.view t pen c.note.new.pen (label.Returned c.in-Some.number) c.note.ensures.holds c.note.ensures.tells desk
    (record desk { ledger = c.give_back.new.self }) at.space (goes.space (record { 0 = pen.view.core }))
    (returned_fits g.D.Disk.view pen.table.given pen.view.core (past_at pen) fits desk at.fits.frame at.holds.core_is c.in-Some.number reserved
    c.give_back.new.self c.args.grant returns goes at.fits over)

pub note_turn-requires-clause-room : goal.note_turn-requires-clause-room
note_turn-requires-clause-room g c κs within =
    let t = c.args.table.now in
    let pen = c.args.pen.now in
    let mid = c.note.new.pen in
    let desk = c.args.desk.now in
    let at = c.requires.at in
    let has = has_reserved t pen c.args.grant at.holds c.requires.grant in
    let fits = past_fits_at t pen at.holds in
    let there = number_there g.D.Disk.view pen.table.given pen.view.core (past_at pen) fits desk at.fits.frame at.holds.core_is has.number has.reserved in
    let same : has.number ≡ c.in-Some.number =
    some_same (sym there ∙ (ap (number_in desk.ledger) (sym c.number-core.ensures) ∙ (sym c.number.ensures ∙ c.in-Some.is)))
    in
    let over = ap (λ (o : OwnTold). o.over) (owns_own t pen at.holds) ∙ c.requires.goes_on in
    let less = room_returned g.D.Disk.view pen.table.given pen.view.core (past_at pen) fits desk at.fits.frame at.holds.core_is c.in-Some.number
    (has.reserved ∙ ap Some same) over
    in
    let tells = c.note.ensures.tells in
    let key : mid.table.given ≡ pen.table.given = ap (λ (h : PenHand g.row.D.Denot). h.table.given) tells.goes.frame in
    let now : owed_by mid.table.given.layout.cores (past_at mid) ≡ owed_by pen.table.given.layout.cores
    (after_label pen.table.given.layout pen.view.core (label.Returned c.in-Some.number) (past_at pen)) =
    λ i. owed_by (key i).layout.cores (tells.past i)
    in
    let noted = owed_by_noted mid.table.given mid.view.core mid.table.given.layout.cores (past_at mid) c.turn-turn.result in
    let room = at.fits.room in
    omega (arith, noted, now, less, room)

pub returns-clause-comes : goal.returns-clause-comes
returns-clause-comes g c =
    let pen = c.args.pen.now in
    let at = c.requires.at in
    let has = has_reserved c.args.table.now pen c.args.grant at.holds c.requires.grant in
    let there = number_there g.D.Disk.view pen.table.given pen.view.core (past_at pen) (past_fits_at c.args.table.now pen at.holds) c.args.desk.now
    at.fits.frame at.holds.core_is has.number has.reserved
    in
    let by = c.turn-turn.ensures.by in
    record {
      number = c.in-Some.number;
      had = sym (ap (λ (o : OwnTold). o.reserved) (owns_own c.args.table.now pen at.holds))
          ∙ (has.reserved ∙ (sym there ∙ (ap (number_in c.args.desk.now.ledger) (sym c.number-core.ensures) ∙ (sym c.number.ensures ∙ c.in-Some.is))));
      turn = c.turn-turn.result;
      by = record { did_is = by.did_is; core_is = by.core_is ∙ c.number-core.ensures; commit_is = by.commit_is; flush_is = by.flush_is };
      after_is = c.note_turn.ensures.tells.own ∙ ap (own_label (label.Noted c.turn-turn.result)) c.note.ensures.tells.own;
    }

pub returns-clause-tells : goal.returns-clause-tells
returns-clause-tells g c =
    let pen = c.args.pen.now in
    let at = c.requires.at in
    let has = has_reserved c.args.table.now pen c.args.grant at.holds c.requires.grant in
    let there = number_there g.D.Disk.view pen.table.given pen.view.core (past_at pen) (past_fits_at c.args.table.now pen at.holds) c.args.desk.now
    at.fits.frame at.holds.core_is has.number has.reserved
    in
    let by = c.turn-turn.ensures.by in
    record {
      one = turn_returns c.in-Some.number c.turn-turn.result;
      is = record {
        number = c.in-Some.number;
        had = sym (ap (λ (o : OwnTold). o.reserved) (owns_own c.args.table.now pen at.holds))
            ∙ (has.reserved ∙ (sym there ∙ (ap (number_in c.args.desk.now.ledger) (sym c.number-core.ensures) ∙ (sym c.number.ensures ∙ c.in-Some.is))));
        is = (
          refl,
          record { did_is = by.did_is; core_is = by.core_is ∙ c.number-core.ensures; commit_is = by.commit_is; flush_is = by.flush_is },
        );
      };
      mine_is = tells_both pen c.note.new.pen c.note_turn.new.pen (label.Returned c.in-Some.number ∷ []) (label.Noted c.turn-turn.result ∷ [])
          c.note.ensures.tells.goes c.note.ensures.tells.mine_is c.note_turn.ensures.tells.mine_is;
    }
