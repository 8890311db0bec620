use Rattle.std.proofs.Common.{◌*◌, ◌≤◌, ◌∙◌, inl, refl, sym, ap, subst}
use Rattle.sfs_base.proofs.BasicOptions.{none_of}
use Rattle.slot_laws.specs.Labels.{fsync_told}
use Rattle.commit_ledger.specs.Keeps.{LedgerKeeps}
use Rattle.disk_box.specs.declared.desk.Desk.{Desk}
use Rattle.disk_box.specs.Pens.{past_at}
use Rattle.disk_box.specs.Box.{SpaceFits}
use Rattle.journal_set.specs.Telling.{TellsNothing}
use Rattle.journal_set.proofs.Working.{desk_roomier, learned_due, nothing_due, room_beside}
use Rattle.journal_set.proofs.refusing.check_first.Goals as goal
use Rattle.journal_set.proofs.ToldCommits.{wants_memory, halts_told}
use Rattle.journal_set.proofs.Told.{tells_nothing}

pub halt-faults-requires-clause-learned : goal.halt-faults-requires-clause-learned
halt-faults-requires-clause-learned g c κs within = learned_due c.args.table.now c.args.pen.now c.requires.at.holds c.requires.rests

pub halt-faults-requires-clause-room : goal.halt-faults-requires-clause-room
halt-faults-requires-clause-room g c κs within =
    let pen = c.args.pen.now in
    let at = c.requires.at in
    inl (room_beside pen.table.given.layout.cores pen.view.core c.make_room.new.desk.turns.spare (past_at pen) at.holds.core_is
    (subst (λ n. 4 * n ≤ c.make_room.new.desk.turns.spare) at.fits.frame.cores c.in_ok-make_room.ensures.ok))

pub returns-clause-ok : goal.returns-clause-ok
returns-clause-ok g c =
    let t = c.args.table.now in
    let pen = c.args.pen.now in
    let desk = c.args.desk.now in
    let at = c.requires.at in
    let same = c.make_room.ensures.same in
    let calm = sym at.fits.frame.failed ∙ (sym (ap (λ (d : Desk g.row.D.Denot). d.failed) same)
    ∙ none_of c.make_room.new.desk.failed (sym c.is_some.ensures ∙ c.if-is_some.false))
    in (
      refl,
      record {
        work = record {
          holds = at.holds;
          calm = calm;
          fits = desk_roomier g.D.Disk.view pen.table.given (past_at pen) desk c.make_room.new.desk at.fits same c.make_room.ensures.turns.0
              c.make_room.ensures.turns.1;
          space = subst (λ (d : Desk g.row.D.Denot). SpaceFits pen.table.given pen.view.seen d) (sym same) at.space;
        };
        rests = nothing_due t pen at.holds calm c.requires.rests;
        room = subst (λ n. 4 * n ≤ c.make_room.new.desk.turns.spare) at.fits.frame.cores c.in_ok-make_room.ensures.ok;
        unmoved = c.in_default.ensures.unmoved (past_at pen)
            (subst (λ (d : Desk g.row.D.Denot). LedgerKeeps d.ledger (past_at pen)) (sym same) at.fits.frame.ledger);
      },
    )

pub returns-in_err-make_room-clause-tells : goal.returns-in_err-make_room-clause-tells
returns-in_err-make_room-clause-tells g c =
    wants_memory c.args.pen.now c.args.pen.now.view.core (fsync_told c.args.fsync.node c.args.fsync.stamp) c.from_residual.result
    c.from_residual.ensures.1

pub returns-then-is_some-clause-tells : goal.returns-then-is_some-clause-tells
returns-then-is_some-clause-tells g c =
    halts_told c.args.pen.now c.halt-faults.new.pen 0 (fsync_told c.args.fsync.node c.args.fsync.stamp) c.halt-faults.ensures.tells

pub returns-in-Some-clause-tells : goal.returns-in-Some-clause-tells
returns-in-Some-clause-tells g c = tells_nothing c.args.pen.now TellsNothing tt
