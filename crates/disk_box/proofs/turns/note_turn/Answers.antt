use Rattle.std.proofs.Common.{refl, arith}
use Rattle.disk_box.proofs.After.{at_told, past_fits_at}
use Rattle.disk_box.proofs.Noted.{noted_fits}
use Rattle.slot_laws.specs.declared.label.Label.TheVariants as label
use Rattle.disk_box.specs.Pens.{past_at}
use Rattle.disk_box.proofs.turns.note_turn.Goals as goal

pub returns-clause-at : goal.returns-clause-at
returns-clause-at g c =
    let pen = c.args.pen.now in
    let desk = c.args.desk.now in
    let at = c.requires.at in
    let spare = c.push.ensures.spare in
    let room = c.requires.room in
    at_told g.D.Disk.view c.args.table.now pen c.note.new.pen (label.Noted c.args.turn) c.note.ensures.holds c.note.ensures.tells desk
    (record desk { turns = c.push.new.self }) at.space refl
    (noted_fits g.D.Disk.view pen.table.given pen.view.core (past_at pen) c.args.turn desk (record desk { turns = c.push.new.self }) at.fits
    (past_fits_at c.args.table.now pen at.holds) c.requires.may c.requires.no_fail c.requires.faults c.requires.now
    refl c.push.ensures.items (omega (arith, spare, room)))
