use Rattle.std.proofs.Common.{◌∙◌, ap}
use Rattle.slot_laws.specs.Labels.{ends_all}
use Rattle.disk_box.specs.Pens.{past_at}
use Rattle.disk_box.proofs.Owes.{ended_room}
use Rattle.disk_box.proofs.learning.halt.Goals as goal

pub note_turn-requires-clause-room : goal.note_turn-requires-clause-room
note_turn-requires-clause-room g c κs within =
    let pen = c.args.pen.now in
    let at = c.requires.at in
    ended_room pen.table.given pen.view.core (past_at pen) c.turn-turn.result c.args.desk.now at.holds.core_is
    (ap ends_all c.turn-turn.ensures.by.did_is) c.requires.learned at.fits.room c.requires.room

pub returns-clause-tells : goal.returns-clause-tells
returns-clause-tells g c =
    let by = c.turn-turn.ensures.by in
    record {
      turn = c.turn-turn.result;
      by = record { did_is = by.did_is; core_is = by.core_is ∙ c.number.ensures; commit_is = by.commit_is; flush_is = by.flush_is };
      mine_is = c.note_turn.ensures.tells.mine_is;
    }
