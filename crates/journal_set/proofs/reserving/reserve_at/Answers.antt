use Rattle.std.proofs.Common.{subst}
use Rattle.slot_laws.specs.Labels.{fsync_told}
use Rattle.disk_box.specs.Pens.{PenHand}
use Rattle.journal_set.specs.Telling.{TellsAtBox, reserve_labels}
use Rattle.journal_set.proofs.reserving.reserve_at.Goals as goal

pub returns-in-Err-clause-comes : goal.returns-in-Err-clause-comes
returns-in-Err-clause-comes g c = c.in-Err.ensures.err c.args.need

pub returns-in-Err-clause-tells : goal.returns-in-Err-clause-tells
returns-in-Err-clause-tells g c = c.in-Err.ensures.tells

pub returns-in-Ok-clause-tells : goal.returns-in-Ok-clause-tells
returns-in-Ok-clause-tells g c =
    subst (λ (h : PenHand g.row.D.Denot). TellsAtBox (reserve_labels h.view.core (record {
      flush = fsync_told c.args.fsync.node c.args.fsync.stamp;
      seen = c.args.seen.now;
      need = c.args.need;
    }) c.grant_or_refuse.result) h c.grant_or_refuse.new.pen) c.in-Ok.ensures.ok.0 c.grant_or_refuse.ensures.tells
