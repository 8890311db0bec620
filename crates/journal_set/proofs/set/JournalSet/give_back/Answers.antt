use Rattle.std.proofs.Common.{◌∙◌, None, ap, subst, ℕ}
use Rattle.cut_laws.specs.Closure.{Flush}
use Rattle.slot_laws.specs.declared.label.Label.TheVariants as label
use Rattle.slot_laws.specs.Labels.{fsync_told, OwnTold}
use Rattle.disk_box.specs.Pens.{own_at}
use Rattle.journal_set.specs.Grants.{grant_from}
use Rattle.journal_set.specs.Telling.{TellsCall, IsOneTurn, OfReserved, TellsReturn}
use Rattle.journal_set.proofs.Parts.{grant_more}
use Rattle.journal_set.proofs.set.JournalSet.give_back.Goals as goal
use Rattle.journal_set.proofs.Turned.{core_kept}
use Rattle.journal_set.proofs.Told.{tells_around}

pub return_number-requires-clause-grant : goal.return_number-requires-clause-grant
return_number-requires-clause-grant g c κs within =
    let pen = c.args.pen.now in
    ap (λ l. grant_from l None) c.enter-desk.ensures.mine ∙ (grant_more pen.view.mine label.Took pen.view.core None ∙ c.requires.grant)

pub returns-clause-tells : goal.returns-clause-tells
returns-clause-tells g c =
    let pen = c.args.pen.now in
    let at = c.enter-desk.new.pen in
    let flush : Flush = fsync_told c.args.fsync.node c.args.fsync.stamp in
    subst (λ (z : ℕ × OwnTold). TellsCall (IsOneTurn (OfReserved z.1 (λ number. TellsReturn z.0 number flush))) pen c.leave.new.pen)
    (λ i. (core_kept pen at c.enter-desk.ensures.goes i, c.enter-desk.ensures.own i))
    (tells_around pen at c.return_number.new.pen c.leave.new.pen c.enter-desk.ensures.goes c.return_number.ensures.goes c.enter-desk.ensures.mine
    c.leave.ensures.mine (OfReserved (own_at at) (λ number. TellsReturn at.view.core number flush)) c.return_number.ensures.tells)
