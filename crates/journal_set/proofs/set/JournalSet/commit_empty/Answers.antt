use Rattle.std.proofs.Common.{◌∙◌, None, ap, subst}
use Rattle.tree_laws.specs.Tree.{TreeState}
use Rattle.stamp_table.specs.declared.event.Event.{Event}
use Rattle.stamp_table.specs.declared.view.View.{View as Sight}
use Rattle.slot_laws.specs.declared.label.Label.{Label}
use Rattle.slot_laws.specs.declared.label.Label.TheVariants as label
use Rattle.slot_laws.specs.Labels.{fsync_told}
use Rattle.journal_set.specs.Emptying.{NOTHING}
use Rattle.journal_set.specs.Grants.{grant_from}
use Rattle.journal_set.specs.Reserving.{ReserveRequest}
use Rattle.journal_set.specs.Telling.{TellsCall, IsOneTurn, empty_labels}
use Rattle.journal_set.proofs.Nothing.{empties_around}
use Rattle.journal_set.proofs.Newer.{took_numbers}
use Rattle.journal_set.proofs.Parts.{grant_more}
use Rattle.journal_set.proofs.set.JournalSet.commit_empty.Goals as goal
use Rattle.journal_set.proofs.Turned.{core_kept}
use Rattle.journal_set.proofs.Told.{tells_around}

pub returns-clause-comes : goal.returns-clause-comes
returns-clause-comes g c =
    let done = c.empty_at-result.new.pen in
    empties_around (record { flush = fsync_told c.args.fsync.node c.args.fsync.stamp; seen = c.args.seen.now; need = NOTHING })
    c.args.pen.now c.enter-desk.new.pen done c.leave.new.pen c.enter-desk.ensures.goes c.leave.ensures.goes c.enter-desk.ensures.own c.leave.ensures.own
    (ap (λ l. grant_from l None) c.leave.ensures.mine ∙ grant_more done.view.mine label.Gave done.view.core None)
    (ap (λ (v : Sight TreeState (Event Label)). v.core) c.empty_at-result.ensures.goes.view)
    (took_numbers c.args.pen.now c.enter-desk.new.pen c.enter-desk.ensures.mine)
    c.empty_at-result.result c.empty_at-result.ensures.comes

pub returns-clause-tells : goal.returns-clause-tells
returns-clause-tells g c =
    let pen = c.args.pen.now in
    let at = c.enter-desk.new.pen in
    let asked : ReserveRequest = record { flush = fsync_told c.args.fsync.node c.args.fsync.stamp; seen = c.args.seen.now; need = NOTHING } in
    subst (λ n. TellsCall (IsOneTurn (empty_labels n asked c.empty_at-result.result)) pen c.leave.new.pen)
    (core_kept pen at c.enter-desk.ensures.goes)
    (tells_around pen at c.empty_at-result.new.pen c.leave.new.pen c.enter-desk.ensures.goes c.empty_at-result.ensures.goes c.enter-desk.ensures.mine
    c.leave.ensures.mine (empty_labels at.view.core asked c.empty_at-result.result) c.empty_at-result.ensures.tells)
