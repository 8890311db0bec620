use Rattle.std.proofs.Common.{◌∙◌, None, ap, sym, subst, ℕ}
use Rattle.cut_laws.specs.Closure.{Flush}
use Rattle.slot_laws.specs.declared.label.Label.TheVariants as label
use Rattle.slot_laws.specs.Labels.{OwnTold, fsync_told}
use Rattle.slot_laws.specs.Telling.{labels_in}
use Rattle.disk_box.specs.declared.key.BoxKey.{BoxKey}
use Rattle.disk_box.specs.Pens.{PenHand, own_at}
use Rattle.journal_set.specs.Beginning.{CanBeWritten}
use Rattle.journal_set.specs.Grants.{grant_from}
use Rattle.journal_set.specs.Telling.{Written, written_in, TellsCall, IsOneTurn, OfReserved, begin_labels}
use Rattle.journal_set.proofs.BegunAround.{begin_around, cause_err}
use Rattle.journal_set.proofs.Parts.{grant_more}
use Rattle.journal_set.proofs.Turned.{core_kept, goes_twice}
use Rattle.journal_set.proofs.set.JournalSet.begin_turn.Goals as goal
use Rattle.journal_set.proofs.Told.{tells_around}
use Rattle.journal_set.proofs.AmidTurns.{turn_amid}
use Rattle.journal_set.proofs.TiedCommits.{beginnings_tell}
use Rattle.journal_set.proofs.TurnAlone.{around, begins_around}

pub begin_at-result-requires-clause-grant : goal.begin_at-result-requires-clause-grant
begin_at-result-requires-clause-grant g c κs within =
    let pen = c.args.pen.now in
    ap (λ l. grant_from l None) c.enter-desk.ensures.mine ∙ (grant_more pen.view.mine label.Took pen.view.core None ∙ c.requires.grant)

pub begin_at-result-requires-clause-goes_on : goal.begin_at-result-requires-clause-goes_on
begin_at-result-requires-clause-goes_on g c κs within = ap (λ (o : OwnTold). o.over) c.enter-desk.ensures.own ∙ c.requires.goes_on

pub begin_at-result-requires-clause-written : goal.begin_at-result-requires-clause-written
begin_at-result-requires-clause-written g c κs within =
    subst (λ (k : BoxKey _). CanBeWritten k.layout c.args.writing) (sym (ap (λ (h : PenHand g.row.D.Denot). h.table.given) c.enter-desk.ensures.goes.frame))
    c.requires.written

pub returns-clause-goes : goal.returns-clause-goes
returns-clause-goes g c =
    goes_twice c.args.pen.now c.enter-desk.new.pen c.leave.new.pen c.enter-desk.ensures.goes
    (goes_twice c.enter-desk.new.pen c.begin_at-result.new.pen c.leave.new.pen c.begin_at-result.ensures.goes c.leave.ensures.goes)

pub returns-clause-comes : goal.returns-clause-comes
returns-clause-comes g c =
    let pen = c.args.pen.now in
    let done = c.begin_at-result.new.pen in
    begin_around c.args.writing pen c.enter-desk.new.pen done c.leave.new.pen c.enter-desk.ensures.own c.leave.ensures.own
    (core_kept pen c.enter-desk.new.pen c.enter-desk.ensures.goes)
    (ap (λ l. grant_from l None) c.enter-desk.ensures.mine ∙ grant_more pen.view.mine label.Took pen.view.core None)
    (ap (λ l. grant_from l None) c.leave.ensures.mine ∙ grant_more done.view.mine label.Gave done.view.core None)
    c.begin_at-result.result c.begin_at-result.ensures.comes

pub returns-clause-cause : goal.returns-clause-cause
returns-clause-cause g c =
    cause_err c.begin_at-result.new.pen c.leave.new.pen c.leave.ensures.goes c.begin_at-result.result c.begin_at-result.ensures.cause

pub returns-clause-tells : goal.returns-clause-tells
returns-clause-tells g c =
    let pen = c.args.pen.now in
    let at = c.enter-desk.new.pen in
    let flush : Flush = fsync_told c.args.writing.fsync.node c.args.writing.fsync.stamp in
    let written : Written = written_in c.args.writing in
    subst (λ (z : ℕ × OwnTold). TellsCall (IsOneTurn (OfReserved z.1 (λ number. begin_labels z.0 flush written number c.begin_at-result.result))) pen
    c.leave.new.pen) (λ i. (core_kept pen at c.enter-desk.ensures.goes i, c.enter-desk.ensures.own i))
    (tells_around pen at c.begin_at-result.new.pen c.leave.new.pen c.enter-desk.ensures.goes c.begin_at-result.ensures.goes c.enter-desk.ensures.mine
    c.leave.ensures.mine (OfReserved (own_at at) (λ number. begin_labels at.view.core flush written number c.begin_at-result.result))
    c.begin_at-result.ensures.tells)

pub returns-clause-counts : goal.returns-clause-counts
returns-clause-counts g c =
    let pen = c.args.pen.now in
    let at = c.enter-desk.new.pen in
    let done = c.begin_at-result.new.pen in
    let flush : Flush = fsync_told c.args.writing.fsync.node c.args.writing.fsync.stamp in
    let told = c.begin_at-result.ensures.tells in
    let tells = beginnings_tell (λ n. flush.stamp) at.view.core told.is.number flush (written_in c.args.writing) (own_at at) c.begin_at-result.result told.one
    (record { had = told.is.had; named = Rattle.std.proofs.Common.refl }) told.is.is
    in
    begins_around pen at done c.leave.new.pen (around c.self.inside.table pen at done c.leave.new.pen c.enter-desk.ensures.takes c.enter-desk.ensures.goes
    c.enter-desk.ensures.at.holds c.begin_at-result.ensures.goes c.begin_at-result.ensures.at.holds (labels_in told.one) told.mine_is
    (turn_amid at.view.core tells.number tells.flush told.one tells.is) c.leave.ensures.goes c.enter-desk.ensures.mine c.leave.ensures.seen
    c.leave.ensures.mine) c.args.writing.packed c.begin_at-result.result c.begin_at-result.ensures.counts
