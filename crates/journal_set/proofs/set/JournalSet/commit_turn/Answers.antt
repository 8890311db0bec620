use Rattle.std.proofs.Common.{◌∙◌, sym, subst, refl, ap}
use Rattle.slot_laws.specs.Telling.{labels_in}
use Rattle.slot_laws.specs.Labels.{OwnTold}
use Rattle.disk_box.specs.Pens.{own_at}
use Rattle.journal_set.specs.Flying.{IsUnderWay, flush_of, flight_of}
use Rattle.journal_set.specs.Telling.{TellsCall, IsOneTurn, flight_labels}
use Rattle.journal_set.proofs.BegunAround.{cause_err}
use Rattle.journal_set.proofs.Turned.{core_kept, goes_twice, turn_around}
use Rattle.journal_set.proofs.set.JournalSet.commit_turn.Goals as goal
use Rattle.journal_set.proofs.Told.{tells_around}
use Rattle.journal_set.proofs.AmidTurns.{turn_amid}
use Rattle.journal_set.proofs.TiedCommits.{flights_tell}
use Rattle.journal_set.proofs.TurnAlone.{around, works_around}

pub turn_at-result-requires-clause-under : goal.turn_at-result-requires-clause-under
turn_at-result-requires-clause-under g c κs within =
    (c.requires.under.0, subst (IsUnderWay c.args.flight.now c.requires.under.0) (sym c.enter-desk.ensures.own) c.requires.under.1)

pub returns-clause-goes : goal.returns-clause-goes
returns-clause-goes g c =
    goes_twice c.args.pen.now c.enter-desk.new.pen c.leave.new.pen c.enter-desk.ensures.goes
    (goes_twice c.enter-desk.new.pen c.turn_at-result.new.pen c.leave.new.pen c.turn_at-result.ensures.goes c.leave.ensures.goes)

pub returns-clause-comes : goal.returns-clause-comes
returns-clause-comes g c =
    let pen = c.args.pen.now in
    let at = c.enter-desk.new.pen in
    let done = c.turn_at-result.new.pen in
    turn_around c.args.flight.now pen.view.core at.view.core (core_kept pen at c.enter-desk.ensures.goes) (Rattle.disk_box.specs.Pens.own_at pen)
    (Rattle.disk_box.specs.Pens.own_at at) (Rattle.disk_box.specs.Pens.own_at done) (Rattle.disk_box.specs.Pens.own_at c.leave.new.pen)
    c.enter-desk.ensures.own c.leave.ensures.own c.turn_at-result.result c.turn_at-result.ensures.comes

pub returns-clause-cause : goal.returns-clause-cause
returns-clause-cause g c =
    cause_err c.turn_at-result.new.pen c.leave.new.pen c.leave.ensures.goes c.turn_at-result.result c.turn_at-result.ensures.cause

pub returns-clause-tells : goal.returns-clause-tells
returns-clause-tells g c =
    let pen = c.args.pen.now in
    let at = c.enter-desk.new.pen in
    let flight = c.args.flight.now in
    subst (λ n. TellsCall (IsOneTurn (flight_labels n flight.commit (flush_of flight) c.turn_at-result.result)) pen c.leave.new.pen)
    (core_kept pen at c.enter-desk.ensures.goes)
    (tells_around pen at c.turn_at-result.new.pen c.leave.new.pen c.enter-desk.ensures.goes c.turn_at-result.ensures.goes c.enter-desk.ensures.mine
    c.leave.ensures.mine (flight_labels at.view.core flight.commit (flush_of flight) c.turn_at-result.result) c.turn_at-result.ensures.tells)

pub returns-clause-counts : goal.returns-clause-counts
returns-clause-counts g c =
    let pen = c.args.pen.now in
    let at = c.enter-desk.new.pen in
    let done = c.turn_at-result.new.pen in
    let flight = c.args.flight.now in
    let flush = flush_of flight in
    let told = c.turn_at-result.ensures.tells in
    let under = c.requires.under in
    let tells = flights_tell (λ n. flush.stamp) at.view.core flight.commit flush (own_at at) c.turn_at-result.result told.one (record {
      flight = flight_of flight under.0;
      flies = ap (λ (o : OwnTold). o.flight) c.enter-desk.ensures.own ∙ under.1.flies;
      flush_is = refl;
    }) refl told.is in
    works_around pen at done c.leave.new.pen (around c.self.inside.table pen at done c.leave.new.pen c.enter-desk.ensures.takes c.enter-desk.ensures.goes
    c.enter-desk.ensures.at.holds c.turn_at-result.ensures.goes c.turn_at-result.ensures.at.holds (labels_in told.one) told.mine_is
    (turn_amid at.view.core tells.number tells.flush told.one tells.is) c.leave.ensures.goes c.enter-desk.ensures.mine c.leave.ensures.seen
    c.leave.ensures.mine) flight c.turn_at-result.new.flight c.turn_at-result.result c.turn_at-result.ensures.counts
