use Rattle.std.proofs.Common.{inl, true, sym, subst, arith}
use Rattle.journal_set.specs.Flying.{IsUnderWay, flush_of}
use Rattle.journal_set.specs.Telling.{TellsGoing}
use Rattle.journal_set.proofs.Failing.{at_of_work, fails_opened, owes_opened, risen_still, still_learned}
use Rattle.journal_set.proofs.Turned.{goes_twice}
use Rattle.journal_set.proofs.flying.settle_turn.Goals as goal
use Rattle.journal_set.proofs.Told.{tells_work}
use Rattle.journal_set.proofs.ToldCommits.{fails_working}
use Rattle.journal_set.proofs.CallsTold.{fail_begun_calls}

pub fail_opened-requires-clause-learned : goal.fail_opened-requires-clause-learned
fail_opened-requires-clause-learned g c κs within = still_learned g.D.Disk.view c.args.table.now c.args.pen.now c.shut_or_settle.new.pen
    c.shut_or_settle.new.desk c.in-Err.faults c.in-Err.ensures.steps c.requires.learned

pub fail_opened-requires-clause-owes : goal.fail_opened-requires-clause-owes
fail_opened-requires-clause-owes g c κs within =
    owes_opened g.D.Disk.view c.args.table.now c.args.pen.now c.shut_or_settle.new.pen c.shut_or_settle.new.desk c.in-Err.faults c.in-Err.ensures.steps
    c.requires.learned
    c.args.flight.now (subst (IsUnderWay c.args.flight.now true) (sym c.shut_or_settle.ensures.own) c.requires.under)

pub returns-in-Ok-clause-at : goal.returns-in-Ok-clause-at
returns-in-Ok-clause-at g c = at_of_work g.D.Disk.view c.args.table.now c.shut_or_settle.new.pen c.shut_or_settle.new.desk c.in-Ok.ensures.steps.ok

pub returns-in-Ok-clause-comes : goal.returns-in-Ok-clause-comes
returns-in-Ok-clause-comes g c = inl c.shut_or_settle.ensures.own

pub returns-in-Err-clause-comes : goal.returns-in-Err-clause-comes
returns-in-Err-clause-comes g c =
    fails_opened g.D.Disk.view c.args.table.now c.args.pen.now c.shut_or_settle.new.pen c.fail_opened.new.pen
    c.in-Err.faults c.args.flight.now c.shut_or_settle.new.flight (subst (IsUnderWay c.args.flight.now true) (sym c.shut_or_settle.ensures.own)
    c.requires.under) c.in-Err.ensures.steps.goes (inl c.shut_or_settle.ensures.own) c.shut_or_settle.ensures.same c.fail_opened.ensures.fails

pub returns-in-Err-clause-cause : goal.returns-in-Err-clause-cause
returns-in-Err-clause-cause g c = risen_still g.D.Disk.view c.args.table.now c.args.pen.now c.shut_or_settle.new.pen c.shut_or_settle.new.desk
    c.in-Err.faults c.in-Err.ensures.steps c.requires.learned
    c.fail_opened.new.pen c.fail_opened.ensures.goes

pub returns-in-Err-clause-goes : goal.returns-in-Err-clause-goes
returns-in-Err-clause-goes g c =
    goes_twice c.args.pen.now c.shut_or_settle.new.pen c.fail_opened.new.pen c.in-Err.ensures.steps.goes c.fail_opened.ensures.goes

pub returns-in-Ok-clause-tells : goal.returns-in-Ok-clause-tells
returns-in-Ok-clause-tells g c =
    let pen = c.args.pen.now in
    let flight = c.args.flight.now in
    tells_work pen c.shut_or_settle.new.pen c.in-Ok.ensures.steps.tells c.shut_or_settle.ensures.own
    (TellsGoing pen.view.core flight.commit (flush_of flight)) (λ facts work. work)

pub returns-in-Err-clause-tells : goal.returns-in-Err-clause-tells
returns-in-Err-clause-tells g c =
    fails_working c.args.pen.now c.shut_or_settle.new.pen c.fail_opened.new.pen c.in-Err.faults c.args.flight.now c.shut_or_settle.new.flight
    c.shut_or_settle.ensures.same c.in-Err.ensures.steps.goes c.in-Err.ensures.steps.tells c.shut_or_settle.ensures.own c.fail_opened.ensures.tells

pub returns-in-Ok-clause-counts : goal.returns-in-Ok-clause-counts
returns-in-Ok-clause-counts g c = record { once = c.in-Ok.ensures.steps.once; brings = c.in-Ok.ensures.brings; down = (c.in-Ok.ensures.counts, tt) }

pub returns-in-Err-clause-counts : goal.returns-in-Err-clause-counts
returns-in-Err-clause-counts g c =
    let flight = c.shut_or_settle.new.flight in
    let same = fail_begun_calls c.shut_or_settle.new.pen c.fail_opened.new.pen flight.commit c.in-Err.faults (flush_of flight) c.fail_opened.ensures.tells in
    let once = c.in-Err.ensures.steps.once in
    record { once = omega (arith, same, once); brings = tt; down = tt }
