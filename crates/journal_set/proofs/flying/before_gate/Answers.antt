use Rattle.std.proofs.Common.{inl, false, sym, subst, Ok, arith}
use Rattle.disk_box.specs.Pens.{own_at, past_at}
use Rattle.disk_box.specs.Counting.{due_at}
use Rattle.journal_set.specs.Flying.{IsUnderWay, flush_of}
use Rattle.journal_set.specs.Telling.{flight_labels}
use Rattle.journal_set.proofs.Aloft.{under_own}
use Rattle.journal_set.proofs.Failing.{at_of_work, fails_shut, owes_shut, progress_comes, risen_still, still_learned}
use Rattle.journal_set.proofs.flying.before_gate.Goals as goal
use Rattle.journal_set.proofs.Told.{tells_work}
use Rattle.journal_set.proofs.ToldCommits.{going_is, fails_in_slot}
use Rattle.journal_set.proofs.CallsTold.{fail_calls, leaves_none}

pub fill_or_seal-requires-clause-own : goal.fill_or_seal-requires-clause-own
fill_or_seal-requires-clause-own g c κs within =
    under_own g.D.Disk.view c.args.table.now c.args.pen.now c.args.desk.now c.requires.work c.requires.learned c.args.flight.now false c.requires.under

pub fail_unopened-requires-clause-learned : goal.fail_unopened-requires-clause-learned
fail_unopened-requires-clause-learned g c κs within = still_learned g.D.Disk.view c.args.table.now c.args.pen.now c.fill_or_seal.new.pen
    c.fill_or_seal.new.desk c.in-Err.faults c.in-Err.ensures.steps c.requires.learned

pub fail_unopened-requires-clause-owes : goal.fail_unopened-requires-clause-owes
fail_unopened-requires-clause-owes g c κs within =
    owes_shut g.D.Disk.view c.args.table.now c.args.pen.now c.fill_or_seal.new.pen c.fill_or_seal.new.desk c.in-Err.faults c.in-Err.ensures.steps
    c.requires.learned
    c.args.flight.now (subst (IsUnderWay c.args.flight.now false) (sym c.fill_or_seal.ensures.own) c.requires.under)

pub returns-in-Ok-clause-at : goal.returns-in-Ok-clause-at
returns-in-Ok-clause-at g c = at_of_work g.D.Disk.view c.args.table.now c.fill_or_seal.new.pen c.fill_or_seal.new.desk c.in-Ok.ensures.steps.ok

pub returns-in-Ok-clause-comes : goal.returns-in-Ok-clause-comes
returns-in-Ok-clause-comes g c =
    progress_comes c.args.flight.now c.args.pen.now.view.core (own_at c.args.pen.now) (own_at c.fill_or_seal.new.pen) c.in-Ok.progress
    c.in-Ok.ensures.progress (inl c.fill_or_seal.ensures.own)

pub returns-in-Err-clause-comes : goal.returns-in-Err-clause-comes
returns-in-Err-clause-comes g c =
    fails_shut g.D.Disk.view c.args.table.now c.args.pen.now c.fill_or_seal.new.pen c.fail_unopened.new.pen
    c.in-Err.faults c.args.flight.now c.fill_or_seal.new.flight c.requires.under c.in-Err.ensures.steps.goes c.fill_or_seal.ensures.own
    c.fill_or_seal.ensures.same c.fail_unopened.ensures.fails

pub returns-in-Err-clause-cause : goal.returns-in-Err-clause-cause
returns-in-Err-clause-cause g c = risen_still g.D.Disk.view c.args.table.now c.args.pen.now c.fill_or_seal.new.pen c.fill_or_seal.new.desk c.in-Err.faults
    c.in-Err.ensures.steps c.requires.learned
    c.fail_unopened.new.pen c.fail_unopened.ensures.goes

pub returns-in-Err-clause-goes : goal.returns-in-Err-clause-goes
returns-in-Err-clause-goes g c =
    Rattle.journal_set.proofs.Turned.goes_twice c.args.pen.now c.fill_or_seal.new.pen c.fail_unopened.new.pen c.in-Err.ensures.steps.goes
    c.fail_unopened.ensures.goes

pub returns-in-Ok-clause-tells : goal.returns-in-Ok-clause-tells
returns-in-Ok-clause-tells g c =
    let pen = c.args.pen.now in
    let flight = c.args.flight.now in
    tells_work pen c.fill_or_seal.new.pen c.in-Ok.ensures.steps.tells c.fill_or_seal.ensures.own
    (flight_labels pen.view.core flight.commit (flush_of flight) (Ok c.in-Ok.progress))
    (going_is pen.view.core flight.commit (flush_of flight) c.in-Ok.progress c.in-Ok.ensures.progress)

pub returns-in-Err-clause-tells : goal.returns-in-Err-clause-tells
returns-in-Err-clause-tells g c =
    fails_in_slot c.args.pen.now c.fill_or_seal.new.pen c.fail_unopened.new.pen c.in-Err.faults c.args.flight.now c.fill_or_seal.new.flight
    c.fill_or_seal.ensures.same c.in-Err.ensures.steps.goes c.in-Err.ensures.steps.tells c.fill_or_seal.ensures.own c.fail_unopened.ensures.tells

pub returns-in-Ok-clause-counts : goal.returns-in-Ok-clause-counts
returns-in-Ok-clause-counts g c = record {
  once = c.in-Ok.ensures.steps.once;
  brings = c.in-Ok.ensures.brings;
  down = (c.in-Ok.ensures.counts, leaves_none c.in-Ok.progress c.in-Ok.ensures.progress (due_at (past_at c.fill_or_seal.new.pen) c.args.flight.now.slot));
}

pub returns-in-Err-clause-counts : goal.returns-in-Err-clause-counts
returns-in-Err-clause-counts g c =
    let flight = c.fill_or_seal.new.flight in
    let same = fail_calls c.fill_or_seal.new.pen c.fail_unopened.new.pen flight.commit c.in-Err.faults (flush_of flight) c.fail_unopened.ensures.tells in
    let once = c.in-Err.ensures.steps.once in
    record { once = omega (arith, same, once); brings = tt; down = tt }
