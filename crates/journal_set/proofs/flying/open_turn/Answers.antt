use Rattle.std.proofs.Common.{inl, inr, refl, false, arith}
use Rattle.disk_box.specs.Pens.{own_at}
use Rattle.journal_set.specs.Telling.{TellsGoing}
use Rattle.journal_set.specs.Flying.{flush_of}
use Rattle.journal_set.proofs.Aloft.{under_own}
use Rattle.journal_set.proofs.Failing.{at_of_work, fails_opened, owes_opened, risen_still, still_learned}
use Rattle.journal_set.proofs.Turned.{goes_twice, opened_under}
use Rattle.journal_set.proofs.flying.open_turn.Goals as goal
use Rattle.journal_set.proofs.ToldCommits.{opens_under, fails_opening}
use Rattle.journal_set.proofs.Told.{tells_nothing}
use Rattle.journal_set.proofs.CallsTold.{fail_begun_calls, still_down}

pub open_one-requires-clause-own : goal.open_one-requires-clause-own
open_one-requires-clause-own g c κs within =
    under_own g.D.Disk.view c.args.table.now c.args.pen.now c.args.desk.now c.requires.work c.requires.learned c.args.flight.now false c.requires.under

pub fail_opened-requires-clause-learned : goal.fail_opened-requires-clause-learned
fail_opened-requires-clause-learned g c κs within = still_learned g.D.Disk.view c.args.table.now c.args.pen.now c.open_one.new.pen c.open_one.new.desk
    c.in-Err.faults c.in-Err.ensures.steps c.requires.learned

pub fail_opened-requires-clause-owes : goal.fail_opened-requires-clause-owes
fail_opened-requires-clause-owes g c κs within =
    owes_opened g.D.Disk.view c.args.table.now c.args.pen.now c.open_one.new.pen c.open_one.new.desk c.in-Err.faults c.in-Err.ensures.steps c.requires.learned
    c.args.flight.now (opened_under c.args.flight.now false c.args.pen.now.view.core (own_at c.args.pen.now) (own_at c.open_one.new.pen) c.requires.under
    c.open_one.ensures.own)

pub returns-in-Ok-clause-at : goal.returns-in-Ok-clause-at
returns-in-Ok-clause-at g c = at_of_work g.D.Disk.view c.args.table.now c.open_one.new.pen c.open_one.new.desk c.in-Ok.ensures.steps.ok

pub returns-in-Ok-clause-comes : goal.returns-in-Ok-clause-comes
returns-in-Ok-clause-comes g c = inr c.open_one.ensures.own

pub returns-in-Err-clause-comes : goal.returns-in-Err-clause-comes
returns-in-Err-clause-comes g c =
    fails_opened g.D.Disk.view c.args.table.now c.args.pen.now c.open_one.new.pen c.fail_opened.new.pen
    c.in-Err.faults c.args.flight.now c.args.flight.now (opened_under c.args.flight.now false c.args.pen.now.view.core (own_at c.args.pen.now)
    (own_at c.open_one.new.pen) c.requires.under c.open_one.ensures.own) c.in-Err.ensures.steps.goes (inr c.open_one.ensures.own)
    (λ opened. refl) c.fail_opened.ensures.fails

pub returns-in-Err-clause-cause : goal.returns-in-Err-clause-cause
returns-in-Err-clause-cause g c = risen_still g.D.Disk.view c.args.table.now c.args.pen.now c.open_one.new.pen c.open_one.new.desk c.in-Err.faults
    c.in-Err.ensures.steps c.requires.learned
    c.fail_opened.new.pen c.fail_opened.ensures.goes

pub returns-in-Err-clause-goes : goal.returns-in-Err-clause-goes
returns-in-Err-clause-goes g c =
    goes_twice c.args.pen.now c.open_one.new.pen c.fail_opened.new.pen c.in-Err.ensures.steps.goes c.fail_opened.ensures.goes

pub returns-in-Ok-clause-tells : goal.returns-in-Ok-clause-tells
returns-in-Ok-clause-tells g c =
    opens_under c.args.pen.now c.open_one.new.pen c.args.flight.now false c.requires.under c.open_one.ensures.tells c.open_one.ensures.own

pub returns-in-Err-clause-tells : goal.returns-in-Err-clause-tells
returns-in-Err-clause-tells g c =
    fails_opening c.args.pen.now c.open_one.new.pen c.fail_opened.new.pen c.in-Err.faults c.args.flight.now false c.requires.under
    c.in-Err.ensures.steps.goes c.open_one.ensures.tells c.open_one.ensures.own c.fail_opened.ensures.tells

pub returns-then-not-flight-clause-tells : goal.returns-then-not-flight-clause-tells
returns-then-not-flight-clause-tells g c =
    tells_nothing c.args.pen.now (TellsGoing c.args.pen.now.view.core c.args.flight.now.commit (flush_of c.args.flight.now)) tt

pub returns-then-not-flight-clause-counts : goal.returns-then-not-flight-clause-counts
returns-then-not-flight-clause-counts g c = record {
  once = omega arith;
  brings = (refl, c.if-not-flight.true, refl);
  down = (still_down c.args.flight.now.slot c.args.pen.now, tt);
}

pub returns-in-Ok-clause-counts : goal.returns-in-Ok-clause-counts
returns-in-Ok-clause-counts g c = record { once = c.in-Ok.ensures.steps.once; brings = inl c.in-Ok.ensures.calls; down = (c.in-Ok.ensures.counts, tt) }

pub returns-in-Err-clause-counts : goal.returns-in-Err-clause-counts
returns-in-Err-clause-counts g c =
    let flight = c.args.flight.now in
    let same = fail_begun_calls c.open_one.new.pen c.fail_opened.new.pen flight.commit c.in-Err.faults (flush_of flight) c.fail_opened.ensures.tells in
    let once = c.in-Err.ensures.steps.once in
    record { once = omega (arith, same, once); brings = tt; down = tt }
