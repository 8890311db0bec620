use Rattle.std.proofs.Common.{◌<◌, ◌∙◌, ◌≡◌, false, Ok, Err, sym, subst, ap}
use Rattle.slot_laws.specs.Labels.{SlotFlight}
use Rattle.disk_box.specs.Pens.{own_at, calls_at, past_at}
use Rattle.disk_box.specs.Counting.{CountsFrom, due_at}
use Rattle.journal_set.specs.declared.flying.Progress.{Progress}
use Rattle.journal_set.specs.Flying.{GoesOn, LastTurn, TurnComes, flush_of}
use Rattle.journal_set.specs.Telling.{TellsGoing, TellsCall, IsOneTurn, flight_labels, TellsLanding, TellsEnded}
use Rattle.journal_set.specs.declared.flying.Progress.TheVariants as progress
use Rattle.journal_set.specs.Counting.{LeavesDue, past_behind}
use Rattle.journal_set.proofs.Turned.{core_kept, ends_so, goes_on_both, goes_twice, under_again, under_told}
use Rattle.journal_set.proofs.set.JournalSet.land.Goals as goal
use Rattle.journal_set.proofs.Told.{calls_more, calls_last}
use Rattle.journal_set.proofs.ToldCalls.{flight_told}
use Rattle.journal_set.proofs.Alone.{down_more, lands_so}

pub commit_turn-requires-clause-room : goal.commit_turn-requires-clause-room
commit_turn-requires-clause-room g c κs within = subst (λ n. 0 < n) (sym c.loop.invariant.room) c.requires.room

pub commit_turn-requires-clause-under : goal.commit_turn-requires-clause-under
commit_turn-requires-clause-under g c κs within =
    let was = c.loop.invariant in
    let under = under_again c.args.flight false c.args.pen.now.view.core (own_at c.args.pen.now) (own_at c.loop.pen) c.requires.under was.own in
    (under.0, under_told c.args.flight c.loop.flight under.0 (own_at c.loop.pen) was.flight under.1)

pub loop-preserved-in-Ok-Filled : goal.loop-preserved-in-Ok-Filled
loop-preserved-in-Ok-Filled g c =
    let was = c.loop.invariant in
    record {
      outside = c.commit_turn.ensures.outside;
      goes = goes_twice c.args.pen.now c.loop.pen c.commit_turn.new.pen was.goes c.commit_turn.ensures.goes;
      room = c.commit_turn.ensures.room ∙ was.room;
      flight = λ opened. c.commit_turn.ensures.same opened ∙ was.flight opened;
      own = goes_on_both c.args.flight c.args.pen.now.view.core (own_at c.args.pen.now) (own_at c.loop.pen) (own_at c.commit_turn.new.pen) c.requires.under
          was.own (subst (λ n. GoesOn n (own_at c.loop.pen) (own_at c.commit_turn.new.pen)) (core_kept c.args.pen.now c.loop.pen was.goes) (subst (λ (p :
          Progress). TurnComes c.loop.flight c.loop.pen.view.core (own_at c.loop.pen) (own_at c.commit_turn.new.pen) (Ok p)) c.in-Ok-Filled.field-0-is
          c.in-Ok-Filled.ensures.comes));
      tells = calls_more c.args.pen.now c.loop.pen c.commit_turn.new.pen was.goes (TellsGoing c.args.pen.now.view.core c.args.flight.commit
          (flush_of c.args.flight)) was.tells
          (flight_told c.args.flight c.loop.flight c.args.pen.now c.loop.pen c.commit_turn.new.pen was.goes was.flight (Ok progress.Filled)
          (subst (λ (p : Progress). TellsCall (IsOneTurn (flight_labels c.loop.pen.view.core c.loop.flight.commit (flush_of c.loop.flight) (Ok p)))
          c.loop.pen c.commit_turn.new.pen) c.in-Ok-Filled.field-0-is c.in-Ok-Filled.ensures.tells));
      down = down_more c.args.flight.slot c.args.pen.now c.loop.pen c.commit_turn.new.pen was.goes c.commit_turn.ensures.goes was.down
          c.in-Ok-Filled.ensures.counts.turn (subst (λ k. CountsFrom k (past_behind c.loop.pen c.in-Ok-Filled.ensures.counts.turn.front) (calls_at c.loop.pen)
          c.commit_turn.new.pen) (ap (λ (f : SlotFlight). f.slot) (was.flight false)) c.in-Ok-Filled.ensures.counts.down.0);
    }

pub loop-preserved : goal.loop-preserved
loop-preserved g c =
    let was = c.loop.invariant in
    record {
      outside = c.commit_turn.ensures.outside;
      goes = goes_twice c.args.pen.now c.loop.pen c.commit_turn.new.pen was.goes c.commit_turn.ensures.goes;
      room = c.commit_turn.ensures.room ∙ was.room;
      flight = λ opened. c.commit_turn.ensures.same opened ∙ was.flight opened;
      own = goes_on_both c.args.flight c.args.pen.now.view.core (own_at c.args.pen.now) (own_at c.loop.pen) (own_at c.commit_turn.new.pen) c.requires.under
          was.own (subst (λ n. GoesOn n (own_at c.loop.pen) (own_at c.commit_turn.new.pen)) (core_kept c.args.pen.now c.loop.pen was.goes) (subst (λ (p :
          Progress). TurnComes c.loop.flight c.loop.pen.view.core (own_at c.loop.pen) (own_at c.commit_turn.new.pen) (Ok p)) c.in-Ok-Goes.field-0-is
          c.in-Ok-Goes.ensures.comes));
      tells = calls_more c.args.pen.now c.loop.pen c.commit_turn.new.pen was.goes (TellsGoing c.args.pen.now.view.core c.args.flight.commit
          (flush_of c.args.flight)) was.tells
          (flight_told c.args.flight c.loop.flight c.args.pen.now c.loop.pen c.commit_turn.new.pen was.goes was.flight (Ok progress.Goes)
          (subst (λ (p : Progress). TellsCall (IsOneTurn (flight_labels c.loop.pen.view.core c.loop.flight.commit (flush_of c.loop.flight) (Ok p)))
          c.loop.pen c.commit_turn.new.pen) c.in-Ok-Goes.field-0-is c.in-Ok-Goes.ensures.tells));
      down = down_more c.args.flight.slot c.args.pen.now c.loop.pen c.commit_turn.new.pen was.goes c.commit_turn.ensures.goes was.down
          c.in-Ok-Goes.ensures.counts.turn (subst (λ k. CountsFrom k (past_behind c.loop.pen c.in-Ok-Goes.ensures.counts.turn.front) (calls_at c.loop.pen)
          c.commit_turn.new.pen) (ap (λ (f : SlotFlight). f.slot) (was.flight false)) c.in-Ok-Goes.ensures.counts.down.0);
    }

pub returns-in-Ok-Durable-clause-comes : goal.returns-in-Ok-Durable-clause-comes
returns-in-Ok-Durable-clause-comes g c =
    let was = c.loop.invariant in
    ends_so c.args.flight c.loop.flight c.args.pen.now.view.core (own_at c.args.pen.now) (own_at c.loop.pen) (own_at c.commit_turn.new.pen)
    (Ok c.in-Ok-Durable.ack) was.flight was.own (subst (λ n. LastTurn c.loop.flight n (own_at c.loop.pen) (own_at c.commit_turn.new.pen) (Ok
    c.in-Ok-Durable.ack))
    (core_kept c.args.pen.now c.loop.pen was.goes) (subst (λ (p : Progress). TurnComes c.loop.flight c.loop.pen.view.core (own_at c.loop.pen) (own_at
    c.commit_turn.new.pen) (Ok p)) c.in-Ok-Durable.field-0-is
    c.in-Ok-Durable.ensures.comes))

pub returns-in-Ok-Durable-clause-goes : goal.returns-in-Ok-Durable-clause-goes
returns-in-Ok-Durable-clause-goes g c = goes_twice c.args.pen.now c.loop.pen c.commit_turn.new.pen c.loop.invariant.goes c.commit_turn.ensures.goes

pub returns-in-Err-clause-comes : goal.returns-in-Err-clause-comes
returns-in-Err-clause-comes g c =
    let was = c.loop.invariant in
    ends_so c.args.flight c.loop.flight c.args.pen.now.view.core (own_at c.args.pen.now) (own_at c.loop.pen) (own_at c.commit_turn.new.pen)
    (Err c.in-Err.fault) was.flight was.own (subst (λ n. LastTurn c.loop.flight n (own_at c.loop.pen) (own_at c.commit_turn.new.pen) (Err c.in-Err.fault))
    (core_kept c.args.pen.now c.loop.pen was.goes) c.in-Err.ensures.comes)

pub returns-in-Err-clause-goes : goal.returns-in-Err-clause-goes
returns-in-Err-clause-goes g c = goes_twice c.args.pen.now c.loop.pen c.commit_turn.new.pen c.loop.invariant.goes c.commit_turn.ensures.goes

pub returns-in-Ok-Durable-clause-tells : goal.returns-in-Ok-Durable-clause-tells
returns-in-Ok-Durable-clause-tells g c =
    let was = c.loop.invariant in
    calls_last c.args.pen.now c.loop.pen c.commit_turn.new.pen was.goes (TellsGoing c.args.pen.now.view.core c.args.flight.commit (flush_of c.args.flight))
    (TellsLanding c.args.pen.now.view.core c.args.flight.commit (flush_of c.args.flight) c.in-Ok-Durable.ack.moment) was.tells
    (flight_told c.args.flight c.loop.flight c.args.pen.now c.loop.pen c.commit_turn.new.pen was.goes was.flight (Ok (progress.Durable c.in-Ok-Durable.ack))
    (subst (λ (p : Progress). TellsCall (IsOneTurn (flight_labels c.loop.pen.view.core c.loop.flight.commit (flush_of c.loop.flight) (Ok p)))
    c.loop.pen c.commit_turn.new.pen) c.in-Ok-Durable.field-0-is c.in-Ok-Durable.ensures.tells))

pub returns-in-Err-clause-tells : goal.returns-in-Err-clause-tells
returns-in-Err-clause-tells g c =
    let was = c.loop.invariant in
    calls_last c.args.pen.now c.loop.pen c.commit_turn.new.pen was.goes (TellsGoing c.args.pen.now.view.core c.args.flight.commit (flush_of c.args.flight))
    (TellsEnded c.args.pen.now.view.core c.args.flight.commit (flush_of c.args.flight) c.in-Err.fault) was.tells
    (flight_told c.args.flight c.loop.flight c.args.pen.now c.loop.pen c.commit_turn.new.pen was.goes was.flight (Err c.in-Err.fault)
    c.in-Err.ensures.tells)

pub returns-in-Ok-Durable-clause-counts : goal.returns-in-Ok-Durable-clause-counts
returns-in-Ok-Durable-clause-counts g c =
    let was = c.loop.invariant in
    let counts = c.in-Ok-Durable.ensures.counts in
    let slot = ap (λ (f : SlotFlight). f.slot) (was.flight false) in
    let after = c.commit_turn.new.pen in
    lands_so c.args.flight.slot c.args.pen.now after
    (down_more c.args.flight.slot c.args.pen.now c.loop.pen after was.goes c.commit_turn.ensures.goes was.down counts.turn
    (subst (λ k. CountsFrom k (past_behind c.loop.pen counts.turn.front) (calls_at c.loop.pen) after) slot counts.down.0))
    (subst (λ k. due_at (past_at after) k ≡ 0) slot
    (subst (λ (p : Progress). LeavesDue p (due_at (past_at after) c.loop.flight.slot)) c.in-Ok-Durable.field-0-is counts.down.1))
