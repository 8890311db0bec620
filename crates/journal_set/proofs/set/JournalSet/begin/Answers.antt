use Rattle.std.proofs.Common.{◌<◌, ◌∙◌, Ok, Some, refl, sym, ap, subst, Err}
use Rattle.journal_one.specs.Packed.{Contents}
use Rattle.slot_laws.specs.Labels.{OwnTold, fsync_told}
use Rattle.disk_box.specs.Pens.{own_at, calls_at}
use Rattle.disk_box.proofs.Served.{goes_still}
use Rattle.journal_set.specs.declared.beginning.Writing.{Writing}
use Rattle.journal_set.specs.declared.waiting.Beginning.{Beginning}
use Rattle.journal_set.specs.Committing.{BeginComes, WaitsToBegin}
use Rattle.journal_set.specs.Telling.{TellsCall, IsOneTurn, OfReserved, TellsWork, begin_labels, written_in}
use Rattle.journal_set.specs.Counting.{BeginsAlone, BeginsScheduled}
use Rattle.journal_set.proofs.BegunAround.{begins_still, fails_still, written_still}
use Rattle.journal_set.proofs.Turned.{core_kept, goes_twice}
use Rattle.journal_set.proofs.set.JournalSet.begin.Goals as goal
use Rattle.journal_set.proofs.Told.{calls_more, calls_none, call_through}
use Rattle.journal_set.proofs.ToldCalls.{begun_told}
use Rattle.journal_set.proofs.Alone.{begun_alone, found_first, found_more}

pub begin_turn-requires-clause-room : goal.begin_turn-requires-clause-room
begin_turn-requires-clause-room g c κs within = subst (λ n. 0 < n) (sym c.loop.invariant.room) c.requires.room

pub begin_turn-requires-clause-grant : goal.begin_turn-requires-clause-grant
begin_turn-requires-clause-grant g c κs within =
    c.loop.invariant.grant ∙ (c.requires.grant ∙ ap Some (sym (ap (λ (w : Writing). w.grant) c.loop.invariant.writing)))

pub begin_turn-requires-clause-goes_on : goal.begin_turn-requires-clause-goes_on
begin_turn-requires-clause-goes_on g c κs within = ap (λ (o : OwnTold). o.over) c.loop.invariant.own ∙ c.requires.goes_on

pub begin_turn-requires-clause-written : goal.begin_turn-requires-clause-written
begin_turn-requires-clause-written g c κs within =
    written_still c.args.writing c.loop.writing c.args.pen.now c.loop.pen c.loop.invariant.goes c.loop.invariant.writing c.requires.written

pub loop-preserved : goal.loop-preserved
loop-preserved g c =
    let was = c.loop.invariant in
    let it : WaitsToBegin c.loop.writing c.in-Ok-Waits.still c.loop.pen c.begin_turn.new.pen =
    subst (λ (b : Beginning). BeginComes c.loop.writing c.loop.pen c.begin_turn.new.pen (Ok b)) c.in-Ok-Waits.field-0-is c.in-Ok-Waits.ensures.comes
    in
    let told : TellsCall (IsOneTurn (OfReserved (own_at c.loop.pen) (λ number. TellsWork))) c.loop.pen c.begin_turn.new.pen =
    subst (λ (b : Beginning). TellsCall (IsOneTurn (OfReserved (own_at c.loop.pen) (λ number. begin_labels c.loop.pen.view.core
    (fsync_told c.loop.writing.fsync.node c.loop.writing.fsync.stamp) (written_in c.loop.writing) number (Ok b)))) c.loop.pen c.begin_turn.new.pen)
    c.in-Ok-Waits.field-0-is c.in-Ok-Waits.ensures.tells
    in
    let counts = c.in-Ok-Waits.ensures.counts in
    record {
      outside = c.begin_turn.ensures.outside;
      goes = goes_twice c.args.pen.now c.loop.pen c.begin_turn.new.pen was.goes c.begin_turn.ensures.goes;
      room = c.begin_turn.ensures.room ∙ was.room;
      own = it.own ∙ was.own;
      grant = it.grant ∙ was.grant;
      writing = (λ i. record (it.same i) { patience = c.args.writing.patience }) ∙ was.writing;
      tells = calls_more c.args.pen.now c.loop.pen c.begin_turn.new.pen was.goes TellsWork was.tells
          (call_through c.loop.pen c.begin_turn.new.pen (OfReserved (own_at c.loop.pen) (λ number. TellsWork)) TellsWork (λ one is. is.is) told);
      found = found_more c.args.self.now c.args.pen.now c.requires.outside c.loop.pen c.begin_turn.new.pen was.goes was.outside was.found counts.turn
          counts.took (λ idle. subst (λ (b : Beginning). BeginsAlone c.loop.writing.packed (calls_at c.loop.pen) c.begin_turn.new.pen b)
          c.in-Ok-Waits.field-0-is (c.in-Ok-Waits.ensures.counts.starts idle));
    }

pub returns-in-Ok-Begun-clause-comes : goal.returns-in-Ok-Begun-clause-comes
returns-in-Ok-Begun-clause-comes g c =
    let was = c.loop.invariant in
    begins_still c.args.writing c.loop.writing c.args.pen.now c.loop.pen c.begin_turn.new.pen was.own
    (core_kept c.args.pen.now c.loop.pen was.goes) was.writing c.in-Ok-Begun.flight
    (subst (λ (b : Beginning). BeginComes c.loop.writing c.loop.pen c.begin_turn.new.pen (Ok b)) c.in-Ok-Begun.field-0-is c.in-Ok-Begun.ensures.comes)

pub returns-in-Ok-Begun-clause-goes : goal.returns-in-Ok-Begun-clause-goes
returns-in-Ok-Begun-clause-goes g c = goes_twice c.args.pen.now c.loop.pen c.begin_turn.new.pen c.loop.invariant.goes c.begin_turn.ensures.goes

pub returns-in-Err-clause-comes : goal.returns-in-Err-clause-comes
returns-in-Err-clause-comes g c =
    let was = c.loop.invariant in
    fails_still c.args.writing c.loop.writing c.args.pen.now c.loop.pen c.begin_turn.new.pen was.own
    (core_kept c.args.pen.now c.loop.pen was.goes) was.writing c.in-Err.fault c.in-Err.ensures.comes

pub returns-in-Err-clause-goes : goal.returns-in-Err-clause-goes
returns-in-Err-clause-goes g c = goes_twice c.args.pen.now c.loop.pen c.begin_turn.new.pen c.loop.invariant.goes c.begin_turn.ensures.goes

pub returns-in-Ok-Begun-clause-tells : goal.returns-in-Ok-Begun-clause-tells
returns-in-Ok-Begun-clause-tells g c =
    let was = c.loop.invariant in
    begun_told c.args.writing c.loop.writing c.args.pen.now c.loop.pen c.begin_turn.new.pen was.own was.goes was.writing was.tells (Ok c.in-Ok-Begun.flight)
    (subst (λ (b : Beginning). TellsCall (IsOneTurn (OfReserved (own_at c.loop.pen) (λ number. begin_labels c.loop.pen.view.core
    (fsync_told c.loop.writing.fsync.node c.loop.writing.fsync.stamp) (written_in c.loop.writing) number (Ok b)))) c.loop.pen c.begin_turn.new.pen)
    c.in-Ok-Begun.field-0-is c.in-Ok-Begun.ensures.tells)

pub returns-in-Err-clause-tells : goal.returns-in-Err-clause-tells
returns-in-Err-clause-tells g c =
    let was = c.loop.invariant in
    begun_told c.args.writing c.loop.writing c.args.pen.now c.loop.pen c.begin_turn.new.pen was.own was.goes was.writing was.tells (Err c.in-Err.fault)
    c.in-Err.ensures.tells

pub returns-in-Ok-Begun-clause-counts : goal.returns-in-Ok-Begun-clause-counts
returns-in-Ok-Begun-clause-counts g c =
    let was = c.loop.invariant in
    let counts = c.in-Ok-Begun.ensures.counts in
    let packed = ap (λ (w : Writing). w.packed) was.writing in
    subst (λ (p : Contents). BeginsScheduled p c.args.pen.now c.begin_turn.new.pen c.in-Ok-Begun.flight) packed
    (begun_alone c.args.self.now c.args.pen.now c.requires.outside c.loop.pen c.begin_turn.new.pen was.goes was.outside was.found counts.turn counts.took
    c.loop.writing.packed c.in-Ok-Begun.flight (λ idle. subst (λ (b : Beginning). BeginsAlone c.loop.writing.packed (calls_at c.loop.pen)
    c.begin_turn.new.pen b) c.in-Ok-Begun.field-0-is (c.in-Ok-Begun.ensures.counts.starts idle)))

pub loop-init : goal.loop-init
loop-init g c =
    let pen = c.args.pen.now in
    record {
      outside = c.requires.outside;
      goes = (goes_still pen).goes;
      room = refl;
      own = refl;
      grant = refl;
      writing = refl;
      tells = calls_none pen TellsWork;
      found = found_first pen;
    }
