use Rattle.std.proofs.Common.{◌∙◌, inr, sym, subst, ap, arith, refl}
use Rattle.tree_laws.specs.declared.turns.TurnAct.TheVariants as act
use Rattle.slot_laws.specs.Labels.{BoxPast}
use Rattle.slot_laws.specs.declared.label.Label.TheVariants as label
use Rattle.disk_box.specs.Pens.{PenHand, own_at, calls_at}
use Rattle.disk_box.specs.Counting.{due_at}
use Rattle.disk_box.proofs.StepsTold.{no_call_told, once_told}
use Rattle.journal_set.specs.Flying.{IsUnderWay, flush_of}
use Rattle.journal_set.specs.Telling.{TellsAtBox, TellsOf, flight_labels}
use Rattle.journal_set.specs.Counting.{WorksOnce}
use Rattle.journal_set.proofs.Failing.{owes_some}
use Rattle.journal_set.proofs.flying.turn_at.Goals as goal
use Rattle.journal_set.proofs.ToldCommits.{lands_under, halts_told}
use Rattle.journal_set.proofs.CallsTold.{halt_calls, landed_due, learned_down}

pub halt-faults-requires-clause-room : goal.halt-faults-requires-clause-room
halt-faults-requires-clause-room g c κs within =
    let none = c.in_default.ensures.none in
    let under = c.requires.under in
    inr (owes_some c.args.table.now c.learn.new.pen c.learn.ensures.at.holds c.args.flight.now under.0
    (subst (λ (h : PenHand g.row.D.Denot). IsUnderWay c.args.flight.now under.0 (own_at h)) (sym none.0) under.1))

pub returns-in-Some-clause-tells : goal.returns-in-Some-clause-tells
returns-in-Some-clause-tells g c =
    lands_under c.args.pen.now c.learn.new.pen c.in-Some.turn c.args.flight.now c.requires.under.0 c.requires.under.1 c.in-Some.ensures.tells.mine_is
    c.in-Some.ensures.some

pub returns-then-is_some-clause-tells : goal.returns-then-is_some-clause-tells
returns-then-is_some-clause-tells g c =
    let flight = c.args.flight.now in
    subst (λ (h : PenHand g.row.D.Denot). TellsAtBox (TellsOf h.view.core flight.commit (flush_of flight) act.Halted) h c.halt-faults.new.pen)
    c.in_default.ensures.none.0 (halts_told c.learn.new.pen c.halt-faults.new.pen flight.commit (flush_of flight) c.halt-faults.ensures.tells)

pub returns-clause-tells : goal.returns-clause-tells
returns-clause-tells g c =
    let flight = c.args.flight.now in
    subst (λ (h : PenHand g.row.D.Denot). TellsAtBox (flight_labels h.view.core flight.commit (flush_of flight) c.advance.result) h c.advance.new.pen)
    c.in_default.ensures.none.0 c.advance.ensures.tells

pub returns-in-Some-clause-counts : goal.returns-in-Some-clause-counts
returns-in-Some-clause-counts g c =
    let pen = c.args.pen.now in
    let after = c.learn.new.pen in
    let turn = c.in-Some.turn in
    let slot = c.args.flight.now.slot in
    let tells = c.in-Some.ensures.tells in
    record {
      once = once_told pen after (label.Learned turn) tells;
      brings = no_call_told pen after (label.Learned turn) tells refl;
      down = (
        learned_down slot pen after turn tells,
        ap (λ (p : BoxPast). due_at p slot) tells.past
            ∙ landed_due g.D.Disk.view c.args.table.now pen c.args.desk.now turn c.args.flight.now c.requires.under.0 c.requires.at c.in-Some.ensures.waits
            c.requires.under.1,
      );
    }

pub returns-then-is_some-clause-counts : goal.returns-then-is_some-clause-counts
returns-then-is_some-clause-counts g c =
    let flight = c.args.flight.now in
    let same = halt_calls c.learn.new.pen c.halt-faults.new.pen flight.commit (flush_of flight) c.halt-faults.ensures.tells in
    let none = ap (λ (h : PenHand g.row.D.Denot). calls_at h) c.in_default.ensures.none.0 in
    record { once = omega (arith, same, none); brings = tt; down = tt }

pub returns-clause-counts : goal.returns-clause-counts
returns-clause-counts g c =
    let flight = c.args.flight.now in
    subst (λ (h : PenHand g.row.D.Denot). WorksOnce flight c.advance.new.flight h c.advance.new.pen c.advance.result) c.in_default.ensures.none.0
    c.advance.ensures.counts
