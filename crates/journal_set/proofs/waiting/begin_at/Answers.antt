use Rattle.std.proofs.Common.{◌∙◌, inr, length, sym, ap, subst, arith}
use Rattle.sfs_base.proofs.BasicOptions.{none_of}
use Rattle.slot_laws.specs.Telling.{turn_refuses}
use Rattle.slot_laws.specs.Labels.{fsync_told}
use Rattle.commit_ledger.specs.View.{number_in}
use Rattle.disk_box.specs.Pens.{past_at}
use Rattle.disk_box.proofs.Owners.{owner_is, slots_many, waits_some}
use Rattle.journal_set.specs.OwnSlots.{NoneIdle}
use Rattle.journal_set.proofs.Aloft.{works_at}
use Rattle.journal_set.proofs.Unbegun.{its_reserved, owes_unbegun, some_reserved, unbegun_learned}
use Rattle.journal_set.proofs.waiting.begin_at.Goals as goal
use Rattle.journal_set.proofs.CallsTold.{halt_calls}

pub unreachable-requires : goal.unreachable-requires
unreachable-requires g c =
    some_reserved g.D.Disk.view c.args.table.now c.args.pen.now c.args.desk.now c.args.writing.grant c.requires.at c.requires.grant
    (ap (number_in c.args.desk.now.ledger) (sym c.number-core.ensures) ∙ (sym c.number.ensures ∙ c.in_default.is))

pub halt-faults-requires-clause-learned : goal.halt-faults-requires-clause-learned
halt-faults-requires-clause-learned g c κs within =
    unbegun_learned c.args.table.now c.args.pen.now c.requires.at.holds c.in-Some.number
    (its_reserved g.D.Disk.view c.args.table.now c.args.pen.now c.args.desk.now c.args.writing.grant c.requires.at c.requires.grant c.in-Some.number
    (ap (number_in c.args.desk.now.ledger) (sym c.number-core.ensures) ∙ (sym c.number.ensures ∙ c.in-Some.is)))

pub halt-faults-requires-clause-room : goal.halt-faults-requires-clause-room
halt-faults-requires-clause-room g c κs within =
    let three = owes_unbegun c.args.table.now c.args.pen.now c.requires.at.holds c.in-Some.number
    (its_reserved g.D.Disk.view c.args.table.now c.args.pen.now c.args.desk.now c.args.writing.grant c.requires.at c.requires.grant c.in-Some.number
    (ap (number_in c.args.desk.now.ledger) (sym c.number-core.ensures) ∙ (sym c.number.ensures ∙ c.in-Some.is))) c.requires.goes_on
    in
    inr (omega (arith, three))

pub own_with-requires-clause-cores : goal.own_with-requires-clause-cores
own_with-requires-clause-cores g c = waits_some g.D.Disk.view c.args.pen.now.table.given (past_at c.args.pen.now) c.args.desk.now c.requires.at.fits.frame

pub own_with-requires-clause-slots : goal.own_with-requires-clause-slots
own_with-requires-clause-slots g c = slots_many g.D.Disk.view c.args.pen.now.table.given (past_at c.args.pen.now) c.args.desk.now c.requires.at.fits.frame

pub begin_in-flight-requires-clause-work : goal.begin_in-flight-requires-clause-work
begin_in-flight-requires-clause-work g c κs within =
    (works_at g.D.Disk.view c.args.table.now c.args.pen.now c.args.desk.now c.requires.at (none_of c.args.desk.now.failed (sym c.is_some.ensures ∙
    c.if-is_some.false)))

pub begin_in-flight-requires-clause-own : goal.begin_in-flight-requires-clause-own
begin_in-flight-requires-clause-own g c κs within =
    sym (owner_is g.D.Disk.view c.args.pen.now.table.given (past_at c.args.pen.now) c.args.desk.now c.requires.at.fits.frame c.in-Some-own_with.k) ∙
    (c.in-Some-own_with.ensures.some.owner_is ∙ c.number-core.ensures)

pub begin_in-flight-requires-clause-number : goal.begin_in-flight-requires-clause-number
begin_in-flight-requires-clause-number g c κs within =
    (its_reserved g.D.Disk.view c.args.table.now c.args.pen.now c.args.desk.now c.args.writing.grant c.requires.at c.requires.grant c.in-Some.number
    (ap (number_in c.args.desk.now.ledger) (sym c.number-core.ensures) ∙ (sym c.number.ensures ∙ c.in-Some.is)))

pub free_slot-requires-clause-work : goal.free_slot-requires-clause-work
free_slot-requires-clause-work g c κs within =
    (works_at g.D.Disk.view c.args.table.now c.args.pen.now c.args.desk.now c.requires.at (none_of c.args.desk.now.failed (sym c.is_some.ensures ∙
    c.if-is_some.false)))

pub free_slot-requires-clause-number : goal.free_slot-requires-clause-number
free_slot-requires-clause-number g c κs within =
    (its_reserved g.D.Disk.view c.args.table.now c.args.pen.now c.args.desk.now c.args.writing.grant c.requires.at c.requires.grant c.in-Some.number
    (ap (number_in c.args.desk.now.ledger) (sym c.number-core.ensures) ∙ (sym c.number.ensures ∙ c.in-Some.is)))

pub free_slot-requires-clause-none : goal.free_slot-requires-clause-none
free_slot-requires-clause-none g c κs within =
    subst (NoneIdle c.args.desk.now.slots.items (length c.args.desk.now.waits.items)) c.number-core.ensures c.in-None.ensures.none

pub returns-then-is_some-clause-comes : goal.returns-then-is_some-clause-comes
returns-then-is_some-clause-comes g c = record {
  number = c.in-Some.number;
  had =
      (its_reserved g.D.Disk.view c.args.table.now c.args.pen.now c.args.desk.now c.args.writing.grant c.requires.at c.requires.grant c.in-Some.number
      (ap (number_in c.args.desk.now.ledger) (sym c.number-core.ensures) ∙ (sym c.number.ensures ∙ c.in-Some.is)));
  ends = c.halt-faults.ensures.halts;
}

pub returns-then-is_some-clause-tells : goal.returns-then-is_some-clause-tells
returns-then-is_some-clause-tells g c = record {
  one = turn_refuses c.halt-faults.ensures.tells.turn;
  is = record {
    number = c.in-Some.number;
    had =
        (its_reserved g.D.Disk.view c.args.table.now c.args.pen.now c.args.desk.now c.args.writing.grant c.requires.at c.requires.grant c.in-Some.number
        (ap (number_in c.args.desk.now.ledger) (sym c.number-core.ensures) ∙ (sym c.number.ensures ∙ c.in-Some.is)));
    is = c.halt-faults.ensures.tells.by;
  };
  mine_is = c.halt-faults.ensures.tells.mine_is;
}

pub returns-then-is_some-clause-counts : goal.returns-then-is_some-clause-counts
returns-then-is_some-clause-counts g c =
    let same = halt_calls c.args.pen.now c.halt-faults.new.pen c.in-Some.number
    (fsync_told c.args.writing.fsync.node c.args.writing.fsync.stamp) c.halt-faults.ensures.tells
    in
    record { once = omega (arith, same); starts = tt }

pub returns-in-Some-own_with-clause-counts : goal.returns-in-Some-own_with-clause-counts
returns-in-Some-own_with-clause-counts g c =
    let same = c.begin_in-flight.ensures.calls in
    record { once = omega (arith, same); starts = c.begin_in-flight.ensures.starts }
