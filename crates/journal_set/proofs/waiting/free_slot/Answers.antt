use Rattle.std.proofs.Common.{◌∙◌, ℕ, refl, ap, subst, arith}
use Rattle.std.proofs.lemmas.Option.{slice_get_within}
use Rattle.cut_laws.specs.Closure.{Flush}
use Rattle.slot_laws.specs.Labels.{OwnTold, fsync_told}
use Rattle.disk_box.specs.Pens.{own_at, past_at}
use Rattle.disk_box.specs.Turns.{Fails}
use Rattle.disk_box.proofs.Owners.{slots_many, waits_some}
use Rattle.journal_set.specs.Telling.{OfReserved, TellsWork, TellsFailing}
use Rattle.journal_set.proofs.Failing.{at_of_work, risen_still, still_learned}
use Rattle.journal_set.proofs.GrantKept.{grant_kept}
use Rattle.journal_set.proofs.Lingering.{own_slot, some_commit, some_lingers}
use Rattle.journal_set.proofs.Turned.{core_kept, goes_twice}
use Rattle.journal_set.proofs.Unbegun.{no_flight_told, owes_unbegun, unbegun_learned}
use Rattle.journal_set.proofs.waiting.free_slot.Goals as goal
use Rattle.journal_set.proofs.Told.{tells_work, tells_failing, tells_nothing}
use Rattle.journal_set.proofs.ToldCommits.{at_through}
use Rattle.journal_set.proofs.CallsTold.{fail_calls}

pub unreachable-requires : goal.unreachable-requires
unreachable-requires g c =
    c.in_default.ensures.none (own_slot g.D.Disk.view c.args.table.now c.args.pen.now c.args.desk.now c.requires.work (no_flight_told c.args.table.now
    c.args.pen.now
    c.requires.work.holds c.args.number c.requires.number) c.requires.none) (some_lingers g.D.Disk.view c.args.table.now c.args.pen.now c.args.desk.now
    c.requires.work (no_flight_told c.args.table.now
    c.args.pen.now c.requires.work.holds c.args.number c.requires.number) c.requires.none)

pub kind_at-requires : goal.kind_at-requires
kind_at-requires g c =
    let has = c.in-Some.ensures.some.lingers.has in
    slice_get_within c.args.desk.now.slots.items c.in-Some.k has.slot has.there

pub lets_others_write-requires-clause-cores : goal.lets_others_write-requires-clause-cores
lets_others_write-requires-clause-cores g c = waits_some g.D.Disk.view c.args.pen.now.table.given (past_at c.args.pen.now) c.args.desk.now
    c.requires.work.fits.frame

pub lets_others_write-requires-clause-slots : goal.lets_others_write-requires-clause-slots
lets_others_write-requires-clause-slots g c = slots_many g.D.Disk.view c.args.pen.now.table.given (past_at c.args.pen.now) c.args.desk.now
    c.requires.work.fits.frame

pub fail_unopened-requires-clause-learned : goal.fail_unopened-requires-clause-learned
fail_unopened-requires-clause-learned g c κs within = still_learned g.D.Disk.view c.args.table.now c.args.pen.now c.step_oldest.new.pen c.step_oldest.new.desk
    c.in-Err.faults c.in-Err.ensures.steps
    (unbegun_learned c.args.table.now c.args.pen.now c.requires.work.holds c.args.number c.requires.number)

pub fail_unopened-requires-clause-owes : goal.fail_unopened-requires-clause-owes
fail_unopened-requires-clause-owes g c κs within =
    let own = c.step_oldest.ensures.own in
    let three = owes_unbegun c.args.table.now c.step_oldest.new.pen c.in-Err.ensures.steps.err.holds c.args.number
    (ap (λ (o : OwnTold). o.reserved) own ∙ c.requires.number) (ap (λ (o : OwnTold). o.over) own ∙ c.requires.goes_on)
    in
    omega (arith, three)

pub returns-in-Ok-clause-at : goal.returns-in-Ok-clause-at
returns-in-Ok-clause-at g c = at_of_work g.D.Disk.view c.args.table.now c.step_oldest.new.pen c.step_oldest.new.desk c.in-Ok.ensures.steps.ok

pub returns-in-Ok-clause-comes : goal.returns-in-Ok-clause-comes
returns-in-Ok-clause-comes g c = record {
  same = refl;
  own = c.step_oldest.ensures.own;
  grant = grant_kept c.args.pen.now c.step_oldest.new.pen c.in-Ok.ensures.steps.tells;
}

pub returns-in-Err-clause-comes : goal.returns-in-Err-clause-comes
returns-in-Err-clause-comes g c = record {
  number = c.args.number;
  had = c.requires.number;
  ends = subst (λ (z : ℕ × OwnTold). Fails c.args.number (fsync_told c.args.writing.fsync.node c.args.writing.fsync.stamp) z.0 c.in-Err.faults z.1
      (own_at c.fail_unopened.new.pen))
      (λ i. (core_kept c.args.pen.now c.step_oldest.new.pen c.in-Err.ensures.steps.goes i, c.step_oldest.ensures.own i)) c.fail_unopened.ensures.fails;
}

pub returns-in-Err-clause-cause : goal.returns-in-Err-clause-cause
returns-in-Err-clause-cause g c = risen_still g.D.Disk.view c.args.table.now c.args.pen.now c.step_oldest.new.pen c.step_oldest.new.desk c.in-Err.faults
    c.in-Err.ensures.steps
    (unbegun_learned c.args.table.now c.args.pen.now c.requires.work.holds c.args.number c.requires.number)
    c.fail_unopened.new.pen c.fail_unopened.ensures.goes

pub returns-in-Err-clause-goes : goal.returns-in-Err-clause-goes
returns-in-Err-clause-goes g c =
    goes_twice c.args.pen.now c.step_oldest.new.pen c.fail_unopened.new.pen c.in-Err.ensures.steps.goes c.fail_unopened.ensures.goes

pub returns-in-Ok-clause-tells : goal.returns-in-Ok-clause-tells
returns-in-Ok-clause-tells g c =
    tells_work c.args.pen.now c.step_oldest.new.pen c.in-Ok.ensures.steps.tells c.step_oldest.ensures.own
    (OfReserved (own_at c.args.pen.now) (λ number. TellsWork))
    (λ facts work. record { number = c.args.number; had = c.requires.number; is = work })

pub returns-in-Err-clause-tells : goal.returns-in-Err-clause-tells
returns-in-Err-clause-tells g c =
    let pen = c.args.pen.now in
    let flush : Flush = fsync_told c.args.writing.fsync.node c.args.writing.fsync.stamp in
    at_through pen c.fail_unopened.new.pen (TellsFailing pen.view.core c.args.number flush c.in-Err.faults)
    (OfReserved (own_at pen) (λ number. TellsFailing pen.view.core number flush c.in-Err.faults))
    (λ one is. record { number = c.args.number; had = c.requires.number; is = is })
    (tells_failing pen c.step_oldest.new.pen c.fail_unopened.new.pen c.args.number c.in-Err.faults flush c.in-Err.ensures.steps.goes
    c.in-Err.ensures.steps.tells c.step_oldest.ensures.own c.fail_unopened.ensures.tells)

pub returns-then-lets_others_write-clause-tells : goal.returns-then-lets_others_write-clause-tells
returns-then-lets_others_write-clause-tells g c =
    tells_nothing c.args.pen.now (OfReserved (own_at c.args.pen.now) (λ number. TellsWork))
    (record { number = c.args.number; had = c.requires.number; is = tt })

pub returns-then-lets_others_write-clause-counts : goal.returns-then-lets_others_write-clause-counts
returns-then-lets_others_write-clause-counts g c = record {
  once = omega arith;
  starts = λ idle. some_commit g.D.Disk.view c.args.table.now c.args.pen.now c.args.desk.now c.requires.work
      (no_flight_told c.args.table.now c.args.pen.now c.requires.work.holds c.args.number c.requires.number) c.requires.none idle;
}

pub returns-in-Ok-clause-counts : goal.returns-in-Ok-clause-counts
returns-in-Ok-clause-counts g c = record {
  once = c.in-Ok.ensures.steps.once;
  starts = λ idle. some_commit g.D.Disk.view c.args.table.now c.args.pen.now c.args.desk.now c.requires.work
      (no_flight_told c.args.table.now c.args.pen.now c.requires.work.holds c.args.number c.requires.number) c.requires.none idle;
}

pub returns-in-Err-clause-counts : goal.returns-in-Err-clause-counts
returns-in-Err-clause-counts g c =
    let same = fail_calls c.step_oldest.new.pen c.fail_unopened.new.pen c.args.number c.in-Err.faults
    (fsync_told c.args.writing.fsync.node c.args.writing.fsync.stamp) c.fail_unopened.ensures.tells
    in
    let once = c.in-Err.ensures.steps.once in
    record { once = omega (arith, same, once); starts = tt }
