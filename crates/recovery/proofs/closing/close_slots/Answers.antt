-- The slots are closed one after another, the oldest first.
use Rattle.std.proofs.Common.{ℕ, Some, sym, subst}
use Rattle.recovery.specs.Recovering.{ClosesSoFar}
use Rattle.recovery.proofs.ClosedOnDisk.{one_more_closed, closing_failed, closings_end}
use Rattle.recovery.proofs.Undisturbed.{undisturbed-ran}
use Rattle.recovery.proofs.closing.close_slots.Goals as goal

pub returns-in_err-close_slot-clause-closed : goal.returns-in_err-close_slot-clause-closed
returns-in_err-close_slot-clause-closed g c parts to =
    let view = g.D.Disk.view in
    let one = c.index-found-place.result in
    closing_failed c.args.layout.now parts c.args.found.now c.loop-place.last (Some one.stamp) (view c.args.disk.now) (view c.loop-place.disk)
    (view c.close_slot.new.disk)
    c.close_slot.ensures.ran.advances (c.loop-place.invariant.closed parts to) c.close_slot.result c.from_residual.result c.from_residual.ensures.0
    (c.close_slot.ensures.closed parts c.args.found.now c.loop-place.last c.in-Some.place (c.in-Some.ensures.1 one c.index-found-place.is)
    (c.loop-place.invariant.closed parts to).closed)

pub loop-place-preserved : goal.loop-place-preserved
loop-place-preserved g c =
    let view = g.D.Disk.view in
    let one = c.index-found-place.result in
    record {
      so_far =
          undisturbed-ran (view c.args.disk.now) (view c.loop-place.disk)
          (view c.close_slot.new.disk) _ c.loop-place.invariant.so_far c.in_ok-close_slot.ensures.ran;
      calm = λ calm. c.in_ok-close_slot.ensures.calm;
      closed = λ parts to.
          let before = c.loop-place.invariant.closed parts to in
          subst (λ (stamp : ℕ). ClosesSoFar c.args.layout.now parts c.args.found.now (Some stamp) (view c.args.disk.now) (view c.close_slot.new.disk))
          (sym c.in_ok-close_slot.ensures.stamp)
          (one_more_closed c.args.layout.now parts c.args.found.now c.loop-place.last (Some one.stamp) (view c.args.disk.now) (view c.loop-place.disk)
          (view c.close_slot.new.disk)
          c.close_slot.ensures.ran.advances before c.in_ok-close_slot.field-0
          (c.in_ok-close_slot.ensures.closed parts c.args.found.now c.loop-place.last c.in-Some.place
          (c.in-Some.ensures.1 one c.index-found-place.is) before.closed));
    }

pub returns-clause-closed : goal.returns-clause-closed
returns-clause-closed g c parts to =
    let view = g.D.Disk.view in
    closings_end c.args.layout.now parts c.args.found.now c.loop-place.last (view c.args.disk.now) (view c.loop-place.disk) tt c.in_default.ensures
    (c.loop-place.invariant.closed parts to)
