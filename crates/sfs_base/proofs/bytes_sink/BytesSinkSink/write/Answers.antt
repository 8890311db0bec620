use Rattle.std.proofs.Common.{◌≡◌, ◌≤◌, ap, arith}
use Rattle.std.proofs.lemmas.Result.{err_from_is_err_and}
use Rattle.sfs_base.specs.Memory.{Writing}
use Rattle.sfs_base.proofs.Causes.{failed_has_cause, Rose-earlier}
use Rattle.sfs_base.proofs.bytes_sink.BytesSinkSink.write.Goals as goal

pub returns-in_err-next-clause-cause : goal.returns-in_err-next-clause-cause
returns-in_err-next-clause-cause c =
    let p = err_from_is_err_and c.from_residual.result c.from_residual.ensures.1 in
    rw p.1 (failed_has_cause _ _ _ _ (ap (λ (w : Writing). w.plan.faults) c.self.view_is) c.in_err-next.ensures.never_falls c.in_err-next.ensures.cause)

pub returns-then-is_err-clause-cause : goal.returns-then-is_err-clause-cause
returns-then-is_err-clause-cause c =
    let same : c.self.inside.plan.faults ≡ c.args.self.now.plan.faults = ap (λ (w : Writing). w.plan.faults) c.self.view_is in
    let kept : c.self.inside.plan.faults ≤ c.fault.new.self.faults = omega (arith, c.in_ok-next.ensures.never_falls, c.fault.ensures.never_falls) in
    failed_has_cause _ _ _ _ same kept (Rose-earlier _ _ _ c.in_ok-next.ensures.never_falls c.fault.ensures.cause)
