use Rattle.std.proofs.Common.{ap}
use Rattle.std.proofs.lemmas.Result.{err_from_is_err_and}
use Rattle.sfs_base.specs.Memory.{Reading}
use Rattle.sfs_base.proofs.Causes.{failed_has_cause}
use Rattle.sfs_base.proofs.bytes_source.BytesSourceSource.read.Goals as goal

pub returns-in_err-next-clause-cause : goal.returns-in_err-next-clause-cause
returns-in_err-next-clause-cause c =
    let p = err_from_is_err_and c.from_residual.result c.from_residual.ensures.1 in
    rw p.1 (failed_has_cause _ _ _ _ (ap (λ (r : Reading). r.plan.faults) c.self.view_is) c.in_err-next.ensures.never_falls c.in_err-next.ensures.cause)
