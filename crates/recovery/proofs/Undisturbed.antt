-- Device calls in a row, one after another.
use Rattle.std.proofs.Common.{ℕ, ◌^◌, ◌<◌, ◌≤◌, Result, Ok, Err, refl, subst, ◌∙◌}
use Rattle.std.specs.Result.{IsErr}
use Rattle.sfs_base.specs.Ends.{HasRisen, HasCause}
use Rattle.sfs_base.proofs.BasicTruth.{false_not_true}
use Rattle.sfs_base.specs.declared.fault.Failed.{Failed}
use Rattle.sfs_dev.specs.Disk.{View, IsDeviceCall}
use Rattle.sfs_dev.proofs.Runs.{GoesOn-refl, GoesOn-trans, call_advances}
use Rattle.recovery.specs.Cause.{Ran, Undisturbed}

pub undisturbed-refl : (disk : View) → Undisturbed disk disk
undisturbed-refl disk = record { advances = GoesOn-refl disk; kept = refl }

-- one call more
pub undisturbed-call : {V E : Type 0} (old mid new : View) (v : V) → mid.now < 2 ^ 64 → Undisturbed old mid → IsDeviceCall {V = V} {E = E} mid new (Ok v)
    → Undisturbed old new
undisturbed-call old mid new v fits so_far call =
    record { advances = GoesOn-trans old mid new so_far.advances (call_advances mid new (Ok v) fits call); kept = call.cause.kept ∙ so_far.kept }

pub undisturbed-ran : {V : Type 0} (old mid new : View) (v : V) → Undisturbed old mid → Ran mid new (Ok v) → Undisturbed old new
undisturbed-ran old mid new v so_far ran = record { advances = GoesOn-trans old mid new so_far.advances ran.advances; kept = ran.cause.kept ∙ so_far.kept }

has_cause : {V : Type 0} (before now : ℕ) (result : Result V Failed) → IsErr result → before ≤ now → HasRisen before now → HasCause before now result
has_cause before now (Ok v) failed le risen = absurd (false_not_true failed)
has_cause before now (Err e) failed le risen = record { never_falls = le; risen = risen; kept = tt }

-- a call that failed
pub failed-call : {V W : Type 0} (old mid new : View) (e : Failed) (result : Result W Failed) → IsErr result → mid.now < 2 ^ 64 → Undisturbed old mid
    → IsDeviceCall {V = V} mid new (Err e)
    → Ran old new result
failed-call old mid new e result failed fits so_far call = record {
  advances = GoesOn-trans old mid new so_far.advances (call_advances mid new (Err e) fits call);
  cause =
      has_cause old.faults new.faults result failed (subst (λ n. n ≤ new.faults) so_far.kept call.cause.never_falls)
      (subst (λ n. HasRisen n new.faults) so_far.kept call.cause.risen);
}

pub failed-ran : {V W : Type 0} (old mid new : View) (e : Failed) (result : Result W Failed) → IsErr result → Undisturbed old mid → Ran {V = V} mid new (Err e)
    → Ran old new result
failed-ran old mid new e result failed so_far ran = record {
  advances = GoesOn-trans old mid new so_far.advances ran.advances;
  cause =
      has_cause old.faults new.faults result failed (subst (λ n. n ≤ new.faults) so_far.kept ran.cause.never_falls)
      (subst (λ n. HasRisen n new.faults) so_far.kept ran.cause.risen);
}

pub ran-done : {V : Type 0} (old new : View) (v : V) → Undisturbed old new → Ran old new (Ok v)
ran-done old new v so_far = record { advances = so_far.advances; cause = record { never_falls = so_far.advances.never_falls; risen = tt; kept = so_far.kept } }
