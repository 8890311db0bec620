-- How runs of reads follow one another.
use Rattle.std.proofs.Common.{◌≡◌, ℕ, ◌^◌, ◌<◌, Bool, true, false, List, Result, Ok, Err, ◌∙◌, sym, subst}
use Rattle.sfs_base.specs.Ends.{HasRisen}
use Rattle.sfs_dev.specs.Disk.{View, SameImages, images, IsDeviceCall}
use Rattle.sfs_dev.specs.Run.{IsCauseOf, HasReadCause, OnlyReads}
use Rattle.sfs_dev.proofs.Runs.{GoesOn-trans, Rests-call, Rests-trans, ReadSoFar, call_advances}

-- one read more
pub read_call : {V E : Type 0} (old mid new : View) (v : V) → mid.now < 2 ^ 64 → ReadSoFar old mid → new.content ≡ mid.content
    → SameImages (images mid) (images new)
    → IsDeviceCall {V = V} {E = E} mid new (Ok v) → ReadSoFar old new
read_call old mid new v fits before content left call =
    let goes = call_advances mid new (Ok v) fits call in
    record {
      advances = GoesOn-trans old mid new before.advances goes;
      unwritten = Rests-call old mid new goes call.time content left before.unwritten;
      kept = call.cause.kept ∙ before.kept;
    }

-- an answer, and a refusal, as results
abbrev pub answered : {V F : Type 0} → V → Result V F
answered value = Ok value

abbrev pub refused : {V F : Type 0} → F → Result V F
refused fault = Err fault

later_cause : (failed : Bool) (old mid new : ℕ) → mid ≡ old → IsCauseOf failed mid new → IsCauseOf failed old new
later_cause true old mid new same risen = subst (λ (n : ℕ). HasRisen n new) same risen
later_cause false old mid new same kept = kept ∙ same

module _ {F : Type 0} {is_disk_fault : F → Bool} where
  -- another run, which went well
  pub read_more : {V : Type 0} (old mid new : View) (value : V) → ReadSoFar old mid → OnlyReads is_disk_fault mid new (Ok value) → ReadSoFar old new
  read_more old mid new value before run = record {
    advances = GoesOn-trans old mid new before.advances run.advances;
    unwritten = Rests-trans old mid new before.unwritten run.advances run.unwritten;
    kept = run.cause ∙ before.kept;
  }

  -- the same of a run whose answer is known to be one
  pub read_more_by : {V : Type 0} (old mid new : View) (result : Result V F) (value : V) → ReadSoFar old mid → result ≡ Ok value
      → OnlyReads is_disk_fault mid new result → ReadSoFar old new
  read_more_by {V} old mid new result value before is run =
      read_more old mid new value before (let P : Result V F → Type 0 = λ r. OnlyReads is_disk_fault mid new r in subst P is run)

  -- what was read so far is a run by itself, whatever is answered but that the disk failed
  pub read_well : {V : Type 0} (old new : View) (value : V) → ReadSoFar old new → OnlyReads is_disk_fault old new (answered {F = F} value)
  read_well old new value run = record { advances = run.advances; unwritten = run.unwritten; cause = run.kept }

  pub read_refused : {V : Type 0} (old new : View) (fault : F) → is_disk_fault fault ≡ false → ReadSoFar old new
      → OnlyReads is_disk_fault old new (refused {V = V} fault)
  read_refused old new fault other run = record {
    advances = run.advances;
    unwritten = run.unwritten;
    cause = subst (λ failed. IsCauseOf failed old.faults new.faults) (sym other) run.kept;
  }

  -- a run whose last part was refused
  pub read_failed : {V W : Type 0} (old mid new : View) (result : Result V F) (fault : F) → ReadSoFar old mid → result ≡ Err fault
      → OnlyReads is_disk_fault mid new result
      → OnlyReads is_disk_fault old new (refused {V = W} fault)
  read_failed {V} old mid new result fault before is run = record {
    advances = GoesOn-trans old mid new before.advances run.advances;
    unwritten = Rests-trans old mid new before.unwritten run.advances run.unwritten;
    cause = later_cause (is_disk_fault fault) old.faults mid.faults new.faults before.kept
        (let P : Result V F → Type 0 = λ r. HasReadCause is_disk_fault mid.faults new.faults r in subst P is run.cause);
  }
