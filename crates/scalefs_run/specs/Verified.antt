-- What `verify` does: a verdict on the image of a disk.
use Rattle.std.specs.Prelude.{◌≡◌, ℕ, List, Option}
use Rattle.sfs_dev.specs.Disk.{View}
use Rattle.image_verdict.specs.Verdicts.{IsVerdictOn}
use Rattle.image_verdict.specs.declared.judging.Verdict.{Verdict}
use Rattle.image_verdict.specs.declared.judging.Verdict.TheVariants as verdict
use Rattle.scalefs_run.specs.declared.outcome.ImageFault.TheVariants.{Super, Journal, Tree}
use Rattle.scalefs_run.specs.declared.outcome.Status.{Status}
use Rattle.scalefs_run.specs.declared.outcome.Status.TheVariants.{Done, WriteFault, DiskFault, BadImage, NoMemory, NotAccepted}

-- the status that tells a verdict
abbrev pub status_of_verdict : Verdict → Status
status_of_verdict verdict.Sound = Done
status_of_verdict (verdict.BadSuper at) = BadImage (Super at)
status_of_verdict (verdict.BadJournal core slot at) = BadImage (Journal core slot at)
status_of_verdict (verdict.BadImage inode rule) = BadImage (Tree inode rule)
status_of_verdict verdict.NotAccepted = NotAccepted
status_of_verdict verdict.WriteFault = WriteFault
status_of_verdict verdict.DiskFailed = DiskFault
status_of_verdict verdict.NoMemory = NoMemory

-- A verdict on the image of a disk was given, and the status tells it: where the disk tells its image, the verdict is due to it and the
-- text that is due was written, or a front of it where the sink failed. The disk was not written to.
pub record VerifiesImage (Sink : Type 0) (before after : Option (List ℕ)) (old new : View) (status : Status) : Type 0 where
  pub verdict : Verdict
  pub status_is : status ≡ status_of_verdict verdict
  pub given : IsVerdictOn Sink before after old new verdict
