-- What `check` does: whether a history's text is legal over the image of a disk.
use Rattle.std.specs.Prelude.{◌≡◌, ℕ, ◌<◌, ◌≤◌, Bool, true, false, List, ◌++◌, codes, decimal, length, Option, None}
use Rattle.sfs_base.specs.Ends.{HasRisen}
use Rattle.sfs_base.specs.declared.numbers.Measure.TheVariants.{Bytes}
use Rattle.sfs_dev.specs.Run.{EachMoment, Unwritten}
use Rattle.sfs_dev.specs.Steps.{IfTold}
use Rattle.image_laws.specs.Image.{ImageFault as Fault, fault_of}
use Rattle.journal_one.specs.Calls.{IsCalm}
use Rattle.journal_one.specs.Known.{EachLeft}
use Rattle.recovery.specs.Recovered.{ShowsTheSame, IsRecoveredFrom}
use Rattle.tree_laws.specs.Tree.{TreeState}
use Rattle.history_check.specs.Legal.{IsLegalText, IsFirstWrong}
use Rattle.history_check.specs.declared.checking.TheConstants.{LONGEST_HISTORY}
use Rattle.scalefs_run.specs.declared.outcome.Status.{Status}
use Rattle.scalefs_run.specs.declared.outcome.Status.TheVariants.{Done, ReadFault, WriteFault, DiskFault, BadImage, NoMemory, TooLong, WrongHistory}
use Rattle.scalefs_run.specs.Image.{IsImageRefused, showing_due}
use Rattle.scalefs_run.specs.Images.{IfToldAndCalm}
use Rattle.scalefs_run.specs.Outcome.{HasText, IsOf}
use Rattle.scalefs_run.specs.Served.{IsFirstTree, RunEnds}

-- the line that is written of a legal text: `legal N entries`
abbrev pub legal_text : ℕ → List ℕ
legal_text count = codes "legal " ++ decimal count ++ codes " entries\n"

-- How the check of a text over a tree ends: the text is legal, and its line was written, or a front of it where the sink failed; or this is
-- its first wrong line; or memory was refused. Only of a legal text something was written.
abbrev pub ChecksOver : TreeState → List ℕ → Type 0 → Option (List ℕ) → Option (List ℕ) → Status → Type 0
ChecksOver first text Sink before after Done = (count : ℕ) × IsLegalText first text count × HasText (legal_text count) before after Done
ChecksOver first text Sink before after WriteFault =
    (count : ℕ) × IsLegalText first text count × HasText (legal_text count) before after WriteFault × Sink
ChecksOver first text Sink before after (WrongHistory line) = IsFirstWrong first text line × (after ≡ before)
ChecksOver first text Sink before after NoMemory = after ≡ before
ChecksOver first text Sink before after _ = ⊥

-- What a check goes by: all that the source gave, the image's first fault, if it has one, and the tree with which a legal history begins.
pub record Checked : Type 0 where
  pub text : List ℕ
  pub fault : Option Fault
  pub first : TreeState

-- The text was checked: it is not too long, the image has no fault, and the check over the tree ends so.
pub record IsCheckOf (checked : Checked) (ends : RunEnds) (status : Status) : Type 0 where
  pub short : length checked.text ≤ LONGEST_HISTORY
  pub faultless : checked.fault ≡ None
  pub over : ChecksOver checked.first checked.text ends.Sink ends.before ends.after status

-- Why `check` ends so: the source failed, or gave too many bytes; the disk failed behind it, or its image has this first fault; or the text
-- was checked; or memory was refused. Where no text was checked nothing was written.
abbrev pub HasCheckCause : Checked → RunEnds → Status → Type 0
HasCheckCause checked ends ReadFault = ends.Source × (ends.after ≡ ends.before)
HasCheckCause checked ends (TooLong measure) = (measure ≡ Bytes) × (LONGEST_HISTORY < length checked.text) × (ends.after ≡ ends.before)
HasCheckCause checked ends DiskFault =
    HasRisen ends.old.faults ends.new.faults × (length checked.text ≤ LONGEST_HISTORY) × (ends.after ≡ ends.before)
HasCheckCause checked ends (BadImage fault) =
    (showing_due checked.fault ≡ BadImage fault) × (length checked.text ≤ LONGEST_HISTORY) × (ends.after ≡ ends.before)
HasCheckCause checked ends Done = IsCheckOf checked ends Done
HasCheckCause checked ends WriteFault = IsCheckOf checked ends WriteFault
HasCheckCause checked ends (WrongHistory line) = IsCheckOf checked ends (WrongHistory line)
HasCheckCause checked ends NoMemory = ends.after ≡ ends.before
HasCheckCause checked ends _ = ⊥

-- whether a text was checked to its end
abbrev pub was_checked : Status → Bool
was_checked Done = true
was_checked WriteFault = true
was_checked (WrongHistory line) = true
was_checked _ = false

-- A history's text was checked over the image of a disk: all that the source gave, over the image's tree with a share of so many new nodes for
-- each core. Each image that a crash during the call may leave shows what the image did; a refused image was not written to; and one over
-- which a text was checked is recovered.
pub record ChecksHistory (nodes : ℕ) (left : Option (List ℕ)) (ends : RunEnds) (status : Status) : Type 0 where
  pub checked : Checked
  pub text_is : IsOf left checked.text
  pub fault_told : IfTold ends.old.content (λ image. checked.fault ≡ fault_of image)
  pub first_is : was_checked status ≡ true → IsFirstTree nodes ends.old checked.first
  pub caused : HasCheckCause checked ends status
  pub moments : IfToldAndCalm ends.old ends.new (λ image. EachMoment ends.old ends.new (λ _ now. ShowsTheSame now image))
  pub refused : IsImageRefused status → Unwritten ends.old ends.new
  pub recovered : IfTold ends.old.content (λ image. IsCalm ends.old → was_checked status ≡ true → EachLeft ends.new (IsRecoveredFrom image))
