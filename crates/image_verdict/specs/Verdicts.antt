-- How a verdict on the image of a disk ends.
use Rattle.std.specs.Prelude.{◌≡◌, ℕ, ◌<◌, Bool, true, false, List, [], length, take, Option, Some, None}
use Rattle.std.specs.Io.KnownBytes.{Appends}
use Rattle.sfs_base.specs.Ends.{HasRisen}
use Rattle.sfs_dev.specs.Disk.{View}
use Rattle.sfs_dev.specs.Run.{Unwritten}
use Rattle.sfs_dev.specs.Steps.{IfTold}
use Rattle.sfs_image.specs.Settled.{layout_of, settled}
use Rattle.image_laws.specs.Image.{ImageFault, Super, Journal, Tree, fault_of}
use Rattle.image_check.specs.Made.{certificate_of}
use Rattle.image_check.specs.declared.fault.VerifyFault.{VerifyFault}
use Rattle.image_check.specs.declared.fault.VerifyFault.TheVariants as verify
use Rattle.image_verdict.specs.Texts.{broken_text, certificate_text}
use Rattle.image_verdict.specs.declared.judging.Verdict.{Verdict}
use Rattle.image_verdict.specs.declared.judging.Verdict.TheVariants.{Sound, BadSuper, BadJournal, BadImage, NotAccepted, WriteFault, DiskFailed, NoMemory}

-- the text that is due to an image with this first fault, if it has one: that of its certificate, or of the inode that breaks a rule
abbrev pub text_by : List ℕ → Option ImageFault → List ℕ
text_by image None = certificate_text (certificate_of image)
text_by image (Some (Tree fault)) = broken_text fault.inode fault.rule (settled (layout_of image) image fault.inode)
text_by image (Some (Super at)) = []
text_by image (Some (Journal slot)) = []

-- the text that is due to an image
abbrev pub text_due : List ℕ → List ℕ
text_due image = text_by image (fault_of image)

-- A verdict is due to an image with this first fault, if it has one: that fault, or that it is sound. The sink may fail where there is
-- a text; and the disk may fail, or memory be wanting, whatever is due.
abbrev pub IsDueTo : Option ImageFault → Verdict → Type 0
IsDueTo due Sound = due ≡ None
IsDueTo due (BadSuper at) = due ≡ Some (Super at)
IsDueTo due (BadJournal core slot at) = due ≡ Some (Journal (record { core = core; slot = slot; at = at }))
IsDueTo due (BadImage inode rule) = due ≡ Some (Tree (record { rule = rule; inode = inode }))
IsDueTo due NotAccepted = ⊥
IsDueTo due WriteFault = Unit {0}
IsDueTo due DiskFailed = Unit {0}
IsDueTo due NoMemory = Unit {0}

-- what was written before a verdict, of the text that was due: all of it, a front that lacks some of it, or nothing
abbrev pub HasWritten : List ℕ → Option (List ℕ) → Option (List ℕ) → Verdict → Type 0
HasWritten text before after Sound = Appends before after text
HasWritten text before after (BadImage inode rule) = Appends before after text
HasWritten text before after WriteFault = (n : ℕ) × (n < length text) × Appends before after (take n text)
HasWritten text before after _ = after ≡ before

-- the sink or the disk failed where a verdict says so
abbrev pub IsCaused : Type 0 → Type 0 → Verdict → Type 0
IsCaused sink disk WriteFault = sink
IsCaused sink disk DiskFailed = disk
IsCaused sink disk _ = Unit {0}

-- whether a text was written, or begun
abbrev pub has_text : Verdict → Bool
has_text Sound = true
has_text (BadImage inode rule) = true
has_text WriteFault = true
has_text _ = false

-- A verdict on the image of a disk was given: where the disk tells its image the verdict is due to it, and what was written is of the text
-- that is due; a failure has its cause; and the disk was not written to.
pub record IsVerdictOn (Sink : Type 0) (before after : Option (List ℕ)) (old new : View) (verdict : Verdict) : Type 0 where
  pub due : IfTold old.content (λ image. IsDueTo (fault_of image) verdict)
  pub text : List ℕ
  pub text_told : IfTold old.content (λ image. has_text verdict ≡ true → text ≡ text_due image)
  pub written : HasWritten text before after verdict
  pub cause : IsCaused Sink (HasRisen old.faults new.faults) verdict
  pub unwritten : Unwritten old new

-- Writing a text ends with the verdict that comes behind it, with a failure of the sink, or with want of memory before it.
pub data EndsWriting (text : List ℕ) (good : Verdict) (Sink : Type 0) (before after : Option (List ℕ)) : Verdict → Type 0 where
  whole : Appends before after text → EndsWriting text good Sink before after good
  part : (n : ℕ) → n < length text → Appends before after (take n text) → Sink → EndsWriting text good Sink before after WriteFault
  none : after ≡ before → EndsWriting text good Sink before after NoMemory

-- what is written of a certificate, by whether it was accepted
abbrev pub WritesAccepted : List ℕ → Type 0 → Option (List ℕ) → Option (List ℕ) → Bool → Verdict → Type 0
WritesAccepted text Sink before after true verdict = EndsWriting text Sound Sink before after verdict
WritesAccepted text Sink before after false verdict = (verdict ≡ NotAccepted) × (after ≡ before)

-- what is written of a fault
abbrev pub WritesFault : VerifyFault → Type 0 → Option (List ℕ) → Option (List ℕ) → Verdict → Type 0
WritesFault verify.DiskFailed Sink before after verdict = (verdict ≡ DiskFailed) × (after ≡ before)
WritesFault (verify.BadSuper at) Sink before after verdict = (verdict ≡ BadSuper at) × (after ≡ before)
WritesFault (verify.BadJournal core slot at) Sink before after verdict = (verdict ≡ BadJournal core slot at) × (after ≡ before)
WritesFault (verify.BadImage inode rule bytes) Sink before after verdict =
    EndsWriting (broken_text inode rule bytes) (BadImage inode rule) Sink before after verdict
WritesFault verify.NoMemory Sink before after verdict = (verdict ≡ NoMemory) × (after ≡ before)
