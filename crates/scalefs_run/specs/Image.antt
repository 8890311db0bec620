-- What `mkfs` and `show` do to the image of a disk, and what they write of it.
use Rattle.std.specs.Prelude.{◌≡◌, ℕ, ◌+◌, ◌-◌, Bool, true, false, List, [], ◌∷◌, ◌++◌, codes, decimal, nat_lt, Option, Some, None, if◌then◌else◌}
use Rattle.sfs_base.specs.Ends.{HasRisen}
use Rattle.tree_laws.specs.Laws.{IsSoundTree}
use Rattle.tree_laws.specs.Tree.{TreeState}
use Rattle.sfs_dev.specs.Disk.{View, images}
use Rattle.sfs_dev.specs.Run.{CountsOn, EachMoment, Unwritten}
use Rattle.sfs_dev.specs.Steps.{IfTold}
use Rattle.sfs_image.specs.Super.{Layout, data_start}
use Rattle.image_laws.specs.Image.{ImageFault as Fault, Super as SuperFault, Journal as JournalFault, Tree as TreeFault, fault_of, tree_of}
use Rattle.journal_one.specs.Calls.{IsCalm}
use Rattle.journal_one.specs.Known.{EachLeft}
use Rattle.recovery.specs.Mkfs.{HasRootAlone}
use Rattle.recovery.specs.Recovered.{ShowsTheSame, IsRecoveredFrom}
use Rattle.recovery.specs.declared.fault.RecoverFault.{RecoverFault}
use Rattle.recovery.specs.declared.fault.RecoverFault.TheVariants as recover
use Rattle.script.specs.TreeTexts.{tree_text}
use Rattle.scalefs_run.specs.declared.outcome.ImageFault.{ImageFault}
use Rattle.scalefs_run.specs.declared.outcome.ImageFault.TheVariants.{Super, Journal, Tree}
use Rattle.scalefs_run.specs.declared.outcome.Status.{Status}
use Rattle.scalefs_run.specs.declared.outcome.Status.TheVariants.{Done, WriteFault, DiskFault, BadImage, NoMemory, TooSmall}
use Rattle.scalefs_run.specs.Outcome.{HasStatus, HasText}

-- how many blocks a layout needs at least: those before its data area, and one
abbrev pub blocks_wanted : Layout → ℕ
blocks_wanted layout = data_start layout + 1

-- the status that is due to `mkfs` of a layout on a disk of so many blocks: the layout has too few, or the disk has fewer than the layout
abbrev pub making_due : Layout → ℕ → Status
making_due layout size =
    if nat_lt layout.blocks (blocks_wanted layout) then TooSmall (blocks_wanted layout) layout.blocks else
    if nat_lt size layout.blocks then TooSmall layout.blocks size else
    Done

-- the line that `mkfs` writes: `blocks B inodes I cores C data S free F`, S being the first block of the data area and F how many it has
abbrev pub layout_text : Layout → List ℕ
layout_text layout =
    (codes "blocks " ++ decimal layout.blocks) ++ ((codes " inodes " ++ decimal layout.inodes) ++ ((codes " cores " ++ decimal layout.cores)
    ++ ((codes " data " ++ decimal (data_start layout)) ++ ((codes " free " ++ decimal (layout.blocks - data_start layout)) ++ 10 ∷ []))))

-- whether the text was written, or its front where the sink failed
abbrev pub has_text : Status → Bool
has_text Done = true
has_text WriteFault = true
has_text _ = false

-- whether memory was refused
abbrev pub is_refused_memory : Status → Bool
is_refused_memory NoMemory = true
is_refused_memory _ = false

-- An image was made on a disk: the status has its cause, and the layout's line was written; where it came to that, each image that a crash may
-- leave has this layout and the root alone; and where memory was refused, the disk was not written to.
pub record MakesImage (layout : Layout) (Sink : Type 0) (before after : Option (List ℕ)) (old new : View) (status : Status) : Type 0 where
  pub status_is : HasStatus (making_due layout old.size) ⊥ Sink (HasRisen old.faults new.faults) status
  pub text : HasText (layout_text layout) before after status
  pub made : has_text status ≡ true → IfTold new.content (λ content. (image : List ℕ) → images new image → HasRootAlone layout image)
  pub untouched : is_refused_memory status ≡ true → Unwritten old new

-- an image's first fault as a status names it
abbrev pub fault_named : Fault → ImageFault
fault_named (SuperFault at) = Super at
fault_named (JournalFault fault) = Journal fault.core fault.slot fault.at
fault_named (TreeFault fault) = Tree fault.inode fault.rule

-- the status that is due to `show` of an image with this first fault, if it has one
abbrev pub showing_due : Option Fault → Status
showing_due None = Done
showing_due (Some fault) = BadImage (fault_named fault)

-- the status of a recovery that was refused
abbrev pub status_of_recovery : RecoverFault → Status
status_of_recovery recover.DiskFailed = DiskFault
status_of_recovery (recover.BadSuper at) = BadImage (Super at)
status_of_recovery (recover.BadJournal core slot at) = BadImage (Journal core slot at)
status_of_recovery (recover.BadImage inode rule) = BadImage (Tree inode rule)
status_of_recovery recover.NoMemory = NoMemory

-- the text of a tree is written; where there is no tree, there is no text
abbrev pub HasTreeText : Option TreeState → Option (List ℕ) → Option (List ℕ) → Status → Type 0
HasTreeText (Some tree) before after status = HasText (tree_text tree) before after status
HasTreeText None before after status = (has_text status ≡ false) × (after ≡ before)

-- an image was refused
abbrev pub IsImageRefused : Status → Type 0
IsImageRefused (BadImage fault) = Unit {0}
IsImageRefused _ = ⊥

-- The image of a disk was shown: the status has its cause, which is the image's first fault where it has one, and the text of its tree,
-- a sound one, was written. Each image that a crash during the call may leave shows the same; a refused image was not written to; and a
-- shown one is recovered.
pub record ShowsImage (Sink : Type 0) (before after : Option (List ℕ)) (old new : View) (status : Status) : Type 0 where
  pub due : Status
  pub due_told : IfTold old.content (λ image. due ≡ showing_due (fault_of image))
  pub status_is : HasStatus due ⊥ Sink (HasRisen old.faults new.faults) status
  pub tree : Option TreeState
  pub sound : (read : TreeState) → tree ≡ Some read → IsSoundTree read
  pub tree_told : IfTold old.content (λ image. (read : TreeState) → tree ≡ Some read → tree_of image 0 ≡ Some read)
  pub text : HasTreeText tree before after status
  pub moments : IfTold old.content (λ image. IsCalm old → CountsOn new → EachMoment old new (λ _ now. ShowsTheSame now image))
  pub refused : IsImageRefused status → Unwritten old new
  pub recovered : IfTold old.content (λ image. IsCalm old → has_text status ≡ true → EachLeft new (IsRecoveredFrom image))
