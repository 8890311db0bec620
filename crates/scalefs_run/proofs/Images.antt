-- An image is made, shown or refused.
use Rattle.std.proofs.Common.{◌≡◌, ℕ, true, false, cond, List, Option, None, Some, Err, refl, sym, ap, subst, ◌∙◌}
use Rattle.std.specs.Prelude.{nat_lt}
use borrow.Author.Tests.{le-ltb}
use Rattle.sfs_base.specs.Ends.{HasRisen}
use Rattle.sfs_base.proofs.BasicOptions.{none_some, some_same}
use Rattle.sfs_base.proofs.BasicTruth.{false_not_true}
use Rattle.sfs_image.specs.Super.{Layout, IsLayout}
use Rattle.tree_laws.specs.Laws.{IsSoundTree}
use Rattle.sfs_dev.specs.Disk.{View, OnlyTold, images}
use Rattle.sfs_dev.specs.Run.{CountsOn, EachMoment, HasReadCause, Unwritten}
use Rattle.sfs_dev.specs.Steps.{IfTold}
use Rattle.image_laws.specs.Image.{ImageFault as Fault, fault_of}
use Rattle.sfs_dev.proofs.Runs.{Rests-refl}
use Rattle.journal_one.specs.Calls.{IsCalm}
use Rattle.journal_one.specs.Known.{EachLeft}
use Rattle.recovery.specs.Cause.{is_recover_disk_fault}
use Rattle.recovery.specs.Judging.{IsFaultOf}
use Rattle.recovery.specs.Mkfs.{IsMadeOn, HasRootAlone}
use Rattle.recovery.specs.Recovered.{ShowsTheSame, LeavesRefused, IsReportOf, IsRecoveredFrom}
use Rattle.recovery.specs.declared.fault.RecoverFault.{RecoverFault}
use Rattle.recovery.specs.declared.fault.RecoverFault.TheVariants as recover
use Rattle.recovery.specs.declared.whole.Report.{Report}
use Rattle.recovery.proofs.JudgedImage.{has_no_fault}
use Rattle.recovery.proofs.RootAlone.{just_made_has_root_alone}
use Rattle.script.specs.TreeTexts.{tree_text}
use Rattle.scalefs_run.specs.declared.outcome.Status.{Status}
use Rattle.scalefs_run.specs.declared.outcome.Status.TheVariants.{Done, WriteFault, NoMemory, BadImage, DiskFault, TooSmall}
use Rattle.scalefs_run.specs.Image.{blocks_wanted, making_due, layout_text, has_text, is_refused_memory, MakesImage, showing_due, status_of_recovery, IsImageRefused, ShowsImage}
use Rattle.scalefs_run.specs.Outcome.{HasStatus, HasText, IsWriteStatus, IsCommand, ComesToDisk}
use Rattle.scalefs_run.proofs.Serving.{write_status}

-- a layout that a disk can have is made where nothing fails
pub making_is_due : (layout : Layout) (size : ℕ) → IsLayout size layout → making_due layout size ≡ Done
making_is_due layout size fits =
    ap (λ b. cond b (TooSmall (blocks_wanted layout) layout.blocks) (cond (nat_lt size layout.blocks) (TooSmall layout.blocks size) Done))
    (le-ltb _ _ fits.room)
    ∙ ap (λ b. cond b (TooSmall layout.blocks size) Done) (le-ltb _ _ fits.within)

pub image_made : (layout : Layout) (old new : View) (Sink : Type 0) (before after : Option (List ℕ)) (status : Status) → IsLayout old.size layout
    → IsMadeOn layout new → IsWriteStatus Sink status → has_text status ≡ true → HasText (layout_text layout) before after status
    → MakesImage layout Sink before after old new status
image_made layout old new Sink before after status fits made wrote has_it text = record {
  status_is =
      subst (λ (due : Status). HasStatus due ⊥ Sink (HasRisen old.faults new.faults) status) (sym (making_is_due layout old.size fits))
      (write_status Sink (HasRisen old.faults new.faults) status wrote);
  text = text;
  made = λ has content told image left.
      let sole = (subst (λ (o : Option (List ℕ)). OnlyTold o (images new)) told made.calm) image left in
      subst (HasRootAlone layout) (sym sole) (just_made_has_root_alone layout content (made.made content told));
  untouched = λ refused. absurd (never status has_it refused);
}
  where
    never : (status : Status) → has_text status ≡ true → is_refused_memory status ≡ true → ⊥
    never Done has refused = false_not_true refused
    never WriteFault has refused = false_not_true refused
    never _ has refused = false_not_true has

-- one for which memory was wanting, before the disk was touched
pub not_made : (layout : Layout) (disk : View) (Sink : Type 0) (text : Option (List ℕ)) → IsLayout disk.size layout
    → MakesImage layout Sink text text disk disk NoMemory
not_made layout disk Sink text fits = record {
  status_is = subst (λ (due : Status). HasStatus due ⊥ Sink (HasRisen disk.faults disk.faults) NoMemory) (sym (making_is_due layout disk.size fits)) tt;
  text = refl;
  made = λ has. absurd (false_not_true has);
  untouched = λ refused. Rests-refl disk;
}

pub image_shown : (old new : View) (report : Report) (Sink : Type 0) (before after : Option (List ℕ)) (status : Status)
    → IsSoundTree report.tree → IfTold old.content (λ image. IsReportOf image report)
    → IfTold old.content (λ image. IsCalm old → CountsOn new → EachMoment old new (λ _ now. ShowsTheSame now image))
    → IfTold old.content (λ image. IsCalm old → EachLeft new (IsRecoveredFrom image))
    → IsWriteStatus Sink status → HasText (tree_text report.tree) before after status → ShowsImage Sink before after old new status
image_shown old new report Sink before after status sound is moments ended wrote text = record {
  due = Done;
  due_told = λ image told. sym (ap showing_due (has_no_fault image 0 report.tree (is image told).tree));
  status_is = write_status Sink (HasRisen old.faults new.faults) status wrote;
  tree = Some report.tree;
  sound = λ read same. subst IsSoundTree (some_same same) sound;
  tree_told = λ image told read same. (is image told).tree ∙ same;
  text = text;
  moments = moments;
  refused = not_refused status wrote;
  recovered = λ image told calm has. ended image told calm;
}
  where
    not_refused : (status : Status) → IsWriteStatus Sink status → IsImageRefused status → Unwritten old new
    not_refused (BadImage fault) wrote refused = absurd wrote
    not_refused _ wrote refused = absurd refused

-- the status that is due to `show` of a disk
abbrev due_of : Option (List ℕ) → Status
due_of (Some image) = showing_due (fault_of image)
due_of None = Done

due_of_told : (told : Option (List ℕ)) → IfTold told (λ image. due_of told ≡ showing_due (fault_of image))
due_of_told told image is = ap due_of is

-- it comes to the disk
due_comes : (told : Option (List ℕ)) → ComesToDisk (due_of told) × IsCommand (due_of told)
due_comes None = (tt, tt)
due_comes (Some image) = by (fault_of image)
  where
    by : (fault : Option Fault) → ComesToDisk (showing_due fault) × IsCommand (showing_due fault)
    by None = (tt, tt)
    by (Some fault) = (tt, tt)

module _ (old new : View) (Sink : Type 0) (written : Option (List ℕ))
    (moments : IfTold old.content (λ image. IsCalm old → CountsOn new → EachMoment old new (λ _ now. ShowsTheSame now image))) where
  -- a call that ends without a tree
  ends_without : (due status : Status) → IfTold old.content (λ image. due ≡ showing_due (fault_of image))
      → HasStatus due ⊥ Sink (HasRisen old.faults new.faults) status → has_text status ≡ false
      → (IsImageRefused status → Unwritten old new) → ShowsImage Sink written written old new status
  ends_without due status told is no_text refused = record {
    due = due;
    due_told = told;
    status_is = is;
    tree = None;
    sound = λ read same. absurd (none_some same);
    tree_told = λ image there read same. absurd (none_some same);
    text = (no_text, refl);
    moments = moments;
    refused = refused;
    recovered = λ image there calm has. absurd (false_not_true (sym no_text ∙ has));
  }

  pub image_refused : (fault : RecoverFault) → IfTold old.content (λ image. IsFaultOf image fault) → LeavesRefused old new fault
      → HasReadCause {V = Report} is_recover_disk_fault old.faults new.faults (Err fault)
      → ShowsImage Sink written written old new (status_of_recovery fault)
  image_refused recover.DiskFailed is left cause =
      ends_without (due_of old.content) DiskFault (due_of_told old.content) (cause, (due_comes old.content).0) refl (λ refused. absurd refused)
  image_refused (recover.BadSuper at) is left cause = ends_without _ _ (λ image told. sym (ap showing_due (is image told))) refl refl (λ refused. left)
  image_refused (recover.BadJournal core slot at) is left cause =
      ends_without _ _ (λ image told. sym (ap showing_due (is image told))) refl refl (λ refused. left)
  image_refused (recover.BadImage inode rule) is left cause = ends_without _ _ (λ image told. sym (ap showing_due (is image told))) refl refl (λ refused. left)
  image_refused recover.NoMemory is left cause =
      ends_without (due_of old.content) NoMemory (due_of_told old.content) (due_comes old.content).1 refl (λ refused. absurd refused)
