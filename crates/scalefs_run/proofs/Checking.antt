-- A history's text is checked over what was mounted, or it is not come to.
use Rattle.std.proofs.Common.{◌≡◌, ℕ, ◌+◌, ◌<◌, ◌≤◌, false, List, length, Option, Some, None, Err, refl, sym, ap, subst, ◌∙◌, arith}
use Rattle.std.proofs.lemmas.List.{length-append, length-replicate}
use Rattle.std.specs.Prelude.{IfSome}
use Rattle.std.specs.Io.KnownBytes.{Consumes}
use Rattle.sfs_base.specs.Transfer.{ReadsAll}
use Rattle.sfs_base.specs.declared.numbers.Measure.TheVariants.{Bytes}
use Rattle.sfs_base.specs.declared.transfer.ReadAllFault.{ReadAllFault}
use Rattle.sfs_base.specs.declared.transfer.ReadAllFault.TheVariants as source
use Rattle.sfs_base.proofs.BasicTruth.{false_not_true}
use Rattle.sfs_dev.specs.Disk.{View}
use Rattle.sfs_dev.specs.Run.{HasReadCause, Unwritten}
use Rattle.sfs_dev.specs.Steps.{IfTold}
use Rattle.sfs_image.specs.Super.{Layout}
use Rattle.image_laws.specs.Image.{ImageFault as Fault, Super as SuperFault, Journal as JournalFault, Tree as TreeFault, fault_of, tree_of}
use Rattle.journal_one.specs.Calls.{IsCalm}
use Rattle.history_check.specs.Legal.{IsLegalText}
use Rattle.history_check.specs.declared.checking.TheConstants.{LONGEST_HISTORY}
use Rattle.mount_begin.specs.Mounted.{IsMountOf, IsSoundMount, share_of_nodes}
use Rattle.mount_begin.specs.declared.begin.Mounted.{Mounted}
use Rattle.recovery.specs.Cause.{is_recover_disk_fault}
use Rattle.recovery.specs.Judging.{IsFaultOf}
use Rattle.recovery.specs.Recovered.{HoldsRecovered, LeavesRefused}
use Rattle.recovery.specs.declared.fault.RecoverFault.{RecoverFault}
use Rattle.recovery.specs.declared.fault.RecoverFault.TheVariants as recover
use Rattle.recovery.proofs.JudgedImage.{has_no_fault}
use Rattle.tree_laws.specs.Tree.{TreeState}
use Rattle.scalefs_run.specs.declared.outcome.Status.{Status}
use Rattle.scalefs_run.specs.declared.outcome.Status.TheVariants.{BadImage, DiskFault, Done, NoMemory, ReadFault, TooLong, WriteFault, WrongHistory}
use Rattle.scalefs_run.specs.Checked.{Checked, ChecksHistory, ChecksOver, HasCheckCause, IsCheckOf, legal_text, was_checked}
use Rattle.scalefs_run.specs.Image.{IsImageRefused, status_of_recovery}
use Rattle.scalefs_run.specs.Outcome.{HasText, IsOf, IsWriteStatus, status_of_source}
use Rattle.scalefs_run.specs.Served.{run_ends}
use Rattle.scalefs_run.proofs.Serving.{ShowsEntry, no_tree, shows_untouched}

-- a legal text was told of
pub legal_ends : (first : TreeState) (text : List ℕ) (count : ℕ) (Sink : Type 0) (before after : Option (List ℕ)) (status : Status)
    → IsLegalText first text count → IsWriteStatus Sink status → HasText (legal_text count) before after status
    → ChecksOver first text Sink before after status
legal_ends first text count Sink before after Done legal wrote has = (count, legal, has)
legal_ends first text count Sink before after WriteFault legal wrote has = (count, legal, has, wrote)
legal_ends first text count Sink before after NoMemory legal wrote has = has
legal_ends first text count Sink before after _ legal wrote has = absurd wrote

-- the first fault of an image, where a disk tells it
abbrev fault_by : Option (List ℕ) → Option Fault
fault_by (Some image) = fault_of image
fault_by None = None

-- what a recovery refuses is a check's status too
module _ (nodes : ℕ) (text : List ℕ) (Sink : Type 0) (before after : Option (List ℕ)) (old new : View) (short : length text ≤ LONGEST_HISTORY)
    (moments : ShowsEntry old new) where
  -- a text was checked over what was mounted
  pub check_ended : (mounted : Mounted) (status : Status) → IsSoundMount nodes old.size mounted → IfTold old.content (λ image. IsMountOf nodes image mounted)
      → IfTold old.content (λ image. IsCalm old → HoldsRecovered image old new) → ChecksOver mounted.tree text Sink before after status
      → ChecksHistory nodes (Some text) (run_ends ⊥ Sink before after old new) status
  check_ended mounted status sound is holds over = record {
    checked = checked;
    text_is = refl;
    fault_told = λ image told. sym (has_no_fault image (share_of_nodes nodes mounted.layout) mounted.tree (is image told).tree);
    first_is = λ was. record {
      sound = sound.sound;
      told = λ image told.
          let own = is image told in
          subst (λ (l : Layout). tree_of image (share_of_nodes nodes l) ≡ Some mounted.tree) own.layout_is own.tree;
    };
    caused = caused status over;
    moments = moments;
    refused = not_refused status over;
    recovered = λ image told calm was. (holds image told calm).left;
  }
    where
      checked : Checked
      checked = record { text = text; fault = None; first = mounted.tree }

      caused : (status : Status) → ChecksOver mounted.tree text Sink before after status
          → HasCheckCause checked (run_ends ⊥ Sink before after old new) status
      caused Done over = record { short = short; faultless = refl; over = over }
      caused WriteFault over = record { short = short; faultless = refl; over = over }
      caused (WrongHistory line) over = record { short = short; faultless = refl; over = over }
      caused NoMemory over = over
      caused _ over = absurd over

      not_refused : (status : Status) → ChecksOver mounted.tree text Sink before after status → IsImageRefused status → Unwritten old new
      not_refused (BadImage fault) over was = absurd over
      not_refused _ over was = absurd was

-- no text was checked: what is known of the image is its first fault
module _ (nodes : ℕ) (left : Option (List ℕ)) (text : List ℕ) (is : IsOf left text) (Source Sink : Type 0) (written : Option (List ℕ)) (old new : View)
    (first : TreeState) (moments : ShowsEntry old new) where
  pub none_checked : (fault : Option Fault) (status : Status) → IfTold old.content (λ image. fault ≡ fault_of image) → was_checked status ≡ false
      → HasCheckCause (record { text = text; fault = fault; first = first }) (run_ends Source Sink written written old new) status
      → (IsImageRefused status → Unwritten old new) → ChecksHistory nodes left (run_ends Source Sink written written old new) status
  none_checked fault status told not caused refused = record {
    checked = record { text = text; fault = fault; first = first };
    text_is = is;
    fault_told = told;
    first_is = λ was. absurd (false_not_true (sym not ∙ was));
    caused = caused;
    moments = moments;
    refused = refused;
    recovered = λ image there calm was. absurd (false_not_true (sym not ∙ was));
  }

  -- where nothing is known of it
  pub none_judged : (status : Status) → was_checked status ≡ false
      → HasCheckCause (record { text = text; fault = fault_by old.content; first = first }) (run_ends Source Sink written written old new) status
      → (IsImageRefused status → Unwritten old new) → ChecksHistory nodes left (run_ends Source Sink written written old new) status
  none_judged status not caused refused = none_checked (fault_by old.content) status (λ image told. ap fault_by told) not caused refused

  -- the image was refused
  pub check_refused : length text ≤ LONGEST_HISTORY → (fault : RecoverFault) → IfTold old.content (λ image. IsFaultOf image fault) → LeavesRefused old new fault
      → HasReadCause {V = Mounted} is_recover_disk_fault old.faults new.faults (Err fault)
      → ChecksHistory nodes left (run_ends Source Sink written written old new) (status_of_recovery fault)
  check_refused short recover.DiskFailed is left cause = none_judged DiskFault refl (cause, short, refl) (λ refused. absurd refused)
  check_refused short (recover.BadSuper at) is left cause =
      none_checked (Some (SuperFault at)) _ (λ image told. sym (is image told)) refl (refl, short, refl) (λ refused. left)
  check_refused short (recover.BadJournal core slot at) is left cause =
      none_checked (Some (JournalFault (record { core = core; slot = slot; at = at }))) _ (λ image told. sym (is image told)) refl (refl, short, refl)
      (λ refused. left)
  check_refused short (recover.BadImage inode rule) is left cause =
      none_checked (Some (TreeFault (record { rule = rule; inode = inode }))) _ (λ image told. sym (is image told)) refl (refl, short, refl)
      (λ refused. left)
  check_refused short recover.NoMemory is left cause = none_judged NoMemory refl refl (λ refused. absurd refused)

-- the cores of what was mounted are those of its tree
pub cores_are : (nodes size : ℕ) (mounted : Mounted) → IsSoundMount nodes size mounted → mounted.layout.cores ≡ length mounted.tree.made
cores_are nodes size mounted sound =
    sym (ap (λ (tree : TreeState). length tree.made) sound.shown ∙ length-replicate {A = ℕ} mounted.layout.cores 0)

-- the bytes that were read are all that a source had left, where it tells them
pub all_read : (left : Option (List ℕ)) (taken bytes : List ℕ) → bytes ≡ taken → IfSome left (λ all. taken ≡ all) → IsOf left bytes
all_read None taken bytes is whole = tt
all_read (Some all) taken bytes is whole = is ∙ whole

-- what was read of a source is all that it gave
pub check_read : (nodes : ℕ) (left : Option (List ℕ)) (text : List ℕ) (Source Sink : Type 0) (before after : Option (List ℕ)) (old new : View)
    (status : Status) → IsOf left text → ChecksHistory nodes (Some text) (run_ends ⊥ Sink before after old new) status
    → ChecksHistory nodes left (run_ends Source Sink before after old new) status
check_read nodes left text Source Sink before after old new status is checks = record {
  checked = checks.checked;
  text_is = subst (IsOf left) (sym checks.text_is) is;
  fault_told = checks.fault_told;
  first_is = checks.first_is;
  caused = by status checks.caused;
  moments = checks.moments;
  refused = checks.refused;
  recovered = checks.recovered;
}
  where
    checked : (status : Status) → IsCheckOf checks.checked (run_ends ⊥ Sink before after old new) status
        → IsCheckOf checks.checked (run_ends Source Sink before after old new) status
    checked status own = record { short = own.short; faultless = own.faultless; over = own.over }

    by : (status : Status) → HasCheckCause checks.checked (run_ends ⊥ Sink before after old new) status
        → HasCheckCause checks.checked (run_ends Source Sink before after old new) status
    by Done own = checked Done own
    by WriteFault own = checked WriteFault own
    by (WrongHistory line) own = checked (WrongHistory line) own
    by ReadFault own = absurd own.0
    by (TooLong measure) own = own
    by DiskFault own = own
    by (BadImage fault) own = own
    by NoMemory own = own
    by _ own = absurd own

-- why a source was not read to its end
abbrev pub SourceEnds : List ℕ → Type 0 → ReadAllFault → Type 0
SourceEnds text failed source.ReadFault = failed
SourceEnds text failed source.TooLong = LONGEST_HISTORY < length text
SourceEnds text failed source.NoMemory = Unit {0}

-- of the text that it gave
pub source_ends : (Source : Type 0) (left rest : Option (List ℕ)) (taken : List ℕ) (fault : ReadAllFault) → Consumes left rest taken
    → ReadsAll left taken 268435456 (Err fault) → (fault ≡ source.ReadFault → Source)
    → (text : List ℕ) × IsOf left text × SourceEnds text Source fault
source_ends Source (Some whole) rest taken source.ReadFault takes reads cause = (whole, refl, cause refl)
source_ends Source (Some whole) None taken source.TooLong takes reads cause = absurd takes
source_ends Source (Some whole) (Some behind) taken source.TooLong takes reads cause =
    let long : length whole ≡ length taken + length behind = ap length takes ∙ length-append taken behind in
    let past = reads.0 in
    (whole, refl, omega arith)
source_ends Source (Some whole) rest taken source.NoMemory takes reads cause = (whole, refl, tt)
source_ends Source None rest taken source.ReadFault takes reads cause = (taken, tt, cause refl)
source_ends Source None rest taken source.TooLong takes reads cause = (taken, tt, reads.0)
source_ends Source None rest taken source.NoMemory takes reads cause = (taken, tt, tt)

-- a text that was not read
pub check_unread : (nodes : ℕ) (left : Option (List ℕ)) (text : List ℕ) (Source Sink : Type 0) (written : Option (List ℕ)) (disk : View)
    (fault : ReadAllFault) → IsOf left text → SourceEnds text Source fault
    → ChecksHistory nodes left (run_ends Source Sink written written disk disk) (status_of_source fault)
check_unread nodes left text Source Sink written disk source.ReadFault is ends =
    none_judged nodes left text is Source Sink written disk disk no_tree (shows_untouched disk) ReadFault refl (ends, refl) (λ refused. absurd refused)
check_unread nodes left text Source Sink written disk source.TooLong is ends =
    none_judged nodes left text is Source Sink written disk disk no_tree (shows_untouched disk) (TooLong Bytes) refl (refl, ends, refl)
    (λ refused. absurd refused)
check_unread nodes left text Source Sink written disk source.NoMemory is ends =
    none_judged nodes left text is Source Sink written disk disk no_tree (shows_untouched disk) NoMemory refl refl (λ refused. absurd refused)
