-- What a verdict comes to, by what was read and what was written.
use Rattle.std.proofs.Common.{◌≡◌, ℕ, Bool, true, false, List, [], Option, Ok, Err, refl, sym, ap, subst, ◌∙◌}
use Rattle.std.specs.Prelude.{◌↔◌}
use Rattle.sfs_base.proofs.BasicTruth.{false_not_true}
use Rattle.sfs_base.specs.Ends.{HasRisen}
use Rattle.sfs_dev.specs.Disk.{View}
use Rattle.sfs_dev.specs.Run.{Advances, OnlyReads}
use Rattle.sfs_dev.specs.Steps.{IfTold}
use Rattle.sfs_dev.proofs.Runs.{Rests-trans}
use Rattle.image_laws.specs.Image.{fault_of}
use Rattle.image_check.specs.Cause.{is_accept_disk_fault, is_verify_disk_fault}
use Rattle.image_check.specs.Made.{certificate_of}
use Rattle.image_check.specs.Read.{IsFirstFault}
use Rattle.image_check.specs.Valid.{IsValid}
use Rattle.image_check.specs.declared.certificate.Certificate.{Certificate}
use Rattle.image_check.specs.declared.certificate.Holder.{Holder}
use Rattle.image_check.specs.declared.fault.AcceptFault.{AcceptFault}
use Rattle.image_check.specs.declared.fault.AcceptFault.TheVariants as accepting
use Rattle.image_check.specs.declared.fault.VerifyFault.{VerifyFault}
use Rattle.image_check.specs.declared.fault.VerifyFault.TheVariants as verify
use Rattle.image_check.proofs.Certified.{faultless_images_are_certified}
use Rattle.image_check.proofs.Faultless.{valid_images_are_faultless}
use Rattle.image_check.proofs.One.{certificates_are_one}
use Rattle.image_verdict.specs.Texts.{broken_text, certificate_text, sound_text}
use Rattle.image_verdict.specs.Verdicts.{EndsWriting, HasWritten, IsCaused, IsDueTo, IsVerdictOn, WritesAccepted, WritesFault, has_text, none, part, text_by, text_due, whole}
use Rattle.image_verdict.specs.declared.judging.Verdict.{Verdict}
use Rattle.image_verdict.specs.declared.judging.Verdict.TheVariants.{Sound, BadSuper, BadJournal, BadImage, NotAccepted, DiskFailed, NoMemory}

-- the text of a valid certificate is the one that is due
text_is : (image : List ℕ) (cert : Certificate) → IsValid image cert → certificate_text cert ≡ text_due image
text_is image cert valid =
    let faultless = valid_images_are_faultless image cert valid in
    let one = certificates_are_one image cert (certificate_of image) valid (faultless_images_are_certified image faultless) in
    ap (λ (holders : List Holder). sound_text holders cert.files) one.holders ∙ ap (sound_text (certificate_of image).holders.items) one.files
    ∙ sym (ap (text_by image) faultless)

module _ (old new : View) (Sink : Type 0) (before after : Option (List ℕ)) where
  -- a verdict without a text
  untold : (verdict : Verdict) → has_text verdict ≡ false → (after ≡ before → HasWritten [] before after verdict) → after ≡ before
      → IfTold old.content (λ image. IsDueTo (fault_of image) verdict) → IsCaused Sink (HasRisen old.faults new.faults) verdict
      → Rattle.sfs_dev.specs.Run.Unwritten old new → IsVerdictOn Sink before after old new verdict
  untold verdict without writes same due cause unwritten = record {
    due = due;
    text = [];
    text_told = λ image told has. absurd (false_not_true (sym without ∙ has));
    written = writes same;
    cause = cause;
    unwritten = unwritten;
  }

  -- one behind a text that was due
  texted : (text : List ℕ) (good : Verdict) → IfTold old.content (λ image. IsDueTo (fault_of image) good)
      → IfTold old.content (λ image. text ≡ text_due image) → (Rattle.std.specs.Io.KnownBytes.Appends before after text → HasWritten text before after good)
      → IsCaused Sink (HasRisen old.faults new.faults) good → Rattle.sfs_dev.specs.Run.Unwritten old new → (verdict : Verdict)
      → EndsWriting text good Sink before after verdict → IsVerdictOn Sink before after old new verdict
  texted text good due told writes cause unwritten verdict (whole all) = record {
    due = due;
    text = text;
    text_told = λ image is _. told image is;
    written = writes all;
    cause = cause;
    unwritten = unwritten;
  }
  texted text good due told writes cause unwritten verdict (part n less some failed) = record {
    due = λ image is. tt;
    text = text;
    text_told = λ image is _. told image is;
    written = (n, less, some);
    cause = failed;
    unwritten = unwritten;
  }
  texted text good due told writes cause unwritten verdict (none same) = untold NoMemory refl (λ e. e) same (λ image is. tt) tt unwritten

  -- a certificate that was accepted or not
  pub accepted_verdict : (cert : Certificate) (accepted : Bool) → IfTold old.content (λ image. IsValid image cert)
      → IfTold old.content (λ image. (accepted ≡ true) ↔ IsValid image cert) → OnlyReads {V = Bool} is_accept_disk_fault old new (Ok accepted)
      → (verdict : Verdict) → WritesAccepted (certificate_text cert) Sink before after accepted verdict → IsVerdictOn Sink before after old new verdict
  accepted_verdict cert true valid told reads verdict writes =
      texted (certificate_text cert) Sound (λ image is. valid_images_are_faultless image cert (valid image is))
      (λ image is. text_is image cert (valid image is)) (λ all. all) tt reads.unwritten verdict writes
  accepted_verdict cert false valid told reads verdict writes =
      subst (IsVerdictOn Sink before after old new) (sym writes.0)
      (untold NotAccepted refl (λ e. e) writes.1 (λ image is. false_not_true ((told image is).1 (valid image is))) tt reads.unwritten)

  pub accept_failed : (fault : AcceptFault) → fault ≡ accepting.DiskFailed → OnlyReads {V = Bool} is_accept_disk_fault old new (Err fault)
      → after ≡ before → IsVerdictOn Sink before after old new DiskFailed
  accept_failed fault one reads same =
      let failed = subst (λ (f : AcceptFault). OnlyReads {V = Bool} is_accept_disk_fault old new (Err f)) one reads in
      untold DiskFailed refl (λ e. e) same (λ image is. tt) failed.cause reads.unwritten

  pub accept_wanted : (fault : AcceptFault) → OnlyReads {V = Bool} is_accept_disk_fault old new (Err fault) → after ≡ before
      → IsVerdictOn Sink before after old new NoMemory
  accept_wanted fault reads same = untold NoMemory refl (λ e. e) same (λ image is. tt) tt reads.unwritten

  -- a fault of the image
  pub fault_verdict : (fault : VerifyFault) → IfTold old.content (λ image. IsFirstFault image fault)
      → OnlyReads {V = Certificate} is_verify_disk_fault old new (Err fault) → (verdict : Verdict) → WritesFault fault Sink before after verdict
      → IsVerdictOn Sink before after old new verdict
  fault_verdict verify.DiskFailed bad reads verdict writes =
      subst (IsVerdictOn Sink before after old new) (sym writes.0)
      (untold DiskFailed refl (λ e. e) writes.1 (λ image is. tt) reads.cause reads.unwritten)
  fault_verdict (verify.BadSuper at) bad reads verdict writes =
      subst (IsVerdictOn Sink before after old new) (sym writes.0) (untold (BadSuper at) refl (λ e. e) writes.1 bad tt reads.unwritten)
  fault_verdict (verify.BadJournal core slot at) bad reads verdict writes =
      subst (IsVerdictOn Sink before after old new) (sym writes.0) (untold (BadJournal core slot at) refl (λ e. e) writes.1 bad tt reads.unwritten)
  fault_verdict (verify.BadImage inode rule bytes) bad reads verdict writes =
      texted (broken_text inode rule bytes) (BadImage inode rule) (λ image is. (bad image is).0)
      (λ image is. ap (broken_text inode rule) (bad image is).1 ∙ sym (ap (text_by image) (bad image is).0)) (λ all. all) tt reads.unwritten verdict writes
  fault_verdict verify.NoMemory bad reads verdict writes =
      subst (IsVerdictOn Sink before after old new) (sym writes.0) (untold NoMemory refl (λ e. e) writes.1 (λ image is. tt) tt reads.unwritten)

-- a verdict after reads that ended well
pub after_reads : (old mid new : View) (Sink : Type 0) (before after : Option (List ℕ)) (cert : Certificate) (verdict : Verdict)
    → OnlyReads {V = Certificate} is_verify_disk_fault old mid (Ok cert) → Advances mid new → IsVerdictOn Sink before after mid new verdict
    → IsVerdictOn Sink before after old new verdict
after_reads old mid new Sink before after cert verdict reads advances is = record {
  due = λ image told. is.due image (reads.unwritten.content ∙ told);
  text = is.text;
  text_told = λ image told has. is.text_told image (reads.unwritten.content ∙ told) has;
  written = is.written;
  cause = subst (λ (n : ℕ). IsCaused Sink (HasRisen n new.faults) verdict) reads.cause is.cause;
  unwritten = Rests-trans old mid new reads.unwritten advances is.unwritten;
}
