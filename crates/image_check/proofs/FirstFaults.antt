-- A refusal with the record of its inode is the first fault of the image.
use Rattle.std.proofs.Common.{◌≡◌, ℕ, ◌<◌, Bool, true, false, List, [], length, Option, Some, Ok, Err, refl, sym, ap, ◌∙◌, arith}
use Rattle.std.specs.Prelude.{◌↔◌, slice_index_or}
use Rattle.sfs_base.proofs.BasicTruth.{false_not_true}
use Rattle.sfs_base.proofs.BasicOptions.{some_not_none}
use Rattle.sfs_dev.specs.Disk.{View}
use Rattle.sfs_dev.specs.Run.{HasReadCause, OnlyReads}
use Rattle.sfs_base.specs.Lists.{Roomy}
use Rattle.sfs_image.specs.Inode.{Inode}
use Rattle.sfs_image.specs.Settled.{layout_of, settled}
use Rattle.sfs_image.specs.Slot.{Row}
use Rattle.sfs_image.specs.Super.{Layout}
use Rattle.disk_tree.specs.Cause.{is_tree_disk_fault}
use Rattle.disk_tree.specs.Judged.{IsReadRefusal, IsRefusal, Refused}
use Rattle.disk_tree.specs.Ordered.{BreaksFirst}
use Rattle.disk_tree.specs.Told.{SettlesRecords}
use Rattle.disk_tree.specs.declared.fault.TreeFault.{TreeFault}
use Rattle.disk_tree.specs.declared.fault.TreeFault.TheVariants.{DiskFailed, BadImage, NoMemory}
use Rattle.disk_tree.proofs.ToldRead.{faults_are_the_images}
use Rattle.image_check.specs.Cause.{is_accept_disk_fault, is_verify_disk_fault}
use Rattle.image_check.specs.Read.{IsFirstFault, IsReadImage, IsWithin, ReadNothingMore, verify_fault}
use Rattle.image_check.specs.Valid.{IsValid}
use Rattle.image_check.specs.declared.certificate.Certificate.{Certificate}
use Rattle.image_check.specs.declared.fault.VerifyFault.{VerifyFault}
use Rattle.image_check.specs.declared.fault.VerifyFault.TheVariants as verify
use Rattle.image_check.specs.declared.reading.ReadImage.{ReadImage}
use Rattle.image_check.proofs.Faultless.{valid_images_are_faultless}
use Rattle.image_check.proofs.ImageJudged.{refused_within, rows_refused}
use Rattle.image_check.proofs.ImageRead.{settles}

-- the record of an inode is the settled one
record_is : (image : List ℕ) (layout : Layout) (records : List (List ℕ)) (inode : ℕ) → SettlesRecords image layout records → inode < layout.inodes
    → slice_index_or records inode [] ≡ settled (layout_of image) image inode
record_is image layout records inode settles within =
    settles.each inode within ∙ ap (λ (l : Layout). settled l image inode) settles.layout_is

pub within_read : (told : Option (List ℕ)) (layout : Layout) (records : List (List ℕ)) → length records ≡ layout.inodes → (fault : TreeFault)
    → IsReadRefusal (Refused told layout records) fault → IsWithin (length records) fault
within_read told layout records count (BadImage inode rule) is = (let h = refused_within told layout records inode rule is in omega arith)
within_read told layout records count DiskFailed is = tt
within_read told layout records count NoMemory is = tt

pub first_read : (image : List ℕ) (layout : Layout) (records : List (List ℕ)) → SettlesRecords image layout records → (fault : TreeFault)
    → IsReadRefusal (Refused (Some image) layout records) fault → IsFirstFault image (verify_fault records fault)
first_read image layout records settles (BadImage inode rule) is = (
  faults_are_the_images image layout records inode rule settles is,
  record_is image layout records inode settles (refused_within (Some image) layout records inode rule is),
)
first_read image layout records settles DiskFailed is = tt
first_read image layout records settles NoMemory is = tt

pub cause_is : (records : List (List ℕ)) (fault : TreeFault) → is_verify_disk_fault (verify_fault records fault) ≡ is_tree_disk_fault fault
cause_is records (BadImage inode rule) = refl
cause_is records DiskFailed = refl
cause_is records NoMemory = refl

pub within_judged : (inodes : List Inode) (rows : List (Roomy Row)) (count : ℕ) → length inodes ≡ count → (fault : TreeFault)
    → IsRefusal (BreaksFirst inodes rows) fault → IsWithin count fault
within_judged inodes rows count same (BadImage inode rule) is = (let h = is.first.within in omega arith)
within_judged inodes rows count same DiskFailed is = tt
within_judged inodes rows count same NoMemory is = tt

pub first_judged : (image : List ℕ) (found : ReadImage) → IsReadImage (Some image) found → (fault : TreeFault)
    → IsRefusal (BreaksFirst found.read.inodes.items found.rows.items) fault → IsFirstFault image (verify_fault found.records.items fault)
first_judged image found is (BadImage inode rule) broken =
    first_read image found.layout found.records.items (settles image found is) (BadImage inode rule) (rows_refused image found is inode rule broken)
first_judged image found is DiskFailed broken = tt
first_judged image found is NoMemory broken = tt

pub nothing_read : (inodes : List Inode) (rows : List (Roomy Row)) (records : List (List ℕ)) (fault : TreeFault) → IsRefusal (BreaksFirst inodes rows) fault
    → ReadNothingMore (verify_fault records fault)
nothing_read inodes rows records (BadImage inode rule) is = refl
nothing_read inodes rows records DiskFailed is = absurd is
nothing_read inodes rows records NoMemory is = refl

-- no certificate is valid for an image with a fault
pub never_valid : (image : List ℕ) (fault : VerifyFault) → (fault ≡ verify.DiskFailed → ⊥) → (fault ≡ verify.NoMemory → ⊥) → IsFirstFault image fault
    → (cert : Certificate) → (false ≡ true) ↔ IsValid image cert
never_valid image fault no_disk no_memory is cert = ((λ e. absurd (false_not_true e)), λ valid. absurd (by fault no_disk no_memory is valid))
  where
    by : (fault : VerifyFault) → (fault ≡ verify.DiskFailed → ⊥) → (fault ≡ verify.NoMemory → ⊥) → IsFirstFault image fault → IsValid image cert → ⊥
    by verify.DiskFailed no_disk no_memory is valid = no_disk refl
    by verify.NoMemory no_disk no_memory is valid = no_memory refl
    by (verify.BadSuper at) no_disk no_memory is valid = some_not_none (sym is ∙ valid_images_are_faultless image cert valid)
    by (verify.BadJournal core slot at) no_disk no_memory is valid = some_not_none (sym is ∙ valid_images_are_faultless image cert valid)
    by (verify.BadImage inode rule bytes) no_disk no_memory is valid = some_not_none (sym is.0 ∙ valid_images_are_faultless image cert valid)

-- reads that ended with a fault of the image ended well
pub reads_on : (old new : View) (fault : VerifyFault) → (fault ≡ verify.DiskFailed → ⊥) → OnlyReads {V = ReadImage} is_verify_disk_fault old new (Err fault)
    → OnlyReads {V = Bool} is_accept_disk_fault old new (Ok false)
reads_on old new fault no_disk reads = record { advances = reads.advances; unwritten = reads.unwritten; cause = by fault no_disk reads.cause }
  where
    by : (fault : VerifyFault) → (fault ≡ verify.DiskFailed → ⊥)
        → HasReadCause {V = ReadImage} is_verify_disk_fault old.faults new.faults (Err fault) → new.faults ≡ old.faults
    by verify.DiskFailed no_disk cause = absurd (no_disk refl)
    by verify.NoMemory no_disk cause = cause
    by (verify.BadSuper at) no_disk cause = cause
    by (verify.BadJournal core slot at) no_disk cause = cause
    by (verify.BadImage inode rule bytes) no_disk cause = cause
