-- A disk of fifteen blocks on which both commits are written, call by call.
use Rattle.std.specs.Prelude.{◌≡◌, ◌*◌, ◌∷◌, ℕ, suc, zero, List, [], Option, None, Some, length}
use Rattle.sfs_image.specs.ImageOf.{IsImageOf}
use Rattle.sfs_dev.specs.Disk.{View}
use Rattle.sfs_dev.specs.Ranges.{put}
use Rattle.journal_one.specs.Job.{Piece, fill_piece, gate_piece}
use Rattle.commit_one.specs.Change.{nothing_open}
use Rattle.crash_laws.specs.Survives.{SurvivesAll, ReadsBack}
use Rattle.close_laws.specs.Close.{EndsMount}
use Rattle.example_grants.specs.Calls.{FIRST_TREE, WRITES_AND_FSYNCS}
use Rattle.example_grants.specs.Fsyncs.{ENTRIES}
use Rattle.example_grants.specs.Image.{FIFTEEN_BLOCKS, FIRST_PARTS, TWO_FILES}
use Rattle.example_grants.specs.Told.{OWN_JOB, OTHER_JOB, FILES_NUMBERED, FILES_TOLD}

-- an image behind a device call: one that writes puts its piece, and one that syncs changes nothing
abbrev pub call_made : Option Piece → List ℕ → List ℕ
call_made None image = image
call_made (Some piece) image = put piece.at piece.bytes image

-- an image behind the first of some calls
abbrev pub content_after : List (Option Piece) → List ℕ → ℕ → List ℕ
content_after [] image n = image
content_after (call ∷ calls) image zero = image
content_after (call ∷ calls) image (suc n) = content_after calls (call_made call image) n

-- the thirteen calls: both slots are filled, a sync, both gates are opened, and two syncs
abbrev pub FILES_CALLS : List (Option Piece)
FILES_CALLS =
    Some (fill_piece OTHER_JOB 0)
    ∷ Some (fill_piece OTHER_JOB 1)
    ∷ Some (fill_piece OTHER_JOB 2)
    ∷ Some (fill_piece OTHER_JOB 3)
    ∷ Some (fill_piece OWN_JOB 0)
    ∷ Some (fill_piece OWN_JOB 1)
    ∷ Some (fill_piece OWN_JOB 2)
    ∷ Some (fill_piece OWN_JOB 3)
    ∷ None
    ∷ Some (gate_piece OTHER_JOB.place 1)
    ∷ Some (gate_piece OWN_JOB.place 1)
    ∷ None
    ∷ None
    ∷ []

-- a disk that began with an image and writes each piece at once, behind so many of them
abbrev pub files_disk : List ℕ → ℕ → View
files_disk image now = record {
  size = 15;
  content = Some (content_after FILES_CALLS image now);
  now = now;
  faults = 0;
  crash_images = λ moment other. other ≡ content_after FILES_CALLS image moment;
}

-- An image of the disk stands for the parts of the two files, with no slot open.
pub record IsFilesImage (image : List ℕ) : Type 0 where
  pub whole : length image ≡ 4096 * 15
  pub stands : IsImageOf FIFTEEN_BLOCKS nothing_open FIRST_PARTS image

-- All that is asked of the end of a mount is so of that disk behind the thirteen calls: the mount survives each crash since it began, and is read back.
pub record WritersMountEnds (share : ℕ) (image : List ℕ) : Type 0 where
  pub ends : EndsMount TWO_FILES ENTRIES FILES_NUMBERED FILES_TOLD (files_disk image 13)
  pub survives : SurvivesAll share 0 FIRST_TREE WRITES_AND_FSYNCS (files_disk image 13)
  pub reads : ReadsBack share FIRST_TREE WRITES_AND_FSYNCS (files_disk image 13)

-- So it is of each such image.
abbrev pub WritersClose : Type 0
WritersClose = (share : ℕ) (image : List ℕ) → IsFilesImage image → WritersMountEnds share image
