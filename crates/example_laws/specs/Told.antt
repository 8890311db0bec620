-- Two cores tell labels of a disk at rest: both reserve, the second one ends first, and neither writes anything.
use Rattle.std.specs.Prelude.{◌≡◌, ◌*◌, ◌==◌, ◌∷◌, ◌++◌, if◌then◌else◌, ℕ, List, [], Some, length}
use Rattle.sfs_image.specs.ImageOf.{IsImageOf, empty_directory}
use Rattle.sfs_image.specs.Super.{super_bytes}
use Rattle.sfs_image.specs.Bytes.{zeros}
use Rattle.sfs_image.specs.Inode.{inode_bytes}
use Rattle.sfs_image.specs.SlotBlock.{slots_bytes}
use Rattle.sfs_dev.specs.Disk.{View}
use Rattle.commit_one.specs.Change.{nothing_open}
use Rattle.tree_laws.specs.declared.turns.Turn.{Turn}
use Rattle.tree_laws.specs.declared.turns.TurnAct.TheVariants as act
use Rattle.crash_laws.specs.Survives.{SurvivesAll, ReadsBack}
use Rattle.merge_laws.specs.Pens.{FsyncTurns}
use Rattle.merge_laws.specs.Worked.{TWO_CORES, BOTH_HISTORY, own_turn, other_turn}
use Rattle.stamp_table.specs.declared.event.Event.{Event}
use Rattle.slot_laws.specs.declared.label.Label.{Label}
use Rattle.slot_laws.specs.declared.label.Label.TheVariants as label
use Rattle.slot_laws.specs.Worked.{own_hold, other_hold, seen_one}
use Rattle.close_laws.specs.Maps.{Numbered, Telling}
use Rattle.close_laws.specs.Beside.{IsToldBeside}
use Rattle.close_laws.specs.Close.{PensAgree, EndsMount}
use Rattle.example_laws.specs.Fsyncs.{NO_GRANT, TWO_KEPT, entry_at}
use Rattle.example_laws.specs.Image.{TWELVE_BLOCKS, TWO_DIRECTORIES, TWO_PARTS, ROOT_INODE, ROOT_SLOTS}
use Rattle.example_laws.specs.Map.{TWO_TAKEN}

-- both reserve, and the second core's commit, which writes nothing, is durable at the fifth device call
abbrev pub UP_TO_THE_FIFTH : List (Event Label)
UP_TO_THE_FIFTH =
    own_hold (label.Took ∷ label.Reserved 1 (seen_one 1 0) NO_GRANT ∷ [])
    ++ other_hold
    (label.Took
    ∷ label.Reserved 2 (seen_one 0 0) NO_GRANT
    ∷ label.Empty 2 (other_turn 5 0 act.CutAt) (other_turn 5 0 act.Opened) (other_turn 5 0 act.Durable) ∷ [])

-- the first core's is at the eighth
abbrev pub AT_THE_EIGHTH : List (Event Label)
AT_THE_EIGHTH = own_hold (label.Took ∷ label.Empty 1 (own_turn 8 0 act.CutAt) (own_turn 8 0 act.Opened) (own_turn 8 0 act.Durable) ∷ [])

-- the first fsync's commit has number 1, and the second one's number 2
abbrev pub TWO_NUMBERED : Numbered
TWO_NUMBERED = record { pairs = TWO_KEPT.pairs; stamps = λ number. if number == 1 then 0 else 1 }

-- their history, beside the map of free space, which stays as it is
abbrev pub TWO_TOLD : Telling
TWO_TOLD = record {
  layout = TWELVE_BLOCKS;
  before = 0;
  moment = 5;
  log = UP_TO_THE_FIFTH ++ AT_THE_EIGHTH;
  first = TWO_TAKEN;
  now = TWO_TAKEN;
}

-- what each pen has
abbrev pub OWN_AT_ONCE : List Turn
OWN_AT_ONCE = own_turn 8 0 act.CutAt ∷ own_turn 8 0 act.Opened ∷ own_turn 8 0 act.Durable ∷ []

abbrev pub OTHER_AT_ONCE : List Turn
OTHER_AT_ONCE = other_turn 5 0 act.CutAt ∷ other_turn 5 0 act.Opened ∷ other_turn 5 0 act.Durable ∷ []

abbrev pub AT_ONCE_PENS : List (List FsyncTurns)
AT_ONCE_PENS = (record { stamp = 0; turns = OWN_AT_ONCE } ∷ []) ∷ (record { stamp = 1; turns = OTHER_AT_ONCE } ∷ []) ∷ []

-- a disk of twelve blocks with an image, on which no call writes anything, once so many were made
abbrev pub still_disk : List ℕ → ℕ → View
still_disk image now = record { size = 12; content = Some image; now = now; faults = 0; crash_images = λ moment other. other ≡ image }

-- An image of the disk stands for the parts of the two directories, with no slot open.
pub record IsTwoImage (image : List ℕ) : Type 0 where
  pub whole : length image ≡ 4096 * 12
  pub stands : IsImageOf TWELVE_BLOCKS nothing_open TWO_PARTS image

-- one in bytes: the superblock, two shut slots, the table, and the root's one block
unfoldable pub TWO_IMAGE : List ℕ
TWO_IMAGE =
    super_bytes TWELVE_BLOCKS
    ++ (zeros 32768 ++ (inode_bytes ROOT_INODE ++ (inode_bytes empty_directory ++ (zeros 7168 ++ slots_bytes ROOT_SLOTS))))

-- All that is asked of the end of a mount is so of these: the labels are told beside what the two commits bring, both pens agree, the disk is in their run; and
-- so the mount survives each crash and is read back.
pub record TwoMountsClose (share : ℕ) (image : List ℕ) : Type 0 where
  pub labels : IsToldBeside TWO_DIRECTORIES (entry_at 0 ∷ entry_at 1 ∷ []) TWO_NUMBERED TWO_TOLD
  pub pens : PensAgree TWO_DIRECTORIES TWO_TOLD AT_ONCE_PENS
  pub ends : EndsMount TWO_DIRECTORIES (entry_at 0 ∷ entry_at 1 ∷ []) TWO_NUMBERED TWO_TOLD (still_disk image 8)
  pub survives : SurvivesAll share 5 TWO_CORES BOTH_HISTORY (still_disk image 8)
  pub reads : ReadsBack share TWO_CORES BOTH_HISTORY (still_disk image 8)

-- So it is of each such image.
abbrev pub TwoCoresClose : Type 0
TwoCoresClose = (share : ℕ) (image : List ℕ) → IsTwoImage image → TwoMountsClose share image

-- And there is one.
abbrev pub TwoImageStands : Type 0
TwoImageStands = IsTwoImage TWO_IMAGE
