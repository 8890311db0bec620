-- Orphans and how they are freed: files of link count 0, whose inodes no row names.
use Rattle.std.specs.Prelude.{◌≡◌, ◌⊎◌, ℕ, ◌==◌, ◌&&◌, ◌<◌, Bool, not, List, [], length, map, replicate, slice_index_or, Option, None, Some, Result, OnOk, if◌then◌else◌}
use Rattle.std.specs.List.{range_with_len, filter}
use Rattle.sfs_base.specs.declared.numbers.Kind.TheVariants.{File}
use Rattle.fmt_journal.specs.declared.tx.TxRecord.{TxRecord}
use Rattle.sfs_image.specs.Bytes.{zeros}
use Rattle.sfs_image.specs.ImageOf.{InodePart, with_opened, with_slot, IsImageOf}
use Rattle.sfs_image.specs.Inode.{inode_of}
use Rattle.sfs_image.specs.Journal.{Entry}
use Rattle.sfs_image.specs.Part.{Part, part_of}
use Rattle.sfs_image.specs.Settled.{settled}
use Rattle.sfs_image.specs.Slot.{kind_byte}
use Rattle.sfs_image.specs.Super.{Layout}
use Rattle.sfs_dev.specs.Disk.{View}
use Rattle.journal_one.specs.Known.{EachLeft}
use Rattle.journal_one.specs.Packed.{Contents}
use Rattle.commit_one.specs.Carried.{LaterLeaves, GoesOnTelling}
use Rattle.commit_one.specs.Change.{nothing_open}
use Rattle.disk_tree.specs.KeptParts.{NumberedKept}
use Rattle.recovery.specs.Recovering.{SettlesAs}

-- whether a record is that of a file of link count 0
abbrev pub is_unlinked : List ℕ → Bool
is_unlinked raw = (inode_of raw).kind == kind_byte File && (inode_of raw).links == 0

-- the first n inodes whose records are so, ascending
unfoldable pub unlinked_below : List (List ℕ) → ℕ → List ℕ
unlinked_below records n = filter (λ i. is_unlinked (slice_index_or records i [])) (range_with_len 0 n)

-- all of them
abbrev pub unlinked_in : List (List ℕ) → List ℕ
unlinked_in records = unlinked_below records (length records)

-- the orphans of an image: the inodes whose settled records are so, ascending
unfoldable pub orphans_of : Layout → List ℕ → List ℕ
orphans_of layout image = filter (λ i. is_unlinked (settled layout image i)) (range_with_len 0 layout.inodes)

-- whether what is kept of an inode is that of a file or directory that has a link
abbrev pub is_linked_kept : NumberedKept → Bool
is_linked_kept one = not (one.kept.inode.kind == kind_byte File && one.kept.inode.links == 0)

-- the part of a free inode
unfoldable pub free_part : Part
free_part = part_of (λ _. []) (zeros 512)

-- a free record for an inode
abbrev pub free_entry : ℕ → Entry
free_entry inode = record { inode = inode; bytes = zeros 512 }

-- the same as a transaction has it
abbrev pub free_record : ℕ → TxRecord
free_record inode = record { inode = inode; bytes = replicate 512 0 }

-- and its part
abbrev pub freed_part : ℕ → InodePart
freed_part inode = record { inode = inode; part = free_part }

-- the transaction that frees inodes: a free record for each, and no fresh block
abbrev pub freeing : List ℕ → Contents
freeing inodes = record { entries = map free_entry inodes; fresh = [] }

-- What frees inodes: a transaction, or none where there are none.
abbrev pub PacksFreeing : List ℕ → Option Contents → Type 0
PacksFreeing inodes None = inodes ≡ []
PacksFreeing inodes (Some packed) = (0 < length inodes) × (packed ≡ freeing inodes)

-- parts without those that are unlinked
abbrev pub without_unlinked : (ℕ → Part) → ℕ → Part
without_unlinked parts i = if is_unlinked (parts i).raw then free_part else parts i

-- These are the parts once the unlinked ones of the first inodes are freed.
abbrev pub AreUnlinkedFree : Layout → (ℕ → Part) → (ℕ → Part) → Type 0
AreUnlinkedFree layout parts freed = (i : ℕ) → i < layout.inodes → freed i ≡ without_unlinked parts i

-- the parts once the first slot has freed those of the first n inodes that pass a test
abbrev pub freed_by : Layout → (ℕ → Bool) → ℕ → (ℕ → Part) → ℕ → Part
freed_by layout test n parts =
    with_opened layout (with_slot nothing_open 0 (Some (record { stamp = 1; parts = map freed_part (filter test (range_with_len 0 n)) }))) parts

-- The orphans were freed: what a read gives is told where it was; each image of each later moment settles as the old parts or as those
-- without orphans, and after Ok it stands for the
-- latter, with no slot open.
pub record FreesUnlinked {V E : Type 0} (layout : Layout) (parts freed : ℕ → Part) (old new : View) (result : Result V E) : Type 0 where
  pub told : GoesOnTelling old new
  pub later : LaterLeaves (λ _ image. SettlesAs layout parts image ⊎ SettlesAs layout freed image) old new
  pub ended : OnOk result (EachLeft new (IsImageOf layout nothing_open freed))

-- A disk was settled: what a read gives is told where it was; each image of each later moment settles as the old parts or as those without
-- orphans, and after Ok it stands for the
-- latter, with no slot open.
pub record RecoversTo {V E : Type 0} (layout : Layout) (parts : ℕ → Part) (old new : View) (result : Result V E) : Type 0 where
  pub freed : ℕ → Part
  pub without : AreUnlinkedFree layout parts freed
  pub told : GoesOnTelling old new
  pub later : LaterLeaves (λ _ image. SettlesAs layout parts image ⊎ SettlesAs layout freed image) old new
  pub ended : OnOk result (EachLeft new (IsImageOf layout nothing_open freed))
