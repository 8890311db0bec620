-- A disk of twelve blocks on which a root stands in which "a" names an empty directory.
use Rattle.std.specs.Prelude.{ℕ, ◌==◌, ◌∷◌, List, [], replicate, Option, Some, None, is_some, if◌then◌else◌}
use Rattle.std.specs.FinMap.{get, empty}
use Rattle.sfs_base.specs.declared.numbers.Kind.TheVariants.{Directory}
use Rattle.sfs_image.specs.Bytes.{zeros}
use Rattle.sfs_image.specs.ImageOf.{empty_directory}
use Rattle.sfs_image.specs.Inode.{Inode, inode_bytes}
use Rattle.sfs_image.specs.Part.{Part, part_of}
use Rattle.sfs_image.specs.Slot.{Row}
use Rattle.sfs_image.specs.SlotBlock.{slots_bytes}
use Rattle.sfs_image.specs.Super.{Layout}
use Rattle.image_laws.specs.Renamed.{Numbering}
use Rattle.flush_laws.specs.Volume.{Volume}
use Rattle.merge_laws.specs.Worked.{TWO_CORES, BOTH_HISTORY}

-- two cores with a journal slot each, sixteen inodes and one data block, which is block 11
abbrev pub TWELVE_BLOCKS : Layout
TWELVE_BLOCKS = record { blocks = 12; inodes = 16; cores = 2; slots = 1 }

-- the root's slots: "a" names inode 1
abbrev pub ROOT_SLOTS : List (Option Row)
ROOT_SLOTS = Some (record { inode = 1; kind = Directory; name = 97 ∷ [] }) ∷ replicate 14 None

-- the root's inode, whose one block is block 11
abbrev pub ROOT_INODE : Inode
ROOT_INODE = record { kind = 2; links = 3; size = 4096; direct = 11 ∷ replicate 107 0; indirect = replicate 16 0 }

-- a block of the disk: all that are read are the root's
abbrev pub ROOT_BLOCK : ℕ → List ℕ
ROOT_BLOCK block = slots_bytes ROOT_SLOTS

-- the records: the root's, that of the empty directory, and all others free
abbrev pub TWO_RECORDS : ℕ → List ℕ
TWO_RECORDS i = if i == 0 then inode_bytes ROOT_INODE else (if i == 1 then inode_bytes empty_directory else zeros 512)

-- the parts that they gather
abbrev pub TWO_PARTS : ℕ → Part
TWO_PARTS i = part_of ROOT_BLOCK (TWO_RECORDS i)

-- each of the two nodes has its own number as its inode
abbrev pub TWO_NUMBERS : Numbering
TWO_NUMBERS node = if node == 0 then Some 0 else (if node == 1 then Some 1 else None)

-- the volume that is mounted from it, in whose history two cores each flush one of the two directories
abbrev pub TWO_DIRECTORIES : Volume
TWO_DIRECTORIES = record {
  first = TWO_CORES;
  history = BOTH_HISTORY;
  flushes = [];
  cut = empty;
  inodes = λ node. is_some (get TWO_CORES.nodes node);
  num = TWO_NUMBERS;
  layout = TWELVE_BLOCKS;
  store = ROOT_BLOCK;
  parts = TWO_PARTS;
}
