-- A disk of fifteen blocks on which a root stands in which "a" and "b" name two empty files.
use Rattle.std.specs.Prelude.{ℕ, ◌==◌, ◌∷◌, List, [], replicate, Option, Some, None, is_some, if◌then◌else◌}
use Rattle.std.specs.FinMap.{get, empty}
use Rattle.sfs_base.specs.declared.numbers.Kind.TheVariants.{File}
use Rattle.sfs_image.specs.Bytes.{zeros}
use Rattle.sfs_image.specs.Inode.{Inode, inode_bytes}
use Rattle.sfs_image.specs.Part.{Part, part_of}
use Rattle.sfs_image.specs.Slot.{Row}
use Rattle.sfs_image.specs.SlotBlock.{slots_bytes}
use Rattle.sfs_image.specs.Super.{Layout}
use Rattle.image_laws.specs.Renamed.{Numbering}
use Rattle.flush_laws.specs.Volume.{Volume}
use Rattle.example_grants.specs.Calls.{FIRST_TREE, WRITES_AND_FSYNCS}

-- two cores with a journal slot each, sixteen inodes and four data blocks, which are blocks 11 to 14
abbrev pub FIFTEEN_BLOCKS : Layout
FIFTEEN_BLOCKS = record { blocks = 15; inodes = 16; cores = 2; slots = 1 }

-- the root's slots: "a" names inode 1 and "b" inode 2
abbrev pub TWO_ROWS : List (Option Row)
TWO_ROWS = Some (record { inode = 1; kind = File; name = 97 ∷ [] }) ∷ Some (record { inode = 2; kind = File; name = 98 ∷ [] }) ∷ replicate 13 None

-- the root's inode, whose one block is block 12
abbrev pub ROOT_RECORD : Inode
ROOT_RECORD = record { kind = 2; links = 2; size = 4096; direct = 12 ∷ replicate 107 0; indirect = replicate 16 0 }

-- the inode of a file of so many bytes whose first block is this one
abbrev pub file_inode : ℕ → ℕ → Inode
file_inode size block = record { kind = 1; links = 1; size = size; direct = block ∷ replicate 107 0; indirect = replicate 16 0 }

-- that of an empty file
abbrev pub EMPTY_FILE : Inode
EMPTY_FILE = file_inode 0 0

-- a block of the disk: all that are read are the root's
abbrev pub ROWS_BLOCK : ℕ → List ℕ
ROWS_BLOCK block = slots_bytes TWO_ROWS

-- the records: the root's, those of the two files, and all others free
abbrev pub FIRST_RECORDS : ℕ → List ℕ
FIRST_RECORDS i =
    if i == 0 then inode_bytes ROOT_RECORD else (if i == 1 then inode_bytes EMPTY_FILE else (if i == 2 then inode_bytes EMPTY_FILE else zeros 512))

-- the parts that they gather
abbrev pub FIRST_PARTS : ℕ → Part
FIRST_PARTS i = part_of ROWS_BLOCK (FIRST_RECORDS i)

-- each of the three nodes has its own number as its inode
abbrev pub FIRST_NUMBERS : Numbering
FIRST_NUMBERS node = if node == 0 then Some 0 else (if node == 1 then Some 1 else (if node == 2 then Some 2 else None))

-- the volume that is mounted from it, in whose history two cores each write to one of the two files and flush it
abbrev pub TWO_FILES : Volume
TWO_FILES = record {
  first = FIRST_TREE;
  history = WRITES_AND_FSYNCS;
  flushes = [];
  cut = empty;
  inodes = λ node. is_some (get FIRST_TREE.nodes node);
  num = FIRST_NUMBERS;
  layout = FIFTEEN_BLOCKS;
  store = ROWS_BLOCK;
  parts = FIRST_PARTS;
}
