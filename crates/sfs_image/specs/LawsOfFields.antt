-- The laws of the places of fields in the formats, and of the rules that ask for one record alone. Each is proved by a function of the
-- module laws.
use Rattle.std.specs.Prelude.{◌≡◌, ◌↔◌, ℕ, ◌+◌, ◌-◌, ◌*◌, ◌<◌, ◌≤◌, false, true, List, [], ◌∷◌, length, slice_index, Some}
use Rattle.sfs_base.specs.declared.numbers.Kind.TheVariants.{File, Directory}
use Rattle.sfs_image.specs.Bytes.{part, zeros, u32_bytes, u32s_bytes, u64_bytes}
use Rattle.sfs_image.specs.Inode.{Inode, inode_bytes}
use Rattle.sfs_image.specs.Journal.{Head, head_bytes}
use Rattle.sfs_image.specs.Part.{Part, is_directory_part}
use Rattle.sfs_image.specs.Rules.{breaks_record, breaks_root}
use Rattle.sfs_image.specs.Slot.{Row, kind_byte, slot_bytes}
use Rattle.sfs_image.specs.Super.{Layout, super_bytes}

-- The lowest byte of a number comes first, and a file's kind is 1, a directory's 2.
pub record NumbersAreSpelled : Type 0 where
  pub low_first : u32_bytes 305419896 ≡ 120 ∷ 86 ∷ 52 ∷ 18 ∷ []
  pub eight : u64_bytes 305419896 ≡ 120 ∷ 86 ∷ 52 ∷ 18 ∷ 0 ∷ 0 ∷ 0 ∷ 0 ∷ []
  pub file : kind_byte File ≡ 1
  pub directory : kind_byte Directory ≡ 2

-- The fields of a superblock by their bytes: the text `SCALEFS1`, the version 1, cores, blocks, inodes, slots, zeros.
pub record SuperHasFields (layout : Layout) : Type 0 where
  pub text : part 0 8 (super_bytes layout) ≡ 83 ∷ 67 ∷ 65 ∷ 76 ∷ 69 ∷ 70 ∷ 83 ∷ 49 ∷ []
  pub version : part 8 4 (super_bytes layout) ≡ 1 ∷ 0 ∷ 0 ∷ 0 ∷ []
  pub cores : part 12 4 (super_bytes layout) ≡ u32_bytes layout.cores
  pub blocks : part 16 4 (super_bytes layout) ≡ u32_bytes layout.blocks
  pub inodes : part 20 4 (super_bytes layout) ≡ u32_bytes layout.inodes
  pub slots : part 24 4 (super_bytes layout) ≡ u32_bytes layout.slots
  pub rest : part 28 4068 (super_bytes layout) ≡ zeros 4068

-- The fields of a directory's slot with a row: the inode, the kind, the length of the name, two zeros, the name, zeros.
pub record SlotHasFields (row : Row) : Type 0 where
  pub inode : part 0 4 (slot_bytes (Some row)) ≡ u32_bytes row.inode
  pub kind : part 4 1 (slot_bytes (Some row)) ≡ kind_byte row.kind ∷ []
  pub name_length : part 5 1 (slot_bytes (Some row)) ≡ length row.name ∷ []
  pub between : part 6 2 (slot_bytes (Some row)) ≡ 0 ∷ 0 ∷ []
  pub name : part 8 (length row.name) (slot_bytes (Some row)) ≡ row.name
  pub rest : part (8 + length row.name) (256 - length row.name) (slot_bytes (Some row)) ≡ zeros (256 - length row.name)

-- The fields of an inode's record, with 108 pointers to blocks and 16 to indirect blocks: the kind, three zeros, the links, the size, pointers.
pub record InodeHasFields (inode : Inode) : Type 0 where
  pub kind : part 0 4 (inode_bytes inode) ≡ inode.kind ∷ 0 ∷ 0 ∷ 0 ∷ []
  pub links : part 4 4 (inode_bytes inode) ≡ u32_bytes inode.links
  pub size : part 8 8 (inode_bytes inode) ≡ u64_bytes inode.size
  pub direct : part 16 432 (inode_bytes inode) ≡ u32s_bytes inode.direct
  pub indirect : part 448 64 (inode_bytes inode) ≡ u32s_bytes inode.indirect

-- The fields of a slot's first block: the gate, which is closed, the count and the commit stamp.
pub record HeadHasFields (head : Head) : Type 0 where
  pub gate : part 0 512 (head_bytes head) ≡ zeros 512
  pub count : part 512 4 (head_bytes head) ≡ u32_bytes head.count
  pub between : part 516 4 (head_bytes head) ≡ zeros 4
  pub stamp : part 520 8 (head_bytes head) ≡ u64_bytes head.stamp
  pub rest : part 528 3568 (head_bytes head) ≡ zeros 3568

-- Each superblock, each slot with a row and each first block of a journal slot has its fields at these places.
pub record FieldsHavePlaces : Type 0 where
  pub numbers : NumbersAreSpelled
  pub super : (layout : Layout) → SuperHasFields layout
  pub slot : (row : Row) → SlotHasFields row
  pub inode : (inode : Inode) → length inode.direct ≡ 108 → length inode.indirect ≡ 16 → InodeHasFields inode
  pub head : (head : Head) → HeadHasFields head

-- a record that can stand in the inode table: of a free inode, of a file or of a directory, with zeros behind the kind, and all zeros where free
pub record IsGoodRecord (raw : List ℕ) : Type 0 where
  pub kind : slice_index raw 0 ≤ 2
  pub between : (k : ℕ) → k < 3 → slice_index raw (1 + k) ≡ 0
  pub free : slice_index raw 0 ≡ 0 → (k : ℕ) → k < 508 → slice_index raw (4 + k) ≡ 0

-- An inode keeps the first rule exactly where its record is good.
abbrev pub RecordsSay : Type 0
RecordsSay = (part : Part) → (breaks_record part ≡ false) ↔ IsGoodRecord part.raw

-- An inode keeps the second rule exactly where it is a directory, if it is inode 0.
abbrev pub RootsSay : Type 0
RootsSay = (part : Part) (i : ℕ) → (breaks_root part i ≡ false) ↔ (i ≡ 0 → is_directory_part part ≡ true)
