-- The rules that speak of the bytes of an inode, by what was read.
use Rattle.std.specs.Prelude.{◌≡◌, ℕ, ◌-◌, ◌*◌, ◌/◌, ◌%◌, ◌<◌, ◌≤◌, ◌==◌, ◌&&◌, not, is_some, Bool, true, false, List, [], map, length, slice_index_or, Option, None, Some, if◌then◌else◌}
use Rattle.std.specs.List.{range_with_len, list_any}
use Rattle.sfs_base.specs.Lists.{Roomy}
use Rattle.sfs_image.specs.Bytes.{part, nonzero_in}
use Rattle.sfs_image.specs.Inode.{Inode, Table}
use Rattle.sfs_image.specs.Part.{Part}
use Rattle.sfs_image.specs.Rules.{breaks_bytes_rule}
use Rattle.sfs_image.specs.Super.{Layout}
use Rattle.sfs_image.specs.Slot.{Row}
use Rattle.sfs_image.specs.SlotBlock.{slots_of, slots_fault}
use Rattle.disk_tree.specs.Contents.{bytes_of_inode, HoldContents}
use Rattle.disk_tree.specs.First.{IsFirst, NonePasses}
use Rattle.disk_tree.specs.Inodes.{inode_at}

-- whether a file has a byte past its size in its last block that is not zero
abbrev pub tail_badly : Inode → List ℕ → Bool
tail_badly inode bytes =
    inode.kind == 1 && not (inode.size % 4096 == 0)
    && is_some (nonzero_in (inode.size % 4096) (4096 - inode.size % 4096) (part (4096 * (inode.size / 4096)) 4096 bytes))

-- the first blocks of some bytes
unfoldable pub blocks_in : ℕ → List ℕ → List (List ℕ)
blocks_in count bytes = map (λ n. part (4096 * n) 4096 bytes) (range_with_len 0 count)

-- whether something is wrong in the slots of a block
abbrev pub is_malformed : List ℕ → Bool
is_malformed block = is_some (slots_fault block)

-- whether something is wrong in the slots of a directory
abbrev pub slots_badly : Inode → List ℕ → Bool
slots_badly inode bytes = inode.kind == 2 && list_any is_malformed (blocks_in (inode.size / 4096) bytes)

-- the slots of a directory, block by block; of a file none
abbrev pub slots_by : Inode → List ℕ → List (List (Option Row))
slots_by inode bytes = if inode.kind == 2 then map slots_of (blocks_in (inode.size / 4096) bytes) else []

-- the slots of the inode of a number, and none past the last inode
abbrev pub slots_at : List (Roomy (List (Option Row))) → ℕ → List (List (Option Row))
slots_at slots i = (slice_index_or slots i (record { items = []; spare = 0 })).items

-- what was found of an inode: its slots where nothing is wrong in them
abbrev pub FindsSlots : Inode → List ℕ → Option (Roomy (List (Option Row))) → Type 0
FindsSlots inode bytes (Some slots) = (slots.items ≡ slots_by inode bytes) × (slots_badly inode bytes ≡ false)
FindsSlots inode bytes None = slots_badly inode bytes ≡ true

-- whether something is wrong in the slots of the inode of a number
abbrev pub breaks_slots_at : List Inode → List (Roomy ℕ) → ℕ → Bool
breaks_slots_at inodes contents i = slots_badly (inode_at inodes i) (bytes_of_inode contents i)

-- whether an inode of a number has a byte past its size
abbrev pub breaks_tail_at : List Inode → List (Roomy ℕ) → ℕ → Bool
breaks_tail_at inodes contents i = tail_badly (inode_at inodes i) (bytes_of_inode contents i)

-- The slots of the first n inodes, in which nothing is wrong.
pub record AreSlotLists (inodes : List Inode) (contents : List (Roomy ℕ)) (n : ℕ) (slots : List (Roomy (List (Option Row)))) : Type 0 where
  pub count : length slots ≡ n
  pub each : (i : ℕ) → i < n → slots_at slots i ≡ slots_by (inode_at inodes i) (bytes_of_inode contents i)
  pub keep : NonePasses n (breaks_slots_at inodes contents)

-- The first inode in whose slots something is wrong.
pub record BreaksSeventh (inodes : List Inode) (contents : List (Roomy ℕ)) (inode rule : ℕ) : Type 0 where
  pub seventh : rule ≡ 7
  pub first : IsFirst (length inodes) (breaks_slots_at inodes contents) inode

-- Parts were read, with their bytes and slots, and keep the first seven rules.
pub record ReadWell (told : Option (List ℕ)) (layout : Layout) (records : List (List ℕ)) (inodes : List Inode) (tables : List (Roomy Table))
    (contents : List (Roomy ℕ)) (slots : List (Roomy (List (Option Row)))) : Type 0 where
  pub parts : ℕ → Part
  pub hold : HoldContents told layout records tables contents parts
  pub content_count : length contents ≡ layout.inodes
  pub slots_are : AreSlotLists inodes contents layout.inodes slots
  pub keep : (rule i : ℕ) → 1 ≤ rule → rule ≤ 7 → i < layout.inodes → breaks_bytes_rule rule layout parts i ≡ false
