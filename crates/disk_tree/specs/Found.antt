-- What reading a tree gives.
use Rattle.std.specs.Prelude.{◌≡◌, ℕ, ◌<◌, List, length, map, All, Option, None, replicate}
use Rattle.sfs_image.specs.Inode.{IsInode, inode_of}
use Rattle.sfs_image.specs.Part.{Part}
use Rattle.sfs_image.specs.Super.{Layout}
use Rattle.tree_laws.specs.Laws.{IsSoundTree}
use Rattle.tree_laws.specs.Sound.{IsWithinLimits}
use Rattle.image_laws.specs.Image.{inodes_shown}
use Rattle.image_laws.specs.ImageTree.{Making, image_tree}
use Rattle.disk_tree.specs.Blocks.{ReadWell}
use Rattle.disk_tree.specs.Gathered.{KeepPointerRules}
use Rattle.disk_tree.specs.Inodes.{KeepRecordRules}
use Rattle.disk_tree.specs.Judged.{AreReadParts, fault_of_parts}
use Rattle.disk_tree.specs.KeptParts.{kept_in_use}
use Rattle.disk_tree.specs.Whole.{IsReadWhole}
use Rattle.disk_tree.specs.declared.found.Found.{Found}
use Rattle.disk_tree.specs.declared.read.ReadInodes.{ReadInodes}

-- The inodes of an image were read, with their indirect blocks, bytes and slots, and keep the rules that speak of these.
pub record WereReadWell (told : Option (List ℕ)) (layout : Layout) (records : List (List ℕ)) (read : ReadInodes) : Type 0 where
  pub inodes : read.inodes.items ≡ map inode_of records
  pub fit : All IsInode read.inodes.items
  pub first : KeepRecordRules layout records
  pub table_count : length read.tables.items ≡ layout.inodes
  pub pointers : KeepPointerRules told layout records read.tables.items
  pub well : ReadWell told layout records read.inodes.items read.tables.items read.contents.items read.slots.items

-- what a tree has that is just read: new nodes are numbered behind the inodes, and no core may make one
abbrev pub making_when_read : Layout → Making
making_when_read layout = record { first = layout.inodes; share = 0; made = replicate layout.cores 0 }

-- What was found is what the image shows: there are parts that reads gave whole and that have no fault, the tree is theirs, each node
-- under its inode's number, it is sound and within its limits, and what is kept is that of the parts in use.
pub record IsFoundIn (told : Option (List ℕ)) (layout : Layout) (records : List (List ℕ)) (found : Found) : Type 0 where
  pub parts : ℕ → Part
  pub read : AreReadParts told layout records parts
  pub whole : (i : ℕ) → i < layout.inodes → IsReadWhole (parts i)
  pub faultless : fault_of_parts layout parts ≡ None
  pub tree : found.tree ≡ image_tree (inodes_shown layout parts) (making_when_read layout)
  pub sound : IsSoundTree found.tree
  pub limits : IsWithinLimits found.tree
  pub kept : found.parts.items ≡ kept_in_use layout.inodes parts
