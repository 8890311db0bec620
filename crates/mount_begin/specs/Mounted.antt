-- What a mount begins with.
use Rattle.std.specs.Prelude.{◌≡◌, ◌↔◌, ℕ, ◌<◌, ◌/◌, List, map, None, Some, Contains}
use Rattle.sfs_image.specs.Part.{Part}
use Rattle.sfs_image.specs.Settled.{layout_of, parts_of}
use Rattle.sfs_image.specs.Super.{Layout, IsLayout, data_start}
use Rattle.tree_laws.specs.Laws.{IsSoundTree}
use Rattle.tree_laws.specs.Sound.{IsWithinLimits}
use Rattle.image_laws.specs.Image.{tree_of, inodes_shown}
use Rattle.image_laws.specs.ImageTree.{Making, image_tree}
use Rattle.space_map.specs.Pool.{status_of, first_status}
use Rattle.space_map.specs.Space.{Space}
use Rattle.disk_change.specs.GivenUp.{IsLeftByGone, entry_number}
use Rattle.disk_nodes.specs.Nodes.{old_entry}
use Rattle.disk_nodes.specs.declared.old.OldEntry.{OldEntry}
use Rattle.disk_tree.specs.Found.{making_when_read}
use Rattle.disk_tree.specs.Judged.{fault_of_parts}
use Rattle.disk_tree.specs.KeptParts.{NumberedKept, kept_in_use}
use Rattle.disk_tree.specs.Whole.{IsReadWhole, AreWholeRecords}
use Rattle.recovery.specs.Freed.{without_unlinked}
use Rattle.mount_begin.specs.declared.begin.Mounted.{Mounted}

-- the entry of an inode: its node has the inode's number
abbrev pub entry_mounted : NumberedKept → OldEntry
entry_mounted one = old_entry (record { 0 = one.number }) one.number one.kept.inode one.kept.tables one.kept.slots

-- the entries of the parts that are in use, ascending
abbrev pub entries_mounted : Layout → (ℕ → Part) → List OldEntry
entries_mounted layout parts = map entry_mounted (kept_in_use layout.inodes parts)

-- What is free on a disk whose nodes have these entries: the blocks of the data area that none of them holds, and the inodes of the disk
-- that none of them has. All others are taken, and nothing is granted.
pub record IsFreeSpace (layout : Layout) (entries : List OldEntry) (space : Space) : Type 0 where
  pub held : List ℕ
  pub held_is : (block : ℕ) → Contains held block ↔ IsLeftByGone entries block
  pub blocks : (block : ℕ) → status_of space.blocks block ≡ first_status (data_start layout) layout.blocks held block
  pub inodes : (inode : ℕ) → status_of space.inodes inode ≡ first_status 0 layout.inodes (map entry_number entries) inode

-- how many nodes each core may make of so many
abbrev pub share_of_nodes : ℕ → Layout → ℕ
share_of_nodes nodes layout = nodes / layout.cores

-- what a tree has that is mounted with so many new nodes
abbrev pub making_with : ℕ → Layout → Making
making_with nodes layout = record (making_when_read layout) { share = share_of_nodes nodes layout }

-- What is mounted of an image, whose settled records are whole: its layout, its tree with this share of new nodes for each core, and what
-- its parts have without orphans.
pub record IsMountOf (nodes : ℕ) (image : List ℕ) (mounted : Mounted) : Type 0 where
  pub layout_is : mounted.layout ≡ layout_of image
  pub whole : AreWholeRecords mounted.layout image
  pub tree : tree_of image (share_of_nodes nodes mounted.layout) ≡ Some mounted.tree
  pub entries : mounted.old.items ≡ entries_mounted mounted.layout (without_unlinked (parts_of mounted.layout image))

-- What is mounted of any disk: a layout that the disk can have, and a sound tree within its limits. There are parts without fault, which
-- were read whole, that show this tree; the disk has of each node what they have without orphans, and that is what is not free.
pub record IsSoundMount (nodes size : ℕ) (mounted : Mounted) : Type 0 where
  pub fits : IsLayout size mounted.layout
  pub sound : IsSoundTree mounted.tree
  pub limits : IsWithinLimits mounted.tree
  pub parts : ℕ → Part
  pub whole : (i : ℕ) → i < mounted.layout.inodes → IsReadWhole (parts i)
  pub faultless : fault_of_parts mounted.layout parts ≡ None
  pub shown : mounted.tree ≡ image_tree (inodes_shown mounted.layout parts) (making_with nodes mounted.layout)
  pub entries : mounted.old.items ≡ entries_mounted mounted.layout (without_unlinked parts)
  pub space : IsFreeSpace mounted.layout mounted.old.items mounted.space
