-- When the inodes of an image stand for a tree: each numbered node is shown by the inode of its number, and nothing else is.
use Rattle.std.specs.Prelude.{◌≡◌, ◌≢◌, ◌⊎◌, ℕ, ◌*◌, ◌/◌, ◌<◌, ◌≤◌, true, List, length, Some, option_map, if◌then◌else◌}
use Rattle.std.specs.Option.{unwrap_or}
use Rattle.tree_laws.specs.Tree.{TreeState, row_of, kind_of, bytes_of, links_of, is_directory}
use Rattle.tree_laws.specs.Sound.{IsSound, IsWithinLimits}
use Rattle.sfs_image.specs.Slot.{Row, kind_byte}
use Rattle.sfs_image.specs.Seen.{Seen, SeenInodes, PLACES}
use Rattle.image_laws.specs.Slots.{BLOCK_SLOTS, looked_up, name_count}
use Rattle.image_laws.specs.ImageTree.{shows_directory}
use Rattle.image_laws.specs.Renamed.{Numbering, HasNumber, IsMet}

-- the number of a node, and 0 for one that has none
abbrev pub inode_under : Numbering → ℕ → ℕ
inode_under num node = unwrap_or (num node) 0

-- a row as a slot has it: the inode of its child, and the child's kind
abbrev pub row_on : Numbering → TreeState → List ℕ → ℕ → Row
row_on num tree name child = record { inode = inode_under num child; kind = kind_of tree child; name = name }

-- how many bytes a block has
abbrev pub BLOCK_BYTES : ℕ
BLOCK_BYTES = 4096

-- the size that an inode's record has: a directory's is that of the blocks of its slots, a file's the number of its bytes
abbrev pub own_size : Seen → ℕ
own_size seen = if shows_directory seen then BLOCK_BYTES * (length seen.slots / BLOCK_SLOTS) else length seen.bytes

-- An inode shows a node of a tree: its kind, link count and bytes are the node's, its slots are the node's rows, each once, and its
-- size is that of what it has.
pub record ShowsNode (num : Numbering) (tree : TreeState) (node : ℕ) (seen : Seen) : Type 0 where
  pub kind : seen.kind ≡ kind_byte (kind_of tree node)
  pub links : seen.links ≡ links_of tree node
  pub size : seen.size ≡ own_size seen
  pub bytes : seen.bytes ≡ bytes_of tree node
  pub slots : (name : List ℕ) → looked_up name seen.slots ≡ option_map (row_on num tree name) (row_of tree node name)
  pub once : (name : List ℕ) → name_count name seen.slots ≤ 1

-- An inode is free: it is of no kind and holds no block.
pub record IsUnused (seen : Seen) : Type 0 where
  pub kind : seen.kind ≡ 0
  pub blocks : (place : ℕ) → place < PLACES → seen.blocks place ≡ 0

-- no block is held at two places
abbrev pub HoldsApart : SeenInodes → Type 0
HoldsApart image =
    (i place j other : ℕ) → i < image.count → j < image.count → place < PLACES → other < PLACES → (image.seen i).blocks place ≢ 0
    → (image.seen i).blocks place ≡ (image.seen j).blocks other → (i ≡ j) × (place ≡ other)

-- The inodes of an image stand for a tree under a numbering: the root is inode 0, no two nodes have one inode, each child of a row
-- has one, each inode shows its node, all others are free, and no block is held twice.
pub record StandsForTree (num : Numbering) (tree : TreeState) (image : SeenInodes) : Type 0 where
  pub root : num 0 ≡ Some 0
  pub once : (node twin i : ℕ) → num node ≡ Some i → num twin ≡ Some i → node ≡ twin
  pub within : (node i : ℕ) → num node ≡ Some i → i < image.count
  pub named : (directory : ℕ) (name : List ℕ) (child : ℕ) → row_of tree directory name ≡ Some child → HasNumber num child
  pub each : (node i : ℕ) → num node ≡ Some i → ShowsNode num tree node (image.seen i)
  pub rest : (i : ℕ) → i < image.count → ((node : ℕ) × (num node ≡ Some i)) ⊎ IsUnused (image.seen i)
  pub apart : HoldsApart image

-- A tree is such that an image may stand for it under a numbering: a directory with a number is the root or is named, and the tree is
-- within its limits.
pub record IsStorable (num : Numbering) (tree : TreeState) : Type 0 where
  pub placed : (node i : ℕ) → num node ≡ Some i → is_directory tree node ≡ true → IsMet tree node
  pub limits : IsWithinLimits tree

-- The inodes of an image stand for a sound tree for which they may.
pub record StandsForSoundTree (num : Numbering) (tree : TreeState) (image : SeenInodes) : Type 0 where
  pub sound : IsSound tree
  pub storable : IsStorable num tree
  pub stands : StandsForTree num tree image
