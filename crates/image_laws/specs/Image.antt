-- The first fault of an image, and its tree where it has none.
use Rattle.std.specs.Prelude.{◌≡◌, ◌≢◌, ℕ, ◌<◌, ◌≤◌, Bool, false, List, replicate, is_none, Option, Some, None, option_map, if◌then◌else◌}
use Rattle.tree_laws.specs.Tree.{TreeState}
use Rattle.tree_laws.specs.Sound.{IsWithinLimits}
use Rattle.tree_laws.specs.Laws.{IsSoundTree}
use Rattle.tree_laws.specs.Shape.{shape_of}
use Rattle.sfs_image.specs.Super.{Layout}
use Rattle.sfs_image.specs.ImageOf.{Transaction, with_opened, IsImageOf}
use Rattle.sfs_image.specs.Part.{Part, seen_of}
use Rattle.sfs_image.specs.Rules.{breaks_bytes_rule}
use Rattle.sfs_image.specs.Settled.{SlotFault, layout_of, parts_of, super_fault_of, journal_fault_of}
use Rattle.sfs_image.specs.Seen.{SeenInodes}
use Rattle.image_laws.specs.ImageTree.{Making, image_tree}
use Rattle.image_laws.specs.Rules.{BYTE_RULES, TreeFault, tree_fault}
use Rattle.image_laws.specs.Renamed.{Numbering}
use Rattle.image_laws.specs.Stands.{StandsForSoundTree}
use Rattle.image_laws.specs.Mount.{StandsByItself}

-- the inodes that parts show
abbrev pub inodes_shown : Layout → (ℕ → Part) → SeenInodes
inodes_shown layout parts = record { count = layout.inodes; seen = λ i. seen_of (parts i) }

-- the inodes of an image, by their settled parts
abbrev pub image_inodes : List ℕ → SeenInodes
image_inodes image = inodes_shown (layout_of image) (parts_of (layout_of image) image)

-- whether an inode of an image breaks a rule on bytes
abbrev pub breaks_bytes_of : List ℕ → ℕ → ℕ → Bool
breaks_bytes_of image rule i = breaks_bytes_rule rule (layout_of image) (parts_of (layout_of image) image) i

-- what is wrong in an image: a byte of the superblock, a byte of a journal's slot, or an inode that breaks a rule
pub data ImageFault : Type 0 where
  Super : ℕ → ImageFault
  Journal : SlotFault → ImageFault
  Tree : TreeFault → ImageFault

-- of three faults the first: that of the superblock, then that of the journals, then that of the inodes
abbrev pub first_of_faults : Option ℕ → Option SlotFault → Option TreeFault → Option ImageFault
first_of_faults (Some at) journal tree = Some (Super at)
first_of_faults None (Some slot) tree = Some (Journal slot)
first_of_faults None None tree = option_map Tree tree

-- the first fault of an image
abbrev pub fault_of : List ℕ → Option ImageFault
fault_of image = first_of_faults (super_fault_of image) (journal_fault_of (layout_of image) image) (tree_fault (breaks_bytes_of image) (image_inodes image))

-- what a tree has from the mount on: new nodes are numbered behind the inodes, and no core has made one
abbrev pub making_at_mount : List ℕ → ℕ → Making
making_at_mount image share = record { first = (layout_of image).inodes; share = share; made = replicate (layout_of image).cores 0 }

-- the tree of an image, where nothing is wrong in it
abbrev pub tree_of : List ℕ → ℕ → Option TreeState
tree_of image share = if is_none (fault_of image) then Some (image_tree (image_inodes image) (making_at_mount image share)) else None

-- What stands once an image was mounted: its tree is sound and within its limits, and it stands for it.
pub record IsMounted (image : List ℕ) (share : ℕ) (tree : TreeState) : Type 0 where
  pub sound : IsSoundTree tree
  pub limits : IsWithinLimits tree
  pub itself : StandsByItself (image_inodes image) (making_at_mount image share)

-- Parts break none of the rules that speak of the bytes of one inode: all rules on bytes but that on the root, and that on blocks that
-- are held twice.
abbrev pub HaveGoodBytes : Layout → (ℕ → Part) → Type 0
HaveGoodBytes layout parts =
    (rule i : ℕ) → 1 ≤ rule → rule ≤ BYTE_RULES → rule ≢ 2 → rule ≢ 5 → i < layout.inodes → breaks_bytes_rule rule layout parts i ≡ false

-- No byte of the superblock or of a journal is wrong, and the settled parts have good bytes.
pub record HasGoodBytes (image : List ℕ) : Type 0 where
  pub super : super_fault_of image ≡ None
  pub journals : journal_fault_of (layout_of image) image ≡ None
  pub parts : HaveGoodBytes (layout_of image) (parts_of (layout_of image) image)

-- An image stands for parts, with these journal slots open; and these parts, with what the open slots give, have good bytes and show
-- inodes that stand for a sound tree.
pub record PartsStandForTree (layout : Layout) (opened : ℕ → Option Transaction) (parts : ℕ → Part) (image : List ℕ) (num : Numbering)
    (tree : TreeState) : Type 0 where
  pub image_of : IsImageOf layout opened parts image
  pub bytes : HaveGoodBytes layout (with_opened layout opened parts)
  pub stands : StandsForSoundTree num tree (inodes_shown layout (with_opened layout opened parts))

-- What is read of an image: nothing wrong, and a tree of a given tree's shape.
pub record IsReadAsTree (image : List ℕ) (share : ℕ) (tree : TreeState) : Type 0 where
  pub faultless : fault_of image ≡ None
  pub shown : TreeState
  pub read : tree_of image share ≡ Some shown
  pub shape : shape_of shown ≡ shape_of tree
