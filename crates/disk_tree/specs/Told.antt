-- What is read of a disk that tells its content is what its image shows.
use Rattle.std.specs.Prelude.{◌≡◌, ℕ, ◌<◌, List, [], slice_index_or, None, Some}
use Rattle.sfs_image.specs.Settled.{super_fault_of, journal_fault_of, layout_of, parts_of, settled}
use Rattle.sfs_image.specs.Super.{Layout}
use Rattle.image_laws.specs.Image.{Tree as TreeFaultOf, fault_of, tree_of}
use Rattle.disk_tree.specs.Found.{IsFoundIn}
use Rattle.disk_tree.specs.Judged.{Refused}
use Rattle.disk_tree.specs.KeptParts.{kept_in_use}
use Rattle.disk_tree.specs.declared.found.Found.{Found}

-- An image, in whose superblock and journals nothing is wrong, settles these records, under this layout.
pub record SettlesRecords (image : List ℕ) (layout : Layout) (records : List (List ℕ)) : Type 0 where
  pub super : super_fault_of image ≡ None
  pub layout_is : layout ≡ layout_of image
  pub journals : journal_fault_of layout image ≡ None
  pub each : (i : ℕ) → i < layout.inodes → slice_index_or records i [] ≡ settled layout image i

-- What was found is an image's: its tree, and what is kept of its settled parts.
pub record IsFoundOf (image : List ℕ) (layout : Layout) (found : Found) : Type 0 where
  pub tree : tree_of image 0 ≡ Some found.tree
  pub kept : found.parts.items ≡ kept_in_use layout.inodes (parts_of layout image)

-- What is found on a disk that tells an image, by the records that it settles, is that image's.
abbrev pub FoundIsTheImages : Type 0
FoundIsTheImages = (image : List ℕ) (layout : Layout) (records : List (List ℕ)) (found : Found) → SettlesRecords image layout records
    → IsFoundIn (Some image) layout records found → IsFoundOf image layout found

-- The first fault of what is read of a disk that tells an image, by the records that it settles, is that image's.
abbrev pub FaultsAreTheImages : Type 0
FaultsAreTheImages = (image : List ℕ) (layout : Layout) (records : List (List ℕ)) (inode rule : ℕ) → SettlesRecords image layout records
    → Refused (Some image) layout records inode rule → fault_of image ≡ Some (TreeFaultOf (record { rule = rule; inode = inode }))
