-- What was read of the inodes of an image, and how it is judged.
use Rattle.std.specs.Prelude.{◌≡◌, ℕ, ◌<◌, List, [], length, slice_index_or, Option, Some}
use Rattle.sfs_image.specs.Inode.{inode_of}
use Rattle.sfs_image.specs.Part.{Part, block_pointer}
use Rattle.sfs_image.specs.Rules.{breaks_bytes_rule}
use Rattle.sfs_image.specs.Seen.{FILE_BLOCKS}
use Rattle.sfs_image.specs.Super.{Layout}
use Rattle.image_laws.specs.Image.{inodes_shown}
use Rattle.image_laws.specs.Rules.{TreeFault, tree_fault}
use Rattle.disk_tree.specs.Reading.{IsReadBlock, AreReadTables}
use Rattle.disk_tree.specs.declared.fault.TreeFault.{TreeFault as Refusal}
use Rattle.disk_tree.specs.declared.fault.TreeFault.TheVariants.{DiskFailed, BadImage, NoMemory}

-- A part is what reads gave: its record is this one, and its indirect blocks and blocks are those that its pointers name. A hole reads
-- as zeros, and where the disk tells its content all is as in it.
pub record IsReadPart (told : Option (List ℕ)) (raw : List ℕ) (part : Part) : Type 0 where
  pub raw_is : part.raw ≡ raw
  pub tables : AreReadTables told (inode_of raw) part.tables
  pub count : length part.blocks ≡ FILE_BLOCKS
  pub each : (n : ℕ) → n < FILE_BLOCKS → IsReadBlock told (block_pointer (inode_of raw) part.tables n) (slice_index_or part.blocks n [])

-- the parts of the inodes of these records are what reads gave
abbrev pub AreReadParts : Option (List ℕ) → Layout → List (List ℕ) → (ℕ → Part) → Type 0
AreReadParts told layout records parts = (i : ℕ) → i < layout.inodes → IsReadPart told (slice_index_or records i []) (parts i)

-- the first fault of parts
abbrev pub fault_of_parts : Layout → (ℕ → Part) → Option TreeFault
fault_of_parts layout parts = tree_fault (λ rule i. breaks_bytes_rule rule layout parts i) (inodes_shown layout parts)

-- The first fault of what was read: an inode that breaks a rule.
pub record Refused (told : Option (List ℕ)) (layout : Layout) (records : List (List ℕ)) (inode rule : ℕ) : Type 0 where
  pub parts : ℕ → Part
  pub read : AreReadParts told layout records parts
  pub fault : fault_of_parts layout parts ≡ Some (record { rule = rule; inode = inode })

-- a refusal for an inode that breaks a rule has its reason, and the disk did not fail
abbrev pub IsRefusal : (ℕ → ℕ → Type 0) → Refusal → Type 0
IsRefusal P (BadImage inode rule) = P inode rule
IsRefusal P NoMemory = Unit {0}
IsRefusal P DiskFailed = ⊥

-- a refusal for an inode that breaks a rule has its reason
abbrev pub IsReadRefusal : (ℕ → ℕ → Type 0) → Refusal → Type 0
IsReadRefusal P (BadImage inode rule) = P inode rule
IsReadRefusal P NoMemory = Unit {0}
IsReadRefusal P DiskFailed = Unit {0}

-- a refusal is for no inode: the disk failed, or memory is wanting
abbrev pub IsPlain : Refusal → Type 0
IsPlain = IsReadRefusal (λ _ _. ⊥)
