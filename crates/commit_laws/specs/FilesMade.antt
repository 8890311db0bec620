-- That the part of a file after a commit shows what the image shows that the commit makes: the file's new bytes among it.
use Rattle.std.specs.Prelude.{◌≡◌, ℕ, ◌*◌, ◌<◌, ◌≤◌, true, false, List, [], length, slice_index_or, Some, Contains}
use Rattle.sfs_base.specs.declared.numbers.Kind.TheVariants.{File}
use Rattle.sfs_image.specs.Part.{Part, seen_of}
use Rattle.sfs_image.specs.Seen.{Seen, SeenInodes, PLACES, FILE_BLOCKS}
use Rattle.tree_laws.specs.Tree.{TreeState, bytes_of, kind_of}
use Rattle.image_laws.specs.Renamed.{Numbering}
use Rattle.image_laws.specs.Stands.{BLOCK_BYTES}
use Rattle.block_map.specs.Kept.{kept_of}
use Rattle.space_map.specs.Space.{GrantedNumbers}
use Rattle.disk_change.specs.AllBuilt.{nodes_with_grant, entry_after}
use Rattle.disk_change.specs.Built.{Built}
use Rattle.disk_change.specs.Directory.{is_among}
use Rattle.commit_laws.specs.CommitOfPlan.{CommitPlan, change_planned, has_inode_then, image_planned}
use Rattle.commit_laws.specs.PartsMade.{part_made, IsPlanOverParts}
use Rattle.commit_laws.specs.Rewritten.{has_page, bytes_in_block, HasPages}

-- Two inodes show the same, at all places that an inode has.
pub record ShowTheSame (seen other : Seen) : Type 0 where
  pub kind : seen.kind ≡ other.kind
  pub links : seen.links ≡ other.links
  pub size : seen.size ≡ other.size
  pub slots : seen.slots ≡ other.slots
  pub bytes : seen.bytes ≡ other.bytes
  pub blocks : (place : ℕ) → place < PLACES → seen.blocks place ≡ other.blocks place

-- the blocks of a part have a file's bytes, with zeros behind its end
abbrev pub HasBytesInBlocks : Part → List ℕ → Type 0
HasBytesInBlocks part bytes = (n : ℕ) → n < FILE_BLOCKS → slice_index_or part.blocks n [] ≡ bytes_in_block n bytes

-- A plan says what the blocks of files have: the parts before have the old bytes, each page has the new ones, a block without a page
-- keeps its bytes where the file then has an inode, and no file is longer than one may be.
pub record HasFileBlocks (num : Numbering) (concerned : List ℕ) (old new : TreeState) (plan : CommitPlan) (parts : ℕ → Part) : Type 0 where
  pub before : (node i : ℕ) → is_among concerned node ≡ true → num node ≡ Some i → kind_of old node ≡ File → HasBytesInBlocks (parts i) (bytes_of old node)
  pub pages : HasPages new plan
  pub untouched : (node n : ℕ) → is_among concerned node ≡ true → has_inode_then plan node ≡ true → has_page plan.files node n ≡ false
      → bytes_in_block n (bytes_of new node) ≡ bytes_in_block n (bytes_of old node)
  pub short : (node : ℕ) → length (bytes_of new node) ≤ BLOCK_BYTES * FILE_BLOCKS

-- The part of a file after the commit has the new bytes in its blocks, is what the disk then has of it in memory, and shows what the next
-- image shows.
pub record IsFileMade (new : TreeState) (next : SeenInodes) (after : Part) (one : Built) : Type 0 where
  pub bytes : HasBytesInBlocks after (bytes_of new one.node)
  pub kept : kept_of after ≡ (entry_after one).old.kept
  pub shows : ShowTheSame (seen_of after) (next.seen one.number)

-- So it is of each file that such a plan builds.
abbrev pub PlansMakeFiles : Type 0
PlansMakeFiles =
    (num : Numbering) (concerned : List ℕ) (old new : TreeState) (image : SeenInodes) (plan : CommitPlan) (grant : GrantedNumbers) (store : ℕ → List ℕ)
    (parts : ℕ → Part)
    → IsPlanOverParts num concerned old new image plan grant store parts → HasFileBlocks num concerned old new plan parts
    → (one : Built) → Contains (nodes_with_grant (change_planned plan) grant) one → kind_of new one.node ≡ File
    → IsFileMade new (image_planned num concerned new image plan grant) (part_made store plan grant one) one
