-- That the part of a directory after a commit has the new slots in its blocks, and that what the disk then has of each node is kept of its part.
use Rattle.std.specs.Prelude.{◌≡◌, ℕ, List, Option, Contains}
use Rattle.sfs_base.specs.declared.numbers.Kind.TheVariants.{Directory}
use Rattle.sfs_image.specs.Part.{Part, seen_of}
use Rattle.sfs_image.specs.Seen.{SeenInodes}
use Rattle.sfs_image.specs.Slot.{Row}
use Rattle.sfs_image.specs.SlotBlock.{AreSlots}
use Rattle.tree_laws.specs.Tree.{TreeState, kind_of}
use Rattle.image_laws.specs.Renamed.{Numbering}
use Rattle.block_map.specs.Kept.{kept_of}
use Rattle.space_map.specs.Space.{GrantedNumbers}
use Rattle.disk_change.specs.AllBuilt.{nodes_with_grant, entry_after}
use Rattle.disk_change.specs.Built.{Built}
use Rattle.commit_laws.specs.CommitOfPlan.{CommitPlan, change_planned, image_planned}
use Rattle.commit_laws.specs.FilesMade.{ShowTheSame}
use Rattle.commit_laws.specs.PartsMade.{part_made, IsPlanOverParts}
use Rattle.commit_laws.specs.Rewritten.{HasPages, HasNoneBehind}

-- A plan says what the blocks of directories have: none stands behind the slots before, and the slots that it builds can stand in blocks.
pub record HasSlotContents (new : TreeState) (image : SeenInodes) (plan : CommitPlan) (grant : GrantedNumbers) : Type 0 where
  pub behind : HasNoneBehind image
  pub pages : HasPages new plan
  pub slots : (one : Built) → Contains (nodes_with_grant (change_planned plan) grant) one → (block : List (Option Row)) → Contains one.slots block
      → AreSlots block

-- The part of a node after the commit is what the disk then has of it in memory, and shows what the next image shows.
pub record IsKeptMade (next : SeenInodes) (after : Part) (one : Built) : Type 0 where
  pub kept : kept_of after ≡ (entry_after one).old.kept
  pub shows : ShowTheSame (seen_of after) (next.seen one.number)

-- So it is of each directory that such a plan builds.
abbrev pub PlansMakeDirectories : Type 0
PlansMakeDirectories =
    (num : Numbering) (concerned : List ℕ) (old new : TreeState) (image : SeenInodes) (plan : CommitPlan) (grant : GrantedNumbers) (store : ℕ → List ℕ)
    (parts : ℕ → Part)
    → IsPlanOverParts num concerned old new image plan grant store parts → HasSlotContents new image plan grant
    → (one : Built) → Contains (nodes_with_grant (change_planned plan) grant) one → kind_of new one.node ≡ Directory
    → IsKeptMade (image_planned num concerned new image plan grant) (part_made store plan grant one) one
