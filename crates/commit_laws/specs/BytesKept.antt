-- That the parts after a commit break no rule on the bytes of one inode, and that memory then has what is kept of them.
use Rattle.std.specs.Prelude.{◌≡◌, ℕ, ◌*◌, ◌<◌, ◌≤◌, true, List, length, Contains}
use Rattle.sfs_image.specs.Part.{Part}
use Rattle.sfs_image.specs.Seen.{SeenInodes}
use Rattle.sfs_image.specs.Super.{Layout}
use Rattle.tree_laws.specs.Tree.{TreeState, bytes_of}
use Rattle.image_laws.specs.Image.{HaveGoodBytes}
use Rattle.image_laws.specs.Renamed.{Numbering}
use Rattle.image_laws.specs.Sizes.{DirectoriesFit}
use Rattle.image_laws.specs.Stands.{BLOCK_BYTES}
use Rattle.block_map.specs.Kept.{kept_of}
use Rattle.space_map.specs.Space.{GrantedNumbers}
use Rattle.disk_change.specs.AllBuilt.{after_commit}
use Rattle.disk_change.specs.Directory.{is_among}
use Rattle.disk_nodes.specs.declared.old.OldEntry.{OldEntry}
use Rattle.commit_laws.specs.CommitOfPlan.{CommitPlan, change_planned, has_inode_then}
use Rattle.commit_laws.specs.PartsMade.{StandInStore, IsPlanOverParts}
use Rattle.commit_laws.specs.PartsStand.{HasContents, part_next}
use Rattle.commit_laws.specs.PartsTurned.{LieInData}
use Rattle.commit_laws.specs.Rewritten.{HasNoneBehind, has_page}

-- A plan cuts files off at their ends: where a block had bytes of a file that then has an inode, and lies behind its new end, a change touches it.
abbrev pub CutsOffEnds : List ℕ → TreeState → TreeState → CommitPlan → Type 0
CutsOffEnds concerned old new plan = (node n : ℕ) → is_among concerned node ≡ true → has_inode_then plan node ≡ true
    → BLOCK_BYTES * n < length (bytes_of old node) → length (bytes_of new node) ≤ BLOCK_BYTES * n → has_page plan.files node n ≡ true

-- The parts that an image of a layout shows break no rule on the bytes of one inode.
pub record AreGoodParts (layout : Layout) (image : SeenInodes) (parts : ℕ → Part) : Type 0 where
  pub count : image.count ≡ layout.inodes
  pub good : HaveGoodBytes layout parts

-- Then no directory has a block behind its slots.
abbrev pub GoodPartsHaveNoneBehind : Type 0
GoodPartsHaveNoneBehind = (store : ℕ → List ℕ) (layout : Layout) (image : SeenInodes) (parts : ℕ → Part) → StandInStore store parts image
    → AreGoodParts layout image parts → HasNoneBehind image

-- And none has more blocks than a directory may have.
abbrev pub GoodPartsFit : Type 0
GoodPartsFit = (store : ℕ → List ℕ) (layout : Layout) (image : SeenInodes) (parts : ℕ → Part) → StandInStore store parts image
    → AreGoodParts layout image parts → DirectoriesFit image

-- A plan over good parts says what all blocks have, cuts files off at their ends, and has a grant in the data area.
pub record IsCleanPlan (num : Numbering) (concerned : List ℕ) (old new : TreeState) (image : SeenInodes) (plan : CommitPlan) (grant : GrantedNumbers)
    (layout : Layout) (parts : ℕ → Part) : Type 0 where
  pub contents : HasContents num concerned old new image plan grant parts
  pub ends : CutsOffEnds concerned old new plan
  pub good : AreGoodParts layout image parts
  pub within : LieInData layout image parts grant

-- The parts after the commit of such a plan break none of these rules.
abbrev pub PlansLeaveGoodBytes : Type 0
PlansLeaveGoodBytes =
    (num : Numbering) (concerned : List ℕ) (old new : TreeState) (image : SeenInodes) (plan : CommitPlan) (grant : GrantedNumbers) (store : ℕ → List ℕ)
    (parts : ℕ → Part) (layout : Layout)
    → IsPlanOverParts num concerned old new image plan grant store parts → IsCleanPlan num concerned old new image plan grant layout parts
    → HaveGoodBytes layout (part_next store parts plan grant)

-- What the disk has of a node after the commit is what is kept of its part, of files and of directories.
abbrev pub PlansKeepParts : Type 0
PlansKeepParts =
    (num : Numbering) (concerned : List ℕ) (old new : TreeState) (image : SeenInodes) (plan : CommitPlan) (grant : GrantedNumbers) (store : ℕ → List ℕ)
    (parts : ℕ → Part)
    → IsPlanOverParts num concerned old new image plan grant store parts → HasContents num concerned old new image plan grant parts
    → (entry : OldEntry) → Contains (after_commit (change_planned plan) grant) entry
    → entry.old.kept ≡ kept_of (part_next store parts plan grant entry.old.number)
