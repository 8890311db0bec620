-- That the parts after a commit stand for the new tree.
use Rattle.std.specs.Prelude.{◌≡◌, ℕ, ◌<◌, ◌==◌, List, map, if◌then◌else◌}
use Rattle.std.specs.List.{find}
use Rattle.std.specs.Option.{option_map_or}
use Rattle.sfs_image.specs.Inode.{inode_bytes}
use Rattle.sfs_image.specs.Part.{Part, part_of, seen_of}
use Rattle.sfs_image.specs.Seen.{SeenInodes}
use Rattle.tree_laws.specs.Tree.{TreeState}
use Rattle.image_laws.specs.Renamed.{Numbering}
use Rattle.image_laws.specs.Stands.{StandsForTree}
use Rattle.space_map.specs.Space.{GrantedNumbers}
use Rattle.disk_change.specs.AllBuilt.{nodes_with_grant}
use Rattle.disk_change.specs.Directory.{is_among}
use Rattle.disk_change.specs.GivenUp.{entry_number}
use Rattle.disk_change.specs.Seated.{free_inode}
use Rattle.commit_laws.specs.CommitOfPlan.{CommitPlan, change_planned, numbers_planned}
use Rattle.commit_laws.specs.DirectoriesMade.{HasSlotContents}
use Rattle.commit_laws.specs.FilesMade.{ShowTheSame, HasFileBlocks}
use Rattle.commit_laws.specs.PartsMade.{part_made, IsPlanOverParts}

-- An image shows at each inode what another one shows.
pub record ShowsAlike (image other : SeenInodes) : Type 0 where
  pub count : image.count ≡ other.count
  pub each : (i : ℕ) → i < other.count → ShowTheSame (image.seen i) (other.seen i)

-- An image that shows what another one shows stands for the same tree.
abbrev pub AlikeImagesStand : Type 0
AlikeImagesStand =
    (num : Numbering) (tree : TreeState) (image other : SeenInodes) → ShowsAlike image other → StandsForTree num tree other → StandsForTree num tree image

-- the part of inode i after the commit of a plan: that of the node that is built with it; a free one where the node that had it leaves; and any
-- other as it was
abbrev pub part_next : (ℕ → List ℕ) → (ℕ → Part) → CommitPlan → GrantedNumbers → ℕ → Part
part_next store parts plan grant i =
    option_map_or (part_made store plan grant) (find (λ one. one.number == i) (nodes_with_grant (change_planned plan) grant))
    (if is_among (map entry_number (change_planned plan).gone) i then part_of store (inode_bytes free_inode) else parts i)

-- the inodes that the parts after a commit show
abbrev pub inodes_next : (ℕ → List ℕ) → (ℕ → Part) → SeenInodes → CommitPlan → GrantedNumbers → SeenInodes
inodes_next store parts image plan grant = record { count = image.count; seen = λ i. seen_of (part_next store parts plan grant i) }

-- A plan over parts says what all blocks have: of files and of directories.
pub record HasContents (num : Numbering) (concerned : List ℕ) (old new : TreeState) (image : SeenInodes) (plan : CommitPlan) (grant : GrantedNumbers)
    (parts : ℕ → Part) : Type 0 where
  pub files : HasFileBlocks num concerned old new plan parts
  pub directories : HasSlotContents new image plan grant

-- The parts after the commit of such a plan stand for the new tree.
abbrev pub PlansLeaveParts : Type 0
PlansLeaveParts =
    (num : Numbering) (concerned : List ℕ) (old new : TreeState) (image : SeenInodes) (plan : CommitPlan) (grant : GrantedNumbers) (store : ℕ → List ℕ)
    (parts : ℕ → Part)
    → IsPlanOverParts num concerned old new image plan grant store parts → HasContents num concerned old new image plan grant parts
    → StandsForTree (numbers_planned num plan grant.inodes) new (inodes_next store parts image plan grant)
