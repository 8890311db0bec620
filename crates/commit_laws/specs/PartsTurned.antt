-- That a commit's records are those of the parts after it, into which its fresh blocks turn the parts before it.
use Rattle.std.specs.Prelude.{◌≡◌, ℕ, ◌<◌, ◌≤◌, List, Contains}
use Rattle.sfs_image.specs.ImageOf.{TurnsInto, PointsToData}
use Rattle.sfs_image.specs.Super.{Layout, data_start}
use Rattle.sfs_image.specs.Part.{Part}
use Rattle.sfs_image.specs.Seen.{SeenInodes}
use Rattle.tree_laws.specs.Tree.{TreeState}
use Rattle.fmt_journal.specs.declared.tx.TxRecord.{TxRecord}
use Rattle.image_laws.specs.Renamed.{Numbering}
use Rattle.space_map.specs.Space.{GrantedNumbers}
use Rattle.disk_change.specs.Records.{records_written}
use Rattle.commit_laws.specs.CommitOfPlan.{CommitPlan, change_planned}
use Rattle.commit_laws.specs.PartsMade.{blocks_planned, IsPlanOverParts}
use Rattle.commit_laws.specs.PartsStand.{part_next}

-- Fresh blocks turn each inode's part before the commit of a plan into its part after it.
abbrev pub PlansTurnParts : Type 0
PlansTurnParts =
    (num : Numbering) (concerned : List ℕ) (old new : TreeState) (image : SeenInodes) (plan : CommitPlan) (grant : GrantedNumbers) (store : ℕ → List ℕ)
    (parts : ℕ → Part)
    → IsPlanOverParts num concerned old new image plan grant store parts → (i : ℕ) → i < image.count
    → TurnsInto (blocks_planned plan grant) (parts i) (part_next store parts plan grant i)

-- The records that the commit writes are those of the parts after it.
abbrev pub PlansWriteParts : Type 0
PlansWriteParts =
    (num : Numbering) (concerned : List ℕ) (old new : TreeState) (image : SeenInodes) (plan : CommitPlan) (grant : GrantedNumbers) (store : ℕ → List ℕ)
    (parts : ℕ → Part)
    → IsPlanOverParts num concerned old new image plan grant store parts → (one : TxRecord) → Contains (records_written (change_planned plan) grant) one
    → (part_next store parts plan grant one.inode).raw ≡ one.bytes

-- The blocks of a grant lie in the data area, and so do those to which parts point.
pub record LieInData (layout : Layout) (image : SeenInodes) (parts : ℕ → Part) (grant : GrantedNumbers) : Type 0 where
  pub granted : (block : ℕ) → Contains grant.blocks block → (data_start layout ≤ block) × (block < layout.blocks)
  pub parts_do : (i : ℕ) → i < image.count → PointsToData layout (parts i)

-- Then the parts after the commit point there too.
abbrev pub PlansPointToData : Type 0
PlansPointToData =
    (num : Numbering) (concerned : List ℕ) (old new : TreeState) (image : SeenInodes) (plan : CommitPlan) (grant : GrantedNumbers) (store : ℕ → List ℕ)
    (parts : ℕ → Part) (layout : Layout)
    → IsPlanOverParts num concerned old new image plan grant store parts → LieInData layout image parts grant → (i : ℕ) → i < image.count
    → PointsToData layout (part_next store parts plan grant i)
