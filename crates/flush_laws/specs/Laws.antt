-- The laws of the plans of fsyncs, each of which a function of the module laws proves.
use Rattle.std.specs.Prelude.{◌≡◌, ◌⊎◌, ◌↔◌, ℕ, ◌<◌, ◌≤◌, false, List, length, Contains}
use Rattle.sfs_image.specs.ImageOf.{StandIn}
use Rattle.sfs_image.specs.Part.{IsGathered}
use Rattle.sfs_image.specs.Super.{data_start}
use Rattle.image_laws.specs.Image.{inodes_shown}
use Rattle.disk_change.specs.AllBuilt.{after_commit}
use Rattle.disk_change.specs.Directory.{is_among}
use Rattle.keyed_list.specs.Ascending.{AscendBy}
use Rattle.disk_nodes.specs.Nodes.{entry_node}
use Rattle.disk_nodes.specs.declared.old.OldEntry.{OldEntry}
use Rattle.commit_laws.specs.BytesKept.{IsCleanPlan}
use Rattle.commit_laws.specs.CommitOfPlan.{change_planned, numbers_planned}
use Rattle.commit_laws.specs.PartsMade.{blocks_planned, IsPlanOverParts}
use Rattle.flush_laws.specs.Planned.{IsPlannedFsync}
use Rattle.flush_laws.specs.Ready.{IsBetweenCommits, KeepsEntries}
use Rattle.flush_laws.specs.Volume.{Volume, OneFsync, tree_held, tree_raised, parts_left, volume_left}

-- The plan of an fsync with a grant is all that the laws of commits ask: it is over the parts of the disk, from the tree at the cut to the tree at
-- the raised cut, and clean.
pub record IsCommitAtCut (volume : Volume) (one : OneFsync) : Type 0 where
  pub over : IsPlanOverParts volume.num one.nodes (tree_held volume) (tree_raised volume one) (inodes_shown volume.layout volume.parts) one.plan one.grant
      volume.store volume.parts
  pub clean : IsCleanPlan volume.num one.nodes (tree_held volume) (tree_raised volume one) (inodes_shown volume.layout volume.parts) one.plan one.grant
      volume.layout volume.parts

abbrev pub FsyncsAreCommits : Type 0
FsyncsAreCommits = (volume : Volume) (one : OneFsync) → IsPlannedFsync volume one → IsCommitAtCut volume one

-- The blocks of a volume once an fsync is on its disk: they have the fresh blocks and all parts before, and those of the data area are whole.
pub record IsStoreLeft (volume : Volume) (one : OneFsync) (later : ℕ → List ℕ) : Type 0 where
  pub fresh : StandIn later (blocks_planned one.plan one.grant)
  pub gathered : (i : ℕ) → i < volume.layout.inodes → IsGathered later (volume.parts i)
  pub whole : (block : ℕ) → data_start volume.layout ≤ block → block < volume.layout.blocks → length (later block) ≡ 4096

-- Once the commit is made all is ready for the next fsync, with each such blocks.
abbrev pub FsyncsLeaveReady : Type 0
FsyncsLeaveReady = (volume : Volume) (one : OneFsync) (later : ℕ → List ℕ) → IsPlannedFsync volume one → IsStoreLeft volume one later
    → IsBetweenCommits (volume_left volume one later)

-- What memory has after a commit: what the disk then has of the nodes of the commit, and of all others what it had.
pub record AreEntriesAfter (one : OneFsync) (later : List OldEntry) : Type 0 where
  pub ascend : AscendBy entry_node later
  pub each : (entry : OldEntry) → Contains later entry
      ↔ (Contains (after_commit (change_planned one.plan) one.grant) entry ⊎ (Contains one.entries entry × (is_among one.nodes entry.node.0 ≡ false)))

-- So memory keeps an entry of each node that then has a number.
abbrev pub FsyncsKeepEntries : Type 0
FsyncsKeepEntries = (volume : Volume) (one : OneFsync) (later : List OldEntry) → IsPlannedFsync volume one → AreEntriesAfter one later
    → KeepsEntries (numbers_planned volume.num one.plan one.grant.inodes) (parts_left volume one) later
