-- The parts that an fsync gives inodes, while others become durable.
use Rattle.std.specs.Prelude.{◌≡◌, ◌<◌, ℕ, List, map}
use Rattle.sfs_image.specs.ImageOf.{InodePart, StandIn}
use Rattle.sfs_image.specs.Part.{IsGathered, part_of}
use Rattle.fmt_journal.specs.declared.tx.TxRecord.{TxRecord}
use Rattle.space_map.specs.Space.{GrantedNumbers}
use Rattle.disk_change.specs.Records.{records_written}
use Rattle.commit_laws.specs.CommitOfPlan.{CommitPlan, change_planned}
use Rattle.commit_laws.specs.PartsMade.{blocks_planned}
use Rattle.flush_laws.specs.Journal.{parts_brought}
use Rattle.flush_laws.specs.Laws.{IsStoreLeft}
use Rattle.flush_laws.specs.Planned.{IsPlannedFsync}
use Rattle.flush_laws.specs.Volume.{Volume, OneFsync, volume_left}

-- what the records that the commit of a plan writes gather from a store of blocks
abbrev pub parts_gathered : (ℕ → List ℕ) → CommitPlan → GrantedNumbers → List InodePart
parts_gathered store plan grant =
    map (λ (written : TxRecord). record { inode = written.inode; part = part_of store written.bytes }) (records_written (change_planned plan) grant)

-- A store has the fresh blocks of an fsync that is planned for a volume, and all parts of this.
pub record HoldsBefore (volume : Volume) (one : OneFsync) (store : ℕ → List ℕ) : Type 0 where
  pub planned : IsPlannedFsync volume one
  pub fresh : StandIn store (blocks_planned one.plan one.grant)
  pub gathered : (i : ℕ) → i < volume.layout.inodes → IsGathered store (volume.parts i)

-- Then the fsync gives inodes what its records gather from there.
abbrev pub PartsAreGathered : Type 0
PartsAreGathered = (volume : Volume) (one : OneFsync) (store : ℕ → List ℕ) → HoldsBefore volume one store
    → parts_brought volume one ≡ parts_gathered store one.plan one.grant

-- An fsync is planned for a volume, and once more, with one plan and one grant, for the volume that another one leaves.
pub record PlannedTwice (volume : Volume) (mine again theirs : OneFsync) (later : ℕ → List ℕ) : Type 0 where
  pub first : IsPlannedFsync volume mine
  pub left : IsStoreLeft volume theirs later
  pub second : IsPlannedFsync (volume_left volume theirs later) again
  pub plan : again.plan ≡ mine.plan
  pub grant : again.grant ≡ mine.grant

-- It gives inodes the same parts in both.
abbrev pub PartsStay : Type 0
PartsStay = (volume : Volume) (mine again theirs : OneFsync) (later : ℕ → List ℕ) → PlannedTwice volume mine again theirs later
    → parts_brought (volume_left volume theirs later) again ≡ parts_brought volume mine
