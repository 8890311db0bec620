-- A mounted volume: what is so of it from its mount on.
use Rattle.std.specs.Prelude.{◌≡◌, ◌≤◌, ◌<◌, ◌^◌, ◌-◌, ℕ, []}
use Rattle.std.specs.Vec.{vec_capacity}
use Rattle.sfs_dev.specs.Disk.{View}
use Rattle.sfs_dev.specs.Run.{CountsOn, EachMoment}
use Rattle.sfs_dev.specs.Steps.{IfTold}
use Rattle.journal_one.specs.Calls.{IsCalm}
use Rattle.recovery.specs.Judging.{IsFaultOf}
use Rattle.recovery.specs.Recovered.{LeavesRefused, RunsRecovery, ShowsTheSame}
use Rattle.recovery.specs.declared.whole.Report.{Report}
use Rattle.std.specs.Prelude.{Err}
use Rattle.mount_begin.specs.declared.begin.Mounted.{Mounted as Begun}
use Rattle.volume_laws.specs.Mounting.{WasMounted}
use Rattle.journal_set.specs.Making.{BeganOver, IsKeyOf}
use Rattle.mem_calls.specs.Table.{nodes_of}
use Rattle.fsync_dir.specs.Site.{IsSite}
use Rattle.table_totals.specs.Seen.{HasNoLongFile}
use Rattle.mount.specs.declared.volume.Volume.{Volume}
use Rattle.mount.specs.declared.volume.Room.{Room}
use Rattle.mount.specs.declared.mounting.MountFault.{MountFault}

-- There is room for so many cores and pens, and none is in it yet.
pub record HasRoomForWorkers {D : Type 0} (cores : ℕ) (room : Room D) : Type 0 where
  pub no_cores : room.cores.items ≡ []
  pub no_pens : room.pens.items ≡ []
  pub for_cores : cores ≤ vec_capacity room.cores
  pub for_pens : cores ≤ vec_capacity room.pens

-- A volume: its table began with no file longer than a file may be; fsyncs may be served over it, and its nodes have numbers of 32 bits; table and journals
-- have as many cores as it has, of which there are some; and there is room for them.
pub record IsVolume {D : Type 0} (volume : Volume D) : Type 0 where
  pub short : HasNoLongFile volume.table.first
  pub site : IsSite volume.table (nodes_of volume.table) volume.cores volume.set.table.given
  pub some : 0 < volume.cores
  pub table_cores : volume.table.cores ≡ volume.cores
  pub set_cores : volume.set.cores ≡ volume.cores
  pub few : nodes_of volume.table ≤ 2 ^ 32 - 1
  pub room : HasRoomForWorkers volume.cores volume.room

-- A volume was mounted of a disk with so many new nodes: the disk was recovered, and what it begins with was gathered from it; its table is over that tree and was
-- given what the disk has of each node, and its journals are over the recovered disk with that layout and free space.
pub record IsMountOfDisk {D : Type 0} (view : D → View) (nodes : ℕ) (disk : D) (volume : Volume D) : Type 0 where
  pub begun : Begun
  pub left : D
  pub was : WasMounted nodes begun (view disk) (view left)
  pub tree : volume.table.first ≡ begun.tree
  pub given : volume.table.table.given ≡ begun.old
  pub key : IsKeyOf begun.layout (view left) begun.space volume.set.table.given
  pub over : BeganOver left volume.set.table.given

-- A disk was not mounted: a fault of the image is its first one, and nothing was written then; the disk has gone on by device calls, and a failure has its cause;
-- and each image that a crash meanwhile may have left shows what the image did.
pub record IsRefusedMount {D : Type 0} (view : D → View) (disk : D) (fault : MountFault D) : Type 0 where
  pub bad : IfTold (view disk).content (λ image. IsFaultOf image fault.fault)
  pub refused : LeavesRefused (view disk) (view fault.disk) fault.fault
  pub runs : RunsRecovery {V = Report} (view disk) (view fault.disk) (Err fault.fault)
  pub moments : IfTold (view disk).content (λ image. IsCalm (view disk) → CountsOn (view fault.disk)
      → EachMoment (view disk) (view fault.disk) (λ _ now. ShowsTheSame now image))
