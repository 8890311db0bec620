-- Which changes of the tests may be committed.
use Rattle.std.proofs.Common.{◌≡◌, ◌<◌, ◌≤◌, ◌^◌, ◌-◌, Bool, true, List, length, Contains, sym, subst}
use Rattle.sfs_base.specs.declared.numbers.NodeId.{NodeId}
use Rattle.disk_nodes.specs.declared.old.OldEntry.{OldEntry}
use Rattle.disk_change.specs.Planned.{Planned, planned}
use Rattle.disk_change.specs.declared.directory_net.DirectoryNet.{DirectoryNet}
use Rattle.disk_change.specs.declared.enter.Enter.{Enter}
use Rattle.disk_change.specs.declared.files.FileChange.{FileChange}
use Rattle.fsync_commit.specs.Asked.{IsChangeOn}
use Rattle.fsync_commit.proofs.OnPlans.{plans_lie_on_disks}
use Rattle.test_commits.specs.Disk.{SMALL}

-- what was planned over nodes that were found to have inodes of the disk
pub change_on : (old : List OldEntry) (nets : List DirectoryNet) (files : List FileChange) (enter : List Enter) (leave : List NodeId) (change : Planned)
    (low : Bool) → (low ≡ true → (entry : OldEntry) → Contains old entry → entry.old.number < 16) → low ≡ true → length enter ≤ 2 ^ 32 - 1
    → change ≡ planned old nets files enter leave → IsChangeOn SMALL change
change_on old nets files enter leave change low finds found few is =
    subst (IsChangeOn SMALL) (sym is) (plans_lie_on_disks SMALL old nets files enter leave (finds found) few)
