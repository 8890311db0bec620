-- Which changes the journals may be asked to commit; each law is proved by a function of the module laws.
use Rattle.std.specs.Prelude.{◌<◌, ◌≤◌, ◌^◌, ◌-◌, List, Contains, length}
use Rattle.sfs_base.specs.declared.numbers.NodeId.{NodeId}
use Rattle.sfs_image.specs.Super.{Layout}
use Rattle.disk_nodes.specs.declared.old.OldEntry.{OldEntry}
use Rattle.disk_change.specs.Planned.{planned}
use Rattle.disk_change.specs.declared.directory_net.DirectoryNet.{DirectoryNet}
use Rattle.disk_change.specs.declared.enter.Enter.{Enter}
use Rattle.disk_change.specs.declared.files.FileChange.{FileChange}
use Rattle.fsync_commit.specs.Asked.{IsChangeOn}

-- A planned change is of a disk where what the disk has of its nodes is, and no more nodes enter than a word counts.
abbrev pub PlansLieOnDisks : Type 0
PlansLieOnDisks = (layout : Layout) (old : List OldEntry) (nets : List DirectoryNet) (files : List FileChange) (enter : List Enter) (leave : List NodeId)
    → ((entry : OldEntry) → Contains old entry → entry.old.number < layout.inodes) → length enter ≤ 2 ^ 32 - 1
    → IsChangeOn layout (planned old nets files enter leave)
