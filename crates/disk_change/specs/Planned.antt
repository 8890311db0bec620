-- What a commit changes, worked out as far as it can be without numbers and fresh blocks.
use Rattle.std.specs.Prelude.{ℕ, ◌-◌, ◌^◌, ◌==◌, not, min, Bool, List, ◌++◌, map, filter, is_none}
use Rattle.tree_laws.specs.NameRow.{node_number}
use Rattle.sfs_base.specs.declared.numbers.NodeId.{NodeId}
use Rattle.sfs_image.specs.Seen.{PLACES}
use Rattle.image_laws.specs.Need.{takes_place, rank}
use Rattle.block_map.specs.Remap.{rewrite_of}
use Rattle.disk_change.specs.declared.directory_net.DirectoryNet.{DirectoryNet}
use Rattle.disk_change.specs.declared.enter.Enter.{Enter}
use Rattle.disk_change.specs.declared.files.FileChange.{FileChange}
use Rattle.disk_nodes.specs.declared.old.OldEntry.{OldEntry}
use Rattle.disk_change.specs.Links.{directories_concerned, times_in}
use Rattle.disk_change.specs.Seated.{CommitChanges, Seated, begun_old, begun_entering, changes_in, seated}

-- What the disk has of the nodes that have an inode, what becomes of those that have one afterwards, those that lose theirs, and the changes that
-- make it so.
pub record Planned : Type 0 where
  pub old : List OldEntry
  pub seats : List Seated
  pub gone : List OldEntry
  pub changes : CommitChanges

-- whether a node's number is listed
abbrev pub has_listed_node : List ℕ → OldEntry → Bool
has_listed_node numbers entry = not (times_in numbers entry.node.0 == 0)

-- whether a node leaves
abbrev pub leaves : List NodeId → OldEntry → Bool
leaves leave entry = has_listed_node (map node_number leave) entry

-- the nodes that keep their inodes, and those that lose them
abbrev pub staying : List OldEntry → List NodeId → List OldEntry
staying old leave = filter (λ entry. not (leaves leave entry)) old

abbrev pub leaving : List OldEntry → List NodeId → List OldEntry
leaving old leave = filter (leaves leave) old

-- what becomes of a node that keeps its inode, and of one that enters
abbrev pub seated_old : CommitChanges → OldEntry → Seated
seated_old changes entry = seated changes (begun_old entry)

abbrev pub seated_entering : CommitChanges → Enter → Seated
seated_entering changes one = seated changes (begun_entering one)

-- what a commit changes, where these nodes have an inode, and these enter and leave
abbrev pub planned : List OldEntry → List DirectoryNet → List FileChange → List Enter → List NodeId → Planned
planned old nets files enter leave =
    let changes = changes_in (directories_concerned old enter) nets files in
    record {
      old = old;
      seats = map (seated_old changes) (staying old leave) ++ map (seated_entering changes) enter;
      gone = leaving old leave;
      changes = changes;
    }

-- how many fresh blocks a node takes
abbrev pub blocks_taken : Seated → ℕ
blocks_taken seat = rank (takes_place (rewrite_of seat.meta seat.tables seat.changed)) PLACES

-- whether a node gets an inode
abbrev pub enters : Seated → Bool
enters seat = is_none seat.number

-- a number, as far as 32 bits have room for it
abbrev pub as_u32 : ℕ → ℕ
as_u32 n = min n (2 ^ 32 - 1)
