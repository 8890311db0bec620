-- The records that a commit writes: those that differ from what stands in the disk's.
use Rattle.std.specs.Prelude.{ℕ, ◌==◌, ◌&&◌, Bool, List, ◌++◌, filter_map, bytes_eq, Option, Some, None, if◌then◌else◌}
use Rattle.sfs_image.specs.Inode.{Inode, inode_bytes}
use Rattle.fmt_journal.specs.declared.tx.TxRecord.{TxRecord}
use Rattle.space_map.specs.Space.{GrantedNumbers}
use Rattle.disk_change.specs.AllBuilt.{nodes_with_grant}
use Rattle.disk_change.specs.Built.{Built}
use Rattle.disk_change.specs.Lists.{ascending_by}
use Rattle.disk_change.specs.Planned.{Planned}
use Rattle.disk_change.specs.Seated.{free_inode}
use Rattle.disk_nodes.specs.declared.old.OldEntry.{OldEntry}

-- The record of a number: the inode that it had, and the one that it gets.
pub record RecordChange : Type 0 where
  pub number : ℕ
  pub before : Inode
  pub after : Inode

-- whether two inodes are one
abbrev pub same_inode : Inode → Inode → Bool
same_inode inode other =
    inode.kind == other.kind
    && (inode.links == other.links && (inode.size == other.size && (bytes_eq inode.direct other.direct && bytes_eq inode.indirect other.indirect)))

-- the record of a node that has an inode afterwards, and of one that loses its own: it is free
abbrev pub record_of_built : Built → RecordChange
record_of_built built = record { number = built.number; before = built.before; after = built.meta }

abbrev pub record_of_gone : OldEntry → RecordChange
record_of_gone entry = record { number = entry.old.number; before = entry.old.kept.inode; after = free_inode }

-- a record that is written: one that differs
abbrev pub record_written : RecordChange → Option TxRecord
record_written change = if same_inode change.before change.after then None else Some (record { inode = change.number; bytes = inode_bytes change.after })

-- the inode of a record
abbrev pub record_inode : TxRecord → ℕ
record_inode one = one.inode

-- the record that is written of either
abbrev pub written_of_built : Built → Option TxRecord
written_of_built built = record_written (record_of_built built)

abbrev pub written_of_gone : OldEntry → Option TxRecord
written_of_gone entry = record_written (record_of_gone entry)

-- a record of an inode and its bytes
abbrev pub record_keyed : ℕ × List ℕ → TxRecord
record_keyed entry = record { inode = entry.0; bytes = entry.1 }

-- the records that a commit writes, ascending by inode
abbrev pub records_written : Planned → GrantedNumbers → List TxRecord
records_written change grant =
    ascending_by record_inode (filter_map written_of_built (nodes_with_grant change grant) ++ filter_map written_of_gone change.gone)
