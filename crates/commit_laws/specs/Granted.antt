-- That the fresh blocks and the inodes that a commit writes are those of its grant, or old ones.
use Rattle.std.specs.Prelude.{◌≡◌, ◌≢◌, ℕ, ◌<◌, ◌≤◌, List, length, map, sum_by, count_by, slice_index, Some, Contains}
use Rattle.fmt_journal.specs.declared.tx.TxBlock.{TxBlock}
use Rattle.fmt_journal.specs.declared.tx.TxRecord.{TxRecord}
use Rattle.block_map.specs.Changed.{AscendByBlock}
use Rattle.space_map.specs.Space.{GrantedNumbers}
use Rattle.disk_change.specs.AllBuilt.{fresh_of_commit, after_commit}
use Rattle.disk_change.specs.Planned.{Planned, enters, blocks_taken}
use Rattle.disk_change.specs.Records.{records_written}
use Rattle.disk_change.specs.Seated.{Seated}
use Rattle.disk_nodes.specs.declared.old.OldEntry.{OldEntry}

-- Each fresh block that a commit writes is one of its grant, whatever the change and the grant are.
abbrev pub FreshBlocksAreGranted : Type 0
FreshBlocksAreGranted =
    (change : Planned) (grant : GrantedNumbers) (one : TxBlock) → Contains (fresh_of_commit change grant) one → Contains grant.blocks one.block

-- An inode is one of a grant, or that of a node of a change that has one.
pub data IsOwnInode (change : Planned) (grant : GrantedNumbers) (i : ℕ) : Type 0 where
  granted : Contains grant.inodes i → IsOwnInode change grant i
  kept : (seat : Seated) → Contains change.seats seat → seat.number ≡ Some i → IsOwnInode change grant i
  lost : (entry : OldEntry) → Contains change.gone entry → entry.old.number ≡ i → IsOwnInode change grant i

-- Each inode in the records that a commit writes, and in what the disk then has, is one of these.
pub record InodesAreOwn (change : Planned) (grant : GrantedNumbers) : Type 0 where
  pub records : (one : TxRecord) → Contains (records_written change grant) one → IsOwnInode change grant one.inode
  pub after : (entry : OldEntry) → Contains (after_commit change grant) entry → IsOwnInode change grant entry.old.number

-- So it is where the grant has an inode for each node that enters.
abbrev pub InodesAreGrantedOrOld : Type 0
InodesAreGrantedOrOld = (change : Planned) (grant : GrantedNumbers) → count_by enters change.seats ≤ length grant.inodes → InodesAreOwn change grant

-- the rewritten blocks of each node of a change ascend
abbrev pub EachAscends : List Seated → Type 0
EachAscends seats = (seat : Seated) → Contains seats seat → AscendByBlock seat.changed

-- a grant has exactly the blocks that nodes take, none of them 0
pub record IsGrantFor (seats : List Seated) (blocks : List ℕ) : Type 0 where
  pub enough : length blocks ≡ sum_by blocks_taken seats
  pub some : (k : ℕ) → k < length blocks → slice_index blocks k ≢ 0

-- Then the fresh blocks that a commit writes are exactly those of the grant, in their order; so each is written once.
abbrev pub GrantedBlocksAreWritten : Type 0
GrantedBlocksAreWritten = (change : Planned) (grant : GrantedNumbers) → EachAscends change.seats → IsGrantFor change.seats grant.blocks
    → map (λ (one : TxBlock). one.block) (fresh_of_commit change grant) ≡ grant.blocks
