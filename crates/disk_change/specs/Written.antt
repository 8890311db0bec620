-- What a commit writes and gives up.
use Rattle.std.specs.Prelude.{◌≡◌}
use Rattle.fmt_journal.specs.declared.tx.Tx.{Tx}
use Rattle.space_map.specs.Space.{GrantedNumbers}
use Rattle.disk_change.specs.AllBuilt.{fresh_of_commit}
use Rattle.disk_change.specs.GivenUp.{AreBlocksLeft, AreInodesLeft}
use Rattle.disk_change.specs.Planned.{Planned}
use Rattle.disk_change.specs.Records.{records_written}

-- A transaction is that of a change with a grant: it writes the records that differ, and the fresh blocks of all nodes; and it gives up
-- what they give up.
pub record IsTransactionOf (change : Planned) (grant : GrantedNumbers) (tx : Tx) : Type 0 where
  pub records : tx.records.items ≡ records_written change grant
  pub fresh : tx.fresh.items ≡ fresh_of_commit change grant
  pub freed_blocks : AreBlocksLeft change tx.freed_blocks.items
  pub freed_inodes : AreInodesLeft change tx.freed_inodes.items
