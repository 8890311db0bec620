-- The order of a transaction's records.
use Rattle.std.specs.Prelude.{List, map}
use Rattle.std.specs.List.Sorted.{IsStrictlyIncreasing}
use Rattle.fmt_journal.specs.declared.tx.TxRecord.{TxRecord}

-- each inode is below the next
abbrev pub AscendByInode : List TxRecord → Type 0
AscendByInode records = IsStrictlyIncreasing (map (λ r. r.inode) records)
