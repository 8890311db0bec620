use Rattle.std.proofs.Common.{◌≡◌, map, take}
use Rattle.journal_one.specs.Packed.{inode_of_entry, record_entry}
use Rattle.journal_set.proofs.beginning.inodes_of.Given as goal

abbrev pub invariant-loop-record : goal.invariant-loop-record
invariant-loop-record l = l.inodes.items ≡ map inode_of_entry (map record_entry (take l.record-index l.records))
