use Rattle.std.proofs.Common.{◌≡◌, map, take, length}
use Rattle.recovery.specs.Freed.{free_record}
use Rattle.recovery.proofs.orphans.free_records.Given as goal

abbrev pub invariant-loop-inode : goal.invariant-loop-inode
invariant-loop-inode l = record {
  end : l.inode-index-end ≡ length l.inodes;
  so_far : l.records.items ≡ map free_record (take l.inode-index l.inodes);
}
