use Rattle.std.proofs.Common.{◌≡◌, map}
use Rattle.disk_change.specs.Records.{record_keyed}
use Rattle.disk_change.proofs.records.listed.Given as goal

abbrev pub invariant-loop-inode : goal.invariant-loop-inode
invariant-loop-inode l = l.list.items ≡ map record_keyed l.yielded
