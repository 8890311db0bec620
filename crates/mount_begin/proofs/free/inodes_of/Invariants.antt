use Rattle.std.proofs.Common.{◌≡◌, take, map}
use Rattle.disk_change.specs.GivenUp.{entry_number}
use Rattle.mount_begin.proofs.free.inodes_of.Given as goal

abbrev pub invariant-loop-entry : goal.invariant-loop-entry
invariant-loop-entry l = l.inodes.items ≡ map entry_number (take l.entry-index l.entries)
