use Rattle.std.proofs.Common.{◌≡◌, map}
use Rattle.mount_begin.specs.Mounted.{entry_mounted}
use Rattle.mount_begin.proofs.entries.entries_of.Given as goal

abbrev pub invariant-loop-part : goal.invariant-loop-part
invariant-loop-part l = l.entries.items ≡ map entry_mounted l.yielded
