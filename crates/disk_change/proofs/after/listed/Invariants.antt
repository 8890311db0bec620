use Rattle.std.proofs.Common.{◌≡◌, map}
use Rattle.disk_change.specs.Parts.{parts_keyed}
use Rattle.disk_change.proofs.after.listed.Given as goal

abbrev pub invariant-loop-node : goal.invariant-loop-node
invariant-loop-node l = l.list.items ≡ map parts_keyed l.yielded
