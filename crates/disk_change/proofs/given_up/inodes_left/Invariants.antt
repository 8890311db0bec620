use Rattle.std.proofs.Common.{◌≡◌, take, map, filter}
use Rattle.disk_change.specs.GivenUp.{entry_number}
use Rattle.disk_change.specs.Planned.{has_listed_node}
use Rattle.disk_change.proofs.given_up.inodes_left.Given as goal

abbrev pub invariant-loop-entry : goal.invariant-loop-entry
invariant-loop-entry l = l.inodes.items ≡ map entry_number (filter (has_listed_node l.leaving) (take l.entry-index l.old))
