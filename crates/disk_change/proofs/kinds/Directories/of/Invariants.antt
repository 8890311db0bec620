use Rattle.std.proofs.Common.{◌≡◌, take, filter_map}
use Rattle.disk_change.specs.Links.{directory_old, directory_entering}
use Rattle.disk_change.proofs.kinds.Directories.of.Given as goal

abbrev pub invariant-loop-entry : goal.invariant-loop-entry
invariant-loop-entry l = l.directories.items ≡ filter_map directory_old (take l.entry-index l.old.items)

abbrev pub invariant-loop-one : goal.invariant-loop-one
invariant-loop-one l = l.entering.items ≡ filter_map directory_entering (take l.one-index l.enter.items)
