use Rattle.std.proofs.Common.{◌≡◌}
use Rattle.disk_tree.specs.KeptParts.{gathered_in_use}
use Rattle.disk_tree.proofs.found.kept_parts.Given as goal

abbrev pub invariant-loop-place : goal.invariant-loop-place
invariant-loop-place l = l.list.items ≡ gathered_in_use l.inodes l.tables l.slots l.place
