use Rattle.std.proofs.Common.{◌≡◌, drop}
use Rattle.std.specs.List.{find}
use Rattle.tree_laws.specs.Merged.{has_stamp}
use Rattle.tree_laws.proofs.merge.stamped_in.Given as goal

abbrev pub invariant-loop-entry : goal.invariant-loop-entry
invariant-loop-entry l = find (has_stamp l.stamp) (drop l.entry-index l.entries) ≡ find (has_stamp l.stamp) l.entries
