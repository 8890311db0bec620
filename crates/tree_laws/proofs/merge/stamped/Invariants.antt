use Rattle.std.proofs.Common.{◌≡◌, drop}
use Rattle.tree_laws.specs.Merged.{entries_in, entry_with}
use Rattle.tree_laws.proofs.merge.stamped.Given as goal

abbrev pub invariant-loop-part : goal.invariant-loop-part
invariant-loop-part l = entry_with (entries_in (drop l.part-index l.parts)) l.stamp ≡ entry_with (entries_in l.parts) l.stamp
