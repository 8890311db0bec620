use Rattle.std.proofs.Common.{◌≡◌, ◌+◌, length, drop}
use Rattle.tree_laws.specs.Merged.{entries_in}
use Rattle.tree_laws.proofs.merge.count_entries.Given as goal

abbrev pub invariant-loop-part : goal.invariant-loop-part
invariant-loop-part l = l.count + length (entries_in (drop l.part-index l.parts)) ≡ length (entries_in l.parts)
