use Rattle.std.proofs.Common.{take}
use Rattle.log_merge.specs.Merge.{parts_changes, IsMergeOf}
use Rattle.log_merge.proofs.merging.merge.Given as goal

abbrev pub invariant-loop-part : goal.invariant-loop-part
invariant-loop-part l = IsMergeOf (parts_changes l.dir.0 l.below.0 (take l.part-index l.parts)) l.merged.items
