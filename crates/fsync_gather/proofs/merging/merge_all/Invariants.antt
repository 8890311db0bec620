use Rattle.fsync_gather.proofs.Directories.{MergedSoFar, left_after}
use Rattle.fsync_gather.proofs.merging.merge_all.Given as goal

abbrev pub invariant-loop-dir : goal.invariant-loop-dir
invariant-loop-dir l = MergedSoFar l.parts l.after l.logs.items

abbrev pub decreases-loop-dir : goal.decreases-loop-dir
decreases-loop-dir l = left_after l.after
