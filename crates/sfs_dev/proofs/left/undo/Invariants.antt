use Rattle.std.proofs.Common.{length}
use Rattle.sfs_dev.specs.Left.{past_of}
use Rattle.sfs_dev.proofs.Draws.{Undoing}
use Rattle.sfs_dev.proofs.left.undo.Given as goal

abbrev pub invariant-loop-call : goal.invariant-loop-call
invariant-loop-call l = Undoing (length l.bytes.items) l.rest (past_of l.bytes.items l.kept) l.fn.calls (past_of l.fn.bytes.items l.fn.replaced)

abbrev pub decreases-loop-call : goal.decreases-loop-call
decreases-loop-call l = length l.rest
