use Rattle.std.proofs.Common.{length, drop}
use Rattle.sfs_dev.specs.Log.{acts_of}
use Rattle.sfs_dev.proofs.Draws.{Drawing}
use Rattle.sfs_dev.proofs.left.draw.Given as goal

abbrev pub invariant-loop-call : goal.invariant-loop-call
invariant-loop-call l =
    Drawing (length l.bytes.items) (acts_of (drop l.call-index l.calls)) l.rest (record { number = l.number; image = l.bytes.items })
    (acts_of l.fn.calls) l.fn.written (record { number = l.fn.pick; image = l.fn.bytes.items })
