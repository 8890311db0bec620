use Rattle.std.proofs.Common.{take}
use Rattle.flush_core.proofs.Raised.{AreSettled}
use Rattle.flush_core.proofs.raise.inodes_after.Given as goal

abbrev pub invariant-loop-node : goal.invariant-loop-node
invariant-loop-node l = AreSettled l.past l.raised l.inodes l.named l.own (take l.node-index l.concerned) l.after
