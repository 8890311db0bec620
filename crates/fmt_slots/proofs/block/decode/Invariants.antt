use Rattle.fmt_slots.proofs.SlotsSoFar.{SlotsSoFar}
use Rattle.fmt_slots.proofs.block.decode.Given as goal

abbrev pub invariant-loop-k : goal.invariant-loop-k
invariant-loop-k l = SlotsSoFar l.block l.slots.items l.k
