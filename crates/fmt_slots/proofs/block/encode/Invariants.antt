use Rattle.fmt_slots.proofs.SlotsWritten.{SlotsWritten}
use Rattle.fmt_slots.proofs.block.encode.Given as goal

abbrev pub invariant-loop-k : goal.invariant-loop-k
invariant-loop-k l = SlotsWritten l.rows.items l.block l.k
