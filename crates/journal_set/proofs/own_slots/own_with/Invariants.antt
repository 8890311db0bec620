use Rattle.std.proofs.Common.{length}
use Rattle.journal_set.proofs.OwnSlots.{NoneOwn}
use Rattle.journal_set.proofs.own_slots.own_with.Given as goal

abbrev pub invariant-loop-k : goal.invariant-loop-k
invariant-loop-k g l = NoneOwn l.desk.slots.items (length l.desk.waits.items) l.core.0 l.what l.k
