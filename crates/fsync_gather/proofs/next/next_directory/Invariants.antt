use Rattle.std.proofs.Common.{take}
use Rattle.fsync_gather.specs.Next.{IsNextOfAll}
use Rattle.fsync_gather.proofs.next.next_directory.Given as goal

abbrev pub invariant-loop-part : goal.invariant-loop-part
invariant-loop-part l = IsNextOfAll (take l.part-index l.parts) l.after l.next
