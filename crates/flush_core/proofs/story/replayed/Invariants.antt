use Rattle.std.proofs.Common.{take}
use Rattle.flush_core.specs.Story.{IsReadyPast}
use Rattle.flush_core.proofs.story.replayed.Given as goal

abbrev pub invariant-loop-entry : goal.invariant-loop-entry
invariant-loop-entry l = IsReadyPast l.first (take l.entry-index l.entries) l.past
