use Rattle.mem_rename.specs.Moving.{standing, same_file, ChangesHeld}
use Rattle.mem_rename.proofs.HeldChanges.{below_in}
use Rattle.mem_rename.proofs.changing.all_stand.Given as goal

abbrev pub invariant-loop-number : goal.invariant-loop-number
invariant-loop-number l = ChangesHeld l.nodes (below_in l.node l.number (standing l.stands)) same_file l.initial.core l.core
