use Rattle.mem_calls.specs.Outcome.{IsRefusedMemory}
use Rattle.mem_rename.specs.Rounds.{IsPlanWithin}
use Rattle.mem_rename.proofs.settling.hold_for_rename.Given as goal

abbrev pub invariant-loop : goal.invariant-loop
invariant-loop g l = record { again : IsRefusedMemory l.shared l.initial.core l.core; within : IsPlanWithin l.nodes l.plan }
