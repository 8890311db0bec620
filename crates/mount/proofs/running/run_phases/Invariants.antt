use Rattle.mount.proofs.Ran.{MadeFront}
use Rattle.mount.proofs.running.run_phases.Given as goal

abbrev pub invariant-loop-phase : goal.invariant-loop-phase
invariant-loop-phase g l = MadeFront l.volume l.phases l.fn.workers l.workers l.phase-index
