use Rattle.std.proofs.Common.{◌≡◌, ◌+◌, ◌≤◌, length}
use Rattle.script.specs.Phases.{phases_of, phases_from}
use Rattle.script.specs.Lines.{lines}
use Rattle.script.proofs.PhaseLemmas.{behind}
use Rattle.script.proofs.reading.read_lines.Given as goal

abbrev pub invariant-loop-rest : goal.invariant-loop-rest
invariant-loop-rest l = record {
  read : phases_of l.text ≡ behind l.so_far (phases_from (l.number + 1) (lines l.rest));
  few : l.number + length l.rest ≤ length l.text;
}

abbrev pub decreases-loop-rest : goal.decreases-loop-rest
decreases-loop-rest l = length l.rest
