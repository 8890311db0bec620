use Rattle.std.proofs.Common.{◌≡◌, drop}
use Rattle.script.specs.Walks.{commands_of}
use Rattle.script.proofs.working.course.first_of.Given as goal

abbrev pub invariant-loop-place : goal.invariant-loop-place
invariant-loop-place l = commands_of l.number l.lines ≡ commands_of l.number (drop l.place l.lines)
