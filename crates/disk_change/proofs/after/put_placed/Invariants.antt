use Rattle.std.proofs.Common.{◌≡◌}
use Rattle.disk_change.specs.Patched.{with_placed}
use Rattle.disk_change.proofs.after.put_placed.Given as goal

abbrev pub invariant-loop-one : goal.invariant-loop-one
invariant-loop-one l = l.slots ≡ with_placed l.yielded l.fn.slots
