use Rattle.std.proofs.Common.{◌≡◌, filter}
use Rattle.recovery.specs.Freed.{is_linked_kept}
use Rattle.recovery.proofs.linked.linked_parts.Given as goal

abbrev pub invariant-loop-part : goal.invariant-loop-part
invariant-loop-part l = l.linked.items ≡ filter is_linked_kept l.yielded
