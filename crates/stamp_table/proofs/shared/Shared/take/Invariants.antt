use Rattle.std.proofs.Common.{◌≡◌}
use Rattle.stamp_table.specs.Table.{IsSameSeat}
use Rattle.stamp_table.proofs.shared.Shared.take.Given as goal

abbrev pub invariant-loop : goal.invariant-loop
invariant-loop g l = IsSameSeat l.initial.seat l.seat × (l.seat.me ≡ l.initial.seat.me)
