use Rattle.std.proofs.Common.{ap, subst, ◌≤◌, ◌^◌, length}
use Rattle.stamp_table.specs.Events.{calls_in}
use Rattle.stamp_table.proofs.Entering.{calls_few}
use Rattle.stamp_table.proofs.hand.Core.calls_are_few.Goals as goal

pub returns : goal.returns
returns g c = subst (λ l. length (calls_in l) ≤ 2 ^ 50) (ap (λ h. h.view.mine) c.self.view_is)
    (calls_few c.self.inside.seat.me.0.mine c.self.inside.entries.items c.self.invariant.0.entries_are c.self.invariant.0.few)
