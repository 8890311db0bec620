use Rattle.std.proofs.Common.{◌≡◌, length}
use Rattle.stamp_table.specs.Table.{LetsGo, Stands, EachFrom, left_below}
use Rattle.stamp_table.proofs.hand.Core.let_go.Given as goal

abbrev pub invariant-loop-self : goal.invariant-loop-self
invariant-loop-self g l =
    LetsGo l.initial.self l.self × EachFrom l.from (Stands (g.M.Meaning.lawful l.shared.table.given) (g.M.Meaning.stands l.shared.table.given)
    l.initial.self.view) l.self.held
    × (left_below l.from l.self.held ≡ left_below l.from l.initial.self.held)

abbrev pub decreases-loop-self : goal.decreases-loop-self
decreases-loop-self g l = length l.self.held
