use Rattle.stamp_table.specs.Table.{Looked}
use Rattle.stamp_table.proofs.hand.Core.look_for.Given as goal

abbrev pub invariant-loop : goal.invariant-loop
invariant-loop g l = Looked (g.M.Meaning.lawful l.shared.table.given) (g.M.Meaning.stands l.shared.table.given) l.fn.self l.found l.self
