use Rattle.std.proofs.Common.{◌≡◌, map}
use Rattle.tree_laws.specs.NameKinds.{name_kind}
use Rattle.mem_calls.specs.Listed.{kinds_held, join_until}
use Rattle.mem_calls.proofs.lists.all_rows.Given as goal

abbrev pub invariant-loop-number : goal.invariant-loop-number
invariant-loop-number l = map name_kind l.rows.items ≡ join_until l.number (kinds_held l.nodes l.core.held l.node)
