use Rattle.std.proofs.Common.{◌≡◌, ◌++◌, map, take}
use Rattle.tree_laws.specs.NameRow.{name_and_child}
use Rattle.tree_laws.proofs.name_map.push_copies.Given as goal

abbrev pub invariant-loop-row : goal.invariant-loop-row
invariant-loop-row l = map name_and_child l.into.items ≡ map name_and_child l.initial.into.items ++ map name_and_child (take l.row-index l.rows)
