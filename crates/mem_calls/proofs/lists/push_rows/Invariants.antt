use Rattle.std.proofs.Common.{◌≡◌, ◌++◌, map, take}
use Rattle.tree_laws.specs.NameRow.{name_and_child}
use Rattle.tree_laws.specs.NameKinds.{name_kind}
use Rattle.mem_calls.specs.Listed.{with_kind}
use Rattle.mem_calls.proofs.lists.push_rows.Given as goal

abbrev pub invariant-loop-row : goal.invariant-loop-row
invariant-loop-row l = map name_kind l.rows.items ≡ map name_kind l.initial.rows.items ++ map (with_kind l.bucket)
    (map name_and_child (take l.row-index l.found))
