use Rattle.std.proofs.Common.{◌≡◌, map, take, ℕ, List}
use Rattle.tree_laws.specs.NameKinds.{name_kind}
use Rattle.tree_laws.specs.NameRow.{name_and_child}
use Rattle.tree_laws.specs.Tree.{kind_of}
use Rattle.sfs_tree.proofs.tree.Tree.with_kinds.Given as goal

abbrev pub invariant-loop-row : goal.invariant-loop-row
invariant-loop-row l =
    map name_kind l.rows.items ≡ map (λ (row : List ℕ × ℕ). (row.0, kind_of l.self row.1)) (map name_and_child (take l.row-index l.row-items))
