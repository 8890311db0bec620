-- The names of a directory with the kinds of their nodes.
use Rattle.std.specs.Prelude.{ℕ, List, map}
use Rattle.std.specs.FinMap.{FinMap, entries}
use Rattle.sfs_base.specs.declared.numbers.Kind.{Kind}
use Rattle.tree_laws.specs.Order.{name_cmp}
use Rattle.tree_laws.specs.Tree.{TreeState, kind_of}

-- names with the kinds of their nodes
abbrev pub with_kinds : TreeState → FinMap name_cmp ℕ → List (List ℕ × Kind)
with_kinds tree rows = map (λ row. (row.0, kind_of tree row.1)) (entries rows)
