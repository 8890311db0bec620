-- The nodes that rows name.
use Rattle.std.specs.Prelude.{◌≡◌, ℕ, ◌↔◌, true, List, Some, map, filter, fold}
use Rattle.std.specs.FinMap.{FinMap, get}
use Rattle.tree_laws.specs.declared.history.Entry.{Entry}
use Rattle.tree_laws.specs.declared.name_map.NameRow.{NameRow}
use Rattle.tree_laws.specs.Order.{name_cmp}
use Rattle.tree_laws.specs.Tree.{TreeState, names_of}
use Rattle.tree_laws.specs.Changes.{is_own_below, with_change}
use Rattle.flush_core.specs.declared.past.OwnChange.{OwnChange}
use Rattle.flush_core.specs.declared.sets.NodeSet.{NodeSet}
use Rattle.cut_laws.specs.Cut.{Cut, cut_of, counted_rows_at_cut}
use Rattle.cut_laws.specs.Closure.{every_entry, IsNamedIn}
use Rattle.flush_core.specs.NodeSets.{has_node}
use Rattle.flush_core.specs.Past.{row_change_of}

-- a directory's rows at a stamp: those of a tree, with its own changes below the stamp made of those that are kept
abbrev pub kept_rows : TreeState → List OwnChange → ℕ → ℕ → FinMap name_cmp ℕ
kept_rows first changes directory stamp = fold with_change (names_of directory first.rows) (filter (is_own_below directory stamp) (map row_change_of changes))

-- A node is a child of some rows.
abbrev pub IsChild : FinMap name_cmp ℕ → ℕ → Type 0
IsChild rows node = (name : List ℕ) × (get rows name ≡ Some node)

-- A node is the child of a row.
abbrev pub IsChildOf : NameRow → ℕ → Type 0
IsChildOf row node = row.child.0 ≡ node

-- A node is a child of a directory's rows at a cut.
abbrev pub IsChildIn : TreeState → List OwnChange → Cut → ℕ → ℕ → Type 0
IsChildIn first changes cut directory = IsChild (kept_rows first changes directory (cut_of cut directory))

-- A set is the children of all directories' rows at a cut.
abbrev pub AreChildren : TreeState → List OwnChange → Cut → NodeSet → Type 0
AreChildren first changes cut named = (node : ℕ) → (has_node named node ≡ true) ↔ ((directory : ℕ) × IsChildIn first changes cut directory node)

-- A change stands in a directory.
abbrev pub StandsInDirectory : OwnChange → ℕ → Type 0
StandsInDirectory change directory = change.directory ≡ directory

-- A set is the nodes that the rows at a cut name.
abbrev pub AreNamed : TreeState → List Entry → Cut → NodeSet → Type 0
AreNamed first history cut named = (node : ℕ) → (has_node named node ≡ true) ↔ IsNamedIn (counted_rows_at_cut first history every_entry cut) node
