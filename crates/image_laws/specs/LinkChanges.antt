-- What the nets of some directories change in link counts.
use Rattle.std.specs.Prelude.{◌≡◌, ℕ, ◌==◌, Bool, false, List, [], map, Option, sum_by, if◌then◌else◌}
use Rattle.std.specs.List.{list_any, flat_map}
use Rattle.std.specs.Option.{option_map_or}
use Rattle.std.specs.List.Sorted.{IsStrictlySortedBy}
use Rattle.std.specs.Ordering.{nat_cmp}
use Rattle.tree_laws.specs.Tree.{one_if}
use Rattle.tree_laws.specs.NameRow.{number_of}
use Rattle.tree_laws.specs.Order.{Key}
use Rattle.tree_laws.specs.Tree.{TreeState, kind_of, is_directory, names_it, names_of, holds_directory}
use Rattle.absorb.specs.declared.nets.NetRow.{NetRow}
use Rattle.absorb.specs.Net.{IsNet}

-- a row of the net of a directory
abbrev pub NetChange : Type 0
NetChange = ℕ × NetRow

-- all rows of the nets of some directories
abbrev pub net_changes : (ℕ → List NetRow) → List ℕ → List NetChange
net_changes nets members = flat_map (λ directory. map (λ row. (directory, row)) (nets directory)) members

-- 1 for a row of a directory that is there and passes a test, and else 0
abbrev pub counted_row : (Key × ℕ → Bool) → Key → Option ℕ → ℕ
counted_row test key child = option_map_or (λ x. one_if (test (key, x))) child 0

-- how many rows that pass a test come
abbrev pub gained : (Key × ℕ → Bool) → List NetChange → ℕ
gained test changes = sum_by (λ change. counted_row test (change.0, change.1.name) (number_of change.1.after)) changes

-- how many rows that pass a test go
abbrev pub lost : (Key × ℕ → Bool) → List NetChange → ℕ
lost test changes = sum_by (λ change. counted_row test (change.0, change.1.name) (number_of change.1.before)) changes

-- whether a row counts for a node: for a directory one in it that names a directory, for a file one that names it
abbrev pub linking : TreeState → ℕ → Key × ℕ → Bool
linking tree node = if is_directory tree node then holds_directory tree node else names_it node

-- Between two trees that agree on kinds, these are the nets of all directories whose rows differ.
pub record AreAllNets (old new : TreeState) (nets : ℕ → List NetRow) (members : List ℕ) : Type 0 where
  pub kinds : (node : ℕ) → kind_of new node ≡ kind_of old node
  pub each : (directory : ℕ) → IsNet (names_of directory old.rows) (names_of directory new.rows) (nets directory)
  pub others : (directory : ℕ) → list_any (λ member. member == directory) members ≡ false → nets directory ≡ []
  pub ascending : IsStrictlySortedBy nat_cmp members
