-- What an effect leaves of each part of a tree, from what stood there before.
use Rattle.std.specs.Prelude.{ℕ, ◌+◌, ◌-◌, ◌==◌, Bool, false, ◌&&◌, List, Option, Some, None, if◌then◌else◌}
use Rattle.std.specs.Option.{option_map_or}
use Rattle.std.specs.FinMap.{FinMap, insert, remove}
use Rattle.sfs_base.specs.declared.numbers.Kind.{Kind}
use Rattle.tree_laws.specs.Order.{name_cmp}
use Rattle.tree_laws.specs.Tree.{TreeState, row_of, next_number, kind_of, made_by}
use Rattle.tree_laws.specs.Effect.{Effect, Stays, Adds, Removes, Moves, Edits, edited}

-- whether a row's place is in the part of a directory that has the names which pass a test
abbrev pub is_in_part : ℕ → (List ℕ → Bool) → ℕ → List ℕ → Bool
is_in_part directory test at name = at == directory && test name

-- a part's rows with a row more, where that is the part's
abbrev pub part_with : ℕ → (List ℕ → Bool) → ℕ → List ℕ → ℕ → FinMap name_cmp ℕ → FinMap name_cmp ℕ
part_with directory test at name child rows = if is_in_part directory test at name then insert rows name child else rows

-- a part's rows with a row less, where that is the part's
abbrev pub part_without : ℕ → (List ℕ → Bool) → ℕ → List ℕ → FinMap name_cmp ℕ → FinMap name_cmp ℕ
part_without directory test at name rows = if is_in_part directory test at name then remove rows name else rows

-- the rows of a part of a directory after an effect
abbrev pub part_after : ℕ → (List ℕ → Bool) → Effect → FinMap name_cmp ℕ → FinMap name_cmp ℕ
part_after directory test Stays rows = rows
part_after directory test (Adds at name child) rows = part_with directory test at name child rows
part_after directory test (Removes at name child) rows = part_without directory test at name rows
part_after directory test (Moves at name to_directory to_name child) rows =
    part_with directory test to_directory to_name child (part_without directory test at name rows)
part_after directory test (Edits file edit) rows = rows

-- whether this is the node that may be there
abbrev pub is_this : ℕ → Option ℕ → Bool
is_this node there = option_map_or (λ other. other == node) there false

-- how many rows name a node after an effect
abbrev pub links_after : TreeState → Effect → ℕ → ℕ → ℕ
links_after tree Stays node links = links
links_after tree (Adds directory name child) node links = if child == node then links + 1 else links
links_after tree (Removes directory name child) node links = if child == node then links - 1 else links
links_after tree (Moves directory name to_directory to_name child) node links =
    if is_this node (row_of tree to_directory to_name) then links - 1 else links
links_after tree (Edits file edit) node links = links

-- a file's bytes after an effect
abbrev pub bytes_after : Effect → ℕ → List ℕ → List ℕ
bytes_after (Edits file edit) node bytes = if file == node then edited edit bytes else bytes
bytes_after _ node bytes = bytes

-- a node's kind once a node was made or none
abbrev pub kind_after : TreeState → ℕ → Option Kind → ℕ → Kind
kind_after tree core None node = kind_of tree node
kind_after tree core (Some kind) node = if node == next_number tree core then kind else kind_of tree node

-- how many nodes a core has made, once this core made one or none
abbrev pub count_after : TreeState → ℕ → Option Kind → ℕ → ℕ
count_after tree core None other = made_by tree other
count_after tree core (Some kind) other = if other == core then made_by tree other + 1 else made_by tree other
