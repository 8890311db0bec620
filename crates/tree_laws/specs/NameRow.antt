-- The rows of a directory as a list.
use Rattle.std.specs.Prelude.{◌≡◌, ◌≢◌, ℕ, ◌≤◌, List, [], ◌∷◌, length, Option, option_map, if◌then◌else◌}
use Rattle.std.specs.Ordering.{is_lt}
use Rattle.std.specs.List.{AllWithin}
use Rattle.std.specs.declared.cmp.Ordering.TheVariants.{Less}
use Rattle.sfs_base.specs.declared.numbers.NodeId.{NodeId}
use Rattle.tree_laws.specs.declared.name_map.NameRow.{NameRow}
use Rattle.tree_laws.specs.Order.{name_cmp}

-- a row as the pair of its name and its child's number
abbrev pub name_and_child : NameRow → List ℕ × ℕ
name_and_child row = (row.name, row.child.0)

-- the number of a node
abbrev pub node_number : NodeId → ℕ
node_number node = node.0

-- the number of a node that may be there
abbrev pub number_of : Option NodeId → Option ℕ
number_of = option_map node_number

-- The place of a name among rows: the names before it are less, and those from it on are not.
pub record IsPlaceOf (rows : List (List ℕ × ℕ)) (name : List ℕ) (place : ℕ) : Type 0 where
  pub within : place ≤ length rows
  pub before : AllWithin (λ row. name_cmp row.0 name ≡ Less) rows 0 place
  pub behind : AllWithin (λ row. name_cmp row.0 name ≢ Less) rows place (length rows)

-- a row that comes first or behind some rows of a second list, with all that is to follow it
abbrev pub put_among : List ℕ × ℕ → (List (List ℕ × ℕ) → List (List ℕ × ℕ)) → List (List ℕ × ℕ) → List (List ℕ × ℕ)
put_among row follow [] = row ∷ follow []
put_among row follow (other ∷ others) =
    if is_lt (name_cmp row.0 other.0) then row ∷ follow (other ∷ others) else other ∷ put_among row follow others

-- two lists of rows in one: of the two first rows the one with the lesser name comes first, and where neither is less that of the second list
abbrev pub both_lists : List (List ℕ × ℕ) → List (List ℕ × ℕ) → List (List ℕ × ℕ)
both_lists [] others = others
both_lists (row ∷ rows) others = put_among row (both_lists rows) others
