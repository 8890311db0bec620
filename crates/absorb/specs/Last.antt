-- The last change of each name, and the row of the net that it makes.
use Rattle.std.specs.Prelude.{◌≡◌, ℕ, Bool, List, Option, Some, None, map, option_map, reverse, bytes_eq, IsTrue, ◌==◌, if◌then◌else◌}
use Rattle.std.specs.List.{find}
use Rattle.std.specs.Option.{option_eq}
use Rattle.std.specs.FinMap.{FinMap, get}
use Rattle.std.specs.FinMap as finmap
use denote.Ref.{Bor}
use Rattle.sfs_base.specs.declared.numbers.NodeId.{NodeId}
use Rattle.tree_laws.specs.Order.{name_cmp}
use Rattle.tree_laws.specs.declared.changes.Change.{Change}
use Rattle.absorb.specs.declared.nets.NetRow.{NetRow}
use Rattle.absorb.specs.Net.{child_after}

-- the last of some changes that has this name
abbrev pub last_change : List ℕ → List Change → Option Change
last_change name changes = find (λ change. bytes_eq name change.name) (reverse changes)

-- names and changes that are lent
abbrev pub lent : List (Bor (List ℕ) × Bor Change) → List (List ℕ × Change)
lent = map (λ entry. (entry.0.now, entry.1.now))

-- These are the last changes of each name, ascending by the names.
pub record AreLast (changes : List Change) (last : List (List ℕ × Change)) : Type 0 where
  pub ascending : IsTrue (finmap.is_sorted name_cmp last)
  pub found : (name : List ℕ) → finmap.find name_cmp name last ≡ last_change name changes

-- the node of a number that may be there
abbrev pub node_id_of : Option ℕ → Option NodeId
node_id_of = option_map (λ number. record { 0 = number })

-- whether two nodes are one
abbrev pub same_node : NodeId → NodeId → Bool
same_node node other = node.0 == other.0

-- the row of a name with two children, where they differ
abbrev pub net_row : List ℕ → Option NodeId → Option NodeId → Option NetRow
net_row name before after =
    if option_eq same_node before after then None else Some (record { name = name; before = before; after = after })

-- the row of the net that the last change of a name makes
abbrev pub net_row_by : FinMap name_cmp ℕ → Change → Option NetRow
net_row_by rows change = net_row change.name (node_id_of (get rows change.name)) (child_after change.act change.child)

-- the same of a change that is lent
abbrev pub lent_row : FinMap name_cmp ℕ → Bor (List ℕ) × Bor Change → Option NetRow
lent_row rows entry = net_row_by rows entry.1.now
