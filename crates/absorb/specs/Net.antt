-- What changes do to the rows of a directory, and what they come to.
use Rattle.std.specs.Prelude.{◌≡◌, ◌≢◌, ℕ, List, Option, Some, None, map, fold, All, Contains}
use Rattle.std.specs.FinMap.{FinMap, get, insert, remove}
use Rattle.std.specs.List.Sorted.{IsStrictlySortedBy}
use Rattle.sfs_base.specs.declared.numbers.NodeId.{NodeId}
use Rattle.tree_laws.specs.Order.{name_cmp}
use Rattle.tree_laws.specs.NameRow.{number_of}
use Rattle.tree_laws.specs.declared.changes.Act.{Act}
use Rattle.tree_laws.specs.declared.changes.Act.TheVariants.{Add, Remove}
use Rattle.tree_laws.specs.declared.changes.Change.{Change}
use Rattle.absorb.specs.declared.nets.NetRow.{NetRow}

-- rows with a change made: an addition replaces the row that has its name, and a removal takes the row of its name away
abbrev pub with_act : Act → FinMap name_cmp ℕ → List ℕ → ℕ → FinMap name_cmp ℕ
with_act Add rows name child = insert rows name child
with_act Remove rows name child = remove rows name

-- rows with some changes made, one after the other
abbrev pub rows_with_changes : FinMap name_cmp ℕ → List Change → FinMap name_cmp ℕ
rows_with_changes = fold (λ rows change. with_act change.act rows change.name change.child.0)

-- the child that a name has after its change: that of an addition, and none after a removal
abbrev pub child_after : Act → NodeId → Option NodeId
child_after Add child = Some child
child_after Remove child = None

-- the name of a row
abbrev pub net_name : NetRow → List ℕ
net_name row = row.name

-- A row is right where its two children are those that its name has in the earlier and in the later rows, and they differ.
pub record IsNetRow (earlier later : FinMap name_cmp ℕ) (row : NetRow) : Type 0 where
  pub before : number_of row.before ≡ get earlier row.name
  pub after : number_of row.after ≡ get later row.name
  pub differs : row.before ≢ row.after

-- The net of a directory's earlier and later rows: the names whose child differs or is there in one of them only, ascending by their bytes,
-- each with both children.
pub record IsNet (earlier later : FinMap name_cmp ℕ) (net : List NetRow) : Type 0 where
  pub ascending : IsStrictlySortedBy name_cmp (map net_name net)
  pub each : All (IsNetRow earlier later) net
  pub complete : (name : List ℕ) → get earlier name ≢ get later name → Contains (map net_name net) name
