-- The net of a directory's changes by the changes alone, without the rows that stood before.
use Rattle.std.specs.Prelude.{◌≡◌, ◌≢◌, ℕ, List, Option, Some, None, map, bytes_eq, All, Contains}
use Rattle.std.specs.List.{find}
use Rattle.std.specs.List.Sorted.{IsStrictlySortedBy}
use Rattle.sfs_base.specs.Name.{name_fault}
use Rattle.sfs_base.specs.declared.numbers.NodeId.{NodeId}
use Rattle.tree_laws.specs.Order.{name_cmp}
use Rattle.tree_laws.specs.NameRow.{number_of}
use Rattle.tree_laws.specs.declared.changes.Act.{Act}
use Rattle.tree_laws.specs.declared.changes.Act.TheVariants.{Add, Remove}
use Rattle.tree_laws.specs.declared.changes.Change.{Change}
use Rattle.absorb.specs.declared.nets.NetRow.{NetRow}
use Rattle.absorb.specs.Last.{last_change}
use Rattle.absorb.specs.Net.{net_name, child_after}

-- the child that a name has before its change: that of a removal, and none before an addition
abbrev pub child_before : Act → NodeId → Option NodeId
child_before Add child = None
child_before Remove child = Some child

-- the first of some changes that has this name
abbrev pub first_change : List ℕ → List Change → Option Change
first_change name changes = find (λ change. bytes_eq name change.name) changes

-- the child before and after a change that may be there
abbrev pub stood_before : Option Change → Option NodeId
stood_before None = None
stood_before (Some change) = child_before change.act change.child

abbrev pub left_by_change : Option Change → Option NodeId
left_by_change None = None
left_by_change (Some change) = child_after change.act change.child

-- the child that a name has before some changes: that of its first change where that is a removal, and none otherwise
abbrev pub before_by : List Change → List ℕ → Option ℕ
before_by changes name = number_of (stood_before (first_change name changes))

-- the child that a name has after some changes: that of its last change where that is an addition, and none otherwise
abbrev pub after_by : List Change → List ℕ → Option ℕ
after_by changes name = number_of (left_by_change (last_change name changes))

-- A row is right by the changes where its two children are those that its name has before and after them, and they differ.
pub record IsRowBy (changes : List Change) (row : NetRow) : Type 0 where
  pub before : number_of row.before ≡ before_by changes row.name
  pub after : number_of row.after ≡ after_by changes row.name
  pub differs : row.before ≢ row.after

-- The net of changes by the changes alone: the names whose child differs or is there on one side only, ascending by their bytes, each
-- with both children.
pub record IsNetBy (changes : List Change) (net : List NetRow) : Type 0 where
  pub ascending : IsStrictlySortedBy name_cmp (map net_name net)
  pub each : All (IsRowBy changes) net
  pub complete : (name : List ℕ) → before_by changes name ≢ after_by changes name → Contains (map net_name net) name

-- the rows of a net have names
abbrev pub HasGoodNames : List NetRow → Type 0
HasGoodNames net = (row : NetRow) → Contains net row → name_fault row.name ≡ None
