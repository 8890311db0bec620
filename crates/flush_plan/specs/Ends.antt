-- For the functions inside: the rows of a net by the first and the last change of each name.
use Rattle.std.specs.Prelude.{ℕ, List, Option, option_map}
use denote.Ref.{Bor}
use Rattle.std.specs.BTreeMap.{BTreeMap, get_by}
use Rattle.std.specs.Ordering.{nat_cmp}
use Rattle.std.specs.Cmp.Lexicographic.{slice_cmp}
use Rattle.sfs_base.specs.declared.numbers.NodeId.{NodeId}
use Rattle.tree_laws.specs.declared.changes.Change.{Change}
use Rattle.absorb.specs.declared.nets.NetRow.{NetRow}
use Rattle.absorb.specs.Last.{net_row}
use Rattle.absorb.specs.Net.{child_after}
use Rattle.flush_plan.specs.Net.{stood_before}

-- the first changes of names that are lent
abbrev pub LentChanges : Type 0
LentChanges = BTreeMap (Bor (List ℕ)) (Bor Change)

-- the child that a name has before all changes, by the first change of each name
abbrev pub child_lent : LentChanges → List ℕ → Option NodeId
child_lent first name = stood_before (option_map (λ (change : Bor Change). change.now) (get_by (λ (key : Bor (List ℕ)). slice_cmp nat_cmp name key.now) first))

-- the row of the net that the last change of a name makes
abbrev pub lent_between : LentChanges → Bor (List ℕ) × Bor Change → Option NetRow
lent_between first entry = net_row entry.1.now.name (child_lent first entry.1.now.name) (child_after entry.1.now.act entry.1.now.child)
