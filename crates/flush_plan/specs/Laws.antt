-- The law of nets by the changes alone, which a function of the module laws proves.
use Rattle.std.specs.Prelude.{◌≡◌, ℕ, List, [], ◌∷◌, Some, None}
use Rattle.std.specs.FinMap.{FinMap, get}
use Rattle.tree_laws.specs.Order.{name_cmp}
use Rattle.tree_laws.specs.declared.changes.Act.{Act}
use Rattle.tree_laws.specs.declared.changes.Act.TheVariants.{Add, Remove}
use Rattle.tree_laws.specs.declared.changes.Change.{Change}
use Rattle.absorb.specs.declared.nets.NetRow.{NetRow}
use Rattle.absorb.specs.Net.{IsNet, with_act, rows_with_changes}
use Rattle.flush_plan.specs.Net.{IsNetBy}

-- A change fits the rows that it finds: a removal names the row that stands there, and an addition comes where none stands.
abbrev pub FitsRows : Act → FinMap name_cmp ℕ → List ℕ → ℕ → Type 0
FitsRows Add rows name child = get rows name ≡ None
FitsRows Remove rows name child = get rows name ≡ Some child

-- So does each of some changes that are made one after the other.
abbrev pub FitRows : FinMap name_cmp ℕ → List Change → Type 0
FitRows rows [] = Unit {0}
FitRows rows (change ∷ changes) = FitsRows change.act rows change.name change.child.0 × FitRows (with_act change.act rows change.name change.child.0) changes

-- The net of changes by the changes alone is the net of the rows before and after them, where each change fits the rows that it finds.
abbrev pub NetsNeedNoRows : Type 0
NetsNeedNoRows =
    (rows : FinMap name_cmp ℕ) (changes : List Change) (net : List NetRow) → FitRows rows changes → IsNetBy changes net
    → IsNet rows (rows_with_changes rows changes) net
