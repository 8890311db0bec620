-- The laws of nets, each of which a function of the module laws proves.
use Rattle.std.specs.Prelude.{◌≡◌, ℕ, List, fold, map}
use Rattle.std.specs.FinMap.{FinMap}
use Rattle.tree_laws.specs.Order.{name_cmp}
use Rattle.tree_laws.specs.declared.changes.Change.{Change}
use Rattle.tree_laws.specs.Changes.{with_change}
use Rattle.tree_laws.specs.Logged.{erased}
use Rattle.absorb.specs.declared.nets.NetRow.{NetRow}
use Rattle.absorb.specs.Net.{IsNet, rows_with_changes}

-- Earlier and later rows have one net.
abbrev pub OneNet : Type 0
OneNet = (earlier later : FinMap name_cmp ℕ) (net other : List NetRow) → IsNet earlier later net → IsNet earlier later other → net ≡ other

-- Logged changes do to rows what the changes do that they erase to, whichever entries they are of.
abbrev pub LogsAreChanges : Type 0
LogsAreChanges = (rows : FinMap name_cmp ℕ) (entry changes : List Change) → rows_with_changes rows changes ≡ fold with_change rows (map (erased entry) changes)
