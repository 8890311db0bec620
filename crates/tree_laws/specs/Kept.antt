-- How a history keeps its entries.
use Rattle.std.specs.Prelude.{List}
use Rattle.tree_laws.specs.declared.history.Entry.{Entry}
use Rattle.tree_laws.specs.declared.history.Kept.{Kept}
use Rattle.tree_laws.specs.declared.history.Kept.TheVariants.{One, Parts}
use Rattle.tree_laws.specs.Merged.{entries_in, by_stamps, EachOnce}

-- the entries: those of one list as they stand, those of several by their stamps
abbrev pub kept_entries : Kept → List Entry
kept_entries (One entries) = entries.items
kept_entries (Parts parts) = by_stamps (entries_in parts.items)

-- several lists have each stamp once
abbrev pub IsWhole : Kept → Type 0
IsWhole (One entries) = Unit {0}
IsWhole (Parts parts) = EachOnce (entries_in parts.items)
