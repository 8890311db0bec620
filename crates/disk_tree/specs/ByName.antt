-- Rows in the order of their names.
use Rattle.std.specs.Prelude.{Bool, List}
use Rattle.std.specs.List.Sorted.{IsSortedBy}
use Rattle.std.specs.Ordering.{is_lt}
use Rattle.sfs_image.specs.Slot.{Row}
use Rattle.tree_laws.specs.Order.{name_cmp}

-- whether the name of one row comes before that of another
abbrev pub comes_before : Row → Row → Bool
comes_before row other = is_lt (name_cmp row.name other.name)

-- no row's name comes before that of the row before it
abbrev pub AscendByName : List Row → Type 0
AscendByName rows = IsSortedBy comes_before rows
