-- What a table over a file tree is, and what its disk had as it began.
use Rattle.std.specs.Prelude.{ℕ, List, Option, option_map}
use Rattle.sfs_base.specs.Lists.{Roomy}
use Rattle.keyed_list.specs.Ascending.{item_with}
use Rattle.disk_nodes.specs.OldKept.{OldKept}
use Rattle.disk_nodes.specs.Nodes.{entry_node, entry_old}
use Rattle.disk_nodes.specs.declared.old.OldEntry.{OldEntry}
use Rattle.stamp_table.specs.Hand.{Hand}
use Rattle.stamp_table.specs.Table.{TableState}
use Rattle.mem_values.specs.declared.cell.Cell.{Cell}
use Rattle.mem_values.specs.declared.fact.Fact.{Fact}

-- what a table over a file tree is given: the nodes of which the disk has something
abbrev pub GivenDisk : Type 0
GivenDisk = Roomy OldEntry

-- such a table
abbrev pub FileState : Type 0
FileState = TableState GivenDisk

-- a core of such a table
abbrev pub FileHand : Type 0
FileHand = Hand Cell Fact GivenDisk

-- what the disk has of a node, by a list of the nodes of which it has something
abbrev pub given_in : List OldEntry → ℕ → Option OldKept
given_in entries node = option_map entry_old (item_with entry_node node entries)

-- what the disk had of each node as the table began
abbrev pub given_by : FileState → ℕ → Option OldKept
given_by t = given_in t.table.given.items
