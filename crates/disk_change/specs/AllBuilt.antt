-- What a commit makes of all its nodes, with the numbers and the blocks of a grant.
use Rattle.std.specs.Prelude.{ℕ, List, [], ◌∷◌, map, take, drop, Option}
use Rattle.std.specs.List.{flat_map}
use Rattle.std.specs.Option.{unwrap_or, option_map_or}
use Rattle.fmt_journal.specs.declared.tx.TxBlock.{TxBlock}
use Rattle.space_map.specs.Space.{GrantedNumbers}
use Rattle.disk_change.specs.Built.{Built, built}
use Rattle.disk_change.specs.Fresh.{fresh_written}
use Rattle.disk_change.specs.Lists.{ascending_by}
use Rattle.keyed_list.specs.Ascending.{item_with}
use Rattle.disk_change.specs.Nodes.{file_node}
use Rattle.disk_nodes.specs.Nodes.{entry_node, old_entry}
use Rattle.disk_change.specs.Numbered.{numbers_given, number_in}
use Rattle.disk_nodes.specs.OldKept.{OldKept}
use Rattle.disk_change.specs.Planned.{Planned, blocks_taken}
use Rattle.disk_change.specs.Seated.{Seated, CommitChanges, net_of_node}
use Rattle.disk_change.specs.declared.files.FileChange.{FileChange}
use Rattle.disk_nodes.specs.declared.old.OldEntry.{OldEntry}
use Rattle.disk_change.specs.declared.pages.Page.{Page}

-- the number of each node of a commit, where a grant has these inodes: those that enter get them in the order of their nodes
abbrev pub numbers_with : Planned → List ℕ → ℕ → Option ℕ
numbers_with change inodes = number_in (numbers_given change.seats inodes)

-- what a commit makes of a node, where it has these fresh blocks
abbrev pub built_by : CommitChanges → (ℕ → Option ℕ) → List ℕ → Seated → Built
built_by changes numbers fresh seat = built numbers (net_of_node changes.nets seat.node) (unwrap_or (numbers seat.node) 0) fresh seat

-- and of nodes, which cut these fresh blocks among them: each takes as many as it needs
abbrev pub nodes_built : CommitChanges → (ℕ → Option ℕ) → List Seated → List ℕ → List Built
nodes_built changes numbers [] fresh = []
nodes_built changes numbers (seat ∷ seats) fresh =
    built_by changes numbers (take (blocks_taken seat) fresh) seat ∷ nodes_built changes numbers seats (drop (blocks_taken seat) fresh)

-- what a commit makes of its nodes with a grant
abbrev pub nodes_with_grant : Planned → GrantedNumbers → List Built
nodes_with_grant change grant = nodes_built change.changes (numbers_with change grant.inodes) change.seats grant.blocks

-- the touched blocks of a file
abbrev pub pages_of_node : List FileChange → ℕ → List Page
pages_of_node files node = option_map_or (λ one. one.pages.items) (item_with file_node node files) []

-- the fresh blocks that are written of a node in a commit
abbrev pub fresh_of_node : List FileChange → Built → List TxBlock
fresh_of_node files built = fresh_written built (pages_of_node files built.node)

-- all fresh blocks that a commit writes, node by node
abbrev pub fresh_of_commit : Planned → GrantedNumbers → List TxBlock
fresh_of_commit change grant = flat_map (fresh_of_node change.changes.files) (nodes_with_grant change grant)

-- what the disk has of a node once the commit is durable
abbrev pub entry_after : Built → OldEntry
entry_after built = old_entry (record { 0 = built.node }) built.number built.meta built.tables built.slots

-- a node with what the disk has of it
abbrev pub entry_keyed : ℕ × OldKept → OldEntry
entry_keyed entry = record { node = record { 0 = entry.0 }; old = entry.1 }

-- what the disk then has of the commit's nodes, ascending
abbrev pub after_commit : Planned → GrantedNumbers → List OldEntry
after_commit change grant = ascending_by entry_node (map entry_after (nodes_with_grant change grant))
