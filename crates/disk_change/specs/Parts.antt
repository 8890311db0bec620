-- What a commit changes of its nodes, beside what the disk has of them.
use Rattle.std.specs.Prelude.{◌≡◌, ℕ, ◌+◌, ◌≤◌, List, [], take, map, length, All, Option, Some, None}
use Rattle.std.specs.Option.{option_map_or}
use Rattle.sfs_image.specs.Inode.{Inode, Table}
use Rattle.sfs_image.specs.Slot.{Row}
use Rattle.block_map.specs.declared.changed.ChangedBlock.{ChangedBlock}
use Rattle.block_map.specs.declared.rewrite.TableFate.{TableFate}
use Rattle.keyed_list.specs.Ascending.{item_with}
use Rattle.disk_nodes.specs.Nodes.{entry_node}
use Rattle.disk_nodes.specs.declared.old.OldEntry.{OldEntry}
use Rattle.disk_change.specs.AllBuilt.{entry_after}
use Rattle.disk_change.specs.Built.{Built}
use Rattle.disk_change.specs.Patched.{SlotsPatch, FitsBlocks, IsPatchFor, patched}
use Rattle.disk_change.specs.Seated.{Seated, net_of_node}
use Rattle.disk_change.specs.declared.directory_net.DirectoryNet.{DirectoryNet}

-- What becomes of a node, with a patch in place of its slots and how many blocks of them stay.
pub record SeatParts : Type 0 where
  pub node : ℕ
  pub number : Option ℕ
  pub before : Inode
  pub meta : Inode
  pub tables : List Table
  pub patch : SlotsPatch
  pub end : ℕ
  pub changed : List ChangedBlock

-- the node with these slots, patched
abbrev pub seat_with : List (List (Option Row)) → SeatParts → Seated
seat_with slots parts = record {
  node = parts.node;
  number = parts.number;
  before = parts.before;
  meta = parts.meta;
  tables = parts.tables;
  slots = take parts.end (patched parts.patch slots);
  changed = parts.changed;
}

-- the slots that a node begins with: those that the disk has of it where it has an inode, and none where it enters
abbrev pub slots_begun : List OldEntry → Option ℕ → ℕ → List (List (Option Row))
slots_begun old None node = []
slots_begun old (Some number) node = option_map_or (λ entry. entry.old.kept.slots) (item_with entry_node node old) []

-- what becomes of a node, where the disk has this of nodes
abbrev pub seat_in : List OldEntry → SeatParts → Seated
seat_in old parts = seat_with (slots_begun old parts.number parts.node) parts

-- Each patch is one for the slots that its node begins with, by the nets of directories.
abbrev pub HavePatches : List OldEntry → List DirectoryNet → List SeatParts → Type 0
HavePatches old nets seats =
    All (λ parts. IsPatchFor (net_of_node nets parts.node) parts.end (slots_begun old parts.number parts.node) parts.patch) seats

-- What a commit makes of a node, with a patch in place of its slots, the number that it had, and of how many blocks there is room where further ones come.
pub record BuiltParts : Type 0 where
  pub node : ℕ
  pub own : Option ℕ
  pub number : ℕ
  pub before : Inode
  pub meta : Inode
  pub tables : List Table
  pub patch : SlotsPatch
  pub end : ℕ
  pub changed : List ChangedBlock
  pub fates : List TableFate
  pub room : Option ℕ

-- the node with these slots, patched
abbrev pub built_with : List (List (Option Row)) → BuiltParts → Built
built_with slots parts = record {
  node = parts.node;
  number = parts.number;
  before = parts.before;
  meta = parts.meta;
  tables = parts.tables;
  slots = take parts.end (patched parts.patch slots);
  changed = parts.changed;
  fates = parts.fates;
}

-- what a commit makes of a node, where the disk has this of nodes
abbrev pub built_in : List OldEntry → BuiltParts → Built
built_in old parts = built_with (slots_begun old parts.own parts.node) parts

-- Where further blocks come there is room for all.
abbrev pub HasRoom : List (List (Option Row)) → SlotsPatch → Option ℕ → Type 0
HasRoom slots patch None = patch.further ≡ []
HasRoom slots patch (Some room) = length slots + length patch.further ≤ room

-- A patch can be put into these slots without memory.
pub record CanBePut (slots : List (List (Option Row))) (parts : BuiltParts) : Type 0 where
  pub fits : FitsBlocks slots parts.patch
  pub room : HasRoom slots parts.patch parts.room

-- So can the patches of all nodes.
abbrev pub CanAllBePut : List OldEntry → List BuiltParts → Type 0
CanAllBePut old nodes = All (λ parts. CanBePut (slots_begun old parts.own parts.node) parts) nodes

-- the node of what is built
abbrev pub parts_node : BuiltParts → ℕ
parts_node parts = parts.node

-- a node by its number, with what is built of it
abbrev pub parts_keyed : ℕ × BuiltParts → BuiltParts
parts_keyed entry = record entry.1 { node = entry.0 }

-- What the disk has of a commit's nodes, and what it has of them once the commit is durable.
pub record OldAndAfter : Type 0 where
  pub old : List OldEntry
  pub after : List OldEntry

-- both of these nodes, where this is built of them
abbrev pub old_and_after : List OldEntry → List BuiltParts → OldAndAfter
old_and_after old nodes = record { old = old; after = map (λ parts. entry_after (built_in old parts)) nodes }
