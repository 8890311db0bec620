-- What a commit makes of one node, with its number and its fresh blocks.
use Rattle.std.specs.Prelude.{ℕ, List, map, Option}
use Rattle.sfs_image.specs.Inode.{Inode, Table}
use Rattle.sfs_image.specs.Slot.{Row}
use Rattle.absorb.specs.declared.nets.NetRow.{NetRow}
use Rattle.block_map.specs.declared.changed.ChangedBlock.{ChangedBlock}
use Rattle.block_map.specs.declared.rewrite.TableFate.{TableFate}
use Rattle.block_map.specs.Remap.{rewrite_of, inode_remapped, tables_remapped, table_fate, TABLES}
use Rattle.sfs_image.specs.Part.{tabulate}
use Rattle.image_laws.specs.Need.{Rewrite}
use Rattle.disk_change.specs.Numbered.{block_numbered}
use Rattle.disk_change.specs.Seated.{Seated}

-- A node with what the disk has of it once the commit is durable: its number, its inode, its indirect blocks and its slots. And what
-- the commit rewrote: its blocks, and what became of each indirect block.
pub record Built : Type 0 where
  pub node : ℕ
  pub number : ℕ
  pub before : Inode
  pub meta : Inode
  pub tables : List Table
  pub slots : List (List (Option Row))
  pub changed : List ChangedBlock
  pub fates : List TableFate

-- what is rewritten of a node
abbrev pub rewrite_in : Seated → Rewrite
rewrite_in seat = rewrite_of seat.meta seat.tables seat.changed

-- what a commit makes of a node that has this number and these fresh blocks, where rows name these numbers
abbrev pub built : (ℕ → Option ℕ) → List NetRow → ℕ → List ℕ → Seated → Built
built numbers net number fresh seat = record {
  node = seat.node;
  number = number;
  before = seat.before;
  meta = inode_remapped (rewrite_in seat) fresh seat.meta;
  tables = tables_remapped (rewrite_in seat) fresh seat.tables;
  slots = map (block_numbered numbers net) seat.slots;
  changed = seat.changed;
  fates = tabulate TABLES (table_fate (rewrite_in seat));
}
