-- What the disk has of nodes, lent out of their values.
use Rattle.std.specs.Prelude.{◌≡◌, List, [], ◌∷◌, length, map, replicate, Option, None, option_map}
use Rattle.std.specs.List.{cons_option}
use Rattle.sfs_base.specs.declared.numbers.NodeId.{NodeId}
use Rattle.disk_nodes.specs.OldKept.{OldKept}
use Rattle.disk_nodes.specs.declared.old.OldEntry.{OldEntry}
use Rattle.mem_values.specs.declared.cell.Cell.{Cell}
use Rattle.mem_values.specs.declared.cell.Cell.TheVariants as cell

-- what stands for what the disk has of a node while that is out
abbrev pub HOLLOW : OldKept
HOLLOW = record {
  number = 0;
  kept = record {
    inode = record { kind = 0; links = 0; size = 0; direct = replicate 108 0; indirect = replicate 16 0 };
    tables = [];
    slots = [];
  };
}

-- what the disk has of a node, by its value
abbrev pub old_of_value : Cell → Option OldKept
old_of_value (cell.Pending pending) = pending.value.old
old_of_value _ = None

-- a value of what was flushed of a node, with something else of the disk
abbrev pub with_old : Option OldKept → Cell → Cell
with_old old (cell.Pending pending) = cell.Pending (record pending { value = record pending.value { old = old } })
with_old old (cell.Lock lock) = cell.Lock lock
with_old old (cell.Bucket bucket) = cell.Bucket bucket
with_old old (cell.File file) = cell.File file
with_old old (cell.Part part) = cell.Part part

-- a value once what the disk has of its node is out: where there was something a hollow one stands
abbrev pub lent_value : Cell → Cell
lent_value value = with_old (option_map (λ old. HOLLOW) (old_of_value value)) value

-- the entry of a node with what the disk has of it, where it has something
abbrev pub entry_of : NodeId → Cell → Option OldEntry
entry_of node value = option_map (λ old. record { node = node; old = old }) (old_of_value value)

-- those of nodes, a value a node
abbrev pub entries_of : List NodeId → List Cell → List OldEntry
entries_of [] values = []
entries_of (node ∷ nodes) [] = []
entries_of (node ∷ nodes) (value ∷ values) = cons_option (entry_of node value) (entries_of nodes values)

-- What the disk has of nodes was taken out of these values, a value a node: they are lent values now, and this was taken.
pub record IsLent (nodes : List NodeId) (was now : List Cell) (old : List OldEntry) : Type 0 where
  pub count : length was ≡ length nodes
  pub values : now ≡ map lent_value was
  pub entries : old ≡ entries_of nodes was
