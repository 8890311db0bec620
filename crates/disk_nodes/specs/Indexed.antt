-- The index of a directory's blocks.
use Rattle.std.specs.Prelude.{ℕ, Bool, false, List, bytes_eq, Option}
use Rattle.std.specs.List.{list_any}
use Rattle.std.specs.Option.{option_map_or}
use Rattle.sfs_image.specs.Slot.{Row}
use Rattle.disk_nodes.specs.Names.{TellOfAll}
use Rattle.disk_nodes.specs.Rooms.{AreFull}
use Rattle.disk_nodes.specs.declared.bucket.Bucket.{Bucket}

-- whether a slot has this name
abbrev pub slot_has_name : List ℕ → Option Row → Bool
slot_has_name name slot = option_map_or (λ row. bytes_eq row.name name) slot false

-- whether a block has a row with this name
abbrev pub has_name : List ℕ → List (Option Row) → Bool
has_name name block = list_any (slot_has_name name) block

-- An index: the buckets of names, and which groups are full.
pub record Indexed : Type 0 where
  pub buckets : List Bucket
  pub full : List Bool

-- An index is that of these blocks: it tells of all their names, and says of no group that it is full in which a slot is empty.
pub record IsIndexOf (blocks : List (List (Option Row))) (index : Indexed) : Type 0 where
  pub names : TellOfAll index.buckets blocks
  pub full : AreFull index.full blocks
