-- The rule on pointers, by what is kept of an inode in memory.
use Rattle.std.specs.Prelude.{◌≡◌, ℕ, ◌+◌, ◌*◌, ◌==◌, ◌&&◌, ◌||◌, nat_lt, not, Bool, true, false, List, length, slice_index, Option, None, Some}
use Rattle.std.specs.List.{find}
use Rattle.sfs_image.specs.Inode.{Inode, Table}
use Rattle.sfs_image.specs.Rules.{any_below, is_data_block}
use Rattle.sfs_image.specs.Super.{Layout}
use Rattle.disk_tree.specs.Reading.{HasTables}
use Rattle.sfs_base.specs.Lists.{Roomy}

-- a pointer is none, or names a block of the data area and the first byte that it covers is below the size
abbrev pub points_well : Layout → ℕ → ℕ → ℕ → Bool
points_well layout size pointer first = pointer == 0 || (is_data_block layout pointer && nat_lt first size)

-- whether one of several pointers does not; the first one covers bytes from `first` on, and each further one begins `step` bytes later
abbrev pub some_points_badly : Layout → ℕ → List ℕ → ℕ → ℕ → Bool
some_points_badly layout size pointers first step = any_below (length pointers) (λ k. not (points_well layout size (slice_index pointers k) (first + step * k)))

-- whether one of the pointers in a record does not
abbrev pub record_points_badly : Layout → Inode → Bool
record_points_badly layout inode =
    some_points_badly layout inode.size inode.direct 0 4096 || some_points_badly layout inode.size inode.indirect (4096 * 108) (4096 * 1024)

-- whether one of the 1,024 pointers in an indirect block does not, where it is there
abbrev pub table_points_badly : Layout → ℕ → Option Table → Bool
table_points_badly layout size None = false
table_points_badly layout size (Some table) =
    any_below 1024 (λ entry. not (points_well layout size (slice_index table.pointers entry) (4096 * (108 + 1024 * table.place) + 4096 * entry)))

-- whether one of the pointers in the indirect blocks does not
abbrev pub tables_point_badly : Layout → ℕ → List Table → Bool
tables_point_badly layout size tables = any_below 16 (λ k. table_points_badly layout size (find (λ table. table.place == k) tables))

-- whether an inode breaks the fourth rule, by what is kept of it
abbrev pub points_badly : Layout → Inode → List Table → Bool
points_badly layout inode tables = not (inode.kind == 0) && (record_points_badly layout inode || tables_point_badly layout inode.size tables)

-- The indirect blocks of an inode were read, and it keeps the fourth rule or breaks it.
pub record AreJudgedTables (told : Option (List ℕ)) (layout : Layout) (inode : Inode) (badly : Bool) (tables : List Table) : Type 0 where
  pub has : HasTables told inode tables
  pub judged : points_badly layout inode tables ≡ badly

-- what was found of an inode: its indirect blocks where it keeps the fourth rule, and none where it breaks it
abbrev pub FindsTables : Option (List ℕ) → Layout → Inode → Option (Roomy Table) → Type 0
FindsTables told layout inode (Some tables) = AreJudgedTables told layout inode false tables.items
FindsTables told layout inode None = (tables : List Table) × AreJudgedTables told layout inode true tables
