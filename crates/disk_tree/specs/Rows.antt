-- The rows of the directories, one directory after another, and the rules on them.
use Rattle.std.specs.Prelude.{◌≡◌, ◌≢◌, ℕ, zero, suc, ◌+◌, ◌<◌, ◌==◌, ◌||◌, nat_lt, not, Bool, List, [], filter_map, length, take, slice_index, slice_index_or, count_by, Option}
use Rattle.std.specs.List.{range_with_len, list_any, flat_map}
use Rattle.sfs_base.specs.Lists.{Roomy}
use Rattle.sfs_base.specs.Name.{bucket}
use Rattle.sfs_base.specs.declared.numbers.Kind.TheVariants.{File}
use Rattle.sfs_image.specs.Inode.{Inode}
use Rattle.sfs_image.specs.Slot.{Row, kind_byte}
use Rattle.tree_laws.specs.Tree.{is_directory_kind, BUCKET_ROWS}
use Rattle.disk_tree.specs.Blocks.{slots_at}
use Rattle.disk_tree.specs.Inodes.{inode_at}

-- a slot as it is
abbrev pub row_of_slot : Option Row → Option Row
row_of_slot slot = slot

-- the rows in slots
abbrev pub rows_in_slots : List (Option Row) → List Row
rows_in_slots slots = filter_map row_of_slot slots

-- the slots of blocks, one block after another
abbrev pub slots_together : List (List (Option Row)) → List (Option Row)
slots_together blocks = flat_map (λ block. block) blocks

-- no row
abbrev pub NO_ROW : Row
NO_ROW = record { inode = 0; kind = File; name = [] }

-- the rows of the inode of a number, and none past the last inode
abbrev pub rows_of_inode : List (Roomy Row) → ℕ → List Row
rows_of_inode rows i = (slice_index_or rows i (record { items = []; spare = 0 })).items

-- The rows of the first n inodes are those in their slots.
pub record AreRowLists (slots : List (Roomy (List (Option Row)))) (n : ℕ) (rows : List (Roomy Row)) : Type 0 where
  pub count : length rows ≡ n
  pub each : (i : ℕ) → i < n → rows_of_inode rows i ≡ rows_in_slots (slots_together (slots_at slots i))

-- each of the first n rows has a name of its own
abbrev pub HaveOwnNames : List Row → ℕ → Type 0
HaveOwnNames rows n = (k earlier : ℕ) → k < n → earlier < k → (slice_index_or rows earlier NO_ROW).name ≢ (slice_index_or rows k NO_ROW).name

-- how many rows lie in a bucket
abbrev pub rows_in_bucket : List Row → ℕ → ℕ
rows_in_bucket rows number = count_by (λ row. bucket row.name == number) rows

-- whether one of the eight buckets has more rows than it may have
unfoldable pub has_full_bucket : List Row → Bool
has_full_bucket rows = list_any (λ number. nat_lt BUCKET_ROWS (rows_in_bucket rows number)) (range_with_len 0 8)

-- whether a row's inode is beyond the last one, free, or of another kind than the row
abbrev pub is_misplaced_by : List Inode → Row → Bool
is_misplaced_by inodes row = not (nat_lt row.inode (length inodes)) || not ((inode_at inodes row.inode).kind == kind_byte row.kind)

-- how many of some rows name an inode
abbrev pub naming : ℕ → List Row → ℕ
naming i rows = count_by (λ row. row.inode == i) rows

-- how many rows of the first n inodes name an inode
abbrev pub naming_below : List (Roomy Row) → ℕ → ℕ → ℕ
naming_below rows zero i = 0
naming_below rows (suc n) i = naming_below rows n i + naming i (rows_of_inode rows n)

-- how many of some rows name directories
abbrev pub directory_row_count : List Row → ℕ
directory_row_count rows = count_by (λ row. is_directory_kind row.kind) rows

-- how many rows the first n inodes have
abbrev pub named_rows : List (Roomy Row) → ℕ → ℕ
named_rows rows zero = 0
named_rows rows (suc n) = named_rows rows n + length (rows_of_inode rows n)

-- The first n of some rows were counted, each for the inode that it names.
pub record CountsNamings (old new : List ℕ) (rows : List Row) (n : ℕ) : Type 0 where
  pub size : length new ≡ length old
  pub each : (i : ℕ) → i < length old → slice_index new i ≡ slice_index old i + naming i (take n rows)

-- These are the numbers of rows of the first n inodes that name each of so many inodes.
pub record AreNamingCounts (rows : List (Roomy Row)) (n count : ℕ) (named : List ℕ) : Type 0 where
  pub size : length named ≡ count
  pub each : (i : ℕ) → i < count → slice_index named i ≡ naming_below rows n i
