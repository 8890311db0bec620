-- The counts that are stored of rows, and the holders of directories.
use Rattle.std.specs.Prelude.{◌≡◌, ℕ, ◌+◌, ◌^◌, ◌<◌, ◌≤◌, ◌==◌, Bool, true, false, ◌&&◌, List, length, Some, slice_index, count_by, if◌then◌else◌}
use Rattle.std.specs.Option.{option_map_or}
use Rattle.std.specs.Ordering.{nat_cmp}
use Rattle.std.specs.FinMap.{FinMap, entries, get, len}
use Rattle.sfs_tree.specs.declared.counts.Counts.{Counts}
use Rattle.tree_laws.specs.Order.{Key, key_cmp}
use Rattle.tree_laws.specs.Tree.{Node, is_directory_kind, count_of, one_if}
use Rattle.tree_laws.specs.Buckets.{stands_in}

-- whether a number is that of a directory
abbrev pub is_directory_in : FinMap nat_cmp Node → ℕ → Bool
is_directory_in nodes node = option_map_or (λ n. is_directory_kind n.kind) (get nodes node) false

-- whether a row stands in this directory and names a directory
abbrev pub holds_directory_in : FinMap nat_cmp Node → ℕ → Key × ℕ → Bool
holds_directory_in nodes directory row = row.0.0 == directory && is_directory_in nodes row.1

-- how many rows stand in a directory
abbrev pub count_inside : FinMap key_cmp ℕ → ℕ → ℕ
count_inside rows directory = count_by (stands_in directory) (entries rows)

-- how many rows stand in a directory and name directories
abbrev pub count_directories : FinMap key_cmp ℕ → FinMap nat_cmp Node → ℕ → ℕ
count_directories rows nodes directory = count_by (holds_directory_in nodes directory) (entries rows)

-- The stored counts are those of the rows, and a directory that one row names has its holder stored.
pub record IsCounted (rows : FinMap key_cmp ℕ) (nodes : FinMap nat_cmp Node) (counts : Counts) : Type 0 where
  pub naming : (node : ℕ) → slice_index counts.named.items node ≡ count_of rows node
  pub standing : (directory : ℕ) → slice_index counts.inside.items directory ≡ count_inside rows directory
  pub directories : (directory : ℕ) → slice_index counts.directories.items directory ≡ count_directories rows nodes directory
  pub holders : (directory : ℕ) (name : List ℕ) (child : ℕ) → get rows (directory, name) ≡ Some child → is_directory_in nodes child ≡ true
      → count_of rows child ≡ 1
      → slice_index counts.holders.items child ≡ directory
  pub total : counts.total ≡ len rows

-- Each of so many numbers has its counts, and maybe further ones.
pub record IsWide (counts : Counts) (places : ℕ) : Type 0 where
  pub named : places ≤ length counts.named.items
  pub inside : places ≤ length counts.inside.items
  pub directories : places ≤ length counts.directories.items
  pub holders : places ≤ length counts.holders.items

-- The counts for a directory and a child can be stored, and raised by one.
pub record MayRise (counts : Counts) (directory child : ℕ) : Type 0 where
  pub named : child < length counts.named.items
  pub inside : directory < length counts.inside.items
  pub directories : directory < length counts.directories.items
  pub holders : child < length counts.holders.items
  pub total : counts.total + 1 < 2 ^ 32
  pub named_small : slice_index counts.named.items child + 1 < 2 ^ 32
  pub inside_small : slice_index counts.inside.items directory + 1 < 2 ^ 32
  pub directories_small : slice_index counts.directories.items directory + 1 < 2 ^ 32

-- The counts for a directory and a child can be stored, and lowered by one, that of directories where the child is one.
pub record MayFall (counts : Counts) (directory child : ℕ) (is_directory : Bool) : Type 0 where
  pub named : child < length counts.named.items
  pub inside : directory < length counts.inside.items
  pub directories : directory < length counts.directories.items
  pub total : 0 < counts.total
  pub named_some : 0 < slice_index counts.named.items child
  pub inside_some : 0 < slice_index counts.inside.items directory
  pub directories_some : one_if is_directory < slice_index counts.directories.items directory + 1
