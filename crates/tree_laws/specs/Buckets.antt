-- Rows in buckets, eight to a directory.
use Rattle.std.specs.Prelude.{◌≡◌, ℕ, suc, ◌/◌, ◌%◌, ◌≤◌, Bool, List, [], ◌∷◌, ◌++◌, ◌*◌, length, map, IsSome, slice_index_or, ◌==◌}
use Rattle.std.specs.FinMap.{FinMap, entries, from_entries, empty, get, len}
use Rattle.sfs_base.specs.Name.{bucket}
use Rattle.tree_laws.specs.Order.{name_cmp, Key, key_cmp}

-- the rows of one directory
abbrev pub Bucket : Type 0
Bucket = FinMap name_cmp ℕ

-- the bucket at a place, and no rows past the last
abbrev pub bucket_at : List Bucket → ℕ → Bucket
bucket_at buckets place = slice_index_or buckets place empty

-- a row with its directory
abbrev pub in_directory : ℕ → List ℕ × ℕ → Key × ℕ
in_directory directory row = ((directory, row.0), row.1)

-- the rows of the buckets, the first of which is this one: eight buckets make a directory
abbrev pub rows_from : ℕ → List Bucket → List (Key × ℕ)
rows_from place [] = []
rows_from place (b ∷ buckets) = map (in_directory (place / 8)) (entries b) ++ rows_from (suc place) buckets

-- all rows of the buckets
abbrev pub joined : List Bucket → FinMap key_cmp ℕ
joined buckets = from_entries (rows_from 0 buckets)

-- whether a row stands in this directory
abbrev pub stands_in : ℕ → Key × ℕ → Bool
stands_in directory row = row.0.0 == directory

-- each name lies in its bucket, and no bucket is overfull
pub record IsPlaced (buckets : List Bucket) : Type 0 where
  pub placed : (place : ℕ) (name : List ℕ) → IsSome (get (bucket_at buckets place) name) → bucket name ≡ place % 8
  pub full : (place : ℕ) → len (bucket_at buckets place) ≤ 4096

-- each directory has eight buckets, with each name in its own
pub record IsBuilt (buckets : List Bucket) : Type 0 where
  pub eight : length buckets ≡ 8 * (length buckets / 8)
  pub rows : IsPlaced buckets
