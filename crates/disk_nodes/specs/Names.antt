-- Which blocks of a directory have names of one bucket.
use Rattle.std.specs.Prelude.{◌≡◌, ◌≢◌, ℕ, ◌+◌, ◌*◌, ◌%◌, ◌<◌, ◌||◌, ◌==◌, Bool, true, false, List, [], length, fold, replicate, slice_index_or, Option, Some, None}
use Rattle.std.specs.List.{list_any}
use Rattle.sfs_image.specs.Slot.{Row}
use Rattle.disk_nodes.specs.declared.bucket.Bucket.{Bucket}

-- a number for a name
abbrev pub hash_of : List ℕ → ℕ
hash_of name = fold (λ hash byte. (2654435761 * hash + byte) % 4294967291) 0 name

-- in which of so many buckets a name lies
abbrev pub bucket_place : ℕ → List ℕ → ℕ
bucket_place count name = hash_of name % count

-- whether a bucket notes the block of a place, by a number one above it
abbrev pub is_noted : Bucket → ℕ → Bool
is_noted bucket place = list_any (λ note. note == place + 1) bucket.notes

-- whether a bucket tells that the block of a place may have names of it: once it is crowded it tells that of each block
abbrev pub tells : Bucket → ℕ → Bool
tells bucket place = bucket.is_crowded || is_noted bucket place

-- a bucket that tells nothing
abbrev pub crowded : Bucket
crowded = record { notes = replicate 16 0; is_crowded = true }

-- the bucket in which a name lies, and a crowded one where there are none
abbrev pub bucket_with : List Bucket → List ℕ → Bucket
bucket_with buckets name = slice_index_or buckets (bucket_place (length buckets) name) crowded

-- Buckets tell of each row of a block that the block of this place may have its name.
abbrev pub TellOf : List Bucket → ℕ → List (Option Row) → Type 0
TellOf buckets place block = (k : ℕ) (row : Row) → slice_index_or block k None ≡ Some row → tells (bucket_with buckets row.name) place ≡ true

-- They do so of all blocks.
abbrev pub TellOfAll : List Bucket → List (List (Option Row)) → Type 0
TellOfAll buckets blocks = (n : ℕ) → n < length blocks → TellOf buckets n (slice_index_or blocks n [])

-- What buckets tell of blocks they go on telling.
abbrev pub TellOn : List Bucket → List Bucket → Type 0
TellOn before after = (name : List ℕ) (n : ℕ) → tells (bucket_with before name) n ≡ true → tells (bucket_with after name) n ≡ true

-- They do so of all blocks but that of a place.
abbrev pub TellOnBut : ℕ → List Bucket → List Bucket → Type 0
TellOnBut place before after =
    (name : List ℕ) (n : ℕ) → n ≢ place → tells (bucket_with before name) n ≡ true → tells (bucket_with after name) n ≡ true

-- No row of a block lies in the bucket of a name, of so many.
abbrev pub SharesNone : ℕ → List (Option Row) → List ℕ → Type 0
SharesNone count block name = (k : ℕ) (row : Row) → slice_index_or block k None ≡ Some row → bucket_place count row.name ≢ bucket_place count name

-- Buckets note of no row of a block that the block of this place has its name.
abbrev pub NotesNone : List Bucket → ℕ → List (Option Row) → Type 0
NotesNone buckets place block = (k : ℕ) (row : Row) → slice_index_or block k None ≡ Some row → is_noted (bucket_with buckets row.name) place ≡ false

-- Once a block has got other slots, no bucket notes it in which only rows lay that it had.
abbrev pub ForgetsRows : List Bucket → ℕ → List (Option Row) → List (Option Row) → Type 0
ForgetsRows buckets place before after =
    (k : ℕ) (row : Row) → slice_index_or before k None ≡ Some row → SharesNone (length buckets) after row.name
    → is_noted (bucket_with buckets row.name) place ≡ false
