-- What is whole of the inodes that are read: their records, their indirect blocks, and their blocks.
use Rattle.std.specs.Prelude.{◌≡◌, ℕ, ◌<◌, List, [], length, slice_index_or}
use Rattle.sfs_image.specs.Bytes.{AreBytes, zeros}
use Rattle.sfs_image.specs.Part.{Part, pointer_at, content_at}
use Rattle.sfs_image.specs.Seen.{FILE_BLOCKS, PLACES}
use Rattle.sfs_image.specs.Settled.{settled}
use Rattle.sfs_image.specs.Super.{Layout}

-- A record is whole: it has 512 bytes.
pub record IsWholeRecord (raw : List ℕ) : Type 0 where
  pub long : length raw ≡ 512
  pub bytes : AreBytes raw

-- the first records are whole
abbrev pub WholeRecords : ℕ → List (List ℕ) → Type 0
WholeRecords n records = (i : ℕ) → i < n → IsWholeRecord (slice_index_or records i [])

-- the records that an image settles of the inodes of a layout are whole
abbrev pub AreWholeRecords : Layout → List ℕ → Type 0
AreWholeRecords layout image = (i : ℕ) → i < layout.inodes → IsWholeRecord (settled layout image i)

-- A part was read whole: its record has 512 bytes, it has all its places, at each a block of 4,096 bytes, and a hole reads as zeros.
pub record IsReadWhole (part : Part) : Type 0 where
  pub record_long : length part.raw ≡ 512
  pub record_bytes : AreBytes part.raw
  pub tables : length part.tables ≡ 16
  pub blocks : length part.blocks ≡ FILE_BLOCKS
  pub long : (place : ℕ) → place < PLACES → length (content_at part place) ≡ 4096
  pub holes : (place : ℕ) → place < PLACES → pointer_at part place ≡ 0 → content_at part place ≡ zeros 4096
