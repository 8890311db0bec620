-- What an fsync changes in a file: its size, and the blocks that were touched.
use Rattle.std.specs.Prelude.{◌≡◌, ℕ, ◌*◌, nat_le, Bool, false, List, ◌++◌, length, map, filter, take, drop}
use Rattle.std.specs.List.{range_with_len}
use Rattle.std.specs.Option.{option_map_or}
use Rattle.sfs_base.specs.declared.numbers.NodeId.{NodeId}
use Rattle.sfs_base.specs.declared.numbers.Stamp.{Stamp}
use Rattle.sfs_image.specs.Bytes.{zeros}
use Rattle.image_laws.specs.Stands.{BLOCK_BYTES}
use Rattle.mem_files.specs.File.{File, mark_of, room}
use Rattle.disk_change.specs.declared.files.FileChange.{FileChange}
use Rattle.disk_change.specs.declared.pages.Page.{Page}

-- the bytes of a block of a file, with zeros behind the file's end
abbrev pub block_bytes : List ℕ → ℕ → List ℕ
block_bytes bytes block = take BLOCK_BYTES (drop (BLOCK_BYTES * block) bytes ++ zeros BLOCK_BYTES)

-- the page of a block
abbrev pub page_of : List ℕ → ℕ → Page
page_of bytes block = record { block = block; bytes = block_bytes bytes block }

-- whether a block was touched from a stamp on: its mark is the stamp at least
abbrev pub is_marked_from : ℕ → File → ℕ → Bool
is_marked_from cut file block = option_map_or (λ (mark : Stamp). nat_le cut mark.0) (mark_of file block) false

-- the pages of the blocks that were touched from a stamp on, ascending
abbrev pub pages_from : ℕ → File → List Page
pages_from cut file = map (page_of file.bytes) (filter (is_marked_from cut file) (range_with_len 0 (room file)))

-- What a commit changes in a file: it gets its size, and the blocks that were touched from its cut on are rewritten.
pub record IsFileChange (node : NodeId) (cut : ℕ) (file : File) (change : FileChange) : Type 0 where
  pub own : change.node ≡ node
  pub size : change.size ≡ length file.bytes
  pub pages : change.pages.items ≡ pages_from cut file
