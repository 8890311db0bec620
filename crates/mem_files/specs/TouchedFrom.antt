-- What of a file was touched from a stamp on.
use Rattle.std.specs.Prelude.{◌≡◌, ℕ, ◌*◌, nat_le, List, ◌++◌, length, filter_map, take, drop, replicate, Option, None, Some, if◌then◌else◌}
use Rattle.std.specs.List.{range_with_len}
use Rattle.sfs_base.specs.declared.numbers.Stamp.{Stamp}
use Rattle.mem_files.specs.declared.touched.TouchedBlock.{TouchedBlock}
use Rattle.mem_files.specs.declared.touched.TouchedFile.{TouchedFile}
use Rattle.mem_files.specs.File.{File, mark_of, room}

-- the bytes of a block, with zeros behind the file's end
abbrev pub padded_block : List ℕ → ℕ → List ℕ
padded_block bytes block = take 4096 (drop (4096 * block) bytes ++ replicate 4096 0)

-- a block with its mark, where it has one that is a stamp at least
abbrev pub touched_since : ℕ → List ℕ → ℕ → Option Stamp → Option TouchedBlock
touched_since cut bytes block None = None
touched_since cut bytes block (Some mark) =
    if nat_le cut mark.0 then Some (record { block = block; mark = mark; bytes = padded_block bytes block }) else None

-- a block of a file, where it was touched from a stamp on
abbrev pub touched_at : ℕ → File → ℕ → Option TouchedBlock
touched_at cut file block = touched_since cut file.bytes block (mark_of file block)

-- What was touched of a file from a stamp on: it has its size, and the blocks whose mark is the stamp at least, ascending.
pub record IsTouchedFrom (cut : ℕ) (file : File) (touched : TouchedFile) : Type 0 where
  pub size : touched.size ≡ length file.bytes
  pub blocks : touched.blocks.items ≡ filter_map (touched_at cut file) (range_with_len 0 (room file))
