-- A file in memory: its bytes, and for each block the stamp of the last change that touched it.
use Rattle.std.specs.Prelude.{ℕ, ◌+◌, ◌/◌, ◌==◌, nat_le, nat_lt, ◌&&◌, Bool, List, length, Option, None, slice_index_or, if◌then◌else◌}
use Rattle.sfs_base.specs.declared.numbers.Stamp.{Stamp}
use Rattle.mem_files.specs.declared.touched.Touched.{Touched}

-- the bytes, and the marks of the first blocks
pub record File : Type 0 where
  pub bytes : List ℕ
  pub marks : List (Option Stamp)

-- the mark of a block
abbrev pub mark_of : File → ℕ → Option Stamp
mark_of file block = slice_index_or file.marks block None

-- of how many blocks a mark can be set without memory
abbrev pub room : File → ℕ
room file = length file.marks

-- the blocks that some bytes overlap, from one place to below another
abbrev pub blocks_of : ℕ → ℕ → Touched
blocks_of first end = record { first = first / 4096; end = (end + 4095) / 4096 }

-- no blocks
abbrev pub no_blocks : Touched
no_blocks = record { first = 0; end = 0 }

-- the blocks that a write touches: those that it overlaps
abbrev pub write_touches : ℕ → ℕ → Touched
write_touches at count = if count == 0 then no_blocks else blocks_of at (at + count)

-- the blocks that a truncation touches: those from the new size on that had bytes
abbrev pub trunc_touches : ℕ → ℕ → Touched
trunc_touches size before = if nat_lt size before then blocks_of size before else no_blocks

-- the block is one of these
abbrev pub is_touched : Touched → ℕ → Bool
is_touched touched block = nat_le touched.first block && nat_lt block touched.end
