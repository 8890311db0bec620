-- What no change of a file touches stays, block by block; each law is proved by a function of the module laws.
use Rattle.std.specs.Prelude.{◌≡◌, ℕ, ◌+◌, ◌*◌, ◌<◌, false, List, length, slice_index}
use Rattle.sfs_base.specs.Files.{resized, written}
use Rattle.mem_files.specs.File.{write_touches, trunc_touches, is_touched}

-- the byte of a block at a place in it; past the end there are zeros
abbrev pub byte_in : List ℕ → ℕ → ℕ → ℕ
byte_in bytes block place = slice_index bytes (4096 * block + place)

-- A block that a write does not touch has the bytes that it had.
abbrev pub WritesStayInside : Type 0
WritesStayInside =
    (at : ℕ) (from bytes : List ℕ) (block place : ℕ) → place < 4096 → is_touched (write_touches at (length from)) block ≡ false
    → byte_in (written at from bytes) block place ≡ byte_in bytes block place

-- A block that a truncation does not touch has the bytes that it had.
abbrev pub TruncationsStayInside : Type 0
TruncationsStayInside =
    (size : ℕ) (bytes : List ℕ) (block place : ℕ) → place < 4096 → is_touched (trunc_touches size (length bytes)) block ≡ false
    → byte_in (resized size bytes) block place ≡ byte_in bytes block place
