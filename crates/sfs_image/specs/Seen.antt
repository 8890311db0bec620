-- What the part of an image that belongs to one inode shows.
use Rattle.std.specs.Prelude.{ℕ, ◌+◌, List, Option}
use Rattle.sfs_image.specs.Slot.{Row}

-- how many blocks a file has at most: 108 by direct pointers and 16 * 1,024 by indirect ones
abbrev pub FILE_BLOCKS : ℕ
FILE_BLOCKS = 16492

-- how many places an inode has for blocks: those of a file's blocks, and behind them those of its 16 indirect blocks
abbrev pub PLACES : ℕ
PLACES = FILE_BLOCKS + 16

-- What an inode shows: its kind (0 free, 1 file, 2 directory), its link count, its size in bytes; of a directory its slots, block
-- after block; of a file its bytes; and at each place the block that stands there, 0 for none.
pub record Seen : Type 0 where
  pub kind : ℕ
  pub links : ℕ
  pub size : ℕ
  pub slots : List (Option Row)
  pub bytes : List ℕ
  pub blocks : ℕ → ℕ

-- The inodes of an image: how many there are, and what each shows.
pub record SeenInodes : Type 0 where
  pub count : ℕ
  pub seen : ℕ → Seen
