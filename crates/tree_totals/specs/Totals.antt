-- How much a tree has.
use Rattle.std.specs.Prelude.{ℕ, zero, suc, ◌+◌, ◌^◌, length, if◌then◌else◌}
use Rattle.std.specs.FinMap.{len}
use Rattle.tree_laws.specs.Tree.{TreeState, bytes_of, is_alive, is_directory, names_of}

-- the sum of what each number below one has
unfoldable pub sum_below : (ℕ → ℕ) → ℕ → ℕ
sum_below has zero = 0
sum_below has (suc number) = sum_below has number + has number

-- how many rows a node has: a directory those in it, and else none
abbrev pub rows_in : TreeState → ℕ → ℕ
rows_in tree node = if is_directory tree node then len (names_of node tree.rows) else 0

-- how many bytes a live node has
abbrev pub live_bytes : TreeState → ℕ → ℕ
live_bytes tree node = if is_alive tree node then length (bytes_of tree node) else 0

-- the numbers of nodes lie below 2^32
abbrev pub NUMBERS : ℕ
NUMBERS = 2 ^ 32

-- the rows of all directories of a tree
abbrev pub total_rows : TreeState → ℕ
total_rows tree = sum_below (rows_in tree) NUMBERS

-- the bytes of all its live files
abbrev pub total_bytes : TreeState → ℕ
total_bytes tree = sum_below (live_bytes tree) NUMBERS

-- how many bytes a file has at most
abbrev pub LONGEST_FILE : ℕ
LONGEST_FILE = 67551232
