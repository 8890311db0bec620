-- Which places of an inode a commit rewrites, and how many fresh blocks it needs.
use Rattle.std.specs.Prelude.{◌≡◌, ◌≢◌, ℕ, ◌+◌, ◌-◌, ◌*◌, ◌/◌, ◌%◌, ◌<◌, ◌==◌, ◌&&◌, ◌||◌, nat_lt, nat_le, Bool, true, false, not, List, length, count_by, slice_get, slice_index, Some, if◌then◌else◌, ◌≤◌, is_none, drop, bytes_eq, Option}
use Rattle.std.specs.List.{range_with_len, list_any, list_all}
use Rattle.std.specs.Cmp.Lexicographic.{pointwise}
use Rattle.std.specs.Option.{option_map_or, option_eq}
use Rattle.sfs_image.specs.Bytes.{nonzero_in}
use Rattle.sfs_image.specs.Slot.{Row, kind_byte}
use Rattle.sfs_image.specs.Seen.{Seen, SeenInodes, FILE_BLOCKS, PLACES}
use Rattle.image_laws.specs.Slots.{BLOCK_SLOTS, at_length, blocks_up_to_last}
use Rattle.image_laws.specs.Stands.{BLOCK_BYTES}
use Rattle.image_laws.specs.Commit.{Commit, seen_before}

-- What a commit rewrites of an inode: how many blocks its size then has, which blocks are rewritten, which of them are then all zeros,
-- and the block that stood at each place.
pub record Rewrite : Type 0 where
  pub blocks : ℕ
  pub is_rewritten : ℕ → Bool
  pub is_zero : ℕ → Bool
  pub pointers : ℕ → ℕ

-- a rewritten block that is not all zeros takes a fresh block
abbrev pub takes_data : Rewrite → ℕ → Bool
takes_data rewrite n = rewrite.is_rewritten n && not (rewrite.is_zero n)

-- whether the pointer of a block changes: a rewritten one gets a fresh block, or becomes a hole where it was none
abbrev pub changes_pointer : Rewrite → ℕ → Bool
changes_pointer rewrite n = rewrite.is_rewritten n && (not (rewrite.is_zero n) || not (rewrite.pointers n == 0))

-- whether a block has a pointer other than 0 afterwards
abbrev pub has_pointer : Rewrite → ℕ → Bool
has_pointer rewrite n = if rewrite.is_rewritten n then not (rewrite.is_zero n) else not (rewrite.pointers n == 0)

-- the first block whose pointer an indirect block has: the first 108 have theirs in the record, and each indirect block has 1,024
abbrev pub first_block : ℕ → ℕ
first_block table = 108 + 1024 * table

-- the blocks whose pointers an indirect block has
unfoldable pub table_blocks : ℕ → List ℕ
table_blocks table = range_with_len (first_block table) 1024

-- an indirect block is rewritten where one of its pointers changes, or where it is there and covers no byte below the size
abbrev pub rewrites_table : Rewrite → ℕ → Bool
rewrites_table rewrite table =
    list_any (changes_pointer rewrite) (table_blocks table)
    || (not (rewrite.pointers (FILE_BLOCKS + table) == 0) && nat_le rewrite.blocks (first_block table))

-- whether an indirect block has a pointer other than 0 afterwards
abbrev pub table_has_pointer : Rewrite → ℕ → Bool
table_has_pointer rewrite table = list_any (has_pointer rewrite) (table_blocks table)

-- a rewritten indirect block that has such a pointer takes a fresh block
abbrev pub takes_table : Rewrite → ℕ → Bool
takes_table rewrite table = rewrites_table rewrite table && table_has_pointer rewrite table

-- whether a place takes a fresh block: that of a block, or behind these that of an indirect block
abbrev pub takes_place : Rewrite → ℕ → Bool
takes_place rewrite place = if nat_lt place FILE_BLOCKS then takes_data rewrite place else takes_table rewrite (place - FILE_BLOCKS)

-- the block at a place afterwards, where these are the fresh ones
abbrev pub pointer_after : Rewrite → (ℕ → ℕ) → ℕ → ℕ
pointer_after rewrite fresh place =
    if nat_lt place FILE_BLOCKS
    then (if rewrite.is_rewritten place then (if rewrite.is_zero place then 0 else fresh place) else rewrite.pointers place)
    else (if rewrites_table rewrite (place - FILE_BLOCKS) then (if table_has_pointer rewrite (place - FILE_BLOCKS) then fresh place else 0)
    else rewrite.pointers place)

-- the places of several inodes in one row: those of the first, then those of the second, and so on
abbrev pub place_in_row : ℕ → ℕ → ℕ
place_in_row inode place = PLACES * inode + place

-- whether a place in the row takes a fresh block
abbrev pub takes_in_row : List Rewrite → ℕ → Bool
takes_in_row rewrites p = option_map_or (λ rewrite. takes_place rewrite (p % PLACES)) (slice_get rewrites (p / PLACES)) false

-- how many places before this one take a fresh block
unfoldable pub rank : (ℕ → Bool) → ℕ → ℕ
rank takes p = count_by takes (range_with_len 0 p)

-- how many fresh blocks a commit needs
abbrev pub blocks_needed : List Rewrite → ℕ
blocks_needed rewrites = rank (takes_in_row rewrites) (PLACES * length rewrites)

-- the block that a grant has for a place in the row
abbrev pub granted_block : List Rewrite → List ℕ → ℕ → ℕ
granted_block rewrites grant p = slice_index grant (rank (takes_in_row rewrites) p)

-- a block's slots
abbrev pub slots_in_block : ℕ → List (Option Row) → List (Option Row)
slots_in_block n slots = at_length BLOCK_SLOTS (drop (BLOCK_SLOTS * n) slots)

-- whether two rows are one
abbrev pub same_row : Row → Row → Bool
same_row row other = row.inode == other.inode && (kind_byte row.kind == kind_byte other.kind && bytes_eq row.name other.name)

-- whether two lists of slots are one
abbrev pub same_slots : List (Option Row) → List (Option Row) → Bool
same_slots slots others = pointwise (option_eq same_row) slots others

-- a block of a directory is rewritten where one of its slots changed, or where it is there and lies behind the last one with a row
abbrev pub rewrites_slots : Seen → List (Option Row) → ℕ → Bool
rewrites_slots old slots n =
    not (same_slots (slots_in_block n old.slots) (slots_in_block n slots)) || (nat_le (blocks_up_to_last slots) n && not (old.blocks n == 0))

-- what a commit rewrites of a directory that gets these slots
abbrev pub directory_rewrite : Seen → List (Option Row) → Rewrite
directory_rewrite old slots = record {
  blocks = blocks_up_to_last slots;
  is_rewritten = rewrites_slots old slots;
  is_zero = λ n. list_all is_none (slots_in_block n slots);
  pointers = old.blocks;
}

-- how many blocks bytes fill
abbrev pub blocks_filled : List ℕ → ℕ
blocks_filled bytes = (length bytes + (BLOCK_BYTES - 1)) / BLOCK_BYTES

-- what a commit rewrites of a file that gets these bytes: the blocks that a change touched
abbrev pub file_rewrite : (ℕ → Bool) → Seen → List ℕ → Rewrite
file_rewrite is_touched old bytes = record {
  blocks = blocks_filled bytes;
  is_rewritten = is_touched;
  is_zero = λ n. is_none (nonzero_in (BLOCK_BYTES * n) BLOCK_BYTES bytes);
  pointers = old.blocks;
}

-- A block of a directory that is not rewritten has its slots as before, and, behind the last block with a row, is not there.
pub record KeepsBlock (old : Seen) (slots : List (Option Row)) (n : ℕ) : Type 0 where
  pub slots_kept : slots_in_block n slots ≡ slots_in_block n old.slots
  pub gone : blocks_up_to_last slots ≤ n → old.blocks n ≡ 0

-- Ranks tell the places that take a block apart, and stay below the need.
pub record RanksServe (takes : ℕ → Bool) : Type 0 where
  pub below : (p n : ℕ) → takes p ≡ true → p < n → rank takes p < rank takes n
  pub once : (p q : ℕ) → takes p ≡ true → takes q ≡ true → rank takes p ≡ rank takes q → p ≡ q

-- A grant serves: it has the blocks that are needed, each once, and none of them is held.
pub record GrantServes (image : SeenInodes) (rewrites : List Rewrite) (grant : List ℕ) : Type 0 where
  pub enough : length grant ≡ blocks_needed rewrites
  pub once : (j k : ℕ) → j < length grant → k < length grant → slice_index grant j ≡ slice_index grant k → j ≡ k
  pub free : (k i place : ℕ) → k < length grant → i < image.count → place < PLACES → (image.seen i).blocks place ≢ slice_index grant k

-- the inode of a commit at a place of the list of its inodes, with what is rewritten of it
pub record IsListed (inodes : List ℕ) (rewrites : List Rewrite) (i m : ℕ) (rewrite : Rewrite) : Type 0 where
  pub inode : slice_get inodes m ≡ Some i
  pub rewritten : slice_get rewrites m ≡ Some rewrite

-- A commit takes its blocks from a grant by their ranks: its inodes are listed, each once, with what is rewritten of each.
pub record TakesByRank (commit : Commit) (image next : SeenInodes) (inodes : List ℕ) (rewrites : List Rewrite) (grant : List ℕ) : Type 0 where
  pub listed : (node i : ℕ) → commit.after node ≡ Some i → commit.concerns node ≡ true → (m : ℕ) × (rewrite : Rewrite) × IsListed inodes rewrites i m rewrite
  pub once : (m l i : ℕ) → slice_get inodes m ≡ Some i → slice_get inodes l ≡ Some i → m ≡ l
  pub takes : (i m place : ℕ) (rewrite : Rewrite) → IsListed inodes rewrites i m rewrite → place < PLACES → commit.takes i place ≡ takes_place rewrite place
  pub only : (i place : ℕ) → commit.takes i place ≡ true → (m : ℕ) × (rewrite : Rewrite) × IsListed inodes rewrites i m rewrite × (place < PLACES)
  pub fresh : (i m place : ℕ) → slice_get inodes m ≡ Some i → commit.fresh i place ≡ granted_block rewrites grant (place_in_row m place)
  pub before : (node i m place : ℕ) (rewrite : Rewrite) → commit.after node ≡ Some i → IsListed inodes rewrites i m rewrite → place < PLACES
      → rewrite.pointers place ≡ (seen_before commit image node).blocks place
  pub after : (i m place : ℕ) (rewrite : Rewrite) → IsListed inodes rewrites i m rewrite → place < PLACES
      → (next.seen i).blocks place ≡ pointer_after rewrite (commit.fresh i) place
