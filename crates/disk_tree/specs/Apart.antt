-- Blocks that are held once: a mark for each block that was met.
use Rattle.std.specs.Prelude.{◌≡◌, ◌≢◌, ◌⊎◌, ℕ, ◌<◌, Bool, true, false, List, length, slice_index, slice_index_or, Option, None, Some}
use Rattle.std.specs.Option.{option_map_or}
use Rattle.sfs_image.specs.Inode.{Inode, Table}
use Rattle.sfs_image.specs.Seen.{PLACES}
use Rattle.sfs_base.specs.Lists.{Roomy}
use Rattle.block_map.specs.Kept.{pointer_kept}
use Rattle.disk_tree.specs.Gathered.{tables_at}
use Rattle.disk_tree.specs.Inodes.{inode_at}

-- the pointer at an entry of an indirect block, and 0 where that is missing
abbrev pub entry_kept : ℕ → Option Table → ℕ
entry_kept entry found = option_map_or (λ table. slice_index table.pointers entry) found 0

-- whether a block has a mark
abbrev pub is_marked : List Bool → ℕ → Bool
is_marked held block = slice_index_or held block false

-- One of the first n of some pointers names a block that has a mark already, or that an earlier one of them names.
pub record Meets (held : List Bool) (pointers : ℕ → ℕ) (n : ℕ) : Type 0 where
  pub at : ℕ
  pub within : at < n
  pub there : pointers at ≢ 0
  pub before : (is_marked held (pointers at) ≡ true) ⊎ ((earlier : ℕ) × (earlier < at) × (pointers earlier ≡ pointers at))

-- Each of the first n of some pointers that is not 0 names a block without a mark, each another, and these have their marks then.
pub record MarksEach (old new : List Bool) (pointers : ℕ → ℕ) (n : ℕ) : Type 0 where
  pub size : length new ≡ length old
  pub fresh : (k : ℕ) → k < n → pointers k ≢ 0 → is_marked old (pointers k) ≡ false
  pub once : (k earlier : ℕ) → k < n → earlier < k → pointers k ≢ 0 → pointers earlier ≢ pointers k
  pub keeps : (block : ℕ) → is_marked old block ≡ true → is_marked new block ≡ true
  pub marks : (k : ℕ) → k < n → pointers k ≢ 0 → is_marked new (pointers k) ≡ true
  pub only : (block : ℕ) → is_marked new block ≡ true → (is_marked old block ≡ true) ⊎ ((k : ℕ) × (k < n) × (pointers k ≢ 0) × (pointers k ≡ block))

-- what is answered after the first n of some pointers
abbrev pub AnswersMarks : List Bool → List Bool → (ℕ → ℕ) → ℕ → Bool → Type 0
AnswersMarks old new pointers n true = Meets old pointers n
AnswersMarks old new pointers n false = MarksEach old new pointers n

-- the pointer at a place of the inode of a number, by what is kept
abbrev pub pointer_in : List Inode → List (Roomy Table) → ℕ → ℕ → ℕ
pointer_in inodes tables i place = pointer_kept (inode_at inodes i) (tables_at tables i) place

-- The first inodes hold each block once, and exactly the blocks that they hold have a mark.
pub record HoldOnce (inodes : List Inode) (tables : List (Roomy Table)) (n : ℕ) (held : List Bool) : Type 0 where
  pub below : (i j p q : ℕ) → i < n → j < i → p < PLACES → q < PLACES → pointer_in inodes tables i p ≢ 0
      → pointer_in inodes tables j q ≢ pointer_in inodes tables i p
  pub before : (i p q : ℕ) → i < n → q < p → p < PLACES → pointer_in inodes tables i p ≢ 0 → pointer_in inodes tables i q ≢ pointer_in inodes tables i p
  pub marks : (i p : ℕ) → i < n → p < PLACES → pointer_in inodes tables i p ≢ 0 → is_marked held (pointer_in inodes tables i p) ≡ true
  pub only : (block : ℕ) → is_marked held block ≡ true → (i : ℕ) × (p : ℕ) × (i < n) × (p < PLACES) × (pointer_in inodes tables i p ≡ block)

-- An inode is the first that holds a block twice, or one that an inode below it holds.
pub record SharesFirst (inodes : List Inode) (tables : List (Roomy Table)) (i : ℕ) : Type 0 where
  pub within : i < length inodes
  pub marked : List Bool
  pub lesser : HoldOnce inodes tables i marked
  pub meets : Meets marked (pointer_in inodes tables i) PLACES

-- what is found of blocks that are held twice
abbrev pub FindsShared : List Inode → List (Roomy Table) → Option ℕ → Type 0
FindsShared inodes tables None = (marked : List Bool) × HoldOnce inodes tables (length inodes) marked
FindsShared inodes tables (Some i) = SharesFirst inodes tables i
