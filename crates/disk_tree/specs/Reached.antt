-- Which directories a walk from the root reaches.
use Rattle.std.specs.Prelude.{◌≡◌, ◌⊎◌, ℕ, suc, ◌+◌, ◌<◌, Bool, true, false, List, [], ◌∷◌, length, slice_index, slice_index_or, slice_set, ◌++◌}
use Rattle.sfs_base.specs.Lists.{Roomy}
use Rattle.sfs_image.specs.Slot.{Row}
use Rattle.tree_laws.specs.Tree.{is_directory_kind}
use Rattle.disk_tree.specs.Apart.{is_marked}
use Rattle.disk_tree.specs.Rows.{NO_ROW, rows_of_inode}

-- the row of a place
abbrev pub row_at : List Row → ℕ → Row
row_at rows k = slice_index_or rows k NO_ROW

-- a walk from the root reaches the root, and each directory that a row of a reached one names
pub data IsReachedFromRoot (rows : List (Roomy Row)) : ℕ → Type 0 where
  root : IsReachedFromRoot rows 0
  named : (directory k : ℕ) → k < length (rows_of_inode rows directory) → is_directory_kind (row_at (rows_of_inode rows directory) k).kind ≡ true
      → IsReachedFromRoot rows directory
      → IsReachedFromRoot rows (row_at (rows_of_inode rows directory) k).inode

-- each directory that one of the first n rows names has a mark
abbrev pub AreMarked : List Bool → List Row → ℕ → Type 0
AreMarked reached rows n = (k : ℕ) → k < n → is_directory_kind (row_at rows k).kind ≡ true → is_marked reached (row_at rows k).inode ≡ true

-- Exactly the directories that a walk from the root reaches have marks.
pub record MarksReached (rows : List (Roomy Row)) (count : ℕ) (reached : List Bool) : Type 0 where
  pub size : length reached ≡ count
  pub root : is_marked reached 0 ≡ true
  pub sound : (i : ℕ) → is_marked reached i ≡ true → IsReachedFromRoot rows i
  pub closed : (i : ℕ) → is_marked reached i ≡ true → AreMarked reached (rows_of_inode rows i) (length (rows_of_inode rows i))

-- how many have no mark
abbrev pub unmarked : List Bool → ℕ
unmarked [] = 0
unmarked (true ∷ reached) = unmarked reached
unmarked (false ∷ reached) = suc (unmarked reached)

-- a number is one of a list
abbrev pub IsPending : List ℕ → ℕ → Type 0
IsPending pending i = (k : ℕ) × (k < length pending) × (slice_index pending k ≡ i)

-- A row is passed over: it names no directory, or one with a mark.
pub record Passes (row : Row) (old new : List Bool) (pending now : List ℕ) : Type 0 where
  pub known : is_directory_kind row.kind ≡ true → is_marked old row.inode ≡ true
  pub marks : new ≡ old
  pub pending_same : now ≡ pending

-- A row names a directory without a mark, which gets one and is pending then.
pub record Marks (row : Row) (old new : List Bool) (pending now : List ℕ) : Type 0 where
  pub kind : is_directory_kind row.kind ≡ true
  pub fresh : is_marked old row.inode ≡ false
  pub marks : new ≡ slice_set old row.inode true
  pub pending_more : now ≡ pending ++ row.inode ∷ []

-- What a visit of the first n rows does: each directory that they name has a mark then, and those that had none are pending.
pub record Visits (rows : List Row) (n : ℕ) (old new : List Bool) (pending now : List ℕ) : Type 0 where
  pub size : length new ≡ length old
  pub keeps : (i : ℕ) → is_marked old i ≡ true → is_marked new i ≡ true
  pub marks : AreMarked new rows n
  pub only : (i : ℕ) → is_marked new i ≡ true
      → (is_marked old i ≡ true) ⊎ ((k : ℕ) × (k < n) × (is_directory_kind (row_at rows k).kind ≡ true) × ((row_at rows k).inode ≡ i))
  pub stay : (i : ℕ) → IsPending pending i → IsPending now i
  pub fresh : (i : ℕ) → is_marked new i ≡ true → (is_marked old i ≡ true) ⊎ IsPending now i
  pub from : (i : ℕ) → IsPending now i → IsPending pending i ⊎ (is_marked new i ≡ true)
  pub work : unmarked new + length now ≡ unmarked old + length pending

-- What is known between two visits: what has a mark is reached, and is pending or was visited.
pub record Frontier (rows : List (Roomy Row)) (count : ℕ) (reached : List Bool) (pending : List ℕ) : Type 0 where
  pub size : length reached ≡ count
  pub root : is_marked reached 0 ≡ true
  pub sound : (i : ℕ) → is_marked reached i ≡ true → IsReachedFromRoot rows i
  pub visited : (i : ℕ) → is_marked reached i ≡ true → IsPending pending i ⊎ AreMarked reached (rows_of_inode rows i) (length (rows_of_inode rows i))
  pub marked : (i : ℕ) → IsPending pending i → is_marked reached i ≡ true
