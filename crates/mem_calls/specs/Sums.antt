-- How many rows the buckets of a directory have that a core holds.
use Rattle.std.specs.Prelude.{◌≡◌, ℕ, zero, suc, ◌+◌, ◌<◌, ◌≤◌, true, List, Some, IsSome}
use Rattle.std.specs.Option.{option_map_or}
use Rattle.std.specs.FinMap.{len}
use Rattle.sfs_base.specs.declared.numbers.NodeId.{NodeId}
use Rattle.stamp_table.specs.declared.held.HeldCell.{HeldCell}
use Rattle.mem_values.specs.declared.cell.Cell.{Cell}
use Rattle.mem_values.specs.declared.bucket.Bucket.{Bucket}
use Rattle.mem_calls.specs.Held.{bucket_held, stands_held, HoldsDirectory}

-- the sum of the first of some numbers
abbrev pub sum_until : ℕ → (ℕ → ℕ) → ℕ
sum_until zero f = 0
sum_until (suc n) f = sum_until n f + f n

-- how many rows a bucket has that is held, and how many of them name directories
abbrev pub rows_held : ℕ → List (HeldCell Cell) → NodeId → ℕ → ℕ
rows_held nodes held node number = option_map_or (λ b. len b.rows) (bucket_held nodes held node number) 0

abbrev pub directories_held : ℕ → List (HeldCell Cell) → NodeId → ℕ → ℕ
directories_held nodes held node number = option_map_or (λ b. len b.directories) (bucket_held nodes held node number) 0

-- all buckets of a node are held
abbrev pub HoldsBuckets : ℕ → List (HeldCell Cell) → NodeId → Type 0
HoldsBuckets nodes held node = (number : ℕ) → number < 8 → IsSome (bucket_held nodes held node number)

-- none of them has more rows than a bucket may have
abbrev pub AreSmall : ℕ → List (HeldCell Cell) → NodeId → Type 0
AreSmall nodes held node = (number : ℕ) (b : Bucket) → number < 8 → bucket_held nodes held node number ≡ Some b → (len b.rows ≤ 4096)
    × (len b.directories ≤ 4096)

-- What tells all of a node is held: its first bucket, and where it stands by that the others, else its file.
pub record HoldsNode (nodes : ℕ) (held : List (HeldCell Cell)) (node : NodeId) : Type 0 where
  pub directory : HoldsDirectory nodes held node 0
  pub buckets : node.0 < nodes → stands_held nodes held node 0 ≡ true → HoldsBuckets nodes held node
