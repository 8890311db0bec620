-- The owners of blocks and the files that a row names, by what was read of the inodes.
use Rattle.std.specs.Prelude.{◌≡◌, ◌≢◌, ℕ, ◌<◌, ◌==◌, ◌&&◌, not, All, count_by, filter_map, List, length, slice_index, slice_index_or, Option, Some, None, option_map, if◌then◌else◌, Bool}
use Rattle.std.specs.List.{range_with_len}
use Rattle.sfs_base.specs.Lists.{Roomy}
use Rattle.sfs_image.specs.Inode.{Inode, Table}
use Rattle.sfs_image.specs.Seen.{PLACES}
use Rattle.keyed_list.specs.Ascending.{AscendBy, item_with}
use Rattle.disk_tree.specs.Apart.{pointer_in}
use Rattle.disk_tree.specs.Inodes.{inode_at}
use Rattle.image_check.specs.Entries.{owner_block}
use Rattle.image_check.specs.declared.certificate.Owner.{Owner}

-- the block that a pointer names, and none for 0
abbrev pub pointed : ℕ → Option ℕ
pointed pointer = if pointer == 0 then None else Some pointer

-- One of the first n inodes holds a block: a pointer at one of its places names it.
pub record IsHeldAt (inodes : List Inode) (tables : List (Roomy Table)) (n block i : ℕ) : Type 0 where
  pub within : i < n
  pub place : ℕ
  pub low : place < PLACES
  pub names : pointer_in inodes tables i place ≡ block
  pub there : block ≢ 0

-- no other of the first n inodes holds the block at a place of an inode
abbrev pub HoldsAlone : List Inode → List (Roomy Table) → ℕ → ℕ → ℕ → Type 0
HoldsAlone inodes tables n i place =
    (j other : ℕ) → j < n → other < PLACES → pointer_in inodes tables j other ≡ pointer_in inodes tables i place → j ≡ i

-- At each block that one of the first n inodes holds alone stands this inode, and nothing stands at any that none holds.
pub record HasOwners (inodes : List Inode) (tables : List (Roomy Table)) (n : ℕ) (owners : List (Option ℕ)) : Type 0 where
  pub has : (i place : ℕ) → i < n → place < PLACES → pointer_in inodes tables i place ≢ 0 → HoldsAlone inodes tables n i place
      → slice_index_or owners (pointer_in inodes tables i place) None ≡ Some i
  pub only : (block i : ℕ) → slice_index_or owners block None ≡ Some i → IsHeldAt inodes tables n block i

-- the entry of a block, if it has an owner
abbrev pub entry_of : ℕ → Option ℕ → Option Owner
entry_of block owner = option_map (λ i. record { block = block; inode = i }) owner

-- the entry of a block at which an inode stands
abbrev pub owner_in : List (Option ℕ) → ℕ → Option Owner
owner_in owners block = entry_of block (slice_index_or owners block None)

-- the entries of the first n blocks
unfoldable pub owners_in : List (Option ℕ) → ℕ → List Owner
owners_in owners n = filter_map (owner_in owners) (range_with_len 0 n)

-- These are owners, ascending by block: each block that an inode holds alone has its entry, and each entry is of an inode that holds
-- the block.
pub record AreGatheredOwners (inodes : List Inode) (tables : List (Roomy Table)) (owners : List Owner) : Type 0 where
  pub ascend : AscendBy owner_block owners
  pub each : (i place : ℕ) → i < length inodes → place < PLACES → pointer_in inodes tables i place ≢ 0
      → HoldsAlone inodes tables (length inodes) i place
      → item_with owner_block (pointer_in inodes tables i place) owners ≡ Some (record { block = pointer_in inodes tables i place; inode = i })
  pub right : All (λ o. IsHeldAt inodes tables (length inodes) o.block o.inode) owners

-- whether an inode is a file that a row names, by the numbers of rows that name each inode
abbrev pub is_counted_file : List Inode → List ℕ → ℕ → Bool
is_counted_file inodes named i = (inode_at inodes i).kind == 1 && not (slice_index named i == 0)

-- how many of the first n inodes are
unfoldable pub files_counted : List Inode → List ℕ → ℕ → ℕ
files_counted inodes named n = count_by (is_counted_file inodes named) (range_with_len 0 n)
