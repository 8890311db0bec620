-- The blocks of an inode that a commit rewrites, each with whether it is then all zeros.
use Rattle.std.specs.Prelude.{◌≡◌, ℕ, ◌<◌, List, length, slice_index_or, Option}
use Rattle.keyed_list.specs.Ascending.{AscendBy, item_with}
use Rattle.block_map.specs.declared.changed.ChangedBlock.{ChangedBlock}

-- the block of an item
abbrev pub changed_block : ChangedBlock → ℕ
changed_block one = one.block

-- what is said of a block, where it is rewritten
abbrev pub change_of : List ChangedBlock → ℕ → Option ChangedBlock
change_of changed n = item_with changed_block n changed

-- A place of the list is that of a block.
pub record IsChangeAt (changed : List ChangedBlock) (n place : ℕ) : Type 0 where
  pub within : place < length changed
  pub block : (d : ChangedBlock) → (slice_index_or changed place d).block ≡ n

-- rewritten blocks ascend, and so each stands once
abbrev pub AscendByBlock : List ChangedBlock → Type 0
AscendByBlock changed = AscendBy changed_block changed
