-- What a commit gives up.
use Rattle.std.specs.Prelude.{◌⊎◌, ◌↔◌, ℕ, ◌==◌, List, [], map, Contains}
use Rattle.std.specs.List.{find}
use Rattle.std.specs.Option.{option_map_or}
use Rattle.std.specs.List.Sorted.{IsStrictlyIncreasing}
use Rattle.sfs_image.specs.Inode.{Table}
use Rattle.block_map.specs.Kept.{pointer_kept}
use Rattle.block_map.specs.Remap.{IsGivenUp}
use Rattle.block_map.specs.RemapLaws.{IsHeld}
use Rattle.disk_change.specs.Built.{rewrite_in}
use Rattle.disk_change.specs.Planned.{Planned}
use Rattle.disk_change.specs.Seated.{Seated}
use Rattle.disk_nodes.specs.declared.old.OldEntry.{OldEntry}

-- One of these nodes gives up a block at a place that is rewritten of it.
pub record IsLeftBySeat (seats : List Seated) (block : ℕ) : Type 0 where
  pub seat : Seated
  pub one : Contains seats seat
  pub place : ℕ
  pub left : IsGivenUp (rewrite_in seat) block place

-- One of these nodes, which lose their inodes, holds a block.
pub record IsLeftByGone (gone : List OldEntry) (block : ℕ) : Type 0 where
  pub entry : OldEntry
  pub one : Contains gone entry
  pub held : IsHeld (pointer_kept entry.old.kept.inode entry.old.kept.tables) block

-- The blocks that a commit gives up, ascending: what its nodes give up, and all blocks of those that lose their inodes.
pub record AreBlocksLeft (change : Planned) (blocks : List ℕ) : Type 0 where
  pub ascending : IsStrictlyIncreasing blocks
  pub each : (block : ℕ) → Contains blocks block ↔ (IsLeftBySeat change.seats block ⊎ IsLeftByGone change.gone block)

-- the number of an entry's inode
abbrev pub entry_number : OldEntry → ℕ
entry_number entry = entry.old.number

-- The inodes that a commit gives up, ascending: those of the nodes that lose them.
pub record AreInodesLeft (change : Planned) (inodes : List ℕ) : Type 0 where
  pub ascending : IsStrictlyIncreasing inodes
  pub each : (inode : ℕ) → Contains inodes inode ↔ Contains (map entry_number change.gone) inode

-- the pointers of the indirect block of a place
abbrev pub pointers_of_place : List Table → ℕ → List ℕ
pointers_of_place tables k = option_map_or (λ table. table.pointers) (find (λ table. table.place == k) tables) []
