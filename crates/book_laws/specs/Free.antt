-- Which inodes and blocks are free once an fsync is on the disk, and whom a grant then serves.
use Rattle.std.specs.Prelude.{◌≢◌, ◌<◌, ℕ, List, length, slice_index, Contains}
use Rattle.sfs_image.specs.Part.{Part, pointer_at}
use Rattle.sfs_image.specs.Seen.{PLACES}
use Rattle.sfs_image.specs.Super.{Layout}
use Rattle.space_map.specs.Space.{GrantedNumbers}
use Rattle.image_laws.specs.Image.{inodes_shown}
use Rattle.image_laws.specs.Stands.{IsUnused}
use Rattle.commit_laws.specs.CommitOfPlan.{CommitPlan}
use Rattle.flush_laws.specs.Laws.{IsStoreLeft}
use Rattle.flush_laws.specs.Planned.{IsPlannedFsync, GrantsPlan}
use Rattle.flush_laws.specs.Volume.{Volume, OneFsync, parts_left}

-- An inode is free on the disk of a volume, and an fsync that was not granted it leaves these blocks.
pub record IsFreeBeside (volume : Volume) (theirs : OneFsync) (later : ℕ → List ℕ) (i : ℕ) : Type 0 where
  pub planned : IsPlannedFsync volume theirs
  pub left : IsStoreLeft volume theirs later
  pub within : i < volume.layout.inodes
  pub free : IsUnused ((inodes_shown volume.layout volume.parts).seen i)
  pub apart : (k : ℕ) → k < length theirs.grant.inodes → slice_index theirs.grant.inodes k ≢ i

-- It is free then.
abbrev pub InodesStayFree : Type 0
InodesStayFree = (volume : Volume) (theirs : OneFsync) (later : ℕ → List ℕ) (i : ℕ) → IsFreeBeside volume theirs later i
    → IsUnused ((inodes_shown volume.layout (parts_left volume theirs)).seen i)

-- no part of an inode points to a block
abbrev pub NonePointTo : Layout → (ℕ → Part) → ℕ → Type 0
NonePointTo layout parts block = (i place : ℕ) → i < layout.inodes → place < PLACES → pointer_at (parts i) place ≢ block

-- A block is free on the disk of a volume, and an fsync was not granted it.
pub record IsBlockFreeBeside (volume : Volume) (theirs : OneFsync) (block : ℕ) : Type 0 where
  pub planned : IsPlannedFsync volume theirs
  pub is_block : block ≢ 0
  pub free : NonePointTo volume.layout volume.parts block
  pub apart : Contains theirs.grant.blocks block → ⊥

-- It is free once that fsync is on the disk.
abbrev pub BlocksStayFree : Type 0
BlocksStayFree = (volume : Volume) (theirs : OneFsync) (block : ℕ) → IsBlockFreeBeside volume theirs block
    → NonePointTo volume.layout (parts_left volume theirs) block

-- A grant serves a plan on the disk of a volume, and an fsync that was granted none of its inodes and blocks leaves these blocks.
pub record ServesBeside (volume : Volume) (theirs : OneFsync) (later : ℕ → List ℕ) (plan : CommitPlan) (grant : GrantedNumbers) : Type 0 where
  pub planned : IsPlannedFsync volume theirs
  pub left : IsStoreLeft volume theirs later
  pub grants : GrantsPlan volume.layout volume.parts plan grant
  pub inodes : (i : ℕ) → Contains grant.inodes i → Contains theirs.grant.inodes i → ⊥
  pub blocks : (block : ℕ) → Contains grant.blocks block → Contains theirs.grant.blocks block → ⊥

-- It serves the plan then.
abbrev pub GrantsStay : Type 0
GrantsStay = (volume : Volume) (theirs : OneFsync) (later : ℕ → List ℕ) (plan : CommitPlan) (grant : GrantedNumbers)
    → ServesBeside volume theirs later plan grant → GrantsPlan volume.layout (parts_left volume theirs) plan grant
