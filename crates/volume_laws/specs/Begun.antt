-- A volume that a mount begins.
use Rattle.std.specs.Prelude.{◌≡◌, ℕ, ◌*◌, ◌<◌, ◌≤◌, List, [], length, is_some}
use Rattle.std.specs.FinMap.{get, empty}
use Rattle.sfs_dev.specs.Disk.{View, images}
use Rattle.sfs_dev.specs.Run.{EachMoment}
use Rattle.sfs_dev.specs.Steps.{IfTold}
use Rattle.sfs_image.specs.ImageOf.{IsImageOf}
use Rattle.sfs_image.specs.Part.{Part, IsGathered}
use Rattle.sfs_image.specs.Settled.{image_block, parts_of}
use Rattle.sfs_image.specs.Super.{Layout, data_start}
use Rattle.tree_laws.specs.Tree.{TreeState}
use Rattle.journal_one.specs.Known.{EachLeft}
use Rattle.commit_one.specs.Change.{nothing_open}
use Rattle.image_laws.specs.Image.{inodes_shown}
use Rattle.image_laws.specs.Mount.{own_numbers}
use Rattle.mark_laws.specs.Changed.{HasShortFiles}
use Rattle.flush_laws.specs.Journal.{AreSpelled}
use Rattle.flush_laws.specs.Ready.{KeepsEntries}
use Rattle.crash_laws.specs.Wrote.{Mounts}
use Rattle.recovery.specs.Freed.{without_unlinked}
use Rattle.recovery.specs.Recovered.{ShowsTheSame, IsRecoveredFrom}
use Rattle.mount_begin.specs.Mounted.{share_of_nodes, IsMountOf, IsSoundMount}
use Rattle.mount_begin.specs.declared.begin.Mounted.{Mounted}
use Rattle.space_laws.specs.Map.{IsMapOf}
use Rattle.volume_laws.specs.Volume.{IsVolumeStanding}
use Rattle.flush_laws.specs.Volume.{Volume}

-- a volume with nothing behind its mount: each node has its own number
abbrev pub volume_begun : TreeState → Layout → (ℕ → List ℕ) → (ℕ → Part) → Volume
volume_begun tree layout store parts = record {
  first = tree;
  history = [];
  flushes = [];
  cut = empty;
  inodes = λ node. is_some (get tree.nodes node);
  num = own_numbers (inodes_shown layout parts);
  layout = layout;
  store = store;
  parts = parts;
}

-- Parts of a layout stand in a store of blocks, of which those of the data area are whole, and their records are whole and spelled as their
-- inodes are.
pub record StandInBlocks (store : ℕ → List ℕ) (layout : Layout) (parts : ℕ → Part) : Type 0 where
  pub gathered : (i : ℕ) → i < layout.inodes → IsGathered store (parts i)
  pub records : (i : ℕ) → i < layout.inodes → length (parts i).raw ≡ 512
  pub spelled : AreSpelled layout.inodes parts
  pub whole : (block : ℕ) → data_start layout ≤ block → block < layout.blocks → length (store block) ≡ 4096

-- What was mounted begins a volume with these parts in this store: it stands, memory keeps what its disk has of each node, its records are
-- spelled, its map of free space is right, and no file is longer than one may be.
pub record BeginsVolume (mounted : Mounted) (store : ℕ → List ℕ) (parts : ℕ → Part) : Type 0 where
  pub stands : IsVolumeStanding (volume_begun mounted.tree mounted.layout store parts)
  pub keeps : KeepsEntries (own_numbers (inodes_shown mounted.layout parts)) parts mounted.old.items
  pub spelled : AreSpelled mounted.layout.inodes parts
  pub map : IsMapOf mounted.layout mounted.old.items mounted.space
  pub short : HasShortFiles mounted.tree

-- So it is of each mount whose parts stand in a store.
abbrev pub MountsBegin : Type 0
MountsBegin = (nodes size : ℕ) (mounted : Mounted) (store : ℕ → List ℕ) (sound : IsSoundMount nodes size mounted)
    → StandInBlocks store mounted.layout sound.parts
    → BeginsVolume mounted store (without_unlinked sound.parts)

-- A mount of a disk that told an image: it is of this image, each image of each moment shows the same, and those left at its end are recovered
-- from it.
pub record WasTold (nodes : ℕ) (image : List ℕ) (mounted : Mounted) (old new : View) : Type 0 where
  pub is : IsMountOf nodes image mounted
  pub later : old.now ≤ new.now
  pub moments : EachMoment old new (λ _ now. ShowsTheSame now image)
  pub ended : EachLeft new (IsRecoveredFrom image)
  pub leaves : IfTold new.content (images new)

-- What a mount leaves of such a disk: each image stands for the parts of the image without orphans, with no slot open, and the tree was
-- mounted from its begin on.
pub record LeavesMounted (nodes : ℕ) (image : List ℕ) (mounted : Mounted) (old new : View) : Type 0 where
  pub holds : EachLeft new (IsImageOf mounted.layout nothing_open (without_unlinked (parts_of mounted.layout image)))
  pub mounts : Mounts (share_of_nodes nodes mounted.layout) old.now mounted.tree new

abbrev pub ToldMountsLeave : View → View → Type 0
ToldMountsLeave old new = (nodes : ℕ) (image : List ℕ) (mounted : Mounted) → WasTold nodes image mounted old new
    → LeavesMounted nodes image mounted old new

-- What was mounted of a told image, which has its disk's size.
pub record WasMountedOf (nodes size : ℕ) (image : List ℕ) (mounted : Mounted) : Type 0 where
  pub is : IsMountOf nodes image mounted
  pub sound : IsSoundMount nodes size mounted
  pub sized : length image ≡ 4096 * size

-- So it is of the image's own parts, in the image's own blocks.
abbrev pub ToldMountsBegin : Type 0
ToldMountsBegin = (nodes size : ℕ) (image : List ℕ) (mounted : Mounted) → WasMountedOf nodes size image mounted
    → BeginsVolume mounted (image_block image) (without_unlinked (parts_of mounted.layout image))
