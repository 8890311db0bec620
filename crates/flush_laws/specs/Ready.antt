-- What is known of the disk and of memory between the commits of a mount.
use Rattle.std.specs.Prelude.{◌≡◌, ℕ, ◌<◌, ◌≤◌, List, length, Some, Contains}
use Rattle.sfs_image.specs.Part.{Part, IsGathered}
use Rattle.sfs_image.specs.Super.{Layout, InRange, data_start}
use Rattle.image_laws.specs.Image.{inodes_shown, HaveGoodBytes}
use Rattle.image_laws.specs.Renamed.{Numbering}
use Rattle.image_laws.specs.Stands.{StandsForTree}
use Rattle.block_map.specs.Kept.{kept_of}
use Rattle.keyed_list.specs.Ascending.{AscendBy}
use Rattle.disk_nodes.specs.Nodes.{entry_node}
use Rattle.disk_nodes.specs.declared.old.OldEntry.{OldEntry}
use Rattle.cut_laws.specs.Closure.{every_entry, AreFlushed}
use Rattle.raise_laws.specs.Next.{IsMountedHistory, NumbersInodes}
use Rattle.flush_laws.specs.Volume.{Volume, tree_held}

-- Parts of a layout stand in a store of blocks, of which those of the data area are whole, and break no rule on the bytes of one inode.
pub record AreSoundParts (layout : Layout) (store : ℕ → List ℕ) (parts : ℕ → Part) : Type 0 where
  pub gathered : (i : ℕ) → i < layout.inodes → IsGathered store (parts i)
  pub records : (i : ℕ) → i < layout.inodes → length (parts i).raw ≡ 512
  pub whole : (block : ℕ) → data_start layout ≤ block → block < layout.blocks → length (store block) ≡ 4096
  pub good : HaveGoodBytes layout parts
  pub ranges : InRange layout

-- Between two commits the fsyncs so far have left a cut and the nodes with an inode, which are numbered; and the parts of the disk are sound
-- and stand for the tree at the cut.
pub record IsBetweenCommits (volume : Volume) : Type 0 where
  pub history_is : IsMountedHistory volume.first volume.history
  pub flushed : AreFlushed volume.first volume.history every_entry volume.flushes volume.cut volume.inodes
  pub numbers : NumbersInodes volume.num volume.inodes
  pub sound : AreSoundParts volume.layout volume.store volume.parts
  pub stands : StandsForTree volume.num (tree_held volume) (inodes_shown volume.layout volume.parts)

-- Memory keeps an entry of each node that has a number, with what is kept of its part.
pub record KeepsEntries (num : Numbering) (parts : ℕ → Part) (entries : List OldEntry) : Type 0 where
  pub ascend : AscendBy entry_node entries
  pub each : (entry : OldEntry) → Contains entries entry → (num entry.node.0 ≡ Some entry.old.number) × (entry.old.kept ≡ kept_of (parts entry.old.number))
  pub all : (node i : ℕ) → num node ≡ Some i → (entry : OldEntry) × Contains entries entry × (entry.node.0 ≡ node)
