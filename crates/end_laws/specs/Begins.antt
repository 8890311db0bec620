-- What a mount of many cores begins with, whatever its history comes to.
use Rattle.std.specs.Prelude.{◌≡◌, ℕ, List, [], Some}
use Rattle.sfs_image.specs.ImageOf.{IsImageOf}
use Rattle.sfs_image.specs.Part.{Part}
use Rattle.sfs_image.specs.Settled.{parts_of}
use Rattle.sfs_image.specs.Super.{Layout, IsLayout}
use Rattle.sfs_dev.specs.Disk.{View, images}
use Rattle.sfs_dev.specs.Run.{Advances, CountsOn}
use Rattle.sfs_dev.specs.Steps.{IfTold}
use Rattle.tree_laws.specs.declared.history.Entry.{Entry}
use Rattle.tree_laws.specs.History.{IsLegal}
use Rattle.journal_one.specs.Calls.{IsCalm}
use Rattle.commit_one.specs.Change.{nothing_open}
use Rattle.crash_laws.specs.Wrote.{Mounts}
use Rattle.mark_laws.specs.Changed.{HasShortFiles}
use Rattle.recovery.specs.Freed.{without_unlinked}
use Rattle.mount_begin.specs.Mounted.{share_of_nodes}
use Rattle.mount_begin.specs.declared.begin.Mounted.{Mounted}
use Rattle.flush_laws.specs.Volume.{Volume}
use Rattle.volume_laws.specs.Mounting.{WasMounted}
use Rattle.reserve_laws.specs.Olds.{IsKeptIn}
use Rattle.mem_values.specs.Start.{given_in}
use Rattle.slot_image_laws.specs.Run.{BeganWith}
use Rattle.close_laws.specs.Beside.{BeginsLabels}

-- A volume is one that a mount begins, with all of the history that comes behind it: labels may begin with it beside what was mounted, no fsync is on its disk
-- yet, no file of its tree is longer than one may be, and what a table is given of a node is what memory keeps of it.
pub record BeginsMount (mounted : Mounted) (history : List Entry) (start : Volume) : Type 0 where
  pub first_is : start.first ≡ mounted.tree
  pub history_is : start.history ≡ history
  pub none : start.flushes ≡ []
  pub labels : BeginsLabels mounted.layout start mounted.old.items mounted.space
  pub short : HasShortFiles start.first
  pub kept : (node : ℕ) → IsKeptIn mounted.old.items node (given_in mounted.old.items node)

-- A disk holds the volume that a mount begins: each image stands for its parts with no slot open, its tree was mounted from the mount's begin on, and it is
-- told what a read gives.
pub record HoldsStart (nodes : ℕ) (start : Volume) (old new : View) : Type 0 where
  pub left : (image : List ℕ) → images new image → IsImageOf start.layout nothing_open start.parts image
  pub mounts : Mounts (share_of_nodes nodes start.layout) old.now start.first new
  pub tells : (content : List ℕ) × (new.content ≡ Some content)

-- A mount has begun such a volume. Where its disk told an image, the parts are the image's without orphans; where nothing was pending on it, it holds the
-- volume.
pub record HasBegunVolume (nodes : ℕ) (mounted : Mounted) (history : List Entry) (old new : View) : Type 0 where
  pub start : Volume
  pub begins : BeginsMount mounted history start
  pub of_image : IfTold old.content (λ image. start.parts ≡ without_unlinked (parts_of mounted.layout image))
  pub told : IfTold old.content (λ image. IsCalm old → CountsOn new → HoldsStart nodes start old new)

-- So has each mount that ended with an Ok, for each legal history from its tree on.
abbrev pub MountsBeginLabels : View → View → Type 0
MountsBeginLabels old new = (nodes : ℕ) (mounted : Mounted) (history : List Entry) → WasMounted nodes mounted old new → IsLegal mounted.tree history
    → HasBegunVolume nodes mounted history old new

-- A disk has gone on from one on which each image stood for these parts with no slot open, and has counted each device call.
pub record HasGoneOnSince (layout : Layout) (parts : ℕ → Part) (new later : View) : Type 0 where
  pub fits : IsLayout layout.blocks layout
  pub left : (image : List ℕ) → images new image → IsImageOf layout nothing_open parts image
  pub advances : Advances new later
  pub counts : CountsOn later

-- Then it began with them.
abbrev pub BegunDisksGoOn : View → View → Type 0
BegunDisksGoOn new later = (layout : Layout) (parts : ℕ → Part) → HasGoneOnSince layout parts new later → BeganWith layout parts new.now later
