-- The parts of imagined volumes, and what images show that stand for them.
use Rattle.std.specs.Prelude.{◌<◌, ◌≡◌, ◌∷◌, ℕ, List, [], Option}
use Rattle.sfs_image.specs.Part.{Part}
use Rattle.sfs_image.specs.Super.{Layout}
use Rattle.sfs_image.specs.ImageOf.{Transaction, IsImageOf, with_opened}
use Rattle.image_laws.specs.Image.{IsReadAsTree}
use Rattle.flush_laws.specs.Volume.{Volume, OneFsync, parts_left, tree_held}
use Rattle.flush_laws.specs.Planned.{IsPlannedFsync}
use Rattle.flush_laws.specs.Journal.{IsSpelled, parts_brought}
use Rattle.volume_laws.specs.Volume.{IsVolumeStanding}
use Rattle.book_laws.specs.Brings.{Bringing}
use Rattle.book_laws.specs.Imagined.{Imagines}
use Rattle.slot_image_laws.specs.Commits.{parts_over}

-- A planned fsync of a volume whose records are spelled as their inodes are gives inodes their parts, over those before: so it leaves them.
abbrev pub GivenOnce : Type 0
GivenOnce = (volume : Volume) (one : OneFsync) (i : ℕ) → IsPlannedFsync volume one → IsSpelled volume → i < volume.layout.inodes
    → parts_over (parts_brought volume one) volume.parts i ≡ parts_left volume one i

-- the parts once some fsyncs have given inodes theirs, one after another
abbrev pub parts_once : List Bringing → (ℕ → Part) → ℕ → Part
parts_once [] base = base
parts_once (one ∷ rest) base = parts_once rest (parts_over one.parts base)

-- What an imagined volume has on its disk: the layout is the first one's, records are spelled as their inodes are, and the parts are those that were
-- given over the first ones.
pub record ShowsBrought (start : Volume) (brought : List Bringing) (volume : Volume) : Type 0 where
  pub layout : volume.layout ≡ start.layout
  pub spelled : IsSpelled volume
  pub parts : (i : ℕ) → i < start.layout.inodes → parts_once brought start.parts i ≡ volume.parts i

-- So it is of each imagined volume, where the records of the first one are spelled so.
abbrev pub ImaginedShow : Type 0
ImaginedShow = (start volume : Volume) (brought : List Bringing) → IsSpelled start → Imagines start brought volume → ShowsBrought start brought volume

-- An image stands for parts of a layout, by what its open slots give over what lies below.
pub record StandsFor (layout : Layout) (parts : ℕ → Part) (image : List ℕ) : Type 0 where
  pub opened : ℕ → Option Transaction
  pub below : ℕ → Part
  pub image_of : IsImageOf layout opened below image
  pub same : (i : ℕ) → i < layout.inodes → with_opened layout opened below i ≡ parts i

-- A volume from which a record may begin: it stands, and its records are spelled as their inodes are.
pub record MayBegin (start : Volume) : Type 0 where
  pub stands : IsVolumeStanding start
  pub spelled : IsSpelled start

-- An image that stands for what was given over the first parts is read as the tree that the imagined volume holds.
abbrev pub ImagesAreRead : Type 0
ImagesAreRead = (start volume : Volume) (brought : List Bringing) (image : List ℕ) (share : ℕ) → MayBegin start → Imagines start brought volume
    → StandsFor start.layout (parts_once brought start.parts) image → IsReadAsTree image share (tree_held volume)
