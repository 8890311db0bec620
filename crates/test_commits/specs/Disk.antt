-- The disk of the tests.
use Rattle.std.specs.Prelude.{◌≡◌}
use Rattle.sfs_image.specs.Super.{Layout}
use Rattle.disk_box.specs.Pens.{PenHand}
use Rattle.fsync_commit.specs.Asked.{IsSpaceOn}

-- 15 blocks, of which the last four are data, 16 inodes, and two cores with one slot each
abbrev pub SMALL : Layout
SMALL = record { blocks = 15; inodes = 16; cores = 2; slots = 1 }

-- the map of free space that a pen's journals are about is of their disk
abbrev pub HasItsSpace : {D : Type 0} → PenHand D → Type 0
HasItsSpace pen = IsSpaceOn pen.table.given.layout pen.table.given.space

-- and this is of the layout above
abbrev pub HasLayout : {D : Type 0} → PenHand D → Type 0
HasLayout pen = pen.table.given.layout ≡ SMALL
