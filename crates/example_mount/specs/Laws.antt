-- That the mount of the two cores meets all that is asked of the end of a mount.
use Rattle.std.specs.Prelude.{ℕ, List}
use Rattle.std.specs.declared.alloc.Global.{Global}
use Rattle.turn_laws.specs.Recorded.{IsRecorded}
use Rattle.merge_laws.specs.Worked.{TWO_CORES, BOTH_HISTORY}
use Rattle.turn_ties.specs.Plans.{image_held}
use Rattle.close_laws.specs.Maps.{past_of}
use Rattle.example_laws.specs.Image.{TWO_DIRECTORIES}
use Rattle.example_laws.specs.Told.{IsTwoImage, still_disk}
use Rattle.end_laws.specs.Mount.{MountEnds}
use Rattle.end_laws.specs.Reaches.{MountReaches}
use Rattle.end_laws.specs.Survives.{DiskEnds, MountSurvives}
use Rattle.example_mount.specs.Mount.{two_mount}
use Rattle.example_mount.specs.Box.{TURN_BY_TURN}

-- On a disk at rest with an image of the two directories the mount ends: the disk is in the run that its labels tell, and so the mount survives each crash
-- since it began and is read back at its end.
pub record SurvivesAtRest (alloc : Global) (share : ℕ) (image : List ℕ) : Type 0 where
  pub disk : DiskEnds (two_mount alloc) (still_disk image 8)
  pub survives : MountSurvives share (two_mount alloc) (still_disk image 8) disk

-- Cores and pens have come to its end and agree, so they agree on the whole of it; its turns are recorded; and it survives on each such disk.
pub record IsTwoMount (D : Type 0) (alloc : Global) : Type 0 where
  pub reaches : MountReaches D (two_mount alloc)
  pub ends : MountEnds D (two_mount alloc)
  pub recorded : IsRecorded TWO_CORES BOTH_HISTORY (image_held TWO_DIRECTORIES) 0 0 (past_of TURN_BY_TURN).turns
  pub survives : (share : ℕ) (image : List ℕ) → IsTwoImage image → SurvivesAtRest alloc share image

-- So it is whatever allocator the vectors of the table's log are of.
abbrev pub TwoCoresMount : Type 0 → Type 0
TwoCoresMount D = (alloc : Global) → IsTwoMount D alloc
