-- That a commit with no record to write gives nothing up, and of which nodes this is so.
use Rattle.std.specs.Prelude.{◌<◌, ◌≢◌, ◌^◌, ◌-◌, ℕ, Contains}
use Rattle.sfs_image.specs.Super.{Layout}
use Rattle.disk_change.specs.AllBuilt.{after_commit}
use Rattle.mount_begin.specs.Mounted.{IsSoundMount}
use Rattle.mount_begin.specs.declared.begin.Mounted.{Mounted}
use Rattle.note_laws.specs.Run.{TableRun}
use Rattle.flush_agrees.specs.Made.{FlushMade, GrantsNeed, change_of}
use Rattle.end_laws.specs.Fitting.{FreesNothing}
use Rattle.end_laws.specs.Kept.{AreWellKept}
use Rattle.made_laws.specs.Made.{MadeEitherWay}

-- What a core made of nodes that are well kept gives nothing up, where it has no record to write.
abbrev pub MadesFreeNothing : Type 0
MadesFreeNothing = (run : TableRun) (made : FlushMade) → MadeEitherWay run made.making → AreWellKept made.making.old → FreesNothing made

-- Each mount keeps its nodes well.
abbrev pub MountsKeepWell : Type 0
MountsKeepWell = (nodes size : ℕ) (mounted : Mounted) → IsSoundMount nodes size mounted → AreWellKept mounted.old.items

-- A commit was granted what it needs, on a disk with no more blocks than a word counts, and no block of the grant is the superblock.
pub record WasGranted (layout : Layout) (made : FlushMade) : Type 0 where
  pub grants : GrantsNeed layout made
  pub few : layout.blocks < 2 ^ 32 - 1
  pub some : (block : ℕ) → Contains made.grant.blocks block → block ≢ 0

-- Then it leaves its nodes well kept, where they were.
abbrev pub CommitsLeaveWell : Type 0
CommitsLeaveWell = (run : TableRun) (layout : Layout) (made : FlushMade) → MadeEitherWay run made.making → AreWellKept made.making.old → WasGranted layout made
    → AreWellKept (after_commit (change_of made) made.grant)
