-- The laws of the walk of the books, each of which a function of the module laws proves.
use Rattle.std.specs.Prelude.{◌≡◌, ◌≤◌, ◌++◌, ℕ, List}
use Rattle.tree_laws.specs.declared.turns.Turn.{Turn}
use Rattle.turn_laws.specs.Recorded.{IsRecorded}
use Rattle.turn_ties.specs.Plans.{image_held}
use Rattle.merge_laws.specs.Pens.{CountAll, FsyncTurns, AgreesAll}
use Rattle.merge_laws.specs.Plays.{OwnWaits, PlayState, Plays}
use Rattle.book_laws.specs.Walk.{Bookkeeping, BeginsWalk, FitsRecord, IsBooked}

-- A record may be walked: its volume may begin a walk, it fits what its books are kept from, its counts of faults are right, and an fsync that
-- waits has its core for itself.
pub record MayBeWalked (kept : Bookkeeping) (before most : ℕ) (turns : List Turn) : Type 0 where
  pub begins : BeginsWalk kept.start
  pub fits : FitsRecord kept turns
  pub counts : CountAll before most turns
  pub own : OwnWaits turns

-- A play leads to a place of some turns: they go on from a front, which is a play.
pub record LeadsTo (turns front : List Turn) (at : PlayState) : Type 0 where
  pub back : List Turn
  pub whole : turns ≡ front ++ back
  pub plays : Plays front at

-- The books are kept up to each place of some turns, by what fsyncs have done there.
abbrev pub AreBooked : Bookkeeping → ℕ → ℕ → List Turn → Type 0
AreBooked kept before most turns = (front : List Turn) (at : PlayState) → LeadsTo turns front at → IsBooked kept before most front at

-- So they are along such a record.
abbrev pub WalksAreBooked : Type 0
WalksAreBooked = (kept : Bookkeeping) (before most : ℕ) (turns : List Turn) → MayBeWalked kept before most turns
    → AreBooked kept before most turns

-- All cores agree with their pens over the history of a volume that may begin a walk, and the record fits what its books are kept from. The counts of
-- faults go on from that at the entry.
pub record AgreesWithBooks (kept : Bookkeeping) (entry_faults before most : ℕ) (turns : List Turn) (pens : List (List FsyncTurns)) : Type 0 where
  pub begins : BeginsWalk kept.start
  pub agrees : AgreesAll kept.start.first kept.start.history before most turns pens
  pub since : entry_faults ≤ before
  pub fits : FitsRecord kept turns

-- Then the turns are recorded.
abbrev pub RecordsAreKept : Type 0
RecordsAreKept = (kept : Bookkeeping) (entry_faults before exit_faults : ℕ) (turns : List Turn) (pens : List (List FsyncTurns))
    → AgreesWithBooks kept entry_faults before exit_faults turns pens
    → IsRecorded kept.start.first kept.start.history (image_held kept.start) entry_faults exit_faults turns
