-- That all that cores see of the disk's nodes is well kept, along a whole run of the table.
use Rattle.std.specs.Prelude.{◌≡◌, ◌<◌, ℕ, true, List, Some}
use Rattle.sfs_image.specs.Super.{Layout}
use Rattle.disk_nodes.specs.OldKept.{OldKept}
use Rattle.cut_laws.specs.Rules.{IsOneOf}
use Rattle.stamp_table.specs.declared.event.Event.{Event}
use Rattle.mem_values.specs.Account.{Commitment, account_of}
use Rattle.note_laws.specs.Run.{TableRun}
use Rattle.made_laws.specs.Made.{CoreMaking, is_concerned, MadeEitherWay}
use Rattle.made_laws.specs.Tells.{last_of_seen}
use Rattle.slot_laws.specs.declared.label.Label.{Label}
use Rattle.slot_laws.specs.Labels.{first_past}
use Rattle.slot_laws.specs.Lasts.{Reserving, ReservesIn}
use Rattle.slot_laws.specs.Rules.{MayFrom}
use Rattle.flush_agrees.specs.Closing.{ToldAtEnd}
use Rattle.flush_agrees.specs.Made.{FlushMade, SeesConcerned}
use Rattle.end_laws.specs.Fitting.{FreesNothing}
use Rattle.end_laws.specs.Frees.{WasGranted}
use Rattle.end_laws.specs.Kept.{AreWellKept, IsWellKept}

-- What a table was given of each node is well kept.
abbrev pub IsGivenWell : TableRun → Type 0
IsGivenWell run = (node : ℕ) (old : OldKept) → run.given node ≡ Some old → IsWellKept old.kept

-- The number of a commit is above those of the last commits of its nodes, of which its core knew.
abbrev pub IsAboveSeen : FlushMade → Type 0
IsAboveSeen made = (node : ℕ) → is_concerned made.making node ≡ true → last_of_seen (made.making.noted.pending node) < made.number

-- A commit is told well in a run: it is of what its core made, was granted what that needs, and has a number above those that its core knew of.
pub record IsToldWell (run : TableRun) (layout : Layout) (told : Commitment) : Type 0 where
  pub made : FlushMade
  pub tells : ToldAtEnd run made told
  pub granted : WasGranted layout made
  pub above : IsAboveSeen made

-- so is each that the run tells
abbrev pub AreToldWell : TableRun → Layout → Type 0
AreToldWell run layout = (told : Commitment) → IsOneOf (account_of run.log).commits told → IsToldWell run layout told

-- Then all that a core made something of is well kept.
abbrev pub RunsKeepWell : Type 0
RunsKeepWell = (run : TableRun) (layout : Layout) (making : CoreMaking) → IsGivenWell run → AreToldWell run layout → MadeEitherWay run making
    → AreWellKept making.old

-- So what was made gives nothing up, where it has no record to write.
abbrev pub RunsFreeNothing : Type 0
RunsFreeNothing = (run : TableRun) (layout : Layout) (made : FlushMade) → IsGivenWell run → AreToldWell run layout → MadeEitherWay run made.making
    → FreesNothing made

-- Where a number was reserved for what was made, by the rules of labels, it is above those that its core knew of.
abbrev pub ReservedAreAbove : Type 0
ReservedAreAbove = (layout : Layout) (before moment : ℕ) (log : List (Event Label)) (one : Reserving) (made : FlushMade) → ReservesIn log one
    → MayFrom layout before log (first_past moment) → one.commit ≡ made.number → SeesConcerned made.making one.seen.items → IsAboveSeen made
