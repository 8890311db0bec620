-- The laws of pens and of their turns, each of which a function of the module laws proves.
use Rattle.std.specs.Prelude.{◌≡◌, ◌++◌, ◌<◌, ℕ, List}
use Rattle.sfs_dev.specs.Disk.{View}
use Rattle.tree_laws.specs.declared.history.Entry.{Entry}
use Rattle.tree_laws.specs.declared.turns.Turn.{Turn}
use Rattle.tree_laws.specs.History.{IsLegal}
use Rattle.tree_laws.specs.Tree.{TreeState}
use Rattle.cut_laws.specs.Rules.{IsOneOf}
use Rattle.cut_laws.specs.Closure.{Flush}
use Rattle.crash_laws.specs.Survives.{RaisesInOrder, SurvivesAll, ReadsBack}
use Rattle.merge_laws.specs.Pens.{FsyncTurns, AgreesAll}
use Rattle.merge_laws.specs.Plays.{PensMerge}
use Rattle.merge_laws.specs.Tell.{TurnsTell}
use Rattle.merge_laws.specs.LeftByTurns.{turns_until, TimesRise, BeginsWithDurables, SurvivesByTurns, ReadsByTurns, TellInTime}

-- Where all cores agree with their pens, the record of turns is what fsyncs do.
abbrev pub MergedTurns : Type 0
MergedTurns = (first : TreeState) (history : List Entry) (before most : ℕ) (turns : List Turn) (pens : List (List FsyncTurns)) → IsLegal first history
    → AgreesAll first history before most turns pens → PensMerge first history turns

-- And such a record tells of the answers of fsyncs and of their acknowledgements.
abbrev pub MergedTell : Type 0
MergedTell = (first : TreeState) (history : List Entry) (turns : List Turn) → IsLegal first history → PensMerge first history turns
    → TurnsTell history turns

-- The turns up to a moment are a front of the record: each behind them is later.
pub record IsFrontUntil (turns : List Turn) (moment : ℕ) : Type 0 where
  pub behind : List Turn
  pub whole : turns ≡ turns_until moment turns ++ behind
  pub later : (turn : Turn) → IsOneOf behind turn → moment < turn.now

-- So it is where the moments of turns don't fall.
abbrev pub MomentsCutTurns : Type 0
MomentsCutTurns = (turns : List Turn) (moment : ℕ) → TimesRise turns → IsFrontUntil turns moment

-- The order of durable turns is that of acknowledgements: a list that begins with the fsyncs durable up to a moment begins with exactly those
-- acknowledged by it.
abbrev pub DurablesAreAcknowledged : Type 0
DurablesAreAcknowledged = (first : TreeState) (history : List Entry) (turns : List Turn) (moment : ℕ) (flushes : List Flush) → IsLegal first history
    → TellInTime history turns → BeginsWithDurables history turns moment flushes → RaisesInOrder history moment flushes

-- What survives in the order of turns survives in that of acknowledgements.
abbrev pub DurablesSurvive : View → Type 0
DurablesSurvive disk = (share from : ℕ) (first : TreeState) (history : List Entry) (turns : List Turn) → IsLegal first history
    → TellInTime history turns → SurvivesByTurns share from first history turns disk → SurvivesAll share from first history disk

-- And so does what is read back.
abbrev pub DurablesReadBack : View → Type 0
DurablesReadBack disk = (share : ℕ) (first : TreeState) (history : List Entry) (turns : List Turn) → IsLegal first history
    → PensMerge first history turns → TimesRise turns → ReadsByTurns share first history turns disk → ReadsBack share first history disk
