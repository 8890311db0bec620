-- What a crash leaves of a run, and what a read gives at its end, in the order of the turns at the disk.
use Rattle.std.specs.Prelude.{◌≡◌, ◌≤◌, ◌∷◌, ◌++◌, ℕ, nat_le, Bool, List, [], filter}
use Rattle.sfs_dev.specs.Disk.{View, LeftSince}
use Rattle.sfs_dev.specs.Steps.{IfTold}
use Rattle.tree_laws.specs.declared.history.Entry.{Entry}
use Rattle.tree_laws.specs.declared.turns.Turn.{Turn}
use Rattle.tree_laws.specs.Tree.{TreeState}
use Rattle.image_laws.specs.Image.{IsReadAsTree}
use Rattle.cut_laws.specs.Rules.{IsOneOf, IsClosed}
use Rattle.cut_laws.specs.Closure.{every_entry, Flush, AreFlushed}
use Rattle.cut_laws.specs.Covers.{Covers}
use Rattle.cut_laws.specs.Cut.{Cut, tree_at_cut}
use Rattle.crash_laws.specs.Listed.{IsListedFsync, StampsDiffer}
use Rattle.crash_laws.specs.Survives.{HasFailure}
use Rattle.merge_laws.specs.Tell.{TurnsTell}
use Rattle.merge_laws.specs.Plays.{durables}

-- the turns up to a moment
abbrev pub turns_until : ℕ → List Turn → List Turn
turns_until moment turns = filter (λ turn. nat_le turn.now moment) turns

-- The moments of turns don't fall.
abbrev pub TimesRise : List Turn → Type 0
TimesRise [] = Unit {0}
TimesRise (turn ∷ turns) = ((later : Turn) → IsOneOf turns later → turn.now ≤ later.now) × TimesRise turns

-- Turns tell of answers and acknowledgements, and their moments don't fall.
pub record TellInTime (history : List Entry) (turns : List Turn) : Type 0 where
  pub tell : TurnsTell history turns
  pub rise : TimesRise turns

-- A list of fsyncs begins with those whose commits became durable up to a moment, in the order of their turns. Each other was answered Ok,
-- DiskFailed or Stopped, and none stands in it twice.
pub record BeginsWithDurables (history : List Entry) (turns : List Turn) (moment : ℕ) (flushes : List Flush) : Type 0 where
  pub others : List Flush
  pub whole : flushes ≡ durables (turns_until moment turns) ++ others
  pub answered : (flush : Flush) → IsOneOf others flush → IsListedFsync history flush
  pub once : StampsDiffer flushes

-- What a crash at a moment or later may leave: it is read as the tree at a closed cut that covers the history at the moment, and that a list of
-- fsyncs has raised which begins with the durable ones.
pub record IsSafeByTurns (share : ℕ) (first : TreeState) (history : List Entry) (turns : List Turn) (moment : ℕ) (image : List ℕ) : Type 0 where
  pub flushes : List Flush
  pub cut : Cut
  pub inodes : ℕ → Bool
  pub closed : IsClosed first history cut
  pub covers : Covers first history cut moment
  pub begins : BeginsWithDurables history turns moment flushes
  pub raised : AreFlushed first history every_entry flushes cut inodes
  pub read : IsReadAsTree image share (tree_at_cut first history cut)

-- So is every image that a crash at some moment of a run, or since, may leave.
abbrev pub SurvivesByTurns : ℕ → ℕ → TreeState → List Entry → List Turn → View → Type 0
SurvivesByTurns share from first history turns disk =
    (moment : ℕ) (image : List ℕ) → from ≤ moment → moment ≤ disk.now → LeftSince disk moment image
    → IsSafeByTurns share first history turns moment image

-- What a read gives, where the disk tells it, is read as the tree at the cut that the durable commits have raised, in the order of their turns.
pub record IsReadByTurns (share : ℕ) (first : TreeState) (history : List Entry) (turns : List Turn) (disk : View) : Type 0 where
  pub cut : Cut
  pub inodes : ℕ → Bool
  pub raised : AreFlushed first history every_entry (durables turns) cut inodes
  pub read : IfTold disk.content (λ content. IsReadAsTree content share (tree_at_cut first history cut))

-- So it is where no fsync has failed.
abbrev pub ReadsByTurns : ℕ → TreeState → List Entry → List Turn → View → Type 0
ReadsByTurns share first history turns disk = (HasFailure history → ⊥) → IsReadByTurns share first history turns disk
