-- What turns tell of the answers of fsyncs and of their acknowledgements.
use Rattle.std.specs.Prelude.{◌≡◌, ◌∷◌, ◌++◌, ℕ, List}
use Rattle.tree_laws.specs.declared.history.Entry.{Entry}
use Rattle.tree_laws.specs.declared.turns.Turn.{Turn}
use Rattle.tree_laws.specs.declared.turns.TurnAct.TheVariants as act
use Rattle.cut_laws.specs.Closure.{Flush}
use Rattle.cut_laws.specs.Covers.{IsAcknowledged}
use Rattle.cut_laws.specs.Rules.{IsOneOf}
use Rattle.crash_laws.specs.Listed.{IsListedFsync}
use Rattle.crash_laws.specs.Survives.{HasFailure}
use Rattle.turn_laws.specs.Books.{flush_at}

-- A turn made the commit of an fsync durable at a moment.
pub record WasDurable (turns : List Turn) (flush : Flush) (moment : ℕ) : Type 0 where
  pub turn : Turn
  pub among : IsOneOf turns turn
  pub did : turn.act ≡ act.Durable
  pub own : flush_at turn ≡ flush
  pub now : turn.now ≡ moment

-- A Durable stands behind a turn, of the same fsync and the same commit.
pub record Lands (turns : List Turn) (turn : Turn) : Type 0 where
  pub front : List Turn
  pub between : List Turn
  pub landing : Turn
  pub back : List Turn
  pub whole : turns ≡ (front ++ turn ∷ between) ++ landing ∷ back
  pub did : landing.act ≡ act.Durable
  pub own : flush_at landing ≡ flush_at turn
  pub commit : landing.commit ≡ turn.commit

-- What turns tell: a Durable is the acknowledgement of its fsync, at its moment, and each acknowledgement is a Durable. An Opened is of an fsync
-- answered Ok, DiskFailed or Stopped, and where none was answered DiskFailed or Stopped, its Durable stands behind it.
pub record TurnsTell (history : List Entry) (turns : List Turn) : Type 0 where
  pub durable : (turn : Turn) → IsOneOf turns turn → turn.act ≡ act.Durable → IsAcknowledged history (flush_at turn) turn.now
  pub acknowledged : (flush : Flush) (moment : ℕ) → IsAcknowledged history flush moment → WasDurable turns flush moment
  pub answered : (turn : Turn) → IsOneOf turns turn → turn.act ≡ act.Opened → IsListedFsync history (flush_at turn)
  pub lands : (HasFailure history → ⊥) → (turn : Turn) → IsOneOf turns turn → turn.act ≡ act.Opened → Lands turns turn
