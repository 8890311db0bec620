-- The record of turns as what fsyncs do: which wait, which commits are aloft, which are done, and whether one has failed.
use Rattle.std.specs.List.{filter_map}
use Rattle.std.specs.Prelude.{◌≡◌, ◌≢◌, ◌⊎◌, ◌∷◌, ◌++◌, ◌↔◌, ℕ, Bool, true, false, List, [], Option, Some, None, map}
use Rattle.tree_laws.specs.declared.history.Entry.{Entry}
use Rattle.tree_laws.specs.declared.turns.Turn.{Turn}
use Rattle.tree_laws.specs.declared.turns.TurnAct.{TurnAct}
use Rattle.tree_laws.specs.declared.turns.TurnAct.TheVariants as act
use Rattle.tree_laws.specs.Tree.{TreeState}
use Rattle.cut_laws.specs.Closure.{Flush}
use Rattle.cut_laws.specs.Rules.{IsOneOf}
use Rattle.turn_laws.specs.LawsTurns.{durable_flush}
use Rattle.turn_laws.specs.Recorded.{IsOfFsync, EachEnds}
use Rattle.turn_laws.specs.Ways.{own_turns, EachGoes}
use Rattle.merge_laws.specs.Phases.{has_reserved, phase_of, flies_in}
use Rattle.merge_laws.specs.Pens.{failed_in}

-- The commit of the fsync with a stamp, begun and not yet done, and whether it was opened.
pub record Aloft : Type 0 where
  pub stamp : ℕ
  pub opened : Bool

-- What fsyncs have done behind some turns, each known by its stamp: those whose commits are durable, in the order of their Durables; those that
-- have reserved and wait; the commits aloft; and the count of faults of the failure, where there was one.
pub record PlayState : Type 0 where
  pub done : List ℕ
  pub waiting : List ℕ
  pub aloft : List Aloft
  pub failed : Option ℕ

-- before the first turn
abbrev pub nothing_played : PlayState
nothing_played = record { done = []; waiting = []; aloft = []; failed = None }

-- A stamp stands once in a list, between these.
pub record StandsOnce (stamps : List ℕ) (before behind : List ℕ) (stamp : ℕ) : Type 0 where
  pub whole : stamps ≡ before ++ stamp ∷ behind
  pub once : IsOneOf (before ++ behind) stamp → ⊥

-- A commit is aloft, between these, and no other of its fsync.
pub record FliesOnce (aloft before behind : List Aloft) (flight : Aloft) : Type 0 where
  pub whole : aloft ≡ before ++ flight ∷ behind
  pub once : (other : Aloft) → IsOneOf (before ++ behind) other → other.stamp ≢ flight.stamp

-- An fsync reserves with its first turn, before any failure.
pub record PlaysGrant (turns : List Turn) (at : PlayState) (stamp : ℕ) (later : PlayState) : Type 0 where
  pub calm : at.failed ≡ None
  pub first : own_turns stamp turns ≡ []
  pub fresh : IsOneOf at.waiting stamp → ⊥
  pub later_is : later ≡ record at { waiting = at.waiting ++ stamp ∷ [] }

-- An fsync finds too little with its first turn, before any failure.
pub record PlaysShort (turns : List Turn) (at : PlayState) (stamp : ℕ) (later : PlayState) : Type 0 where
  pub calm : at.failed ≡ None
  pub first : own_turns stamp turns ≡ []
  pub later_is : later ≡ at

-- An fsync that waits leaves those that wait.
pub record StopsWaiting (at : PlayState) (stamp : ℕ) (left : List ℕ) : Type 0 where
  pub before : List ℕ
  pub behind : List ℕ
  pub waits : StandsOnce at.waiting before behind stamp
  pub left_is : left ≡ before ++ behind

-- The commit of an fsync begins, before any failure: of one that waited, or of one with its first turn. No commit of it is aloft yet.
pub record PlaysBegin (turns : List Turn) (at : PlayState) (stamp : ℕ) (later : PlayState) : Type 0 where
  pub calm : at.failed ≡ None
  pub left : List ℕ
  pub waited : StopsWaiting at stamp left ⊎ ((own_turns stamp turns ≡ []) × (left ≡ at.waiting) × (IsOneOf at.waiting stamp → ⊥))
  pub fresh : (other : Aloft) → IsOneOf at.aloft other → other.stamp ≢ stamp
  pub later_is : later ≡ record at { waiting = left; aloft = at.aloft ++ record { stamp = stamp; opened = false } ∷ [] }

-- A commit aloft is opened, before any failure.
pub record PlaysOpen (at : PlayState) (stamp : ℕ) (later : PlayState) : Type 0 where
  pub calm : at.failed ≡ None
  pub before : List Aloft
  pub behind : List Aloft
  pub flies : FliesOnce at.aloft before behind (record { stamp = stamp; opened = false })
  pub later_is : later ≡ record at { aloft = before ++ record { stamp = stamp; opened = true } ∷ behind }

-- An opened commit becomes durable, before any failure.
pub record PlaysEnd (at : PlayState) (stamp : ℕ) (later : PlayState) : Type 0 where
  pub calm : at.failed ≡ None
  pub before : List Aloft
  pub behind : List Aloft
  pub flies : FliesOnce at.aloft before behind (record { stamp = stamp; opened = true })
  pub later_is : later ≡ record at { done = at.done ++ stamp ∷ []; aloft = before ++ behind }

-- A commit aloft fails with a count of faults, where none has failed, and stays aloft.
pub record PlaysFail (at : PlayState) (stamp faults : ℕ) (later : PlayState) : Type 0 where
  pub calm : at.failed ≡ None
  pub opened : Bool
  pub before : List Aloft
  pub behind : List Aloft
  pub flies : FliesOnce at.aloft before behind (record { stamp = stamp; opened = opened })
  pub later_is : later ≡ record at { failed = Some faults }

-- An fsync that waits gives back what it reserved.
pub record PlaysBack (at : PlayState) (stamp : ℕ) (later : PlayState) : Type 0 where
  pub left : List ℕ
  pub waited : StopsWaiting at stamp left
  pub later_is : later ≡ record at { waiting = left }

-- An fsync halts behind a failure: it waits no longer, and its commit, where one is aloft, stays so.
pub record PlaysHalt (at : PlayState) (stamp : ℕ) (later : PlayState) : Type 0 where
  pub faults : ℕ
  pub failed : at.failed ≡ Some faults
  pub left : List ℕ
  pub waited : StopsWaiting at stamp left ⊎ ((left ≡ at.waiting) × (IsOneOf at.waiting stamp → ⊥))
  pub later_is : later ≡ record at { waiting = left }

-- what a turn does behind some turns, by its act
abbrev pub PlaysAct : TurnAct → List Turn → PlayState → Turn → PlayState → Type 0
PlaysAct act.Granted turns at turn later = PlaysGrant turns at turn.stamp.0 later
PlaysAct act.GivenBack turns at turn later = PlaysBack at turn.stamp.0 later
PlaysAct (act.Short kind need free) turns at turn later = PlaysShort turns at turn.stamp.0 later
PlaysAct act.Halted turns at turn later = PlaysHalt at turn.stamp.0 later
PlaysAct act.CutAt turns at turn later = PlaysBegin turns at turn.stamp.0 later
PlaysAct act.Opened turns at turn later = PlaysOpen at turn.stamp.0 later
PlaysAct act.Durable turns at turn later = PlaysEnd at turn.stamp.0 later
PlaysAct act.Fail turns at turn later = PlaysFail at turn.stamp.0 turn.faults later

-- Turns in their order, as what fsyncs do, and what they have done behind them.
pub data Plays : List Turn → PlayState → Type 0 where
  no_play : Plays [] nothing_played
  one_play : (turns : List Turn) (turn : Turn) (at later : PlayState) → Plays turns at → PlaysAct turn.act turns at turn later
      → Plays (turns ++ turn ∷ []) later

-- the fsyncs whose commits became durable, in the order of their turns
abbrev pub durables : List Turn → List Flush
durables turns = filter_map durable_flush turns

-- Turns are such a play: done are the durable ones in their order, it has the count of faults of the first failure, those wait that have reserved
-- and no more, and those are aloft whose commits are begun and not done.
pub record PlaysTo (turns : List Turn) : Type 0 where
  pub at : PlayState
  pub plays : Plays turns at
  pub done : at.done ≡ map (λ flush. flush.stamp) (durables turns)
  pub failed : at.failed ≡ failed_in turns
  pub waits : (stamp : ℕ) → IsOneOf at.waiting stamp ↔ (phase_of stamp turns ≡ has_reserved)
  pub flies : (stamp : ℕ) → IsOneOf (map (λ flight. flight.stamp) at.aloft) stamp ↔ (flies_in (phase_of stamp turns) ≡ true)

-- While an fsync waits, no turn of its core is of another one.
abbrev pub OwnWaits : List Turn → Type 0
OwnWaits turns = (front back : List Turn) (turn other : Turn) → turns ≡ front ++ turn ∷ back → IsOneOf front other → other.core.0 ≡ turn.core.0
    → phase_of other.stamp.0 front ≡ has_reserved → other.stamp.0 ≡ turn.stamp.0

-- The record of turns at the disk is what fsyncs do: each fsync of a live node goes one of the ways, each turn is of one, they are a play at whose
-- end none waits, one that waits has its core for itself, and each fsync ends by its last turn.
pub record PensMerge (first : TreeState) (history : List Entry) (turns : List Turn) : Type 0 where
  pub goes : EachGoes first history turns
  pub each : (turn : Turn) → IsOneOf turns turn → IsOfFsync first history turn
  pub plays : PlaysTo turns
  pub settled : plays.at.waiting ≡ []
  pub own : OwnWaits turns
  pub ends : EachEnds first history turns (failed_in turns)
