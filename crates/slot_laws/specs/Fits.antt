-- What follows from the rules alone: flights, slots, turns that wait, numbers and stamps fit.
use Rattle.std.specs.Prelude.{◌≡◌, ◌≢◌, ◌⊎◌, ◌≤◌, ◌∷◌, ◌++◌, ℕ, true, false, List, [], Option, Some, None}
use Rattle.sfs_image.specs.Super.{Layout}
use Rattle.sfs_image.specs.Settled.{slot_count}
use Rattle.tree_laws.specs.declared.turns.Turn.{Turn}
use Rattle.tree_laws.specs.declared.turns.TurnAct.TheVariants as act
use Rattle.cut_laws.specs.Rules.{IsOneOf}
use Rattle.turn_laws.specs.Books.{CountsFaults}
use Rattle.merge_laws.specs.LeftByTurns.{TimesRise}
use Rattle.merge_laws.specs.Pens.{failed_in, turns_of_core}
use Rattle.slot_laws.specs.Slots.{may_be_open, SlotWork, Slots, place_at}
use Rattle.slot_laws.specs.Labels.{owner, SlotFlight, BoxPast}
use Rattle.slot_laws.specs.Rules.{IsTurnBy}

-- A flight that is not durable yet is in its slot, with the gate as it knows it, and no turn waits.
pub record IsFlying (slots : Slots) (waits : ℕ → Option Turn) (core : ℕ) (flight : SlotFlight) : Type 0 where
  pub work : SlotWork
  pub there : slots flight.slot ≡ Some work
  pub commit : work.commit ≡ flight.commit
  pub flush : work.flush ≡ flight.flush
  pub aloft : work.settled ≡ false
  pub left : may_be_open work.known.gate_left ≡ flight.opened
  pub read : may_be_open work.known.gate_read ≡ flight.opened
  pub none : waits core ≡ None

-- One that is durable has its turn, of which its core has not learned.
pub record Landed (waits : ℕ → Option Turn) (core : ℕ) (flight : SlotFlight) : Type 0 where
  pub turn : Turn
  pub waits_is : waits core ≡ Some turn
  pub turn_is : IsTurnBy turn act.Durable core flight.commit flight.flush
  pub opened : flight.opened ≡ true

-- A flight of a core is in a slot of its own, and flies or has landed.
pub record FlightFits (layout : Layout) (slots : Slots) (waits : ℕ → Option Turn) (core : ℕ) (flight : SlotFlight) : Type 0 where
  pub own : owner layout flight.slot ≡ core
  pub is : IsFlying slots waits core flight ⊎ Landed waits core flight

-- A slot's commit that is not durable is its owner's flight.
pub record IsAloftBy (layout : Layout) (slots : Slots) (waits : ℕ → Option Turn) (flights : ℕ → Option SlotFlight) (k : ℕ) : Type 0 where
  pub flight : SlotFlight
  pub flies_is : flights (owner layout k) ≡ Some flight
  pub slot_is : flight.slot ≡ k
  pub flies : IsFlying slots waits (owner layout k) flight

-- Flights, slots and turns that wait fit.
pub record FlightsFit (layout : Layout) (slots : Slots) (waits : ℕ → Option Turn) (flights : ℕ → Option SlotFlight) : Type 0 where
  pub each : (core : ℕ) (flight : SlotFlight) → flights core ≡ Some flight → FlightFits layout slots waits core flight
  pub aloft : (k : ℕ) (work : SlotWork) → slots k ≡ Some work → work.settled ≡ false → IsAloftBy layout slots waits flights k
  pub idle : (core : ℕ) → flights core ≡ None → waits core ≡ None

-- a turn that waits, as a list
abbrev pub waiting_turns : Option Turn → List Turn
waiting_turns None = []
waiting_turns (Some turn) = turn ∷ []

-- The turns of each core are those that it told, and the one that waits for it.
abbrev pub TurnsFit : List Turn → (ℕ → Option Turn) → (ℕ → List Turn) → Type 0
TurnsFit turns waits told = (core : ℕ) → turns_of_core core turns ≡ told core ++ waiting_turns (waits core)

-- Numbers and commit stamps fit: none is above what was given, no two commits have one, and a number reserved is no commit's yet.
pub record NumbersFit (layout : Layout) (slots : Slots) (reserved : ℕ → Option ℕ) (flights : ℕ → Option SlotFlight) (commits stamps : ℕ) : Type 0 where
  pub below : (k : ℕ) (work : SlotWork) → slots k ≡ Some work → work.commit ≤ commits
  pub stamped : (k : ℕ) (work : SlotWork) → slots k ≡ Some work → work.job.stamp ≤ stamps
  pub given : (core number : ℕ) → reserved core ≡ Some number → number ≤ commits
  pub once : (core other number : ℕ) → reserved core ≡ Some number → reserved other ≡ Some number → core ≡ other
  pub unused : (core number k : ℕ) (work : SlotWork) → reserved core ≡ Some number → slots k ≡ Some work → work.commit ≢ number
  pub rests : (core number : ℕ) → reserved core ≡ Some number → flights core ≡ None
  pub beyond : (k : ℕ) → slot_count layout ≤ k → slots k ≡ None
  pub numbered : (j k : ℕ) (one other : SlotWork) → slots j ≡ Some one → slots k ≡ Some other → one.commit ≡ other.commit → j ≡ k
  pub drawn : (j k : ℕ) (one other : SlotWork) → slots j ≡ Some one → slots k ≡ Some other → one.job.stamp ≡ other.job.stamp → j ≡ k
  pub place : (k : ℕ) (work : SlotWork) → slots k ≡ Some work → work.job.place ≡ place_at layout k

-- Moments rise along the turns, up to the last one; each turn's count of faults is right where it stands; and this is that of the first failure.
pub record TimesFit (before : ℕ) (turns : List Turn) (moment : ℕ) (failure : Option ℕ) : Type 0 where
  pub rise : TimesRise turns
  pub latest : (turn : Turn) → IsOneOf turns turn → turn.now ≤ moment
  pub failed : failure ≡ failed_in turns
  pub counts : (front back : List Turn) (turn : Turn) → turns ≡ front ++ turn ∷ back → CountsFaults before turn.faults (failed_in front) turn.act turn.faults

-- What was told fits.
pub record PastFits (layout : Layout) (before : ℕ) (past : BoxPast) : Type 0 where
  pub flights : FlightsFit layout past.slots past.waits (λ core. (past.owns core).flight)
  pub turns : TurnsFit past.turns past.waits (λ core. (past.owns core).told)
  pub numbers : NumbersFit layout past.slots (λ core. (past.owns core).reserved) (λ core. (past.owns core).flight) past.commits past.stamps
  -- once a core has told of a failure no turn waits for it
  pub over : (core : ℕ) → (past.owns core).over ≡ true → (past.waits core ≡ None) × (past.failed ≢ None)
  pub times : TimesFit before past.turns past.moment past.failed
