-- What a core tells turn by turn at the box: of work at slots, and of its own commits.
use Rattle.std.specs.Prelude.{◌≡◌, ◌⊎◌, ◌+◌, ◌∷◌, ◌++◌, if◌then◌else◌, ℕ, Bool, true, false, List, [], flat_map, map, Some}
use Rattle.sfs_base.specs.declared.numbers.NodeId.{NodeId}
use Rattle.sfs_base.specs.declared.numbers.SpaceKind.{SpaceKind}
use Rattle.sfs_base.specs.declared.numbers.Stamp.{Stamp}
use Rattle.sfs_base.specs.Lists.{Roomy}
use Rattle.journal_one.specs.declared.slot.Filling.{Filling}
use Rattle.space_map.specs.Space.{GrantedNumbers}
use Rattle.tree_laws.specs.declared.turns.Turn.{Turn}
use Rattle.tree_laws.specs.declared.turns.TurnAct.TheVariants as act
use Rattle.cut_laws.specs.Closure.{Flush}
use Rattle.cut_laws.specs.Rules.{IsOneOf}
use Rattle.turn_laws.specs.Books.{flush_at}
use Rattle.stamp_table.specs.declared.event.Event.{Event}
use Rattle.stamp_table.specs.declared.event.Event.TheVariants.{Called, Told}
use Rattle.slot_laws.specs.declared.label.Label.{Label}
use Rattle.slot_laws.specs.declared.label.Label.TheVariants as label
use Rattle.slot_laws.specs.declared.label.Seen.{Seen}
use Rattle.slot_laws.specs.Labels.{OwnTold, SlotFlight, fsync_told, nothing_told, own_from}
use Rattle.slot_laws.specs.Nodes.{no_numbers}
use Rattle.slot_laws.specs.Rules.{IsTurnBy}

-- whether a label tells of a step at a slot, or of what a sync has made of one: it neither reserves, begins, ends nor gives back a commit without a slot, and
-- notes no turn
abbrev pub IsOfStep : Label → Type 0
IsOfStep (label.Filled slot piece done) = Unit {0}
IsOfStep (label.Synced now) = Unit {0}
IsOfStep (label.Opened slot done cut opened) = Unit {0}
IsOfStep (label.Settled slot turn) = Unit {0}
IsOfStep (label.Placed slot n done) = Unit {0}
IsOfStep (label.Shut slot done) = Unit {0}
IsOfStep (label.Idled slot) = Unit {0}
IsOfStep _ = ⊥

-- so does each of a list
abbrev pub AreSteps : List Label → Type 0
AreSteps [] = Unit {0}
AreSteps (fact ∷ facts) = IsOfStep fact × AreSteps facts

-- whether a label tells of a device call
abbrev pub is_device_call : Label → Bool
is_device_call (label.Filled slot piece done) = true
is_device_call (label.Synced now) = true
is_device_call (label.Opened slot done cut opened) = true
is_device_call (label.Placed slot n done) = true
is_device_call (label.Shut slot done) = true
is_device_call _ = false

-- of how many device calls events tell
abbrev pub device_calls : List (Event Label) → ℕ
device_calls [] = 0
device_calls (Called entry ∷ log) = device_calls log
device_calls (Told core fact ∷ log) = (if is_device_call fact then 1 else 0) + device_calls log

-- whether a label tells of a step that opens no gate: it takes no turn of its core's own
abbrev pub IsOfWork : Label → Type 0
IsOfWork (label.Filled slot piece done) = Unit {0}
IsOfWork (label.Synced now) = Unit {0}
IsOfWork (label.Settled slot turn) = Unit {0}
IsOfWork (label.Placed slot n done) = Unit {0}
IsOfWork (label.Shut slot done) = Unit {0}
IsOfWork (label.Idled slot) = Unit {0}
IsOfWork _ = ⊥

-- so does each of a list
abbrev pub AreOfWork : List Label → Type 0
AreOfWork [] = Unit {0}
AreOfWork (fact ∷ facts) = IsOfWork fact × AreOfWork facts

-- labels told by a core
abbrev pub labels_by : ℕ → List Label → List (Event Label)
labels_by core facts = map (Told (record { 0 = core })) facts

-- those of one turn at the box: it is taken, these are told, and it is brought home
abbrev pub at_box : ℕ → List Label → List (Event Label)
at_box core facts = labels_by core (label.Took ∷ facts ++ label.Gave ∷ [])

-- What a core does in one turn at the box: it works at slots; it is refused a number or halted; it reserves one; it gives it back; it ends a commit that wrote
-- nothing; it begins one in a slot; it opens its gate; it finds it durable; or a device call fails, of a commit that has not begun, or of one that has.
pub data BoxTurn : Type 0 where
  turn_works : List Label → BoxTurn
  turn_refuses : Turn → BoxTurn
  turn_reserves : ℕ → Roomy Seen → GrantedNumbers → Turn → BoxTurn
  turn_returns : ℕ → Turn → BoxTurn
  turn_empties : ℕ → Roomy Seen → Turn → Turn → Turn → BoxTurn
  turn_begins : Filling → ℕ → NodeId → Stamp → Roomy ℕ → Roomy ℕ → BoxTurn
  turn_opens : ℕ → Bool → Turn → Turn → BoxTurn
  turn_lands : Turn → BoxTurn
  turn_fails : List Label → Turn → Turn → BoxTurn
  turn_fails_begun : List Label → Turn → BoxTurn

-- the labels that it tells then, in their order
abbrev pub labels_in : BoxTurn → List Label
labels_in (turn_works facts) = facts
labels_in (turn_refuses turn) = label.Noted turn ∷ []
labels_in (turn_reserves number seen grant turn) = label.Reserved number seen grant ∷ label.Noted turn ∷ []
labels_in (turn_returns number turn) = label.Returned number ∷ label.Noted turn ∷ []
labels_in (turn_empties number seen cut opened durable) = label.Reserved number seen no_numbers ∷ label.Empty number cut opened durable ∷ []
labels_in (turn_begins filling number node stamp blocks inodes) = label.Began filling number node stamp blocks inodes ∷ []
labels_in (turn_opens slot done cut opened) = label.Opened slot done cut opened ∷ []
labels_in (turn_lands turn) = label.Learned turn ∷ []
labels_in (turn_fails facts cut fail) = facts ++ label.Noted cut ∷ label.Noted fail ∷ []
labels_in (turn_fails_begun facts fail) = facts ++ label.Noted fail ∷ []

-- all that a core tells in some turns at the box
abbrev pub events_in : ℕ → List BoxTurn → List (Event Label)
events_in core [] = []
events_in core (one ∷ turns) = at_box core (labels_in one) ++ events_in core turns

-- A turn refuses a number, or halts: an earlier commit has failed, or too little is free.
pub data IsRefusal (core number : ℕ) (flush : Flush) (turn : Turn) : Type 0 where
  is_halted : IsTurnBy turn act.Halted core number flush → IsRefusal core number flush turn
  is_short : (kind : SpaceKind) (need free : ℕ) → IsTurnBy turn (act.Short kind need free) core number flush → IsRefusal core number flush turn

-- A label tells of work, or that the gate of a core's commit was written.
abbrev pub IsOfFlight : ℕ → ℕ → Flush → Label → Type 0
IsOfFlight core number flush (label.Opened slot done cut opened) = IsTurnBy cut act.CutAt core number flush × IsTurnBy opened act.Opened core number flush
IsOfFlight core number flush fact = IsOfWork fact

-- so does each of a list
abbrev pub AreOfFlight : ℕ → ℕ → Flush → List Label → Type 0
AreOfFlight core number flush [] = Unit {0}
AreOfFlight core number flush (fact ∷ facts) = IsOfFlight core number flush fact × AreOfFlight core number flush facts

-- what is told in one turn at the box is of a core's commit with a number, for an fsync
abbrev pub IsTurnFor : ℕ → ℕ → Flush → BoxTurn → Type 0
IsTurnFor core number flush (turn_works facts) = AreOfWork facts
IsTurnFor core number flush (turn_refuses turn) = IsRefusal core number flush turn
IsTurnFor core number flush (turn_reserves own seen grant turn) = (own ≡ number) × IsTurnBy turn act.Granted core number flush
IsTurnFor core number flush (turn_returns own turn) = (own ≡ number) × IsTurnBy turn act.GivenBack core number flush
IsTurnFor core number flush (turn_empties own seen cut opened durable) =
    (own ≡ number) × IsTurnBy cut act.CutAt core number flush × IsTurnBy opened act.Opened core number flush × IsTurnBy durable act.Durable core number flush
IsTurnFor core number flush (turn_begins filling own node stamp blocks inodes) = (own ≡ number) × (fsync_told node stamp ≡ flush)
IsTurnFor core number flush (turn_opens slot done cut opened) = IsTurnBy cut act.CutAt core number flush × IsTurnBy opened act.Opened core number flush
IsTurnFor core number flush (turn_lands turn) = IsTurnBy turn act.Durable core number flush
IsTurnFor core number flush (turn_fails facts cut fail) =
    AreOfWork facts × IsTurnBy cut act.CutAt core number flush × IsTurnBy fail act.Fail core number flush
IsTurnFor core number flush (turn_fails_begun facts fail) = AreOfFlight core number flush facts × IsTurnBy fail act.Fail core number flush

-- A core has a commit in a slot, for an fsync.
pub record HasFlightFor (flush : Flush) (own : OwnTold) : Type 0 where
  pub flight : SlotFlight
  pub flies : own.flight ≡ Some flight
  pub flush_is : flight.flush ≡ flush

-- a commit that has not begun and fails is the one that its core has in a slot, or the one for which it has reserved
abbrev pub IsOwnTurn : ℕ → Flush → OwnTold → BoxTurn → Type 0
IsOwnTurn number flush own (turn_fails facts cut fail) = HasFlightFor flush own ⊎ (own.reserved ≡ Some number)
IsOwnTurn number flush own _ = Unit {0}

-- whose number is told has the stamp of its fsync
abbrev pub IsNamedTurn : (ℕ → ℕ) → ℕ → Flush → BoxTurn → Type 0
IsNamedTurn stamps number flush (turn_works facts) = Unit {0}
IsNamedTurn stamps number flush (turn_refuses turn) = Unit {0}
IsNamedTurn stamps number flush (turn_opens slot done cut opened) = Unit {0}
IsNamedTurn stamps number flush (turn_lands turn) = Unit {0}
IsNamedTurn stamps number flush (turn_fails_begun facts fail) = Unit {0}
IsNamedTurn stamps number flush _ = stamps number ≡ flush.stamp

-- One turn at the box: it is of a commit of its core's, whose number has the stamp of its fsync.
pub record TellsTurn (stamps : ℕ → ℕ) (core : ℕ) (own : OwnTold) (one : BoxTurn) : Type 0 where
  pub number : ℕ
  pub flush : Flush
  pub is : IsTurnFor core number flush one
  pub mine : IsOwnTurn number flush own one
  pub named : IsNamedTurn stamps number flush one

-- some of them, one after the other
abbrev pub TellTurns : (ℕ → ℕ) → ℕ → OwnTold → List BoxTurn → Type 0
TellTurns stamps core own [] = Unit {0}
TellTurns stamps core own (one ∷ turns) = TellsTurn stamps core own one × TellTurns stamps core (own_from (at_box core (labels_in one)) own) turns

-- What a pen has told since it is new: its core did this turn by turn at the box, and each turn is of a commit of its.
pub record PenTold (stamps : ℕ → ℕ) (core : ℕ) (mine : List (Event Label)) : Type 0 where
  pub turns : List BoxTurn
  pub mine_is : mine ≡ events_in core turns
  pub tells : TellTurns stamps core nothing_told turns

-- So it goes on with more of them.
abbrev pub PensGoOn : Type 0
PensGoOn = (stamps : ℕ → ℕ) (core : ℕ) (mine : List (Event Label)) (turns : List BoxTurn) → PenTold stamps core mine
    → TellTurns stamps core (own_from mine nothing_told) turns → PenTold stamps core (mine ++ events_in core turns)

-- the turns that a core's own label tells
abbrev pub turns_told : Label → List Turn
turns_told (label.Noted turn) = turn ∷ []
turns_told (label.Opened slot done cut opened) = cut ∷ opened ∷ []
turns_told (label.Learned turn) = turn ∷ []
turns_told (label.Empty commit cut opened durable) = cut ∷ opened ∷ durable ∷ []
turns_told _ = []

-- and those of some turns at the box
abbrev pub turns_in : List BoxTurn → List Turn
turns_in turns = flat_map (λ one. flat_map turns_told (labels_in one)) turns

-- Those of one turn at the box are of its core and of its fsync.
abbrev pub TurnsAreOfOne : Type 0
TurnsAreOfOne = (stamps : ℕ → ℕ) (core : ℕ) (own : OwnTold) (one : BoxTurn) (tells : TellsTurn stamps core own one) (turn : Turn)
    → IsOneOf (turns_in (one ∷ [])) turn → (turn.core.0 ≡ core) × (flush_at turn ≡ tells.flush)

-- A pen's turns are those that its core's turns at the box tell, in their order.
abbrev pub PensTellTurns : Type 0
PensTellTurns = (core : ℕ) (turns : List BoxTurn) → (own_from (events_in core turns) nothing_told).told ≡ turns_in turns
