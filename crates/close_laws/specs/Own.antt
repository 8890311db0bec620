-- What a core owes of its own labels beside their rules: turns that reserve or give back stand beside the labels that do.
use Rattle.std.specs.Prelude.{◌+◌, ◌==◌, if◌then◌else◌, ◌≡◌, ◌⊎◌, ◌∷◌, Bool, not, length, ℕ, false, Some, List, []}
use Rattle.space_map.specs.Space.{GrantedNumbers}
use Rattle.tree_laws.specs.declared.turns.TurnAct.TheVariants as act
use Rattle.tree_laws.specs.declared.turns.TurnAct.{TurnAct}
use Rattle.tree_laws.specs.declared.turns.Turn.{Turn}
use Rattle.stamp_table.specs.declared.event.Event.{Event}
use Rattle.stamp_table.specs.declared.event.Event.TheVariants.{Called, Told}
use Rattle.stamp_table.specs.Rule.{entries_by}
use Rattle.stamp_table.specs.Events.{event_core}
use Rattle.slot_laws.specs.declared.label.Label.{Label}
use Rattle.slot_laws.specs.declared.label.Label.TheVariants as label
use Rattle.slot_laws.specs.Labels.{OwnTold, SlotFlight, own_label, nothing_told}

-- whether anything is granted
abbrev pub has_numbers : GrantedNumbers → Bool
has_numbers grant = not (length grant.inodes + length grant.blocks == 0)

-- What a core has to tell next: anything; that it was granted something, under this number; or that it gave it back.
pub data OwesTurn : Type 0 where
  owes_nothing : OwesTurn
  owes_granted : ℕ → OwesTurn
  owes_given_back : ℕ → OwesTurn

-- What a core's own labels leave: whether something is granted for the number that it has reserved; what it owes; and the turn that it may tell next of its
-- last label, owed or not.
pub record OwnOwed : Type 0 where
  pub granted : Bool
  pub owes : OwesTurn
  pub may : OwesTurn

-- before its first label
abbrev pub nothing_owed : OwnOwed
nothing_owed = record { granted = false; owes = owes_nothing; may = owes_nothing }

-- where it was granted something the turn that says so comes next, and so it is where it gives that back; where it was granted nothing such a turn may come
abbrev pub own_owed : Label → OwnOwed → OwnOwed
own_owed (label.Noted turn) own = record own { owes = owes_nothing; may = owes_nothing }
own_owed (label.Reserved commit seen grant) own =
    record { granted = has_numbers grant; owes = if has_numbers grant then owes_granted commit else owes_nothing; may = owes_granted commit }
own_owed (label.Returned commit) own =
    record { granted = false; owes = if own.granted then owes_given_back commit else owes_nothing; may = owes_given_back commit }
own_owed _ own = record own { may = owes_nothing }

-- A label notes a turn that did this, of the fsync with a stamp.
pub record NotesTurn (did : TurnAct) (stamp : ℕ) (fact : Label) : Type 0 where
  pub turn : Turn
  pub is : fact ≡ label.Noted turn
  pub did_is : turn.act ≡ did
  pub stamp_is : turn.stamp.0 ≡ stamp

-- A core's flight is of the fsync of a turn.
pub record FliesAs (told : OwnTold) (turn : Turn) : Type 0 where
  pub flight : SlotFlight
  pub flies : told.flight ≡ Some flight
  pub stamp_is : turn.stamp.0 ≡ flight.flush.stamp

-- A core has reserved a number and has not begun yet, for the fsync of a turn.
pub record WaitsAs (stamps : ℕ → ℕ) (told : OwnTold) (turn : Turn) : Type 0 where
  pub number : ℕ
  pub reserved : told.reserved ≡ Some number
  pub stamp_is : turn.stamp.0 ≡ stamps number

-- A turn may be told of the label right before it.
pub record MayTell (stamps : ℕ → ℕ) (asked : ℕ → OwesTurn) (may : OwesTurn) (turn : Turn) : Type 0 where
  pub number : ℕ
  pub may_is : may ≡ asked number
  pub stamp_is : turn.stamp.0 ≡ stamps number

-- A turn that is noted where none is owed: one that reserves or gives back stands right behind the label that does, of a grant of nothing; and a commit that
-- begins so, which failed, is the core's flight, or is the one that it has reserved, which failed as it waited for a slot.
pub record NotesFreely (stamps : ℕ → ℕ) (may : OwesTurn) (told : OwnTold) (turn : Turn) : Type 0 where
  pub own_grant : turn.act ≡ act.Granted → MayTell stamps owes_granted may turn
  pub own_return : turn.act ≡ act.GivenBack → MayTell stamps owes_given_back may turn
  pub own_cut : turn.act ≡ act.CutAt → FliesAs told turn ⊎ WaitsAs stamps told turn

-- what a label is where no turn is owed, by the stamps of the fsyncs of commits
abbrev pub TellsFreely : (ℕ → ℕ) → OwesTurn → OwnTold → Label → Type 0
TellsFreely stamps may told (label.Noted turn) = NotesFreely stamps may told turn
TellsFreely stamps may told (label.Began filling commit node stamp blocks inodes) = stamp.0 ≡ stamps commit
TellsFreely stamps may told (label.Empty commit cut opened durable) = cut.stamp.0 ≡ stamps commit
TellsFreely stamps may told _ = Unit {0}

-- what a label is, by what its core owes and what it may tell
abbrev pub TellsBeside : (ℕ → ℕ) → OwesTurn → OwesTurn → OwnTold → Label → Type 0
TellsBeside stamps (owes_granted number) may told fact = NotesTurn act.Granted (stamps number) fact
TellsBeside stamps (owes_given_back number) may told fact = NotesTurn act.GivenBack (stamps number) fact
TellsBeside stamps owes_nothing may told fact = TellsFreely stamps may told fact

-- A core's own events stand so, each by those before it.
abbrev pub OwnStand : (ℕ → ℕ) → OwnTold → OwnOwed → List (Event Label) → Type 0
OwnStand stamps told own [] = Unit {0}
OwnStand stamps told own (Called entry ∷ log) = OwnStand stamps told own log
OwnStand stamps told own (Told core fact ∷ log) =
    TellsBeside stamps own.owes own.may told fact × OwnStand stamps (own_label fact told) (own_owed fact own) log

-- So do each core's of a history.
abbrev pub StandBeside : (ℕ → ℕ) → List (Event Label) → Type 0
StandBeside stamps log = (core : ℕ) → OwnStand stamps nothing_told nothing_owed (entries_by event_core core log)
