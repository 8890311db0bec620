-- What a step at the box comes to: one device call at most, and what is told of it.
use Rattle.std.specs.Prelude.{◌≡◌, ◌+◌, ◌≤◌, ◌++◌, ◌∷◌, ℕ, List, [], Bool, true, false, Some, Result, OnOk, OnErr, IfErr}
use Rattle.sfs_dev.specs.Disk.{View}
use Rattle.tree_laws.specs.declared.turns.Turn.{Turn}
use Rattle.tree_laws.specs.declared.turns.TurnAct.TheVariants as act
use Rattle.stamp_table.specs.Table.{TableState}
use Rattle.slot_laws.specs.Slots.{SlotWork, Slots}
use Rattle.slot_laws.specs.Labels.{OwnTold, SlotFlight, opened_flight}
use Rattle.slot_laws.specs.Rules.{IsOldestOf, IsTurnBy}
use Rattle.disk_box.specs.declared.key.BoxKey.{BoxKey}
use Rattle.disk_box.specs.declared.desk.Desk.{Desk}
use Rattle.disk_box.specs.declared.desk.Slot.{Slot}
use Rattle.disk_box.specs.declared.desk.Phase.{Phase}
use Rattle.disk_box.specs.declared.desk.Phase.TheVariants as phase
use Rattle.disk_box.specs.declared.kind.Kind.{Kind}
use Rattle.disk_box.specs.declared.kind.Kind.TheVariants as kind
use Rattle.disk_box.specs.Kind.{HasKind}
use Rattle.disk_box.specs.Pens.{PenHand, PenGoes, TellsSteps, WorksAtDesk, IsBroken, calls_at, past_at}

module _ {D : Type 0} (view : D → View) (t : TableState (BoxKey D)) where
  -- A pen with the box has made a step of one device call at most, and told of it: it is at work still; or a device call of its failed, of which it has yet
  -- to tell.
  pub record Steps {V : Type 0} (before after : PenHand D) (desk : Desk D) (result : Result V ℕ) : Type 0 where
    pub goes : PenGoes before after
    pub room : after.room ≡ before.room
    pub tells : TellsSteps before after
    pub once : calls_at after ≤ calls_at before + 1
    pub ok : OnOk result (WorksAtDesk view t after desk)
    -- no turn came to wait for the core in a call that failed
    pub waits : OnErr result ((past_at after).waits before.view.core ≡ (past_at before).waits before.view.core)
    pub err : IfErr result (λ faults. IsBroken view t after desk faults)

-- What opening the gate of a core's flight makes of what it told: two turns, by which the commit begins and is opened.
pub record OpensFlight (core : ℕ) (before after : OwnTold) : Type 0 where
  pub flight : SlotFlight
  pub cut : Turn
  pub opened : Turn
  pub flew : before.flight ≡ Some flight
  pub shut : flight.opened ≡ false
  pub after_is : after ≡ record before { flight = Some (opened_flight flight); told = before.told ++ cut ∷ opened ∷ [] }
  pub cut_by : IsTurnBy cut act.CutAt core flight.commit flight.flush
  pub opened_by : IsTurnBy opened act.Opened core flight.commit flight.flush

-- whether a durable commit is in a slot of this phase, of which records are to be placed or the gate is to be shut
abbrev pub is_lingering : Kind → Bool
is_lingering kind.Durable = true
is_lingering kind.Placed = true
is_lingering kind.Copied = true
is_lingering kind.Closing = true
is_lingering _ = false

-- A slot has such a phase.
pub record Lingers (slots : List Slot) (k : ℕ) : Type 0 where
  pub what : Kind
  pub has : HasKind slots k what
  pub lingers : is_lingering what ≡ true

-- the next record of a durable commit in a slot is the oldest of its inode
abbrev pub NextIsOldest : Slots → ℕ → Slot → Type 0
NextIsOldest told k slot = (work : SlotWork) → told k ≡ Some work → IsOldestIn slot.phase work where
  IsOldestIn : Phase → SlotWork → Type 0
  IsOldestIn (phase.Durable durable) work = IsOldestOf told k work durable.done
  IsOldestIn _ work = ⊥
