-- What a core's turns make of what it told, and which labels its pen tells of them.
use Rattle.std.specs.Prelude.{◌≡◌, ◌∷◌, ℕ, Bool, true, [], Some}
use Rattle.tree_laws.specs.declared.turns.Turn.{Turn}
use Rattle.tree_laws.specs.declared.turns.TurnAct.TheVariants as act
use Rattle.cut_laws.specs.Closure.{Flush}
use Rattle.slot_laws.specs.Labels.{OwnTold, SlotFlight, own_label}
use Rattle.slot_laws.specs.Rules.{IsTurnBy}
use Rattle.slot_laws.specs.declared.label.Label.TheVariants as label
use Rattle.disk_box.specs.Pens.{PenHand, Tells}

-- The core's flight has landed: this turn made its commit durable, and the core has learned of it.
pub record Lands (turn : Turn) (core : ℕ) (before after : OwnTold) : Type 0 where
  pub flight : SlotFlight
  pub flew : before.flight ≡ Some flight
  pub opened : flight.opened ≡ true
  pub by : IsTurnBy turn act.Durable core flight.commit flight.flush
  pub after_is : after ≡ own_label (label.Learned turn) before

-- A commit of the core is halted, since an earlier one had failed.
pub record Halts (number : ℕ) (flush : Flush) (core : ℕ) (before after : OwnTold) : Type 0 where
  pub turn : Turn
  pub by : IsTurnBy turn act.Halted core number flush
  pub after_is : after ≡ own_label (label.Noted turn) before

-- A commit that has begun fails, with this count of faults.
pub record FailsBegun (number : ℕ) (flush : Flush) (core faults : ℕ) (before after : OwnTold) : Type 0 where
  pub turn : Turn
  pub by : IsTurnBy turn act.Fail core number flush
  pub counts : turn.faults ≡ faults
  pub after_is : after ≡ own_label (label.Noted turn) before

-- A commit that has not begun does, and fails.
pub record Fails (number : ℕ) (flush : Flush) (core faults : ℕ) (before after : OwnTold) : Type 0 where
  pub cut : Turn
  pub cut_by : IsTurnBy cut act.CutAt core number flush
  pub fails : FailsBegun number flush core faults (own_label (label.Noted cut) before) after

module _ {D : Type 0} (number : ℕ) (flush : Flush) (before after : PenHand D) where
  -- A pen has told that its core's commit is halted.
  pub record TellsHalt : Type 0 where
    pub turn : Turn
    pub by : IsTurnBy turn act.Halted before.view.core number flush
    pub mine_is : Tells (label.Noted turn ∷ []) before after

  -- A pen has told that its core's commit begins and fails, with this count of faults.
  pub record TellsFailure (faults : ℕ) : Type 0 where
    pub cut : Turn
    pub fail : Turn
    pub cut_by : IsTurnBy cut act.CutAt before.view.core number flush
    pub fail_by : IsTurnBy fail act.Fail before.view.core number flush
    pub counts : fail.faults ≡ faults
    pub mine_is : Tells (label.Noted cut ∷ label.Noted fail ∷ []) before after

  -- A pen has told that its core's commit, which has begun, fails.
  pub record TellsBegunFailure (faults : ℕ) : Type 0 where
    pub fail : Turn
    pub by : IsTurnBy fail act.Fail before.view.core number flush
    pub counts : fail.faults ≡ faults
    pub mine_is : Tells (label.Noted fail ∷ []) before after

-- A pen has told that the gate of a slot was written, with two turns.
pub record TellsOpening {D : Type 0} (slot : ℕ) (before after : PenHand D) : Type 0 where
  pub done : Bool
  pub cut : Turn
  pub opened : Turn
  pub mine_is : Tells (label.Opened slot done cut opened ∷ []) before after
