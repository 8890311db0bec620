-- A commit under way, turn by turn.
use Rattle.std.proofs.Common.{◌≡◌, ◌∙◌, ℕ, Bool, true, false, Some, Result, Ok, Err, inl, inr, sym, ap, subst}
use Rattle.sfs_base.proofs.BasicOptions.{some_same}
use Rattle.sfs_base.proofs.BasicTruth.{true_not_false}
use Rattle.sfs_base.specs.Ends.{HasRisen}
use Rattle.tree_laws.specs.Tree.{TreeState}
use Rattle.stamp_table.specs.declared.event.Event.{Event}
use Rattle.stamp_table.specs.declared.view.View.{View as Sight}
use Rattle.slot_laws.specs.declared.label.Label.{Label}
use Rattle.slot_laws.specs.Labels.{OwnTold, SlotFlight}
use Rattle.disk_box.specs.declared.key.BoxKey.{BoxKey}
use Rattle.disk_box.specs.Box.{past_of}
use Rattle.disk_box.specs.Pens.{PenHand, PenGoes}
use Rattle.disk_box.specs.Steps.{OpensFlight}
use Rattle.disk_box.specs.Turns.{Fails, FailsBegun, Halts}
use Rattle.journal_set.specs.declared.fault.Ack.{Ack}
use Rattle.journal_set.specs.declared.fault.CommitFault.{CommitFault}
use Rattle.journal_set.specs.declared.fault.CommitFault.TheVariants as fault
use Rattle.journal_set.specs.declared.flying.Flight.{Flight}
use Rattle.journal_set.specs.declared.flying.Progress.{Progress}
use Rattle.journal_set.specs.Flying.{EndsFlight, GoesOn, IsCausedBy, IsUnderWay, LastTurn, TurnComes, TurnFails, flight_of}
use Rattle.journal_set.proofs.Around.{front_later}

-- a flight whose gate is written is one whose gate was not
flight_same : (flight : Flight) (opened : Bool) (other : SlotFlight) (own : OwnTold) → own.flight ≡ Some (flight_of flight opened) → own.flight ≡ Some other
    → other.opened ≡ false → opened ≡ false
flight_same flight opened other own one two shut = ap (λ (f : SlotFlight). f.opened) (some_same (sym one ∙ two)) ∙ shut

-- A commit under way whose gate is opened is under way with its gate open.
pub opened_under : (flight : Flight) (opened : Bool) (core : ℕ) (before after : OwnTold) → IsUnderWay flight opened before → OpensFlight core before after
    → IsUnderWay flight true after
opened_under flight opened core before after under opens =
    let same : opens.flight ≡ flight_of flight opened = some_same (sym opens.flew ∙ under.flies) in
    record {
      flies = ap (λ (o : OwnTold). o.flight) opens.after_is ∙ ap (λ (f : SlotFlight). Some (record f { opened = true })) same;
      none_reserved = ap (λ (o : OwnTold). o.reserved) opens.after_is ∙ under.none_reserved;
      goes_on = ap (λ (o : OwnTold). o.over) opens.after_is ∙ under.goes_on;
    }

-- So it is under way however it has gone on.
pub under_again : (flight : Flight) (opened : Bool) (core : ℕ) (before after : OwnTold) → IsUnderWay flight opened before → GoesOn core before after
    → (now : Bool) × IsUnderWay flight now after
under_again flight opened core before after under goes = elim goes [
  | inl same ↦ (opened, subst (IsUnderWay flight opened) (sym same) under)
  | inr opens ↦ (true, opened_under flight opened core before after under opens)
]

-- Turns that went on, one behind another.
pub goes_on_both : (flight : Flight) (core : ℕ) (before mid after : OwnTold) → IsUnderWay flight false before → GoesOn core before mid → GoesOn core mid after
    → GoesOn core before after
goes_on_both flight core before mid after under first second = elim first [
  | inl same ↦ subst (λ o. GoesOn core o after) same second
  | inr opens ↦ elim second [
    | inl same ↦ inr (subst (OpensFlight core before) (sym same) opens)
    | inr again ↦
        let now = opened_under flight false core before mid under opens in
        absurd (true_not_false (flight_same flight true again.flight mid now.flies again.flew again.shut))
  ]
]

-- What comes of a turn while a core has the box comes of it from outside.
module _ (flight : Flight) (core entered : ℕ) (same : entered ≡ core) (before at done after : OwnTold) (own_in : at ≡ before) (own_out : after ≡ done) where
  pub turn_around : (result : Result Progress CommitFault) → TurnComes flight entered at done result → TurnComes flight core before after result
  turn_around result comes =
      subst (λ (z : ℕ × (OwnTold × OwnTold)). TurnComes flight z.0 z.1.0 z.1.1 result) (λ i. (same i, (own_in i, sym own_out i))) comes

-- So does its cause.
pub cause_around : {D : Type 0} (done after : PenHand D) → PenGoes done after → (refused : CommitFault) → IsCausedBy done refused → IsCausedBy after refused
cause_around {D = D} done after goes (fault.DiskFailed faults) cause =
    subst (λ (k : BoxKey D). HasRisen k.faults faults) (sym (ap (λ (h : PenHand D). h.table.given) goes.frame)) cause
cause_around done after goes (fault.NoSpace kind need free) cause = cause
cause_around {D = D} done after goes (fault.Stopped faults) cause = record {
  front = cause.front;
  seen = front_later cause.front done.view.seen after.view.seen cause.seen goes.seen;
  failed = ap (λ (k : BoxKey D). (past_of k cause.front).failed) (ap (λ (h : PenHand D). h.table.given) goes.frame) ∙ cause.failed;
}
cause_around done after goes (fault.Moved node last) cause = cause
cause_around done after goes fault.NoMemory cause = cause

-- a pen goes on in two stretches
pub goes_twice : {D : Type 0} (before mid after : PenHand D) → PenGoes before mid → PenGoes mid after → PenGoes before after
goes_twice before mid after first second = record {
  frame = (λ i. record (second.frame i) { view = before.view; held = before.held; room = before.room }) ∙ first.frame;
  view = (λ i. record (second.view i) { seen = before.view.seen; mine = before.view.mine; held = before.view.held }) ∙ first.view;
  seen = front_later before.view.seen mid.view.seen after.view.seen first.seen second.seen;
}

-- its core is the same
pub core_kept : {D : Type 0} (before after : PenHand D) → PenGoes before after → after.view.core ≡ before.view.core
core_kept before after goes = ap (λ (v : Sight TreeState (Event Label)). v.core) goes.view

-- A commit is under way as another has it that is the same but for what its core does before it syncs.
pub under_told : (flight told : Flight) (opened : Bool) (own : OwnTold) → ((b : Bool) → flight_of told b ≡ flight_of flight b) → IsUnderWay flight opened own
    → IsUnderWay told opened own
under_told flight told opened own same under =
    record { flies = under.flies ∙ ap Some (sym (same opened)); none_reserved = under.none_reserved; goes_on = under.goes_on }

-- It has ended, by its last turn.
pub ends_so : (flight told : Flight) (core : ℕ) (before mid after : OwnTold) (result : Result Ack CommitFault)
    → ((b : Bool) → flight_of told b ≡ flight_of flight b) → GoesOn core before mid → LastTurn told core mid after result
    → EndsFlight flight core before after result
ends_so flight told core before mid after (Ok ack) same goes last = record { middle = mid; goes = goes; ends = last }
ends_so flight told core before mid after (Err refused) same goes last = record { middle = mid; goes = goes; ends = as_told refused last } where
  both : ◌≡◌ {A = SlotFlight × SlotFlight} (flight_of told false, flight_of told true) (flight_of flight false, flight_of flight true)
  both = λ i. (same false i, same true i)

  as_told : (refused : CommitFault) → TurnFails told core mid after refused → TurnFails flight core mid after refused
  as_told (fault.DiskFailed faults) it = elim it [
    | inl shut ↦ inl (record {
      shut = shut.shut ∙ ap Some (same false);
      fails = subst (λ (f : SlotFlight). Fails f.commit f.flush core faults mid after) (same false) shut.fails;
    })
    | inr opened ↦ inr (record {
      middle = opened.middle;
      goes = opened.goes;
      opened = opened.opened ∙ ap Some (same true);
      fails = subst (λ (f : SlotFlight). FailsBegun f.commit f.flush core faults opened.middle after) (same true) opened.fails;
    })
  ]
  as_told (fault.NoSpace kind need free) it = it
  as_told (fault.Stopped faults) it = subst (λ (f : SlotFlight). Halts f.commit f.flush core mid after) (same false) it
  as_told (fault.Moved node last) it = it
  as_told fault.NoMemory it = it
