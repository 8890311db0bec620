-- A core at the box: what its pen has told and seen, and what is so while it has the box.
use Rattle.std.specs.Prelude.{◌≡◌, ◌<◌, ◌∷◌, ◌++◌, ℕ, List, [], Option, Some, None}
use mathlib.Core.List.{IsPrefix}
use Rattle.sfs_base.specs.Ends.{HasRisen}
use Rattle.sfs_dev.specs.Disk.{View}
use Rattle.stamp_table.specs.declared.event.Event.{Event}
use Rattle.stamp_table.specs.declared.event.Event.TheVariants.{Told}
use Rattle.stamp_table.specs.Events.{event_core}
use Rattle.stamp_table.specs.Rule.{entries_by}
use Rattle.stamp_table.specs.Hand.{Hand}
use Rattle.stamp_table.specs.Table.{TableState}
use Rattle.slot_laws.specs.declared.label.Label.{Label}
use Rattle.slot_laws.specs.declared.label.Label.TheVariants as label
use Rattle.slot_laws.specs.Telling.{AreSteps, device_calls, labels_by}
use Rattle.slot_laws.specs.Labels.{BoxPast, OwnTold, own_from, own_label, after_label, nothing_told}
use Rattle.disk_box.specs.declared.key.BoxKey.{BoxKey}
use Rattle.disk_box.specs.declared.desk.Desk.{Desk}
use Rattle.disk_box.specs.Desk.{DeskFits, FrameFits, RoomFits}
use Rattle.disk_box.specs.Box.{past_of, LawfulBox, SpaceFits}

-- a pen, as contracts see it
abbrev pub PenHand : Type 0 → Type 0
PenHand D = Hand (Option (Desk D)) Label (BoxKey D)

module _ {D : Type 0} where
  -- what the labels come to that a pen has seen
  abbrev pub past_at : PenHand D → BoxPast
  past_at pen = past_of pen.table.given pen.view.seen

  -- what its own labels say
  abbrev pub own_at : PenHand D → OwnTold
  own_at pen = own_from pen.view.mine nothing_told

  -- of how many device calls it has told
  abbrev pub calls_at : PenHand D → ℕ
  calls_at pen = device_calls pen.view.mine

  -- A pen of a box that does not have it.
  pub record IsOutside (t : TableState (BoxKey D)) (pen : PenHand D) : Type 0 where
    pub table_is : pen.table ≡ t.table
    pub place : 0 < pen.table.id.slots
    pub core_is : pen.view.core < pen.table.given.layout.cores
    pub holds_none : pen.held ≡ []
    pub none_held : pen.view.held ≡ []
    pub mine : pen.view.mine ≡ entries_by event_core pen.view.core pen.view.seen

  -- One that has the box, and what lies in it in its hands: nobody else tells a label until it is home again, so what it has seen is all that was
  -- told.
  pub record HoldsBox (t : TableState (BoxKey D)) (pen : PenHand D) : Type 0 where
    pub table_is : pen.table ≡ t.table
    pub place : 0 < pen.table.id.slots
    pub core_is : pen.view.core < pen.table.given.layout.cores
    pub holds : pen.held ≡ record { place = 0; value = None } ∷ []
    pub held : pen.view.held ≡ 0 ∷ []
    pub lawful : LawfulBox pen.table.given pen.view.seen
    pub mine : pen.view.mine ≡ entries_by event_core pen.view.core pen.view.seen
    pub busy : (past_at pen).busy ≡ Some pen.view.core

  -- A pen goes on: it has seen and told more, perhaps, and is the same in all else but in what it holds.
  pub record PenGoes (before after : PenHand D) : Type 0 where
    pub frame : record after { view = before.view; held = before.held; room = before.room } ≡ before
    pub view : record after.view { seen = before.view.seen; mine = before.view.mine; held = before.view.held } ≡ before.view
    pub seen : IsPrefix before.view.seen after.view.seen

  -- A pen has taken the box, and told so: behind what it had seen others told this before.
  pub record TakesBox (before after : PenHand D) : Type 0 where
    pub front : List (Event Label)
    pub others : entries_by event_core before.view.core front ≡ []
    pub seen_is : after.view.seen ≡ (before.view.seen ++ front) ++ Told (record { 0 = before.view.core }) label.Took ∷ []

  -- A pen that has the box has told a label: what was told, and what it told itself, come to that of before and the label.
  pub record TellsLabel (fact : Label) (before after : PenHand D) : Type 0 where
    pub goes : PenGoes before after
    pub room : after.room ≡ before.room
    pub seen_is : after.view.seen ≡ before.view.seen ++ Told (record { 0 = before.view.core }) fact ∷ []
    pub mine_is : after.view.mine ≡ before.view.mine ++ Told (record { 0 = before.view.core }) fact ∷ []
    pub past : past_at after ≡ after_label before.table.given.layout before.view.core fact (past_at before)
    pub own : own_at after ≡ own_label fact (own_at before)

  -- A pen has the box, with a desk that fits.
  pub record IsAtDesk (view : D → View) (t : TableState (BoxKey D)) (pen : PenHand D) (desk : Desk D) : Type 0 where
    pub holds : HoldsBox t pen
    pub fits : DeskFits view pen.table.given (past_at pen) desk
    pub space : SpaceFits pen.table.given pen.view.seen desk

  -- So it is, and no commit has failed.
  pub record WorksAtDesk (view : D → View) (t : TableState (BoxKey D)) (pen : PenHand D) (desk : Desk D) : Type 0 where
    pub holds : HoldsBox t pen
    pub calm : (past_at pen).failed ≡ None
    pub fits : DeskFits view pen.table.given (past_at pen) desk
    pub space : SpaceFits pen.table.given pen.view.seen desk

  -- A device call of its has failed, of which it has yet to tell: the disk has counted a fault, and nothing is said of the slots.
  pub record IsBroken (view : D → View) (t : TableState (BoxKey D)) (pen : PenHand D) (desk : Desk D) (faults : ℕ) : Type 0 where
    pub holds : HoldsBox t pen
    pub calm : (past_at pen).failed ≡ None
    pub frame : FrameFits view pen.table.given (past_at pen) desk
    pub room : RoomFits pen.table.given (past_at pen) desk
    pub space : SpaceFits pen.table.given pen.view.seen desk
    pub counted : faults ≡ (view desk.disk).faults
    pub risen : HasRisen pen.table.given.faults faults

-- A pen has told these labels, in this order, and no others.
abbrev pub Tells : {D : Type 0} → List Label → PenHand D → PenHand D → Type 0
Tells facts before after = after.view.mine ≡ before.view.mine ++ labels_by before.view.core facts

-- A pen has told of steps, perhaps, and of nothing else.
pub record TellsSteps {D : Type 0} (before after : PenHand D) : Type 0 where
  pub facts : List Label
  pub mine_is : Tells facts before after
  pub steps : AreSteps facts

-- whether a label is told while a core has the box: each is but for those by which it takes it and brings it home
abbrev pub IsAmid : Label → Type 0
IsAmid label.Took = ⊥
IsAmid label.Gave = ⊥
IsAmid _ = Unit {0}
