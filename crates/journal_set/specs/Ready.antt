-- When a pen may begin anew.
use Rattle.std.specs.Prelude.{◌≡◌, ◌⊎◌, ◌<◌, true, None}
use Rattle.stamp_table.specs.Table.{TableState}
use Rattle.slot_laws.specs.Labels.{OwnTold}
use Rattle.disk_box.specs.declared.key.BoxKey.{BoxKey}
use Rattle.disk_box.specs.Pens.{PenHand, IsOutside, own_at}

-- A core has neither reserved nor a flight, or a failure has stopped it.
abbrev pub HasNothingDue : OwnTold → Type 0
HasNothingDue own = (own.over ≡ true) ⊎ ((own.reserved ≡ None) × (own.flight ≡ None))

-- A pen that does not have the box, with room to take it, and nothing due.
pub record IsReady {D : Type 0} (t : TableState (BoxKey D)) (pen : PenHand D) : Type 0 where
  pub outside : IsOutside t pen
  pub room : 0 < pen.room
  pub rests : HasNothingDue (own_at pen)
