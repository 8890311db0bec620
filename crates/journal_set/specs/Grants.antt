-- The grant that a pen has, by its own labels.
use Rattle.std.specs.Prelude.{◌∷◌, List, [], Option, Some, None}
use Rattle.space_map.specs.Space.{GrantedNumbers}
use Rattle.stamp_table.specs.declared.event.Event.{Event}
use Rattle.stamp_table.specs.declared.event.Event.TheVariants.{Called, Told}
use Rattle.slot_laws.specs.declared.label.Label.{Label}
use Rattle.slot_laws.specs.declared.label.Label.TheVariants as label
use Rattle.disk_box.specs.Pens.{PenHand}

-- the grant that a core has once it has told a label more: that of its last reserving, until it gives it back or its commit begins
abbrev pub grant_after : Label → Option GrantedNumbers → Option GrantedNumbers
grant_after (label.Reserved commit seen grant) had = Some grant
grant_after (label.Returned commit) had = None
grant_after (label.Began filling commit node stamp blocks inodes) had = None
grant_after (label.Empty commit cut opened durable) had = None
grant_after _ had = had

-- and once it has told all of these
abbrev pub grant_from : List (Event Label) → Option GrantedNumbers → Option GrantedNumbers
grant_from [] had = had
grant_from (Called entry ∷ log) had = grant_from log had
grant_from (Told core fact ∷ log) had = grant_from log (grant_after fact had)

-- the grant that a pen has
abbrev pub grant_at : {D : Type 0} → PenHand D → Option GrantedNumbers
grant_at pen = grant_from pen.view.mine None
