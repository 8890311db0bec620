-- What the box stands for at home, and what is so of a core that has it.
use Rattle.std.specs.Prelude.{◌≡◌, List, [], Option, Some, None}
use Rattle.sfs_dev.specs.Disk.{View}
use Rattle.stamp_table.specs.declared.event.Event.{Event}
use Rattle.slot_laws.specs.declared.label.Label.{Label}
use Rattle.slot_laws.specs.Labels.{BoxPast, first_past, past_from}
use Rattle.slot_laws.specs.Laws.{AreOfCores}
use Rattle.slot_laws.specs.Rules.{MayFrom}
use Rattle.slot_laws.specs.Grants.{SpaceGoes}
use Rattle.disk_box.specs.declared.key.BoxKey.{BoxKey}
use Rattle.disk_box.specs.declared.desk.Desk.{Desk}
use Rattle.disk_box.specs.Desk.{DeskFits}

-- some key, of a box that nobody has
abbrev pub NO_KEY : {D : Type 0} → BoxKey D
NO_KEY = record {
  layout = record { blocks = 0; inodes = 0; cores = 0; slots = 0 };
  faults = 0;
  start = 0;
  space = record { blocks = record { first = 0; statuses = [] }; inodes = record { first = 0; statuses = [] } };
  first = None;
}

-- what the labels of a history come to
abbrev pub past_of : {D : Type 0} → BoxKey D → List (Event Label) → BoxPast
past_of key log = past_from key.layout log (first_past key.start)

-- the labels of a history may be told by the rules
abbrev pub LawfulBox : {D : Type 0} → BoxKey D → List (Event Label) → Type 0
LawfulBox key log = MayFrom key.layout key.faults log (first_past key.start)

-- What was told at a box: by the rules, and each event by one of the disk's cores.
pub record WasTold {D : Type 0} (key : BoxKey D) (log : List (Event Label)) : Type 0 where
  pub rules : LawfulBox key log
  pub cores : AreOfCores key.layout.cores log

-- The free space that a desk keeps is what the labels of a history have made of that of before the first one.
abbrev pub SpaceFits : {D : Type 0} → BoxKey D → List (Event Label) → Desk D → Type 0
SpaceFits key log desk = SpaceGoes key.layout log (first_past key.start) key.space desk.ledger.space

-- A box at home has a desk that fits what labels come to, and nobody has it.
pub record IsHome {D : Type 0} (view : D → View) (key : BoxKey D) (log : List (Event Label)) (desk : Desk D) : Type 0 where
  pub fits : DeskFits view key (past_of key log) desk
  pub space : SpaceFits key log desk
  pub busy : (past_of key log).busy ≡ None

-- so does the value of its cell, where it has one
abbrev pub StandsBox : {D : Type 0} → (D → View) → BoxKey D → List (Event Label) → Option (Desk D) → Type 0
StandsBox view key log None = ⊥
StandsBox view key log (Some desk) = IsHome view key log desk
