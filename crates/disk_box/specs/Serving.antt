-- How slots are served behind a sync that answered Ok, one by one.
use Rattle.std.specs.Prelude.{◌≡◌, ◌≢◌, ◌≤◌, ◌/◌, if◌then◌else◌, ℕ, Option, Some, None}
use Rattle.sfs_dev.specs.Disk.{View}
use Rattle.journal_one.specs.Calls.{IsCalm}
use Rattle.stamp_table.specs.Table.{TableState}
use Rattle.slot_laws.specs.Schedule.{calls_due, due_in}
use Rattle.slot_laws.specs.Slots.{SlotWork, known_synced, may_be_open}
use Rattle.disk_box.specs.declared.key.BoxKey.{BoxKey}
use Rattle.disk_box.specs.declared.desk.Desk.{Desk}
use Rattle.disk_box.specs.Calls.{NoneAwaits}
use Rattle.disk_box.specs.Pens.{PenHand, PenGoes, TellsSteps, WorksAtDesk, calls_at, own_at, past_at}

-- A core is at work, nothing has been pending on its disk since the last sync; of the slots from the k-th on that is what is known, and those
-- before it await no sync any more.
pub record IsServing {D : Type 0} (view : D → View) (t : TableState (BoxKey D)) (pen : PenHand D) (desk : Desk D) (k : ℕ) : Type 0 where
  pub at : WorksAtDesk view t pen desk
  pub calm : IsCalm (view desk.disk)
  pub moment : (past_at pen).synced ≡ (view desk.disk).now
  pub known : (j : ℕ) (work : SlotWork) → k ≤ j → (past_at pen).slots j ≡ Some work → known_synced work.known ≡ work.known
  pub served : NoneAwaits desk.slots.items k

-- A pen has gone on, with as much room, and has told of slots alone, of no device call, and nothing of its own commits.
pub record GoesBeside {D : Type 0} (before after : PenHand D) : Type 0 where
  pub goes : PenGoes before after
  pub room : after.room ≡ before.room
  pub tells : TellsSteps before after
  pub calls : calls_at after ≡ calls_at before
  pub own : own_at after ≡ own_at before

-- how many device calls are due of what is in a slot once a sync that went before has served it: none where its gate is open
abbrev pub due_served : Option SlotWork → ℕ
due_served None = 0
due_served (Some work) = if may_be_open work.known.gate_read then 0 else calls_due work

-- What was told of a slot, as it was served.
pub record IsServed (before after : Option SlotWork) : Type 0 where
  pub due : due_in after ≡ due_served before
  pub none : before ≡ None → after ≡ None

-- A core has served one slot, and told nothing of the others.
pub record ServesOne {D : Type 0} (k : ℕ) (before after : PenHand D) : Type 0 where
  pub here : IsServed ((past_at before).slots k) ((past_at after).slots k)
  pub others : (j : ℕ) → j ≢ k → (past_at after).slots j ≡ (past_at before).slots j

-- the core whose slot it is, of so many slots of so many cores
abbrev pub owner_by : ℕ → ℕ → ℕ → ℕ
owner_by slots cores k = k / (slots / cores)
