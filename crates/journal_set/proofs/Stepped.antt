-- A step by what it answers.
use Rattle.std.proofs.Common.{ℕ, Ok, Err, arith, refl}
use Rattle.sfs_dev.specs.Disk.{View}
use Rattle.stamp_table.specs.Table.{TableState}
use Rattle.disk_box.specs.declared.key.BoxKey.{BoxKey}
use Rattle.disk_box.specs.declared.desk.Desk.{Desk}
use Rattle.disk_box.specs.Oldest.{AreTold}
use Rattle.disk_box.specs.Pens.{PenHand, WorksAtDesk, past_at}
use Rattle.disk_box.specs.Steps.{Steps}
use Rattle.disk_box.proofs.Served.{goes_still}

module _ {D : Type 0} (view : D → View) (t : TableState (BoxKey D)) where
  -- one that answered Ok with something else
  pub steps_ok : {V W : Type 0} (before after : PenHand D) (desk : Desk D) (one : V) (other : W) → Steps view t before after desk (Ok one)
      → Steps view t before after desk (Ok other)
  steps_ok before after desk one other steps =
      record { goes = steps.goes; room = steps.room; tells = steps.tells; once = steps.once; ok = steps.ok; waits = tt; err = tt }

  -- one that failed
  pub steps_err : {V W : Type 0} (before after : PenHand D) (desk : Desk D) (faults : ℕ) → Steps view t {V = V} before after desk (Err faults)
      → Steps view t {V = W} before after desk (Err faults)
  steps_err before after desk faults steps =
      record { goes = steps.goes; room = steps.room; tells = steps.tells; once = steps.once; ok = tt; waits = steps.waits; err = steps.err }

  -- none at all
  pub steps_still : {W : Type 0} (pen : PenHand D) (desk : Desk D) (other : W) → WorksAtDesk view t pen desk → Steps view t pen pen desk (Ok other)
  steps_still pen desk other work =
      let still = goes_still pen in
      record { goes = still.goes; room = refl; tells = still.tells; once = omega arith; ok = work; waits = tt; err = tt }

  -- the slots of a core at work fit what was told of them
  pub slots_told : (pen : PenHand D) (desk : Desk D) → WorksAtDesk view t pen desk → AreTold desk.slots.items
  slots_told pen desk work = record { layout = pen.table.given.layout; told = (past_at pen).slots; fits = work.fits.slots work.calm }
