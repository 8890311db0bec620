-- Whose a slot of the box is.
use Rattle.std.proofs.Common.{◌≡◌, ◌*◌, ◌/◌, ◌<◌, ◌≤◌, ◌∙◌, ℕ, length, sym, ap, subst, arith}
use Rattle.std.proofs.Math.Nat.{le-mul_of_pos_right, mul-div_cancel, mul-div_cancel_left, mul-lt-mul_of_pos_right}
use Rattle.sfs_dev.specs.Disk.{View}
use Rattle.slot_laws.specs.Labels.{BoxPast, owner}
use Rattle.disk_box.specs.declared.key.BoxKey.{BoxKey}
use Rattle.disk_box.specs.declared.desk.Desk.{Desk}
use Rattle.disk_box.specs.Desk.{FrameFits}
use Rattle.disk_box.specs.Serving.{owner_by}

module _ {D : Type 0} (view : D → View) (key : BoxKey D) (past : BoxPast) (desk : Desk D) (frame : FrameFits view key past desk) where
  some_slots : 0 < key.layout.slots
  some_slots = (let low = frame.layout.ranges.slots_low in omega (arith, low))

  some_cores : 0 < key.layout.cores
  some_cores = (let low = frame.layout.ranges.cores_low in omega (arith, low))

  pub owner_is : (k : ℕ) → owner_by (length desk.slots.items) (length desk.waits.items) k ≡ owner key.layout k
  owner_is k = ap (λ n. k / n) ((λ i. frame.count i / frame.cores i) ∙ mul-div_cancel_left key.layout.slots some_cores)

  pub waits_some : 0 < length desk.waits.items
  waits_some = (let low = some_cores in let count = frame.cores in omega (arith, low, count))

  pub slots_many : length desk.waits.items ≤ length desk.slots.items
  slots_many =
      let count = frame.count in
      let cores = frame.cores in
      let most : key.layout.cores ≤ key.layout.cores * key.layout.slots = le-mul_of_pos_right key.layout.cores some_slots in
      omega (arith, count, cores, most)

  -- the first slot of a core
  pub first_own : (core : ℕ) → core < key.layout.cores → core * key.layout.slots < length desk.slots.items
  first_own core low =
      let less : core * key.layout.slots < key.layout.cores * key.layout.slots = mul-lt-mul_of_pos_right low some_slots in
      subst (λ n. core * key.layout.slots < n) (sym frame.count) less

  pub first_owner : (core : ℕ) → owner key.layout (core * key.layout.slots) ≡ core
  first_owner core = mul-div_cancel core some_slots
