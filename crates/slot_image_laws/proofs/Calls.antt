-- Which labels tell of a device call.
use Rattle.std.proofs.Common.{◌≡◌, true, false, refl}
use Rattle.sfs_dev.specs.Disk.{View}
use Rattle.slot_laws.specs.declared.label.Label.{Label}
use Rattle.slot_laws.specs.declared.label.Label.TheVariants as label
use Rattle.slot_laws.specs.Slots.{Slots}
use Rattle.slot_laws.specs.Telling.{is_device_call}
use Rattle.slot_image_laws.specs.Labels.{DeviceCallsAreTold, IsDoneBy, IsToldOf}

module _ (old new : View) where
  is_done : (fact : Label) (slots : Slots) → IsDoneBy fact slots old new → is_device_call fact ≡ true
  is_done label.Took slots done = absurd done
  is_done label.Gave slots done = absurd done
  is_done (label.Noted turn) slots done = absurd done
  is_done (label.Reserved commit seen grant) slots done = absurd done
  is_done (label.Returned commit) slots done = absurd done
  is_done (label.Began filling commit node stamp blocks inodes) slots done = absurd done
  is_done (label.Filled slot piece is) slots done = refl
  is_done (label.Synced now) slots done = refl
  is_done (label.Opened slot is cut opened) slots done = refl
  is_done (label.Settled slot turn) slots done = absurd done
  is_done (label.Learned turn) slots done = absurd done
  is_done (label.Placed slot n is) slots done = refl
  is_done (label.Shut slot is) slots done = refl
  is_done (label.Idled slot) slots done = absurd done
  is_done (label.Empty commit cut opened durable) slots done = absurd done

  is_told : (fact : Label) → IsToldOf fact new → is_device_call fact ≡ false
  is_told label.Took told = refl
  is_told label.Gave told = refl
  is_told (label.Noted turn) told = refl
  is_told (label.Reserved commit seen grant) told = refl
  is_told (label.Returned commit) told = refl
  is_told (label.Began filling commit node stamp blocks inodes) told = refl
  is_told (label.Filled slot piece is) told = absurd told
  is_told (label.Synced now) told = absurd told
  is_told (label.Opened slot is cut opened) told = absurd told
  is_told (label.Settled slot turn) told = refl
  is_told (label.Learned turn) told = refl
  is_told (label.Placed slot n is) told = absurd told
  is_told (label.Shut slot is) told = absurd told
  is_told (label.Idled slot) told = refl
  is_told (label.Empty commit cut opened durable) told = refl

  pub device_calls_are_told : DeviceCallsAreTold old new
  device_calls_are_told = record { done = is_done; told = is_told }
