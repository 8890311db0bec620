use Rattle.sfs_image.proofs.SlotBlockLaws.{slots_of-slots_bytes, slots_fault-slots_bytes, length-slots_bytes, slots_bytes-slots_of, AreSlots-slots_of}
use Rattle.sfs_image.proofs.laws.slot_block_is_format.Goals as goal

pub returns : goal.returns
returns c = record {
  sized = length-slots_bytes;
  sound = slots_fault-slots_bytes;
  read_again = slots_of-slots_bytes;
  spelled_once = slots_bytes-slots_of;
  fits = AreSlots-slots_of;
}
