use Rattle.sfs_image.proofs.SlotLaws.{slot_of-slot_bytes, slot_fault-slot_bytes, length-slot_bytes, slot_bytes-slot_of, IsSlot-slot_of}
use Rattle.sfs_image.proofs.laws.slot_is_format.Goals as goal

pub returns : goal.returns
returns c = record {
  sized = length-slot_bytes;
  sound = slot_fault-slot_bytes;
  read_again = slot_of-slot_bytes;
  spelled_once = slot_bytes-slot_of;
  fits = IsSlot-slot_of;
}
