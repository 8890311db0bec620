-- A directory's block is read again from its bytes, and bytes without a fault are those of the slots in them.
use Rattle.std.proofs.Common.{◌≡◌, ℕ, ◌+◌, ◌*◌, ◌<◌, List, ◌++◌, take, drop, map, length, get_or, Option, None, option_map, sym, ap, ◌∙◌, subst, arith}
use Rattle.std.proofs.lemmas.List.{length-drop, length-append, drop_at, same_lists, take_all, take-append-drop, get_or_default}
use Rattle.std.proofs.lemmas.List.FromFn.{length-map-range_with_len, get_or-map-range_with_len}
use Rattle.std.specs.List.{range_with_len, flat_map, All}
use Rattle.std.specs.Option.{option_or}
use Rattle.sfs_image.specs.Bytes.{AreBytes, part, zeros, nonzero_in, first_of}
use Rattle.sfs_image.specs.Slot.{Row, slot_of, slot_fault, slot_bytes, IsSlot}
use Rattle.sfs_image.specs.SlotBlock.{slot_in, fault_in, slots_of, slots_fault, slots_bytes, AreSlots}
use Rattle.sfs_image.proofs.BytesLaws.{AreBytes-part, length-part, length-zeros, part_from_none, option_or-None, nonzero_in-zeros, None-option_map}
use Rattle.sfs_image.proofs.PiecesLaws.{part-flat_map, flat_map-parts, first_of-None, first_of-from, length-pieces}
use Rattle.sfs_image.proofs.SlotLaws.{slot_of-slot_bytes, slot_fault-slot_bytes, length-slot_bytes, slot_bytes-slot_of, IsSlot-slot_of}

-- each of these slots has 264 bytes
each_264 : (slots : List (Option Row)) → All IsSlot slots → (k : ℕ) → k < length slots → length (slot_bytes (get_or slots k None)) ≡ 264
each_264 slots sound k h = length-slot_bytes (get_or slots k None) (sound k None h)

-- the bytes of a slot stand at its place
pub part-slots_bytes : (slots : List (Option Row)) → AreSlots slots → (k : ℕ) → k < 15
    → part (264 * k) 264 (slots_bytes slots) ≡ slot_bytes (get_or slots k None)
unfolding slots_bytes
part-slots_bytes slots are k h = part-flat_map slot_bytes 264 None slots (zeros 136) k (each_264 slots are.sound) (omega (arith, are.count))

pub length-slots_bytes : (slots : List (Option Row)) → AreSlots slots → length (slots_bytes slots) ≡ 4096
unfolding slots_bytes
length-slots_bytes slots are =
    let pieces = length-pieces slot_bytes 264 None slots (each_264 slots are.sound) in
    let count = are.count in
    omega (arith, length-append (flat_map slot_bytes slots) (zeros 136), length-zeros 136)

-- slots are read again from their block
pub slots_of-slots_bytes : (slots : List (Option Row)) → AreSlots slots → slots_of (slots_bytes slots) ≡ slots
unfolding slots_of
slots_of-slots_bytes slots are =
    let count : length (map (slot_in (slots_bytes slots)) (range_with_len 0 15)) ≡ 15 = length-map-range_with_len (slot_in (slots_bytes slots)) 0 15 in
    same_lists (map (slot_in (slots_bytes slots)) (range_with_len 0 15)) slots (count ∙ sym are.count)
    (λ k d h.
    let within : k < 15 = subst (λ (l : ℕ). k < l) count h in
    get_or-map-range_with_len (slot_in (slots_bytes slots)) 0 15 k k d within (omega arith)
    ∙ ap slot_of (part-slots_bytes slots are k within)
    ∙ slot_of-slot_bytes (get_or slots k None) (are.sound k None (omega (arith, are.count)))
    ∙ get_or_default slots k None d (omega (arith, are.count)))

zeros_behind : (slots : List (Option Row)) → AreSlots slots → drop 3960 (slots_bytes slots) ≡ zeros 136
unfolding slots_bytes
zeros_behind slots are =
    let pieces = length-pieces slot_bytes 264 None slots (each_264 slots are.sound) in
    drop_at (flat_map slot_bytes slots) (zeros 136) 3960 (omega (arith, are.count))

-- no byte of a block's bytes is wrong
pub slots_fault-slots_bytes : (slots : List (Option Row)) → AreSlots slots → slots_fault (slots_bytes slots) ≡ None
unfolding slots_fault
slots_fault-slots_bytes slots are =
    let each : first_of 15 (fault_in (slots_bytes slots)) ≡ None =
    first_of-from 15 (fault_in (slots_bytes slots)) (λ k h.
    ap (option_map (λ at. 264 * k + at))
    (ap slot_fault (part-slots_bytes slots are k h) ∙ slot_fault-slot_bytes (get_or slots k None) (are.sound k None (omega (arith, are.count))))) in
    ap (λ (o : Option ℕ). option_or o (nonzero_in 3960 136 (slots_bytes slots))) each ∙ nonzero_in-zeros 3960 136 (slots_bytes slots) (zeros_behind slots are)

-- what each slot of a block without a fault is
pub slot_in-sound : (block : List ℕ) → slots_fault block ≡ None → (k : ℕ) → k < 15 → slot_fault (part (264 * k) 264 block) ≡ None
unfolding slots_fault
slot_in-sound block none k h =
    let both = option_or-None (first_of 15 (fault_in block)) (nonzero_in 3960 136 block) none in
    None-option_map _ _ (first_of-None 15 (fault_in block) both.0 k h)

-- a block without a fault is spelled as its slots are
pub slots_bytes-slots_of : (block : List ℕ) → length block ≡ 4096 → AreBytes block → slots_fault block ≡ None → slots_bytes (slots_of block) ≡ block
unfolding slots_fault slots_of slots_bytes
slots_bytes-slots_of block len small none =
    let both = option_or-None (first_of 15 (fault_in block)) (nonzero_in 3960 136 block) none in
    let pieces : flat_map slot_bytes (map (slot_in block) (range_with_len 0 15)) ≡ take 3960 block =
    flat_map-parts slot_bytes (slot_in block) 264 block 15 (λ k h.
    slot_bytes-slot_of (part (264 * k) 264 block) (length-part (264 * k) 264 block (omega arith)) (AreBytes-part (264 * k) 264 block small)
    (slot_in-sound block none k h)) in
    let tail : part 3960 136 block ≡ zeros 136 = part_from_none 3960 136 block (omega arith) both.1 in
    let rest : part 3960 136 block ≡ drop 3960 block = take_all 136 (drop 3960 block) (omega (arith, length-drop 3960 block)) in
    ap (λ (xs : List ℕ). xs ++ zeros 136) pieces ∙ ap (λ (xs : List ℕ). take 3960 block ++ xs) (sym tail ∙ rest) ∙ take-append-drop 3960 block

-- the slots of a block without a fault can be a block's
pub AreSlots-slots_of : (block : List ℕ) → length block ≡ 4096 → AreBytes block → slots_fault block ≡ None → AreSlots (slots_of block)
unfolding slots_of
AreSlots-slots_of block len small none =
    let count : length (map (slot_in block) (range_with_len 0 15)) ≡ 15 = length-map-range_with_len (slot_in block) 0 15 in
    record {
      count = count;
      sound = λ k d h.
          let within : k < 15 = subst (λ (l : ℕ). k < l) count h in
          subst IsSlot (sym (get_or-map-range_with_len (slot_in block) 0 15 k k d within (omega arith)))
          (IsSlot-slot_of (part (264 * k) 264 block) (length-part (264 * k) 264 block (omega arith)) (AreBytes-part (264 * k) 264 block small)
          (slot_in-sound block none k within));
    }
