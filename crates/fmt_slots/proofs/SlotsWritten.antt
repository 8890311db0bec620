-- What a loop over the slots of a block has written.
use Rattle.std.proofs.Common.{◌≡◌, ℕ, ◌+◌, ◌*◌, ◌<◌, ◌≤◌, List, [], ◌∷◌, ◌++◌, take, drop, length, get_or, Option, sym, ap, ◌∙◌, subst, arith}
use Rattle.std.proofs.lemmas.List.{take_more, take_all, length-take-le, take-append-drop, append-nil, length-drop}
use Rattle.std.proofs.lemmas.List.Concat.{flat_map-append}
use Rattle.std.proofs.lemmas.List.Elements.{All-more, All-same}
use Rattle.std.proofs.lemmas.Slice.{take-put_mid}
use Rattle.std.specs.List.{flat_map, All}
use borrow.Rule.Slice.PartMut.{put_mid}
use Rattle.sfs_image.specs.Bytes.{zeros}
use Rattle.sfs_image.specs.Slot.{Row, slot_bytes, IsSlot}
use Rattle.sfs_image.specs.SlotBlock.{slots_bytes, AreSlots}
use Rattle.sfs_image.proofs.SlotLaws.{length-slot_bytes}
use Rattle.sfs_image.proofs.WritesLaws.{put_mid-last, length-put_mid}

-- the bytes of the first n slots stand at the front of the block
pub record SlotsWritten (slots : List (Option Row)) (block : List ℕ) (n : ℕ) : Type 0 where
  pub len : length block ≡ 4096
  pub front : take (264 * n) block ≡ flat_map slot_bytes (take n slots)
  pub sound : All IsSlot (take n slots)

pub one_written : (slots : List (Option Row)) (block bytes : List ℕ) (n k : ℕ) (slot : Option Row) → length slots ≡ 15 → n < 15 → k ≡ 264
    → SlotsWritten slots block n →
    slot ≡ get_or slots n slot → IsSlot slot → bytes ≡ slot_bytes slot → SlotsWritten slots (put_mid (264 * n) k block bytes) (n + 1)
one_written slots block bytes n k slot count within size before read fits is =
    let one : length bytes ≡ 264 = ap length is ∙ length-slot_bytes slot fits in
    let len = before.len in
    let more : take (n + 1) slots ≡ take n slots ++ slot ∷ [] =
    take_more slots n slot (omega arith) ∙ ap (λ (s : Option Row). take n slots ++ s ∷ []) (sym read) in
    record {
      len = length-put_mid (264 * n) k block bytes (omega arith) (omega arith) ∙ len;
      front = take-put_mid (264 * n) k block bytes (264 * (n + 1)) (omega arith) (omega arith)
          ∙ ap (λ (xs : List ℕ). xs ++ bytes) before.front
          ∙ ap (λ (xs : List ℕ). flat_map slot_bytes (take n slots) ++ xs) (is ∙ sym (append-nil (slot_bytes slot)))
          ∙ sym (ap (flat_map slot_bytes) more ∙ flat_map-append slot_bytes (take n slots) (slot ∷ []));
      sound = All-more IsSlot slots n slot (omega arith) before.sound (subst IsSlot read fits);
    }

-- the whole block, once the zeros stand behind the slots
pub all_written : (slots : List (Option Row)) (block tail : List ℕ) (k : ℕ) → length slots ≡ 15 → 136 ≤ k → SlotsWritten slots block 15 → tail ≡ zeros 136 →
    put_mid 3960 k block tail ≡ slots_bytes slots
unfolding slots_bytes
all_written slots block tail k count long done is =
    let len = done.len in
    put_mid-last block (take 3960 block) (drop 3960 block) tail 3960 k (sym (take-append-drop 3960 block)) (length-take-le 3960 block (omega arith))
    (omega (arith, length-drop 3960 block))
    ∙ ap (λ (xs : List ℕ). xs ++ tail) (done.front ∙ ap (flat_map slot_bytes) (take_all 15 slots (omega arith)))
    ∙ ap (λ (xs : List ℕ). flat_map slot_bytes slots ++ xs) is

pub all_fit : (slots : List (Option Row)) (block : List ℕ) → length slots ≡ 15 → SlotsWritten slots block 15 → AreSlots slots
all_fit slots block count done = record { count = count; sound = All-same IsSlot slots (take 15 slots) (sym (take_all 15 slots (omega arith))) done.sound }
