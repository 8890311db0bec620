-- What a part shows: a file its bytes, a directory its slots.
use Rattle.std.proofs.Common.{◌≡◌, ℕ, ◌+◌, ◌*◌, ◌<◌, true, List, [], length, get_or, Option, None, ap, ◌∙◌, arith}
use Rattle.std.specs.List.{flat_map}
use Rattle.std.proofs.lemmas.Bool.{cond-true}
use Rattle.std.proofs.lemmas.List.FromFn.{length-map-range_with_len, get_or-map-range_with_len}
use Rattle.sfs_image.specs.LawsOfParts.{AreTheBytes, AreTheSlots}
use Rattle.sfs_image.specs.Part.{Part, inode_in, seen_of, file_byte, directory_blocks, tabulate, is_file_part, is_directory_part, shown_bytes, shown_slots}
use Rattle.sfs_image.specs.Slot.{Row}
use Rattle.sfs_image.specs.SlotBlock.{slot_in, slots_of}
use Rattle.sfs_image.proofs.Basics.{length-tabulate, get_or-tabulate}
use Rattle.sfs_image.proofs.PiecesLaws.{length-pieces, get_or-pieces}

pub bytes_shown : (part : Part) → is_file_part part ≡ true → AreTheBytes part (seen_of part).bytes
bytes_shown part file =
    let bytes : shown_bytes part ≡ tabulate (inode_in part).size (file_byte part) = cond-true (is_file_part part) _ _ file in
    record {
      size = ap length bytes ∙ length-tabulate (inode_in part).size (file_byte part);
      each = λ place h. ap (λ (xs : List ℕ). get_or xs place 0) bytes ∙ get_or-tabulate (inode_in part).size (file_byte part) place 0 h;
    }

-- a block has 15 slots
length-slots_of : (block : List ℕ) → length (slots_of block) ≡ 15
unfolding slots_of
length-slots_of block = length-map-range_with_len (slot_in block) 0 15

get_or-slots_of : (block : List ℕ) (k : ℕ) → k < 15 → get_or (slots_of block) k None ≡ slot_in block k
unfolding slots_of
get_or-slots_of block k h = get_or-map-range_with_len (slot_in block) 0 15 k k None h (omega arith)

pub slots_shown : (part : Part) → is_directory_part part ≡ true → AreTheSlots part (seen_of part).slots
slots_shown part directory =
    let blocks = directory_blocks part in
    let slots : shown_slots part ≡ flat_map slots_of blocks = cond-true (is_directory_part part) _ _ directory in
    record {
      count = ap length slots ∙ length-pieces slots_of 15 [] blocks (λ j h. length-slots_of (get_or blocks j []));
      each = λ n k h below.
          ap (λ (xs : List (Option Row)). get_or xs (15 * n + k) None) slots
          ∙ get_or-pieces slots_of 15 [] None blocks (λ j l. length-slots_of (get_or blocks j [])) n k h below
          ∙ get_or-slots_of (get_or blocks n []) k below;
    }
