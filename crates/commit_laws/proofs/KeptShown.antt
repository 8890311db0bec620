-- What is kept of a part is what its inode shows.
use Rattle.std.proofs.Common.{◌≡◌, ℕ, true, false, cond, List, [], ◌∷◌, ◌++◌, length, map, refl, sym, ap, ◌∙◌, arith, nat_eq}
use Rattle.std.proofs.lemmas.List.FromFn.{length-map-range_with_len}
use Rattle.sfs_image.specs.Part.{is_directory_part, directory_blocks}
use Rattle.sfs_image.specs.SlotBlock.{slots_of, slot_in}
use Rattle.block_map.proofs.KeptPointers.{kept_pointer}
use Rattle.commit_laws.specs.KeptShown.{KeptPartsShow}
use Rattle.commit_laws.specs.SlotsKept.{AreSlotBlocks, slots_joined}
use Rattle.commit_laws.proofs.OwnInodes.{mapped_is_in}

-- the slots of blocks, one block after the other
pub joined_slots : (blocks : List (List ℕ)) → slots_joined (map slots_of blocks) ≡ Rattle.std.specs.List.flat_map slots_of blocks
joined_slots [] = refl
joined_slots (block ∷ blocks) = ap (λ rest. slots_of block ++ rest) (joined_slots blocks)

-- each block has those of one
pub slot_blocks : (blocks : List (List ℕ)) → AreSlotBlocks (map slots_of blocks)
unfolding slots_of
slot_blocks blocks block there =
    let one = mapped_is_in slots_of blocks block there in
    ap length (sym one.2) ∙ length-map-range_with_len (slot_in one.0) 0 15

pub kept_parts_show : KeptPartsShow
kept_parts_show store part gathered = record {
  kind = refl;
  links = refl;
  size = refl;
  slots =
      elim (is_directory_part part) as (λ b. slots_joined (cond b (map slots_of (directory_blocks part)) [])
      ≡ cond b (Rattle.std.specs.List.flat_map slots_of (directory_blocks part)) []) [
        | true ↦ joined_slots (directory_blocks part)
        | false ↦ refl
      ];
  blocks = elim (is_directory_part part) as (λ b. AreSlotBlocks (cond b (map slots_of (directory_blocks part)) [])) [
    | true ↦ slot_blocks (directory_blocks part)
    | false ↦ λ block there. absurd (let within = there.1 in omega arith)
  ];
  plain = λ file. ap (λ kind. cond (nat_eq kind 2) (map slots_of (directory_blocks part)) []) file;
  pointers = λ place within. kept_pointer store part gathered place within;
}
