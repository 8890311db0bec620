-- What an inode shows of its blocks: the slots of a directory, and the bytes of a file.
use Rattle.std.proofs.Common.{◌≡◌, ℕ, zero, suc, ◌+◌, ◌*◌, ◌/◌, ◌<◌, ◌≤◌, cond, List, [], ◌∷◌, ◌++◌, take, drop, replicate, length, map, true, slice_index, Option, Some, None, refl, sym, ap, subst, ◌∙◌, arith, nat_eq}
use Rattle.std.specs.Prelude.{slice_index_or, is_none}
use Rattle.std.specs.List.{flat_map, range_with_len, list_all}
use Rattle.std.proofs.lemmas.List.{take_more, same_lists, get_or_default, append-nil}
use Rattle.std.proofs.lemmas.Grind.{flat_map-append}
use Rattle.sfs_base.specs.declared.numbers.Kind.TheVariants.{File, Directory}
use Rattle.sfs_image.specs.Slot.{Row, kind_byte, slot_of, kind_of as slot_kind}
use Rattle.sfs_image.specs.Bytes.{part, zeros, u32_at}
use Rattle.sfs_image.proofs.ShownLaws.{bytes_shown}
use Rattle.sfs_image.proofs.BytesLaws.{zeros-byte}
use Rattle.image_laws.proofs.Parts.{zero_drop, zero_take}
use borrow.Author.Tests.{eq-eqb}
use Rattle.sfs_image.specs.SlotBlock.{slots_of, slot_in}
use Rattle.sfs_image.specs.Part.{Part, seen_of, inode_in, directory_blocks}
use Rattle.sfs_base.proofs.BasicLists.{take_none}
use Rattle.sfs_base.proofs.BasicNumbers.{from_zero_plus, le_itself, suc_joins}
use Rattle.image_laws.specs.Slots.{BLOCK_SLOTS, at_length, blocks_up_to_last}
use Rattle.image_laws.specs.Stands.{BLOCK_BYTES}
use Rattle.image_laws.specs.Need.{slots_in_block}
use Rattle.image_laws.specs.Blocks.{HasSlotBlocks}
use Rattle.image_laws.specs.Laws.{SlotBlocksShow, ByteBlocksShow, EmptyBlocksAreHoles}

-- so many slots, and empty ones behind the last
padded : ℕ → List (Option Row) → List (Option Row)
padded zero slots = []
padded (suc n) [] = None ∷ padded n []
padded (suc n) (slot ∷ slots) = slot ∷ padded n slots

cut_is : (n m : ℕ) (slots : List (Option Row)) → n ≤ m → take n (slots ++ replicate m None) ≡ padded n slots
unfolding padded
cut_is zero m [] le = none (replicate m None)
  where
    none : (xs : List (Option Row)) → take 0 xs ≡ []
    none [] = refl
    none (x ∷ xs) = refl
cut_is zero m (slot ∷ slots) le = refl
cut_is (suc n) zero slots le = absurd (omega arith)
cut_is (suc n) (suc m) [] le = ap (λ l. None ∷ l) (cut_is n m [] (omega arith))
cut_is (suc n) (suc m) (slot ∷ slots) le = ap (λ l. slot ∷ l) (cut_is n (suc m) slots (omega arith))

at_length_is : (n : ℕ) (slots : List (Option Row)) → at_length n slots ≡ padded n slots
at_length_is n slots = cut_is n n slots (omega arith)

drop_nothing : (slots : List (Option Row)) → drop 0 slots ≡ slots
drop_nothing [] = refl
drop_nothing (slot ∷ slots) = refl

drop_from_none : (n : ℕ) → ◌≡◌ {A = List (Option Row)} (drop n []) []
drop_from_none zero = refl
drop_from_none (suc n) = refl

padded_further : (a b : ℕ) (slots : List (Option Row)) → padded a slots ++ padded b (drop a slots) ≡ padded (a + b) slots
unfolding padded
padded_further zero b slots = ap (padded b) (drop_nothing slots) ∙ ap (λ n. padded n slots) (from_zero_plus b)
padded_further (suc a) b [] =
    ap (λ l. None ∷ padded a [] ++ padded b l) (drop_from_none (suc a) ∙ sym (drop_from_none a))
    ∙ ap (λ l. None ∷ l) (padded_further a b [])
    ∙ ap (λ n. padded n []) (suc_joins a b)
padded_further (suc a) b (slot ∷ slots) = ap (λ l. slot ∷ l) (padded_further a b slots) ∙ ap (λ n. padded n (slot ∷ slots)) (suc_joins a b)

-- the slots of the first blocks
first_blocks : (part : Part) (slots : List (Option Row)) → HasSlotBlocks part slots → (k : ℕ) → k ≤ blocks_up_to_last slots
    → flat_map slots_of (take k part.blocks) ≡ padded (BLOCK_SLOTS * k) slots
unfolding padded
first_blocks part slots h zero le = ap (flat_map slots_of) (take_none part.blocks)
first_blocks part slots h (suc k) le =
    let few = h.enough in
    let lt : k < length part.blocks = omega arith in
    let next : suc k ≡ k + 1 = omega arith in
    ap (λ n. flat_map slots_of (take n part.blocks)) next
    ∙ ap (flat_map slots_of) (take_more part.blocks k [] lt)
    ∙ flat_map-append slots_of (take k part.blocks) (slice_index_or part.blocks k [] ∷ [])
    ∙ ap (λ l. l ++ (slots_of (slice_index_or part.blocks k []) ++ [])) (first_blocks part slots h k (omega arith))
    ∙ ap (λ l. padded (BLOCK_SLOTS * k) slots ++ l)
    (append-nil (slots_of (slice_index_or part.blocks k [])) ∙ h.each k (omega arith) ∙ at_length_is BLOCK_SLOTS (drop (BLOCK_SLOTS * k) slots))
    ∙ padded_further (BLOCK_SLOTS * k) BLOCK_SLOTS slots
    ∙ ap (λ n. padded n slots) (sum k)
  where
    sum : (k : ℕ) → BLOCK_SLOTS * k + BLOCK_SLOTS ≡ BLOCK_SLOTS * suc k
    sum k = omega arith

pub slot_blocks_show : SlotBlocksShow
slot_blocks_show part slots h =
    ap (λ n. cond (nat_eq n (kind_byte Directory)) (flat_map slots_of (directory_blocks part)) []) h.kind
    ∙ ap (λ n. flat_map slots_of (take n part.blocks)) (whole (inode_in part).size (blocks_up_to_last slots) h.size)
    ∙ first_blocks part slots h (blocks_up_to_last slots) (le_itself (blocks_up_to_last slots))
    ∙ sym (at_length_is (BLOCK_SLOTS * blocks_up_to_last slots) slots)
  where
    whole : (size blocks : ℕ) → size ≡ BLOCK_BYTES * blocks → size / 4096 ≡ blocks
    whole size blocks e = omega arith

pub byte_blocks_show : ByteBlocksShow
byte_blocks_show part bytes h =
    let shown = bytes_shown part (eq-eqb (inode_in part).kind (kind_byte File) h.kind) in
    same_lists (seen_of part).bytes bytes (shown.size ∙ h.size) (λ k d lt.
    let small : k < (inode_in part).size = subst (λ (n : ℕ). k < n) shown.size lt in
    let within : k < length bytes = subst (λ (n : ℕ). k < n) h.size small in
    get_or_default (seen_of part).bytes k d 0 lt ∙ shown.each k small ∙ h.each k within ∙ get_or_default bytes k 0 d within)

length_padded : (n : ℕ) (slots : List (Option Row)) → length (padded n slots) ≡ n
unfolding padded
length_padded zero slots = refl
length_padded (suc n) [] = ap suc (length_padded n [])
length_padded (suc n) (slot ∷ slots) = ap suc (length_padded n slots)

all_empty : (slots : List (Option Row)) → list_all is_none slots ≡ true → slots ≡ replicate (length slots) None
all_empty [] e = refl
all_empty (None ∷ slots) e = ap (λ l. None ∷ l) (all_empty slots e)
all_empty (Some row ∷ slots) e = absurd (cc)

-- a slot of zeros is empty
zero_slot : (k : ℕ) → slot_in (zeros 4096) k ≡ None
zero_slot k =
    empty (part (264 * k) 264 (zeros 4096)) (zero_take 264 (drop (264 * k) (zeros 4096)) (λ j _. zero_drop (264 * k) (zeros 4096) (zeros-byte 4096) j) 5)
  where
    empty : (bytes : List ℕ) → slice_index bytes 5 ≡ 0 → slot_of bytes ≡ None
    empty bytes zero_length =
        ap (λ b. cond b None (Some (record { inode = u32_at 0 bytes; kind = slot_kind (slice_index bytes 4); name = part 8 (slice_index bytes 5) bytes })))
        (eq-eqb _ _ zero_length)

zero_slots : (a n : ℕ) → map (slot_in (zeros 4096)) (range_with_len a n) ≡ replicate n None
zero_slots a zero = refl
zero_slots a (suc n) = ap (λ o. o ∷ map (slot_in (zeros 4096)) (range_with_len (a + 1) n)) (zero_slot a) ∙ ap (λ l. None ∷ l) (zero_slots (a + 1) n)

pub empty_blocks_are_holes : EmptyBlocksAreHoles
unfolding slots_of
empty_blocks_are_holes n slots e =
    zero_slots 0 15
    ∙ ap (λ k. replicate k None) (sym (length_padded 15 (drop (BLOCK_SLOTS * n) slots)) ∙ ap length (sym (at_length_is 15 (drop (BLOCK_SLOTS * n) slots))))
    ∙ sym (all_empty (slots_in_block n slots) e)
