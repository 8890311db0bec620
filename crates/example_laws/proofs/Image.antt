-- The parts of the disk of twelve blocks, and what they show.
use Rattle.std.proofs.Common.{◌∷◌, ◌<◌, ◌^◌, ◌≡◌, ◌∙◌, ◌⊎◌, ◌≢◌, ◌-◌, ◌/◌, ◌%◌, ◌+◌, ◌*◌, ◌&&◌, ◌≤◌, Some, [], arith, refl, ℕ, slice_index, replicate, zero, suc, ap, inl, inr, cond, nat_eq, ne_eqb, length, List, take, slice_index_or, true, false, is_some, subst, All, None, sym}
use Rattle.std.proofs.lemmas.List.Elements.{All-from_recursion, All-nil}
use Rattle.std.proofs.lemmas.List.{length-replicate}
use Rattle.std.proofs.lemmas.Bool.{cases_eq, and_left}
use Rattle.sfs_base.specs.declared.numbers.Kind.TheVariants.{Directory}
use Rattle.sfs_base.proofs.BasicLists.{zeros_read}
use Rattle.sfs_base.proofs.BasicTruth.{not_both}
use Rattle.sfs_image.specs.Slot.{IsSlot}
use Rattle.sfs_image.specs.SlotBlock.{AreSlots, slots_bytes, slots_fault}
use Rattle.sfs_image.specs.Inode.{IsInode, inode_bytes, inode_of, Inode, inode_fault, pointers_of}
use Rattle.sfs_image.specs.ImageOf.{empty_directory}
use Rattle.sfs_image.specs.Part.{Part, inode_in, pointer_at, read_block, directory_blocks, is_directory_part, is_file_part}
use Rattle.sfs_image.specs.Bytes.{zeros}
use Rattle.sfs_image.specs.Seen.{FILE_BLOCKS}
use Rattle.sfs_image.specs.LawsOfParts.{HavePlaces, PointsWell}
use Rattle.sfs_image.specs.Rules.{breaks_bytes_rule}
use Rattle.sfs_image.proofs.AcceptedLaws.{raw_of, is_gathered}
use Rattle.sfs_image.proofs.InodeLaws.{inode_of-inode_bytes, pointers_of-zeros, inode_fault-inode_bytes, length-inode_bytes}
use Rattle.sfs_image.proofs.PartLaws.{free_has_none, holes_have_none, have_places, block_is_read, block_behind}
use Rattle.sfs_image.proofs.JustMadeLaws.{zeros_are_sound}
use Rattle.sfs_image.proofs.BytesLaws.{length-zeros, zeros-byte}
use Rattle.sfs_image.proofs.RuleFacts.{sizes_say, slots_say}
use Rattle.sfs_image.proofs.RuleLaws.{rule_from_good, free_breaks_none}
use Rattle.sfs_image.proofs.SlotBlockLaws.{slots_fault-slots_bytes, length-slots_bytes}
use Rattle.image_laws.specs.Image.{HaveGoodBytes}
use Rattle.image_laws.specs.Rules.{BYTE_RULES}
use Rattle.commit_laws.proofs.PartsMade.{lengths}
use Rattle.commit_laws.proofs.GoodParts.{IsGoodPart}
use Rattle.cut_laws.proofs.Basics.{below_or}
use Rattle.flush_laws.specs.Ready.{AreSoundParts}
use Rattle.example_laws.specs.Image.{ROOT_SLOTS, ROOT_INODE, TWO_PARTS, ROOT_BLOCK, TWO_RECORDS, TWELVE_BLOCKS}

row_is_slot : IsSlot (Some (record { inode = 1; kind = Directory; name = 97 ∷ [] }))
row_is_slot = (omega arith, refl)

pub root_slots : AreSlots ROOT_SLOTS
root_slots = record {
  count = refl;
  sound = All-from_recursion IsSlot ROOT_SLOTS
      (row_is_slot, (tt, (tt, (tt, (tt, (tt, (tt, (tt, (tt, (tt, (tt, (tt, (tt, (tt, (tt, tt)))))))))))))));
}

root_direct : (k : ℕ) → slice_index (11 ∷ replicate 107 0) k < 2 ^ 32
root_direct zero = omega arith
root_direct (suc k) = let e = zeros_read 107 k in omega arith

pub root_inode : IsInode ROOT_INODE
root_inode = record {
  kind = omega arith;
  links = omega arith;
  size = omega arith;
  direct_count = ap suc (length-replicate {A = ℕ} 107 0);
  direct = root_direct;
  indirect_count = length-replicate {A = ℕ} 16 0;
  indirect = λ k. let e = zeros_read 16 k in omega arith;
  free = λ none. absurd (let two : 2 ≡ 0 = none in omega arith);
}

pub one_inode : IsInode empty_directory
one_inode = record {
  kind = omega arith;
  links = omega arith;
  size = omega arith;
  direct_count = length-replicate {A = ℕ} 108 0;
  direct = λ k. let e = zeros_read 108 k in omega arith;
  indirect_count = length-replicate {A = ℕ} 16 0;
  indirect = λ k. let e = zeros_read 16 k in omega arith;
  free = λ none. absurd (let two : 2 ≡ 0 = none in omega arith);
}

abbrev pub ROOT_PART : Part
ROOT_PART = TWO_PARTS 0

abbrev pub ONE_PART : Part
ONE_PART = TWO_PARTS 1

pub root_raw : ROOT_PART.raw ≡ inode_bytes ROOT_INODE
root_raw = raw_of ROOT_BLOCK (inode_bytes ROOT_INODE)

pub one_raw : ONE_PART.raw ≡ inode_bytes empty_directory
one_raw = raw_of ROOT_BLOCK (inode_bytes empty_directory)

pub root_is : inode_in ROOT_PART ≡ ROOT_INODE
root_is = ap inode_of root_raw ∙ inode_of-inode_bytes ROOT_INODE root_inode

pub one_is : inode_in ONE_PART ≡ empty_directory
one_is = ap inode_of one_raw ∙ inode_of-inode_bytes empty_directory one_inode

-- an inode of the layout is the root's, the directory's, or free
pub inode_cases : (i : ℕ) → ((i ≡ 0) ⊎ (i ≡ 1)) ⊎ ((i ≢ 0) × (i ≢ 1) × (TWO_RECORDS i ≡ zeros 512))
inode_cases i = elim (cases_eq i 0) [
  | inl root ↦ inl (inl root)
  | inr other ↦ elim (cases_eq i 1) [
    | inl one ↦ inl (inr one)
    | inr neither ↦ inr (
      other,
      neither,
      ap (λ b. cond b (inode_bytes ROOT_INODE) (cond (nat_eq i 1) (inode_bytes empty_directory) (zeros 512))) (ne_eqb i 0 other)
          ∙ ap (λ b. cond b (inode_bytes empty_directory) (zeros 512)) (ne_eqb i 1 neither),
    )
  ]
]

-- pointers
pub one_has_none : (place : ℕ) → pointer_at ONE_PART place ≡ 0
one_has_none place =
    holes_have_none ROOT_BLOCK (inode_bytes empty_directory)
    (ap (λ (inode : Inode). inode.direct) (inode_of-inode_bytes empty_directory one_inode))
    (ap (λ (inode : Inode). inode.indirect) (inode_of-inode_bytes empty_directory one_inode)) place

pub free_has : (i : ℕ) → TWO_RECORDS i ≡ zeros 512 → (place : ℕ) → pointer_at (TWO_PARTS i) place ≡ 0
free_has i free place =
    free_has_none ROOT_BLOCK (TWO_RECORDS i) (ap length free ∙ length-zeros 512) (ap inode_fault free ∙ zeros_are_sound)
    (ap (λ (raw : List ℕ). slice_index raw 0) free ∙ zeros-byte 512 0) place

root_reads : inode_of (inode_bytes ROOT_INODE) ≡ ROOT_INODE
root_reads = inode_of-inode_bytes ROOT_INODE root_inode

root_table : (k : ℕ) → slice_index (inode_of (inode_bytes ROOT_INODE)).indirect k ≡ 0
root_table k = ap (λ (inode : Inode). slice_index inode.indirect k) root_reads ∙ zeros_read 16 k

pub root_block : pointer_at ROOT_PART 0 ≡ 11
root_block = (have_places ROOT_BLOCK (inode_bytes ROOT_INODE)).direct 0 (omega arith) ∙ ap (λ (inode : Inode). slice_index inode.direct 0) root_reads

pub later_direct : (n : ℕ) → n ≢ 0 → slice_index (11 ∷ replicate 107 0) n ≡ 0
later_direct zero other = absurd (other refl)
later_direct (suc n) other = zeros_read 107 n

pub root_others : (place : ℕ) → place ≢ 0 → pointer_at ROOT_PART place ≡ 0
root_others place other = elim (below_or place 108) [
  | inl near ↦
      places.direct place near ∙ ap (λ (inode : Inode). slice_index inode.direct place) root_reads ∙ later_direct place other
  | inr far ↦ elim (below_or place FILE_BLOCKS) [
    | inl block ↦
        let k : ℕ = (place - 108) / 1024 in
        let entry : ℕ = (place - 108) % 1024 in
        let at : place ≡ 108 + 1024 * k + entry = omega (arith, far) in
        ap (pointer_at ROOT_PART) at ∙ places.through k entry (omega (arith, block)) (omega arith)
        ∙ ap (λ (pointer : ℕ). slice_index (pointers_of (read_block ROOT_BLOCK pointer)) entry) (root_table k) ∙ pointers_of-zeros entry
    | inr behind ↦
        let at : place ≡ FILE_BLOCKS + (place - FILE_BLOCKS) = omega (arith, behind) in
        ap (pointer_at ROOT_PART) at ∙ places.indirect (place - FILE_BLOCKS) ∙ root_table (place - FILE_BLOCKS)
  ]
]
  where
    places : HavePlaces ROOT_BLOCK (inode_bytes ROOT_INODE)
    places = have_places ROOT_BLOCK (inode_bytes ROOT_INODE)

pub take_one : {X : Type 0} (xs : List X) (d : X) → 0 < length xs → take 1 xs ≡ slice_index_or xs 0 d ∷ []
take_one [] d some = absurd (omega (arith, some))
take_one (x ∷ xs) d some = refl

pub root_blocks : directory_blocks ROOT_PART ≡ slots_bytes ROOT_SLOTS ∷ []
root_blocks =
    ap (λ (size : ℕ). take (size / 4096) ROOT_PART.blocks) (ap (λ (inode : Inode). inode.size) root_is)
    ∙ take_one ROOT_PART.blocks [] (let long = (lengths ROOT_BLOCK (inode_bytes ROOT_INODE)).1 in omega (arith, long))
    ∙ ap (λ (block : List ℕ). block ∷ [])
    (block_is_read ROOT_BLOCK (inode_bytes ROOT_INODE) 0 (omega arith)
    ∙ block_behind ROOT_BLOCK (pointer_at ROOT_PART 0) (λ none. let e = root_block in omega (arith, none, e)))

pub one_blocks : directory_blocks ONE_PART ≡ []
one_blocks = ap (λ (size : ℕ). take (size / 4096) ONE_PART.blocks) (ap (λ (inode : Inode). inode.size) one_is)

-- kinds
root_is_directory : is_directory_part ROOT_PART ≡ true
root_is_directory = ap (λ (inode : Inode). nat_eq inode.kind 2) root_is

root_is_no_file : is_file_part ROOT_PART ≡ false
root_is_no_file = ap (λ (inode : Inode). nat_eq inode.kind 1) root_is

one_is_directory : is_directory_part ONE_PART ≡ true
one_is_directory = ap (λ (inode : Inode). nat_eq inode.kind 2) one_is

one_is_no_file : is_file_part ONE_PART ≡ false
one_is_no_file = ap (λ (inode : Inode). nat_eq inode.kind 1) one_is

-- no rule on bytes is broken
root_good : IsGoodPart TWELVE_BLOCKS ROOT_PART
root_good = record {
  record_good = ap (λ (raw : List ℕ). is_some (inode_fault raw)) root_raw ∙ ap is_some (inode_fault-inode_bytes ROOT_INODE root_inode);
  size = (sizes_say ROOT_PART).1 (record {
    file = λ file. absurd (not_both file root_is_no_file);
    whole = λ directory. ap (λ (inode : Inode). inode.size % 4096) root_is;
    few = λ directory. let size = ap (λ (inode : Inode). inode.size) root_is in omega (arith, size);
  });
  pointers = rule_from_good TWELVE_BLOCKS ROOT_PART (λ place within there. points place there);
  tail = and_left (is_file_part ROOT_PART && _) _ (and_left (is_file_part ROOT_PART) _ root_is_no_file);
  slots = (slots_say ROOT_PART).1 (λ directory.
      subst (All (λ block. slots_fault block ≡ None)) (sym root_blocks)
      (All-from_recursion (λ block. slots_fault block ≡ None) (slots_bytes ROOT_SLOTS ∷ []) (slots_fault-slots_bytes ROOT_SLOTS root_slots, tt)));
}
  where
    points : (place : ℕ) → pointer_at ROOT_PART place ≢ 0 → PointsWell TWELVE_BLOCKS ROOT_PART place
    points place there = elim (cases_eq place 0) [
      | inl first ↦ subst (PointsWell TWELVE_BLOCKS ROOT_PART) (sym first) (record {
        low = let e = root_block in omega (arith, e);
        high = let e = root_block in omega (arith, e);
        covers = let size = ap (λ (inode : Inode). inode.size) root_is in subst (λ n. 0 < n) (sym size) (omega arith);
      })
      | inr other ↦ absurd (there (root_others place other))
    ]

one_good : IsGoodPart TWELVE_BLOCKS ONE_PART
one_good = record {
  record_good = ap (λ (raw : List ℕ). is_some (inode_fault raw)) one_raw ∙ ap is_some (inode_fault-inode_bytes empty_directory one_inode);
  size = (sizes_say ONE_PART).1 (record {
    file = λ file. absurd (not_both file one_is_no_file);
    whole = λ directory. ap (λ (inode : Inode). inode.size % 4096) one_is;
    few = λ directory. let size = ap (λ (inode : Inode). inode.size) one_is in omega (arith, size);
  });
  pointers = rule_from_good TWELVE_BLOCKS ONE_PART (λ place within there. absurd (there (one_has_none place)));
  tail = and_left (is_file_part ONE_PART && _) _ (and_left (is_file_part ONE_PART) _ one_is_no_file);
  slots = (slots_say ONE_PART).1 (λ directory.
      subst (All (λ block. slots_fault block ≡ None)) (sym one_blocks) (All-nil (λ block. slots_fault block ≡ None)));
}

pub free_kind : (i : ℕ) → TWO_RECORDS i ≡ zeros 512 → (inode_in (TWO_PARTS i)).kind ≡ 0
free_kind i free =
    ap (λ (raw : List ℕ). slice_index raw 0) (raw_of ROOT_BLOCK (TWO_RECORDS i) ∙ free) ∙ zeros-byte 512 0

pub good_bytes : HaveGoodBytes TWELVE_BLOCKS TWO_PARTS
good_bytes rule i low high no_root no_apart within = elim (inode_cases i) [
  | inl known ↦ elim known [
    | inl root ↦ subst (λ j. breaks_bytes_rule rule TWELVE_BLOCKS TWO_PARTS j ≡ false) (sym root) (by_part rule low high no_root no_apart 0 root_good)
    | inr one ↦ subst (λ j. breaks_bytes_rule rule TWELVE_BLOCKS TWO_PARTS j ≡ false) (sym one) (by_part rule low high no_root no_apart 1 one_good)
  ]
  | inr free ↦ elim (cases_eq rule 1) [
    | inl first ↦ subst (λ r. breaks_bytes_rule r TWELVE_BLOCKS TWO_PARTS i ≡ false) (sym first)
        (ap (λ (raw : List ℕ). is_some (inode_fault raw)) (raw_of ROOT_BLOCK (TWO_RECORDS i) ∙ free.2) ∙ ap is_some zeros_are_sound)
    | inr later ↦ free_breaks_none rule TWELVE_BLOCKS TWO_PARTS i later free.0 (ap (λ n. nat_eq n 0) (free_kind i free.2))
  ]
]
  where
    by_part : (rule : ℕ) → 1 ≤ rule → rule ≤ BYTE_RULES → rule ≢ 2 → rule ≢ 5 → (i : ℕ) → IsGoodPart TWELVE_BLOCKS (TWO_PARTS i)
        → breaks_bytes_rule rule TWELVE_BLOCKS TWO_PARTS i ≡ false
    by_part zero low high no_root no_apart i good = absurd (omega (arith, low))
    by_part (suc zero) low high no_root no_apart i good = good.record_good
    by_part (suc (suc zero)) low high no_root no_apart i good = absurd (no_root refl)
    by_part (suc (suc (suc zero))) low high no_root no_apart i good = good.size
    by_part (suc (suc (suc (suc zero)))) low high no_root no_apart i good = good.pointers
    by_part (suc (suc (suc (suc (suc zero))))) low high no_root no_apart i good = absurd (no_apart refl)
    by_part (suc (suc (suc (suc (suc (suc zero)))))) low high no_root no_apart i good = good.tail
    by_part (suc (suc (suc (suc (suc (suc (suc zero))))))) low high no_root no_apart i good = good.slots
    by_part (suc (suc (suc (suc (suc (suc (suc (suc rule)))))))) low high no_root no_apart i good = absurd (omega (arith, high))

pub sound_parts : AreSoundParts TWELVE_BLOCKS ROOT_BLOCK TWO_PARTS
sound_parts = record {
  gathered = λ i within. is_gathered ROOT_BLOCK (TWO_RECORDS i);
  records = λ i within. elim (inode_cases i) [
    | inl known ↦ elim known [
      | inl root ↦ subst (λ j. length (TWO_PARTS j).raw ≡ 512) (sym root) (ap length root_raw ∙ length-inode_bytes ROOT_INODE root_inode)
      | inr one ↦ subst (λ j. length (TWO_PARTS j).raw ≡ 512) (sym one) (ap length one_raw ∙ length-inode_bytes empty_directory one_inode)
    ]
    | inr free ↦ ap length (raw_of ROOT_BLOCK (TWO_RECORDS i) ∙ free.2) ∙ length-zeros 512
  ];
  whole = λ block low high. length-slots_bytes ROOT_SLOTS root_slots;
  good = good_bytes;
  ranges = record {
    blocks = omega arith;
    inodes_low = omega arith;
    inodes_high = omega arith;
    cores_low = omega arith;
    cores_high = omega arith;
    slots_low = omega arith;
    slots_high = omega arith;
  };
}
