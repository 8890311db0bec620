-- The parts of the disk of fifteen blocks, and what they show.
use Rattle.std.proofs.Common.{◌∷◌, ◌<◌, ◌^◌, ◌≡◌, ◌∙◌, ◌⊎◌, ◌≢◌, ◌-◌, ◌/◌, ◌%◌, ◌+◌, ◌*◌, ◌&&◌, Some, [], arith, refl, ℕ, slice_index, replicate, zero, suc, ap, inl, inr, nat_eq, length, List, take, false, is_some, subst, All, None, sym}
use Rattle.std.proofs.lemmas.List.Elements.{All-from_recursion}
use Rattle.std.proofs.lemmas.List.{length-replicate}
use Rattle.std.proofs.lemmas.Bool.{cases_eq, and_left}
use Rattle.sfs_base.specs.declared.numbers.Kind.TheVariants.{File}
use Rattle.sfs_base.proofs.BasicLists.{zeros_read}
use Rattle.sfs_base.proofs.BasicTruth.{not_both}
use Rattle.sfs_image.specs.Slot.{IsSlot}
use Rattle.sfs_image.specs.SlotBlock.{AreSlots, slots_bytes, slots_fault}
use Rattle.sfs_image.specs.Inode.{IsInode, inode_bytes, inode_of, Inode, inode_fault, pointers_of}
use Rattle.sfs_image.specs.Part.{Part, part_of, inode_in, pointer_at, read_block, directory_blocks, is_directory_part, is_file_part}
use Rattle.sfs_image.specs.Bytes.{zeros}
use Rattle.sfs_image.specs.Seen.{FILE_BLOCKS}
use Rattle.sfs_image.specs.LawsOfParts.{HavePlaces, PointsWell}
use Rattle.sfs_image.specs.Rules.{breaks_bytes_rule}
use Rattle.sfs_image.proofs.AcceptedLaws.{raw_of, is_gathered}
use Rattle.sfs_image.proofs.InodeLaws.{inode_of-inode_bytes, pointers_of-zeros, inode_fault-inode_bytes, length-inode_bytes}
use Rattle.sfs_image.proofs.PartLaws.{free_has_none, holes_have_none, have_places, block_is_read, block_behind}
use Rattle.sfs_image.proofs.JustMadeLaws.{zeros_are_sound}
use Rattle.sfs_image.proofs.BytesLaws.{length-zeros, zeros-byte}
use Rattle.sfs_image.proofs.RuleFacts.{sizes_say, slots_say, tails_say}
use Rattle.sfs_image.proofs.RuleLaws.{rule_from_good, free_breaks_none}
use Rattle.sfs_image.proofs.SlotBlockLaws.{slots_fault-slots_bytes, length-slots_bytes}
use Rattle.commit_laws.proofs.PartsMade.{lengths}
use Rattle.commit_laws.proofs.GoodParts.{IsGoodPart, all_good}
use Rattle.cut_laws.proofs.Basics.{below_or}
use Rattle.flush_laws.specs.Ready.{AreSoundParts}
use Rattle.example_grants.specs.Image.{file_inode as a_file, TWO_ROWS, ROOT_RECORD, EMPTY_FILE, FIRST_PARTS, ROWS_BLOCK, FIRST_RECORDS, FIFTEEN_BLOCKS}
use Rattle.example_grants.proofs.Tree.{first_three, of_others}
use Rattle.example_laws.proofs.Image.{take_one}

own_is_slot : IsSlot (Some (record { inode = 1; kind = File; name = 97 ∷ [] }))
own_is_slot = (omega arith, refl)

other_is_slot : IsSlot (Some (record { inode = 2; kind = File; name = 98 ∷ [] }))
other_is_slot = (omega arith, refl)

pub root_slots : AreSlots TWO_ROWS
root_slots = record {
  count = refl;
  sound = All-from_recursion IsSlot TWO_ROWS
      (own_is_slot, (other_is_slot, (tt, (tt, (tt, (tt, (tt, (tt, (tt, (tt, (tt, (tt, (tt, (tt, (tt, tt)))))))))))))));
}

-- an inode that has one block or none
one_direct : (block : ℕ) → block < 2 ^ 32 → (k : ℕ) → slice_index (block ∷ replicate 107 0) k < 2 ^ 32
one_direct block low zero = low
one_direct block low (suc k) = let e = zeros_read 107 k in omega arith

pub later_direct : (block n : ℕ) → n ≢ 0 → slice_index (block ∷ replicate 107 0) n ≡ 0
later_direct block zero other = absurd (other refl)
later_direct block (suc n) other = zeros_read 107 n

pub root_inode : IsInode ROOT_RECORD
root_inode = record {
  kind = omega arith;
  links = omega arith;
  size = omega arith;
  direct_count = ap suc (length-replicate {A = ℕ} 107 0);
  direct = one_direct 12 (omega arith);
  indirect_count = length-replicate {A = ℕ} 16 0;
  indirect = λ k. let e = zeros_read 16 k in omega arith;
  free = λ none. absurd (let two : 2 ≡ 0 = none in omega arith);
}

pub any_file : (size block : ℕ) → size < 2 ^ 64 → block < 2 ^ 32 → IsInode (a_file size block)
any_file size block short low = record {
  kind = omega arith;
  links = omega arith;
  size = short;
  direct_count = ap suc (length-replicate {A = ℕ} 107 0);
  direct = one_direct block low;
  indirect_count = length-replicate {A = ℕ} 16 0;
  indirect = λ k. let e = zeros_read 16 k in omega arith;
  free = λ none. absurd (let one : 1 ≡ 0 = none in omega arith);
}

file_inode : IsInode EMPTY_FILE
file_inode = any_file 0 0 (omega arith) (omega arith)

abbrev pub ROOT_PART : Part
ROOT_PART = FIRST_PARTS 0

-- both files have this part at first
abbrev pub FILE_PART : Part
FILE_PART = part_of ROWS_BLOCK (inode_bytes EMPTY_FILE)

pub root_raw : ROOT_PART.raw ≡ inode_bytes ROOT_RECORD
root_raw = raw_of ROWS_BLOCK (inode_bytes ROOT_RECORD)

pub file_raw : FILE_PART.raw ≡ inode_bytes EMPTY_FILE
file_raw = raw_of ROWS_BLOCK (inode_bytes EMPTY_FILE)

pub root_is : inode_in ROOT_PART ≡ ROOT_RECORD
root_is = ap inode_of root_raw ∙ inode_of-inode_bytes ROOT_RECORD root_inode

pub file_is : inode_in FILE_PART ≡ EMPTY_FILE
file_is = ap inode_of file_raw ∙ inode_of-inode_bytes EMPTY_FILE file_inode

-- the record of an inode behind the first three is free
pub free_record : (i : ℕ) → (i ≢ 0) × (i ≢ 1) × (i ≢ 2) → FIRST_RECORDS i ≡ zeros 512
free_record i apart = of_others i (inode_bytes ROOT_RECORD) (inode_bytes EMPTY_FILE) (inode_bytes EMPTY_FILE) (zeros 512) apart

-- an inode of the layout is the root's, a file's, or free
pub inode_cases : (i : ℕ) → ((i ≡ 0) ⊎ (FIRST_PARTS i ≡ FILE_PART)) ⊎ ((i ≢ 0) × (i ≢ 1) × (i ≢ 2) × (FIRST_RECORDS i ≡ zeros 512))
inode_cases i = elim (first_three i) [
  | inl known ↦ elim known [
    | inl root ↦ inl (inl root)
    | inr file ↦ elim file [ inl first ↦ inl (inr (ap FIRST_PARTS first)) | inr second ↦ inl (inr (ap FIRST_PARTS second)) ]
  ]
  | inr apart ↦ inr (
    apart.0,
    apart.1,
    apart.2,
    free_record i apart,
  )
]

-- pointers
pub file_has_none : (place : ℕ) → pointer_at FILE_PART place ≡ 0
file_has_none place =
    holes_have_none ROWS_BLOCK (inode_bytes EMPTY_FILE)
    (ap (λ (inode : Inode). inode.direct) (inode_of-inode_bytes EMPTY_FILE file_inode))
    (ap (λ (inode : Inode). inode.indirect) (inode_of-inode_bytes EMPTY_FILE file_inode)) place

pub free_has : (i : ℕ) → FIRST_RECORDS i ≡ zeros 512 → (place : ℕ) → pointer_at (FIRST_PARTS i) place ≡ 0
free_has i free place =
    free_has_none ROWS_BLOCK (FIRST_RECORDS i) (ap length free ∙ length-zeros 512) (ap inode_fault free ∙ zeros_are_sound)
    (ap (λ (raw : List ℕ). slice_index raw 0) free ∙ zeros-byte 512 0) place

root_reads : inode_of (inode_bytes ROOT_RECORD) ≡ ROOT_RECORD
root_reads = inode_of-inode_bytes ROOT_RECORD root_inode

root_table : (k : ℕ) → slice_index (inode_of (inode_bytes ROOT_RECORD)).indirect k ≡ 0
root_table k = ap (λ (inode : Inode). slice_index inode.indirect k) root_reads ∙ zeros_read 16 k

pub root_block : pointer_at ROOT_PART 0 ≡ 12
root_block = (have_places ROWS_BLOCK (inode_bytes ROOT_RECORD)).direct 0 (omega arith) ∙ ap (λ (inode : Inode). slice_index inode.direct 0) root_reads

pub root_others : (place : ℕ) → place ≢ 0 → pointer_at ROOT_PART place ≡ 0
root_others place other = elim (below_or place 108) [
  | inl near ↦
      places.direct place near ∙ ap (λ (inode : Inode). slice_index inode.direct place) root_reads ∙ later_direct 12 place other
  | inr far ↦ elim (below_or place FILE_BLOCKS) [
    | inl block ↦
        let k : ℕ = (place - 108) / 1024 in
        let entry : ℕ = (place - 108) % 1024 in
        let at : place ≡ 108 + 1024 * k + entry = omega (arith, far) in
        ap (pointer_at ROOT_PART) at ∙ places.through k entry (omega (arith, block)) (omega arith)
        ∙ ap (λ (pointer : ℕ). slice_index (pointers_of (read_block ROWS_BLOCK pointer)) entry) (root_table k) ∙ pointers_of-zeros entry
    | inr behind ↦
        let at : place ≡ FILE_BLOCKS + (place - FILE_BLOCKS) = omega (arith, behind) in
        ap (pointer_at ROOT_PART) at ∙ places.indirect (place - FILE_BLOCKS) ∙ root_table (place - FILE_BLOCKS)
  ]
]
  where
    places : HavePlaces ROWS_BLOCK (inode_bytes ROOT_RECORD)
    places = have_places ROWS_BLOCK (inode_bytes ROOT_RECORD)

pub root_blocks : directory_blocks ROOT_PART ≡ slots_bytes TWO_ROWS ∷ []
root_blocks =
    ap (λ (size : ℕ). take (size / 4096) ROOT_PART.blocks) (ap (λ (inode : Inode). inode.size) root_is)
    ∙ take_one ROOT_PART.blocks [] (let long = (lengths ROWS_BLOCK (inode_bytes ROOT_RECORD)).1 in omega (arith, long))
    ∙ ap (λ (block : List ℕ). block ∷ [])
    (block_is_read ROWS_BLOCK (inode_bytes ROOT_RECORD) 0 (omega arith)
    ∙ block_behind ROWS_BLOCK (pointer_at ROOT_PART 0) (λ none. let e = root_block in omega (arith, none, e)))

-- kinds
root_is_no_file : is_file_part ROOT_PART ≡ false
root_is_no_file = ap (λ (inode : Inode). nat_eq inode.kind 1) root_is

file_is_no_directory : is_directory_part FILE_PART ≡ false
file_is_no_directory = ap (λ (inode : Inode). nat_eq inode.kind 2) file_is

-- no rule on bytes is broken
root_good : IsGoodPart FIFTEEN_BLOCKS ROOT_PART
root_good = record {
  record_good = ap (λ (raw : List ℕ). is_some (inode_fault raw)) root_raw ∙ ap is_some (inode_fault-inode_bytes ROOT_RECORD root_inode);
  size = (sizes_say ROOT_PART).1 (record {
    file = λ file. absurd (not_both file root_is_no_file);
    whole = λ directory. ap (λ (inode : Inode). inode.size % 4096) root_is;
    few = λ directory. let size = ap (λ (inode : Inode). inode.size) root_is in omega (arith, size);
  });
  pointers = rule_from_good FIFTEEN_BLOCKS ROOT_PART (λ place within there. points place there);
  tail = and_left (is_file_part ROOT_PART && _) _ (and_left (is_file_part ROOT_PART) _ root_is_no_file);
  slots = (slots_say ROOT_PART).1 (λ directory.
      subst (All (λ block. slots_fault block ≡ None)) (sym root_blocks)
      (All-from_recursion (λ block. slots_fault block ≡ None) (slots_bytes TWO_ROWS ∷ []) (slots_fault-slots_bytes TWO_ROWS root_slots, tt)));
}
  where
    points : (place : ℕ) → pointer_at ROOT_PART place ≢ 0 → PointsWell FIFTEEN_BLOCKS ROOT_PART place
    points place there = elim (cases_eq place 0) [
      | inl first ↦ subst (PointsWell FIFTEEN_BLOCKS ROOT_PART) (sym first) (record {
        low = let e = root_block in omega (arith, e);
        high = let e = root_block in omega (arith, e);
        covers = let size = ap (λ (inode : Inode). inode.size) root_is in subst (λ n. 0 < n) (sym size) (omega arith);
      })
      | inr other ↦ absurd (there (root_others place other))
    ]

file_good : IsGoodPart FIFTEEN_BLOCKS FILE_PART
file_good = record {
  record_good = ap (λ (raw : List ℕ). is_some (inode_fault raw)) file_raw ∙ ap is_some (inode_fault-inode_bytes EMPTY_FILE file_inode);
  size = (sizes_say FILE_PART).1 (record {
    file = λ file. let size = ap (λ (inode : Inode). inode.size) file_is in omega (arith, size);
    whole = λ directory. absurd (not_both directory file_is_no_directory);
    few = λ directory. absurd (not_both directory file_is_no_directory);
  });
  pointers = rule_from_good FIFTEEN_BLOCKS FILE_PART (λ place within there. absurd (there (file_has_none place)));
  tail = (tails_say FILE_PART).1 (λ file place low high. absurd (let size = ap (λ (inode : Inode). inode.size) file_is in omega (arith, size, high)));
  slots = (slots_say FILE_PART).1 (λ directory. absurd (not_both directory file_is_no_directory));
}

pub free_kind : (i : ℕ) → FIRST_RECORDS i ≡ zeros 512 → (inode_in (FIRST_PARTS i)).kind ≡ 0
free_kind i free =
    ap (λ (raw : List ℕ). slice_index raw 0) (raw_of ROWS_BLOCK (FIRST_RECORDS i) ∙ free) ∙ zeros-byte 512 0

free_good : (i : ℕ) → i ≢ 0 → FIRST_RECORDS i ≡ zeros 512 → IsGoodPart FIFTEEN_BLOCKS (FIRST_PARTS i)
free_good i no_root free = record {
  record_good = ap (λ (raw : List ℕ). is_some (inode_fault raw)) (raw_of ROWS_BLOCK (FIRST_RECORDS i) ∙ free) ∙ ap is_some zeros_are_sound;
  size = keeps 3 (λ e. omega (arith, e));
  pointers = keeps 4 (λ e. omega (arith, e));
  tail = keeps 6 (λ e. omega (arith, e));
  slots = keeps 7 (λ e. omega (arith, e));
}
  where
    keeps : (rule : ℕ) → rule ≢ 1 → breaks_bytes_rule rule FIFTEEN_BLOCKS FIRST_PARTS i ≡ false
    keeps rule later = free_breaks_none rule FIFTEEN_BLOCKS FIRST_PARTS i later no_root (ap (λ n. nat_eq n 0) (free_kind i free))

each_good : (i : ℕ) → i < 16 → IsGoodPart FIFTEEN_BLOCKS (FIRST_PARTS i)
each_good i low = elim (inode_cases i) [
  | inl known ↦ elim known [
    | inl root ↦ subst (λ j. IsGoodPart FIFTEEN_BLOCKS (FIRST_PARTS j)) (sym root) root_good
    | inr file ↦ subst (IsGoodPart FIFTEEN_BLOCKS) (sym file) file_good
  ]
  | inr free ↦ free_good i free.0 free.3
]

pub sound_parts : AreSoundParts FIFTEEN_BLOCKS ROWS_BLOCK FIRST_PARTS
sound_parts = record {
  gathered = λ i within. is_gathered ROWS_BLOCK (FIRST_RECORDS i);
  records = λ i within. elim (inode_cases i) [
    | inl known ↦ elim known [
      | inl root ↦ subst (λ j. length (FIRST_PARTS j).raw ≡ 512) (sym root) (ap length root_raw ∙ length-inode_bytes ROOT_RECORD root_inode)
      | inr file ↦ subst (λ (p : Part). length p.raw ≡ 512) (sym file) (ap length file_raw ∙ length-inode_bytes EMPTY_FILE file_inode)
    ]
    | inr free ↦ ap length (raw_of ROWS_BLOCK (FIRST_RECORDS i) ∙ free.3) ∙ length-zeros 512
  ];
  whole = λ block low high. length-slots_bytes TWO_ROWS root_slots;
  good = all_good FIFTEEN_BLOCKS FIRST_PARTS each_good;
  ranges = record {
    blocks = omega arith;
    inodes_low = omega arith;
    inodes_high = omega arith;
    cores_low = omega arith;
    cores_high = omega arith;
    slots_low = omega arith;
    slots_high = omega arith;
  };
}
