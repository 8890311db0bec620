-- What the settled parts of an image show, where no rule on bytes is broken.
use Rattle.std.proofs.Common.{◌≡◌, ◌≢◌, ℕ, zero, suc, ◌+◌, ◌-◌, ◌*◌, ◌/◌, ◌<◌, ◌≤◌, true, false, cond, List, [], ◌∷◌, take, drop, length, slice_index, None, ◌⊎◌, inl, inr, refl, sym, ap, subst, ◌∙◌, arith, nat_eq, nat_lt}
use borrow.Author.Tests.{eqb-true, eq-eqb, ltb-false}
use Rattle.std.specs.Prelude.{position, slice_index_or}
use Rattle.std.specs.List.{flat_map}
use Rattle.std.proofs.lemmas.List.{get_or-drop, get_or-take, get_or_past, length-take-le}
use Rattle.std.proofs.lemmas.Bool.{cases_lt}
use Rattle.sfs_base.specs.declared.numbers.Kind.TheVariants.{File, Directory}
use Rattle.sfs_image.specs.Bytes.{part, number_from, u32s_at, nonzero_in, is_nonzero}
use Rattle.sfs_image.specs.Inode.{inode_fault, pointers_of, table_of, entry_of}
use Rattle.sfs_image.specs.Part.{Part, inode_in, part_of, block_pointer, pointer_at, seen_of, is_free_part, is_file_part, is_directory_part, directory_blocks, shown_bytes, shown_slots, tabulate}
use Rattle.sfs_image.specs.Rules.{HasBlockAt, breaks_record, breaks_root, breaks_size, breaks_apart}
use Rattle.sfs_image.specs.Seen.{SeenInodes, FILE_BLOCKS, PLACES}
use Rattle.sfs_image.specs.Slot.{kind_byte}
use Rattle.sfs_image.specs.SlotBlock.{slots_of}
use Rattle.sfs_image.proofs.Basics.{length-tabulate}
use Rattle.sfs_image.proofs.BytesLaws.{zeros_from_none, zeros-byte, None-option_map}
use Rattle.sfs_image.proofs.InodeLaws.{InodeFacts, inode_facts, pointers_of-zeros}
use Rattle.sfs_image.proofs.PiecesLaws.{length-u32s_at, get_or-u32s_at}
use Rattle.sfs_image.proofs.PartLaws.{pointer_of_block, pointer_of_table, table_is_read, hole_is_read}
use Rattle.sfs_base.proofs.BasicOptions.{none_of}
use Rattle.sfs_image.proofs.RuleFacts.{sizes_say}
use Rattle.sfs_image.proofs.ShownLaws.{slots_shown}
use Rattle.sfs_image.proofs.RuleLaws.{apart_from_rule}
use Rattle.image_laws.specs.Stands.{own_size, IsUnused, HoldsApart}
use Rattle.image_laws.specs.Mount.{ShowsByKind}
use Rattle.sfs_base.proofs.BasicTruth.{not_false}

-- bytes that are all zero, also past their end
abbrev pub AllZero : List ℕ → Type 0
AllZero bytes = (k : ℕ) → slice_index bytes k ≡ 0

zero_number : (bytes : List ℕ) → AllZero bytes → (i n : ℕ) → number_from i n bytes ≡ 0
zero_number bytes all i zero = refl
zero_number bytes all i (suc n) = let a = all i in let b = zero_number bytes all (suc i) n in omega arith

pub zero_drop : (n : ℕ) (bytes : List ℕ) → AllZero bytes → AllZero (drop n bytes)
zero_drop n bytes all k = get_or-drop n bytes k 0 ∙ all (n + k)

pub zero_take : (n : ℕ) (bytes : List ℕ) → ((k : ℕ) → k < n → slice_index bytes k ≡ 0) → AllZero (take n bytes)
zero_take n bytes all k = elim (cases_lt k n) [
  | inl lt ↦ get_or-take n bytes k 0 lt ∙ all k lt
  | inr le ↦ get_or_past (take n bytes) k 0 (short n bytes k le)
]
  where
    short : (n : ℕ) (bytes : List ℕ) (k : ℕ) → n ≤ k → length (take n bytes) ≤ k
    short zero bytes k le = omega arith
    short (suc n) [] k le = omega arith
    short (suc n) (b ∷ bytes) zero le = absurd (omega arith)
    short (suc n) (b ∷ bytes) (suc k) le = let s = short n bytes k (omega arith) in omega arith

zero_u32s : (at n : ℕ) (bytes : List ℕ) → ((k : ℕ) → k < 4 * n → slice_index bytes (at + k) ≡ 0) → (k : ℕ) → slice_index (u32s_at at n bytes) k ≡ 0
zero_u32s at n bytes all k = elim (cases_lt k n) [
  | inl lt ↦
      get_or-u32s_at at n bytes k 0 lt
      ∙ zero_number (drop (4 * k) (part at (4 * n) bytes))
      (zero_drop (4 * k) (part at (4 * n) bytes) (zero_take (4 * n) (drop at bytes) (λ j less. get_or-drop at bytes j 0 ∙ all j less))) 0 4
  | inr le ↦ get_or_past (u32s_at at n bytes) k 0 (let a = length-u32s_at at n bytes in omega arith)
]

-- a free record has no pointer
zero_behind : (raw : List ℕ) → nonzero_in 4 508 raw ≡ None → (k : ℕ) → k < 508 → slice_index raw (4 + k) ≡ 0
zero_behind raw none k lt =
    sym (get_or-drop 4 raw k 0)
    ∙ sym (get_or-take 508 (drop 4 raw) k 0 lt)
    ∙ ap (λ (bytes : List ℕ). slice_index bytes k) (zeros_from_none (part 4 508 raw) (None-option_map (λ j. 4 + j) (position is_nonzero (part 4 508 raw)) none))
    ∙ zeros-byte (length (part 4 508 raw)) k

-- each indirect block of a part that has no pointer reads as holes
abbrev pub HasEmptyHoles : Part → Type 0
HasEmptyHoles part =
    (k : ℕ) → k < 16 → slice_index (inode_in part).indirect k ≡ 0 → (entry : ℕ) → slice_index (pointers_of (slice_index_or part.tables k [])) entry ≡ 0

-- A part has all its blocks, and each of its indirect blocks that has no pointer reads as holes.
pub record IsWholePart (part : Part) : Type 0 where
  pub blocks : length part.blocks ≡ FILE_BLOCKS
  pub holes : HasEmptyHoles part

gathered_blocks : (store : ℕ → List ℕ) (raw : List ℕ) → length (part_of store raw).blocks ≡ FILE_BLOCKS
unfolding part_of
gathered_blocks store raw = length-tabulate FILE_BLOCKS _

-- the part of a record that a store of blocks has is whole
pub gathered_whole : (store : ℕ → List ℕ) (raw : List ℕ) → IsWholePart (part_of store raw)
gathered_whole store raw = record {
  blocks = gathered_blocks store raw;
  holes = λ k lt none entry.
      ap (λ (block : List ℕ). slice_index (pointers_of block) entry)
      (table_is_read store raw k lt ∙ hole_is_read store (pointer_at (part_of store raw) (FILE_BLOCKS + k)) (pointer_of_table (part_of store raw) k ∙ none))
      ∙ pointers_of-zeros entry;
}

-- the part of a free record has no pointer
module _ (part : Part) (whole : IsWholePart part) (none : nonzero_in 4 508 part.raw ≡ None) where
  no_direct : (k : ℕ) → slice_index (inode_in part).direct k ≡ 0
  no_direct = zero_u32s 16 108 part.raw (λ k lt. ap (slice_index part.raw) (apart k) ∙ zero_behind part.raw none (12 + k) (omega arith))
    where
      apart : (k : ℕ) → 16 + k ≡ 4 + (12 + k)
      apart k = omega arith

  no_indirect : (k : ℕ) → slice_index (inode_in part).indirect k ≡ 0
  no_indirect = zero_u32s 448 16 part.raw (λ k lt. ap (slice_index part.raw) (apart k) ∙ zero_behind part.raw none (444 + k) (omega arith))
    where
      apart : (k : ℕ) → 448 + k ≡ 4 + (444 + k)
      apart k = omega arith

  no_block : (n : ℕ) → n < FILE_BLOCKS → block_pointer (inode_in part) part.tables n ≡ 0
  no_block n lt =
      elim (nat_lt n 108) as (λ b. nat_lt n 108 ≡ b
      → cond b (slice_index (inode_in part).direct n) (slice_index (pointers_of (slice_index_or part.tables (table_of n) [])) (entry_of n)) ≡ 0) [
        | true ↦ λ t. no_direct n
        | false ↦ λ t. let le = ltb-false _ _ t in whole.holes (table_of n) (omega arith) (no_indirect (table_of n)) (entry_of n)
      ] refl

  pub no_pointer : (place : ℕ) → place < PLACES → pointer_at part place ≡ 0
  no_pointer place lt = elim (cases_lt place FILE_BLOCKS) [
    | inl below ↦ pointer_of_block part place below ∙ no_block place below
    | inr behind ↦
        subst (λ (p : ℕ). pointer_at part p ≡ 0) (again place behind) (pointer_of_table part (place - FILE_BLOCKS) ∙ no_indirect (place - FILE_BLOCKS))
  ]
    where
      again : (place : ℕ) → FILE_BLOCKS ≤ place → FILE_BLOCKS + (place - FILE_BLOCKS) ≡ place
      again place le = omega arith

-- inode 0 is a directory where its part breaks no rule
pub root_shown : (part : Part) → breaks_root part 0 ≡ false → (seen_of part).kind ≡ kind_byte Directory
root_shown part e = eqb-true _ _ (not_false _ e)

-- the inodes that whole parts show
module _ (parts : ℕ → Part) (count : ℕ) (whole : (i : ℕ) → i < count → IsWholePart (parts i)) where
  abbrev inodes : SeenInodes
  inodes = record { count = count; seen = λ i. seen_of (parts i) }

  module _ (records : (i : ℕ) → i < count → breaks_record (parts i) ≡ false) where
    facts : (i : ℕ) → i < count → InodeFacts (parts i).raw
    facts i lt = inode_facts (parts i).raw (none_of (inode_fault (parts i).raw) (records i lt))

    unused_shown : (i : ℕ) → i < count → (inode_in (parts i)).kind ≡ 0 → IsUnused (seen_of (parts i))
    unused_shown i lt free = record { kind = free; blocks = no_pointer (parts i) (whole i lt) ((facts i lt).free free) }

    kinds_shown : (i : ℕ) → i < count → (inode_in (parts i)).kind ≢ 0
        → ((inode_in (parts i)).kind ≡ kind_byte File) ⊎ ((inode_in (parts i)).kind ≡ kind_byte Directory)
    kinds_shown i lt used = by_number (inode_in (parts i)).kind used (facts i lt).kind
      where
        by_number : (n : ℕ) → n ≢ 0 → n ≤ 2 → (n ≡ kind_byte File) ⊎ (n ≡ kind_byte Directory)
        by_number zero some le = absurd (some refl)
        by_number (suc zero) some le = inl refl
        by_number (suc (suc zero)) some le = inr refl
        by_number (suc (suc (suc n))) some le = absurd (omega arith)

    module _ (sizes : (i : ℕ) → i < count → breaks_size (parts i) ≡ false) where
      size_shown : (i : ℕ) → i < count → (inode_in (parts i)).kind ≢ 0 → (inode_in (parts i)).size ≡ own_size (seen_of (parts i))
      size_shown i lt used = elim (kinds_shown i lt used) [
        | inl file ↦
            sym (ap (λ n. cond (nat_eq n (kind_byte Directory)) (4096 * (length (shown_slots (parts i)) / 15)) (length (shown_bytes (parts i)))) file
            ∙ ap (λ n. length (cond (nat_eq n (kind_byte File)) (tabulate (inode_in (parts i)).size (Rattle.sfs_image.specs.Part.file_byte (parts i))) [])) file
            ∙ length-tabulate (inode_in (parts i)).size (Rattle.sfs_image.specs.Part.file_byte (parts i)))
        | inr directory ↦
            let is = eq-eqb (inode_in (parts i)).kind (kind_byte Directory) directory in
            let fits = (sizes_say (parts i)).0 (sizes i lt) in
            let whole_blocks = fits.whole is in
            let few = fits.few is in
            let blocks = (whole i lt).blocks in
            let taken : length (take ((inode_in (parts i)).size / 4096) (parts i).blocks) ≡ (inode_in (parts i)).size / 4096 =
            length-take-le ((inode_in (parts i)).size / 4096) (parts i).blocks (omega arith) in
            let slots : length (shown_slots (parts i)) ≡ 15 * ((inode_in (parts i)).size / 4096) = (slots_shown (parts i) is).count ∙ ap (λ n. 15 * n) taken in
            let whole : (inode_in (parts i)).size ≡ 4096 * ((15 * ((inode_in (parts i)).size / 4096)) / 15) = omega arith in
            whole
            ∙ ap (λ n. 4096 * (n / 15)) (sym slots)
            ∙ sym (ap (λ n. cond (nat_eq n (kind_byte Directory)) (4096 * (length (shown_slots (parts i)) / 15)) (length (shown_bytes (parts i)))) directory)
      ]

      pub shows_by_kind : ShowsByKind inodes
      shows_by_kind = record {
        kinds = kinds_shown;
        sizes = size_shown;
        files = λ i lt file. ap (λ n. cond (nat_eq n (kind_byte Directory)) (flat_map slots_of (directory_blocks (parts i))) []) file;
        directories =
            λ i lt directory. ap (λ n. cond (nat_eq n (kind_byte File))
            (tabulate (inode_in (parts i)).size (Rattle.sfs_image.specs.Part.file_byte (parts i))) [])
            directory;
        unused = unused_shown;
      }

    pub holds_apart : ((i : ℕ) → i < count → breaks_apart parts i ≡ false) → HoldsApart inodes
    holds_apart rule i p j q lt less small tiny some same =
        apart_from_rule parts i j p q (at i p lt small some) (at j q less tiny (λ none. some (same ∙ none))) same
      where
        in_use : (i p : ℕ) → i < count → p < PLACES → pointer_at (parts i) p ≢ 0 → is_free_part (parts i) ≡ false
        in_use i p lt small some = elim (is_free_part (parts i)) as (λ b. is_free_part (parts i) ≡ b → b ≡ false) [
          | true ↦ λ t. absurd (some ((unused_shown i lt (eqb-true _ _ t)).blocks p small))
          | false ↦ λ _. refl
        ] refl

        at : (i p : ℕ) → i < count → p < PLACES → pointer_at (parts i) p ≢ 0 → HasBlockAt parts i p
        at i p lt small some = record { used = in_use i p lt small some; keeps = rule i lt; within = small; there = some }
