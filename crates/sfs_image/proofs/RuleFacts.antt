-- What the rules on records, on inode 0, on sizes, on last blocks and on slots say.
use Rattle.std.proofs.Common.{◌≡◌, ◌≢◌, ℕ, ◌+◌, ◌-◌, ◌*◌, ◌/◌, ◌%◌, ◌<◌, ◌≤◌, Bool, true, false, not, eqb, ltb, ◌&&◌, List, [], drop, length, get_or, slice_index, None, is_some, is_none, option_map, replicate, All, refl, sym, ap, ◌∙◌, arith, inl, inr}
use Rattle.std.specs.Prelude.{◌↔◌, slice_index_or}
use Rattle.std.specs.List.{position}
use Rattle.std.proofs.lemmas.Bool.{cond-true, cond-false, lt-ltb, not-false, cases_Bool, eqb-true, eq-eqb, ne_eqb, eqb-false, ltb-false, le-ltb, and_left, and_right, and_from, and_parts, not-true, or_from, or_parts, not_from_true, not_from_false, both_ways}
use Rattle.std.proofs.lemmas.List.{get_or-take, get_or-drop, length-take, same_lists, length-replicate, get_or-replicate, get_or_default}
use Rattle.std.proofs.lemmas.List.Folds.{list_any_at, list_any_none}
use Rattle.sfs_image.specs.Bytes.{part, zeros, is_nonzero, nonzero_in}
use Rattle.sfs_image.specs.Inode.{inode_fault, table_of, entry_of}
use Rattle.sfs_image.specs.LawsOfFields.{IsGoodRecord}
use Rattle.sfs_image.specs.LawsOfParts.{AreTheLimits, FitsSize}
use Rattle.sfs_image.specs.Part.{Part, inode_in, file_byte, directory_blocks, is_file_part, is_directory_part}
use Rattle.sfs_image.specs.Rules.{first_covered, DIRECTORY_BLOCKS, breaks_record, breaks_root, breaks_size, breaks_tail, breaks_slots}
use Rattle.sfs_image.specs.Seen.{FILE_BLOCKS}
use Rattle.sfs_image.specs.SlotBlock.{slots_fault}
use Rattle.sfs_image.proofs.InodeLaws.{inode_facts}
use Rattle.sfs_image.proofs.BytesLaws.{zeros_from_none, zeros-byte, zeros-is, no_nonzero-zeros, none_from_map}
use Rattle.sfs_base.proofs.BasicOptions.{none_of}
use Rattle.sfs_base.proofs.BasicTruth.{then_false}

-- a test of a kind fails where what it asks fails
pub asked : (kind wrong : Bool) → (kind ≡ true → wrong ≡ false) → (kind && wrong) ≡ false
asked true wrong fails = fails refl
asked false wrong fails = refl

pub sizes_say : (part : Part) → (breaks_size part ≡ false) ↔ FitsSize part
sizes_say part = (facts, rule)
  where
    facts : breaks_size part ≡ false → FitsSize part
    facts keeps =
        let both = or_parts (is_file_part part && ltb (4096 * FILE_BLOCKS) (inode_in part).size) _ keeps in
        let tests = λ (directory : is_directory_part part ≡ true).
        or_parts (not (eqb ((inode_in part).size % 4096) 0)) (ltb (4096 * DIRECTORY_BLOCKS) (inode_in part).size)
        (then_false (is_directory_part part) _ both.1 directory) in
        record {
          file = λ file. ltb-false (4096 * FILE_BLOCKS) (inode_in part).size (then_false (is_file_part part) _ both.0 file);
          whole = λ directory. eqb-true ((inode_in part).size % 4096) 0 (not-false (eqb ((inode_in part).size % 4096) 0) (tests directory).0);
          few = λ directory. ltb-false (4096 * DIRECTORY_BLOCKS) (inode_in part).size (tests directory).1;
        }

    rule : FitsSize part → breaks_size part ≡ false
    rule fits =
        or_from (is_file_part part && _) (is_directory_part part && _)
        (asked (is_file_part part) _ (λ file. le-ltb (4096 * FILE_BLOCKS) (inode_in part).size (fits.file file)))
        (asked (is_directory_part part) _
        (λ directory. or_from (not (eqb ((inode_in part).size % 4096) 0)) (ltb (4096 * DIRECTORY_BLOCKS) (inode_in part).size)
        (not_from_true _ (eq-eqb ((inode_in part).size % 4096) 0 (fits.whole directory)))
        (le-ltb (4096 * DIRECTORY_BLOCKS) (inode_in part).size (fits.few directory))))

-- no byte of a range is other than 0 exactly where each is 0
zeros_in_range : (at n : ℕ) (bytes : List ℕ) → nonzero_in at n bytes ≡ None → (k : ℕ) → k < n → slice_index bytes (at + k) ≡ 0
zeros_in_range at n bytes none k h =
    let clean = none_from_map (λ (j : ℕ). at + j) (position is_nonzero (part at n bytes)) (ap is_none none) in
    sym (get_or-take n (drop at bytes) k 0 h ∙ get_or-drop at bytes k 0)
    ∙ ap (λ (xs : List ℕ). slice_index xs k) (zeros_from_none (part at n bytes) clean) ∙ zeros-byte (length (part at n bytes)) k

range_of_zeros : (at n : ℕ) (bytes : List ℕ) → ((k : ℕ) → k < n → slice_index bytes (at + k) ≡ 0) → nonzero_in at n bytes ≡ None
range_of_zeros at n bytes are =
    ap (option_map (λ (j : ℕ). at + j)) (ap (position is_nonzero) all ∙ no_nonzero-zeros (length (part at n bytes)))
  where
    all : part at n bytes ≡ zeros (length (part at n bytes))
    all =
        rw (zeros-is (length (part at n bytes)))
        (same_lists (part at n bytes) (replicate (length (part at n bytes)) 0) (sym (length-replicate {A = ℕ} (length (part at n bytes)) 0))
        (λ k d h.
        let within : k < n = omega (arith, length-take n (drop at bytes)) in
        get_or_default (part at n bytes) k d 0 h ∙ get_or-take n (drop at bytes) k 0 within ∙ get_or-drop at bytes k 0 ∙ are k within
        ∙ sym (get_or-replicate (length (part at n bytes)) k 0 d h)))

pub tails_say : (part : Part) → (breaks_tail part ≡ false)
    ↔ (is_file_part part ≡ true → (place : ℕ) → (inode_in part).size ≤ place → place < 4096 * (((inode_in part).size + 4095) / 4096) → file_byte part place ≡ 0)
tails_say part = (facts, rule)
  where
    size : ℕ
    size = (inode_in part).size

    last : List ℕ
    last = slice_index_or part.blocks (size / 4096) []

    facts : breaks_tail part ≡ false → is_file_part part ≡ true → (place : ℕ) → size ≤ place → place < 4096 * ((size + 4095) / 4096) → file_byte part place ≡ 0
    facts keeps file place low high =
        let open_end : size % 4096 ≢ 0 = λ full. let e : (size + 4095) / 4096 ≡ size / 4096 = omega arith in omega arith in
        let asks = and_from (is_file_part part) _ file (not_from_false (eqb (size % 4096) 0) (ne_eqb (size % 4096) 0 open_end)) in
        let none = none_of (nonzero_in (size % 4096) (4096 - size % 4096) last) (then_false _ _ keeps asks) in
        let same_block : place / 4096 ≡ size / 4096 = omega arith in
        let within : size % 4096 + (place % 4096 - size % 4096) ≡ place % 4096 = omega arith in
        ap (λ (n : ℕ). slice_index (slice_index_or part.blocks n []) (place % 4096)) same_block
        ∙ ap (slice_index last) (sym within)
        ∙ zeros_in_range (size % 4096) (4096 - size % 4096) last none (place % 4096 - size % 4096) (omega arith)

    rule : (is_file_part part ≡ true → (place : ℕ) → size ≤ place → place < 4096 * ((size + 4095) / 4096) → file_byte part place ≡ 0) → breaks_tail part ≡ false
    rule cleared =
        elim (cases_Bool (is_file_part part && not (eqb (size % 4096) 0))) [
          | inl asks ↦
              and_right _ _ (ap is_some (clean (and_parts (is_file_part part) _ asks).0 (eqb-false _ _ (not-true _ (and_parts (is_file_part part) _ asks).1))))
          | inr aside ↦ and_left _ _ aside
        ]
      where
        clean : is_file_part part ≡ true → size % 4096 ≢ 0 → nonzero_in (size % 4096) (4096 - size % 4096) last ≡ None
        clean file open_end =
            range_of_zeros (size % 4096) (4096 - size % 4096) last
            (λ k h.
            let same_block : (size + k) / 4096 ≡ size / 4096 = omega arith in
            let within : (size + k) % 4096 ≡ size % 4096 + k = omega arith in
            sym (ap (λ (n : ℕ). slice_index (slice_index_or part.blocks n []) ((size + k) % 4096)) same_block ∙ ap (slice_index last) within)
            ∙ cleared file (size + k) (omega arith) (omega arith))

pub slots_say : (part : Part) → (breaks_slots part ≡ false) ↔ (is_directory_part part ≡ true → All (λ block. slots_fault block ≡ None) (directory_blocks part))
slots_say part = (facts, rule)
  where
    wrong : List ℕ → Bool
    wrong block = is_some (slots_fault block)

    facts : breaks_slots part ≡ false → is_directory_part part ≡ true → All (λ block. slots_fault block ≡ None) (directory_blocks part)
    facts keeps directory k d h =
        let each = then_false (is_directory_part part) _ keeps directory in
        none_of (slots_fault (get_or (directory_blocks part) k d))
        (elim (cases_Bool (wrong (get_or (directory_blocks part) k d))) [
          | inl fault ↦ absurd (both_ways _ each (list_any_at wrong (directory_blocks part) k d h fault))
          | inr sound ↦ sound
        ])

    rule : (is_directory_part part ≡ true → All (λ block. slots_fault block ≡ None) (directory_blocks part)) → breaks_slots part ≡ false
    rule sound = asked (is_directory_part part) _ (λ directory. list_any_none wrong (directory_blocks part) (λ k d h. ap is_some (sound directory k d h)))

pub blocks_cover : (n : ℕ) → n < FILE_BLOCKS → first_covered n ≡ 4096 * n
blocks_cover n below = cond-true (ltb n FILE_BLOCKS) _ _ (lt-ltb n FILE_BLOCKS below)

pub tables_cover : (k n : ℕ) → 108 ≤ n → table_of n ≡ k → entry_of n ≡ 0 → first_covered (FILE_BLOCKS + k) ≡ 4096 * n
tables_cover k n far table entry =
    cond-false (ltb (FILE_BLOCKS + k) FILE_BLOCKS) _ _ (le-ltb (FILE_BLOCKS + k) FILE_BLOCKS (omega arith))
    ∙ (let first : 108 + 1024 * (FILE_BLOCKS + k - FILE_BLOCKS) ≡ n = omega arith in ap (λ (m : ℕ). 4096 * m) first)

pub limits : AreTheLimits
limits = record { file = refl; directory = refl }

-- An inode keeps the first rule exactly where its record is good.
pub records_say : (own : Part) → (breaks_record own ≡ false) ↔ IsGoodRecord own.raw
records_say own = (good, keeps)
  where
    good : breaks_record own ≡ false → IsGoodRecord own.raw
    good whole =
        let facts = inode_facts own.raw (none_of (inode_fault own.raw) whole) in
        record {
          kind = facts.kind;
          between = zeros_in_range 1 3 own.raw facts.gap;
          free = λ free. zeros_in_range 4 508 own.raw (facts.free free);
        }

    keeps : IsGoodRecord own.raw → breaks_record own ≡ false
    keeps is =
        let kind : ltb 2 (slice_index own.raw 0) ≡ false = le-ltb 2 (slice_index own.raw 0) is.kind in
        let gap : nonzero_in 1 3 own.raw ≡ None = range_of_zeros 1 3 own.raw is.between in
        let none : inode_fault own.raw ≡ None = rw (kind, gap) (elim (cases_Bool (eqb (slice_index own.raw 0) 0)) [
          | inl free ↦ cond-true (eqb (slice_index own.raw 0) 0) (nonzero_in 4 508 own.raw) None free
              ∙ range_of_zeros 4 508 own.raw (is.free (eqb-true _ _ free))
          | inr used ↦ cond-false (eqb (slice_index own.raw 0) 0) (nonzero_in 4 508 own.raw) None used
        ]) in
        ap is_some none

-- An inode keeps the second rule exactly where it is a directory, if it is inode 0.
pub roots_say : (own : Part) (i : ℕ) → (breaks_root own i ≡ false) ↔ (i ≡ 0 → is_directory_part own ≡ true)
roots_say own i = (
  λ keeps first. not-false (is_directory_part own) (then_false (eqb i 0) _ keeps (eq-eqb i 0 first)),
  λ directory. asked (eqb i 0) _ (λ first. not_from_true _ (directory (eqb-true i 0 first))),
)
