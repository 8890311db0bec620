-- An image in bytes stands for the two files.
use Rattle.std.proofs.Common.{◌++◌, ◌≡◌, ◌∙◌, ◌<◌, ◌+◌, ◌/◌, ◌≢◌, ◌==◌, ℕ, List, subst, sym, ap, inl, inr, arith, length, take, length-append, None}
use Rattle.std.proofs.lemmas.List.{take-replicate}
use Rattle.std.proofs.lemmas.Bool.{cases_eq}
use Rattle.sfs_base.proofs.BasicOptions.{none_some}
use Rattle.sfs_image.specs.Bytes.{part, zeros}
use Rattle.sfs_image.specs.Super.{super_bytes, super_of, super_fault}
use Rattle.sfs_image.specs.Inode.{inode_bytes}
use Rattle.sfs_image.specs.ImageOf.{IsShut, with_opened, PointsToData}
use Rattle.sfs_image.specs.SlotBlock.{slots_bytes}
use Rattle.sfs_image.specs.Settled.{layout_of, super_fault_of, journal_slot, slot_byte, table_record, table_byte, image_block}
use Rattle.sfs_image.specs.Journal.{head_of}
use Rattle.sfs_image.specs.Part.{Part, pointer_at, IsGathered}
use Rattle.sfs_image.proofs.SuperLaws.{length-super_bytes, super_of-super_bytes, super_fault-super_bytes}
use Rattle.sfs_image.proofs.BytesLaws.{length-zeros, part_in_zeros, zeros-byte, zeros-is}
use Rattle.sfs_image.proofs.InodeLaws.{length-inode_bytes}
use Rattle.sfs_image.proofs.SlotBlockLaws.{length-slots_bytes}
use Rattle.sfs_image.proofs.AcceptedLaws.{raw_of, is_gathered}
use Rattle.sfs_image.proofs.PartLaws.{gathered_same}
use Rattle.commit_one.specs.Change.{nothing_open}
use Rattle.slot_image_laws.proofs.Starts.{nothing_given}
use Rattle.example_grants.specs.Disk.{IsFilesImage}
use Rattle.example_grants.specs.Bytes.{FILES_IMAGE, FilesImageStands}
use Rattle.example_grants.specs.Image.{FIFTEEN_BLOCKS, ROOT_RECORD, EMPTY_FILE, TWO_ROWS, FIRST_PARTS, ROWS_BLOCK, FIRST_RECORDS}
use Rattle.example_grants.proofs.Rules.{layout_fits}
use Rattle.example_grants.proofs.Image.{root_inode, any_file, root_slots, inode_cases, free_record, root_raw, file_raw, file_has_none, free_has, ROOT_PART, root_block, root_others}
use Rattle.example_grants.proofs.Tree.{first_three}
use Rattle.example_laws.proofs.Bytes.{skip as behind, here as first}

-- The pieces of an image, each as long as it is.
record Pieces : Type 0 where
  super : List ℕ
  slots : List ℕ
  root : List ℕ
  own : List ℕ
  other : List ℕ
  free : List ℕ
  rows : List ℕ
  rest : List ℕ
  super_long : length super ≡ 4096
  slots_long : length slots ≡ 32768
  root_long : length root ≡ 512
  own_long : length own ≡ 512
  other_long : length other ≡ 512
  free_long : length free ≡ 10752
  rows_long : length rows ≡ 4096
  rest_long : length rest ≡ 8192

-- where they stand
module _ (p : Pieces) where
  abbrev from_rows : List ℕ
  from_rows = p.rows ++ p.rest

  abbrev from_root : List ℕ
  from_root = p.root ++ (p.own ++ (p.other ++ (p.free ++ from_rows)))

  abbrev image_of : List ℕ
  image_of = p.super ++ (p.slots ++ from_root)

  whole : length image_of ≡ 61440
  whole =
      let seven = length-append p.super (p.slots ++ from_root) in
      let six = length-append p.slots from_root in
      let five = length-append p.root (p.own ++ (p.other ++ (p.free ++ from_rows))) in
      let four = length-append p.own (p.other ++ (p.free ++ from_rows)) in
      let three = length-append p.other (p.free ++ from_rows) in
      let two = length-append p.free from_rows in
      let one = length-append p.rows p.rest in
      let a = p.super_long in
      let b = p.slots_long in
      let c = p.root_long in
      let d = p.own_long in
      let e = p.other_long in
      let f = p.free_long in
      let g = p.rows_long in
      let h = p.rest_long in omega (arith, seven, six, five, four, three, two, one, a, b, c, d, e, f, g, h)

  super_there : part 0 4096 image_of ≡ p.super
  super_there = first p.super _ 4096 p.super_long

  slots_there : part 4096 32768 image_of ≡ p.slots
  slots_there = behind p.super _ 4096 0 32768 p.super_long ∙ first p.slots _ 32768 p.slots_long

  -- behind the slots
  table_part : (at n : ℕ) → part (4096 + (32768 + at)) n image_of ≡ part at n from_root
  table_part at n = behind p.super _ 4096 (32768 + at) n p.super_long ∙ behind p.slots _ 32768 at n p.slots_long

  root_there : part 36864 512 image_of ≡ p.root
  root_there = table_part 0 512 ∙ first p.root _ 512 p.root_long

  own_there : part 37376 512 image_of ≡ p.own
  own_there = table_part 512 512 ∙ behind p.root _ 512 0 512 p.root_long ∙ first p.own _ 512 p.own_long

  other_there : part 37888 512 image_of ≡ p.other
  other_there =
      table_part 1024 512 ∙ behind p.root _ 512 512 512 p.root_long ∙ behind p.own _ 512 0 512 p.own_long ∙ first p.other _ 512 p.other_long

  free_there : part 38400 10752 image_of ≡ p.free
  free_there =
      table_part 1536 10752 ∙ behind p.root _ 512 1024 10752 p.root_long ∙ behind p.own _ 512 512 10752 p.own_long
      ∙ behind p.other _ 512 0 10752 p.other_long ∙ first p.free _ 10752 p.free_long

  rows_there : part 49152 4096 image_of ≡ p.rows
  rows_there =
      table_part 12288 4096 ∙ behind p.root _ 512 11776 4096 p.root_long ∙ behind p.own _ 512 11264 4096 p.own_long
      ∙ behind p.other _ 512 10752 4096 p.other_long ∙ behind p.free _ 10752 0 4096 p.free_long ∙ first p.rows _ 4096 p.rows_long

-- What is so of an image with those of the two files.
record HasPieces (image : List ℕ) : Type 0 where
  long : length image ≡ 61440
  super : part 0 4096 image ≡ super_bytes FIFTEEN_BLOCKS
  slots : part 4096 32768 image ≡ zeros 32768
  root : part 36864 512 image ≡ inode_bytes ROOT_RECORD
  own : part 37376 512 image ≡ inode_bytes EMPTY_FILE
  other : part 37888 512 image ≡ inode_bytes EMPTY_FILE
  free : part 38400 10752 image ≡ zeros 10752
  rows : part 49152 4096 image ≡ slots_bytes TWO_ROWS

file_long : length (inode_bytes EMPTY_FILE) ≡ 512
file_long = length-inode_bytes EMPTY_FILE (any_file 0 0 (omega arith) (omega arith))

FILES_PIECES : Pieces
FILES_PIECES = record {
  super = super_bytes FIFTEEN_BLOCKS;
  slots = zeros 32768;
  root = inode_bytes ROOT_RECORD;
  own = inode_bytes EMPTY_FILE;
  other = inode_bytes EMPTY_FILE;
  free = zeros 10752;
  rows = slots_bytes TWO_ROWS;
  rest = zeros 8192;
  super_long = length-super_bytes FIFTEEN_BLOCKS;
  slots_long = length-zeros 32768;
  root_long = length-inode_bytes ROOT_RECORD root_inode;
  own_long = file_long;
  other_long = file_long;
  free_long = length-zeros 10752;
  rows_long = length-slots_bytes TWO_ROWS root_slots;
  rest_long = length-zeros 8192;
}

has_pieces : HasPieces FILES_IMAGE
unfolding FILES_IMAGE FILES_PIECES
has_pieces = record {
  long = whole FILES_PIECES;
  super = super_there FILES_PIECES;
  slots = slots_there FILES_PIECES;
  root = root_there FILES_PIECES;
  own = own_there FILES_PIECES;
  other = other_there FILES_PIECES;
  free = free_there FILES_PIECES;
  rows = rows_there FILES_PIECES;
}

module _ (image : List ℕ) (has : HasPieces image) where
  divided : layout_of image ≡ FIFTEEN_BLOCKS
  divided = ap super_of has.super ∙ super_of-super_bytes FIFTEEN_BLOCKS 15 layout_fits

  sound : super_fault_of image ≡ None
  sound =
      ap (λ (p : ℕ × List ℕ). super_fault p.0 p.1) (λ i. (blocks i, has.super i))
      ∙ super_fault-super_bytes 15 FIFTEEN_BLOCKS layout_fits
    where
      blocks : length image / 4096 ≡ 15
      blocks = ap (λ n. n / 4096) has.long

  -- both slots are shut
  shut : (k : ℕ) → k < 2 → IsShut (journal_slot FIFTEEN_BLOCKS image k)
  shut k low =
      ap (λ slot. (head_of (part 0 4096 slot)).gate)
      (part_in_zeros 4096 32768 (slot_byte FIFTEEN_BLOCKS k) 16384 image (let long = has.long in omega (arith, long)) has.slots (omega arith)
      (omega (arith, low)))
      ∙ (ap (λ block. (head_of block).gate) one_block ∙ ap (λ byte. byte == 1) (zeros-byte 4096 0))
    where
      one_block : part 0 4096 (zeros 16384) ≡ zeros 4096
      one_block = ap (take 4096) (zeros-is 16384) ∙ (take-replicate 4096 16384 0 (omega arith) ∙ sym (zeros-is 4096))

  -- the table has each record
  recorded : (i : ℕ) → i < 16 → table_record FIFTEEN_BLOCKS image i ≡ (FIRST_PARTS i).raw
  recorded i low = elim (first_three i) [
    | inl some ↦ elim some [
      | inl root ↦ subst (λ n. table_record FIFTEEN_BLOCKS image n ≡ (FIRST_PARTS n).raw) (sym root) (has.root ∙ sym root_raw)
      | inr file ↦ elim file [
        | inl own ↦ subst (λ n. table_record FIFTEEN_BLOCKS image n ≡ (FIRST_PARTS n).raw) (sym own) (has.own ∙ sym file_raw)
        | inr other ↦ subst (λ n. table_record FIFTEEN_BLOCKS image n ≡ (FIRST_PARTS n).raw) (sym other) (has.other ∙ sym file_raw)
      ]
    ]
    | inr apart ↦
        part_in_zeros 38400 10752 (table_byte FIFTEEN_BLOCKS i) 512 image (let long = has.long in omega (arith, long)) has.free
        (let no_root = apart.0 in let no_one = apart.1 in let no_two = apart.2 in omega (arith, no_root, no_one, no_two)) (omega (arith, low))
        ∙ sym (raw_of ROWS_BLOCK (FIRST_RECORDS i) ∙ free_record i apart)
  ]

  -- the one block that a pointer names is the root's
  points : (i place : ℕ) → pointer_at (FIRST_PARTS i) place ≢ 0 → pointer_at (FIRST_PARTS i) place ≡ 12
  points i place there = elim (inode_cases i) [
    | inl some ↦ elim some [
      | inl root ↦ ap (λ n. pointer_at (FIRST_PARTS n) place) root
          ∙ root_points place (λ none. there (ap (λ n. pointer_at (FIRST_PARTS n) place) root ∙ none))
      | inr file ↦ absurd (there (ap (λ (part : Part). pointer_at part place) file ∙ file_has_none place))
    ]
    | inr free ↦ absurd (there (free_has i free.3 place))
  ]
    where
      root_points : (place : ℕ) → pointer_at ROOT_PART place ≢ 0 → pointer_at ROOT_PART place ≡ 12
      root_points place there = elim (cases_eq place 0) [
        | inl same ↦ ap (pointer_at ROOT_PART) same ∙ root_block
        | inr apart ↦ absurd (there (root_others place apart))
      ]

  given_none : (i : ℕ) → with_opened FIFTEEN_BLOCKS nothing_open FIRST_PARTS i ≡ FIRST_PARTS i
  given_none = nothing_given FIFTEEN_BLOCKS FIRST_PARTS

  gathered : (i : ℕ) → IsGathered (image_block image) (FIRST_PARTS i)
  gathered i =
      gathered_same ROWS_BLOCK (image_block image) (FIRST_PARTS i) (is_gathered ROWS_BLOCK (FIRST_RECORDS i))
      (λ place there. ap (image_block image) (points i place there) ∙ has.rows)

  lies : (i : ℕ) → PointsToData FIFTEEN_BLOCKS (FIRST_PARTS i)
  lies i place there = let is = points i place there in (omega (arith, is), omega (arith, is))

  stands : IsFilesImage image
  stands = record {
    whole = has.long;
    stands = record {
      sound = sound;
      divided = divided;
      slots = λ k low. shut k low;
      stamps = λ j k one other low high opened. absurd (none_some opened);
      table = λ i low none. recorded i low;
      gathered = λ i low. subst (IsGathered (image_block image)) (sym (given_none i)) (gathered i);
      pointers = λ i low. subst (PointsToData FIFTEEN_BLOCKS) (sym (given_none i)) (lies i);
    };
  }

pub files_image_stands : FilesImageStands
files_image_stands = stands FILES_IMAGE has_pieces
