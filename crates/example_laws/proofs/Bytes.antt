-- An image in bytes stands for the two directories.
use Rattle.std.proofs.Math.Seq.{drop-append-add, take-append_seam}
use Rattle.std.proofs.Common.{◌++◌, ◌≡◌, ◌∙◌, ◌<◌, ◌+◌, ◌/◌, ◌≢◌, ◌==◌, ℕ, List, subst, sym, ap, inl, inr, arith, length, take, take_all, length-append, None}
use Rattle.std.proofs.lemmas.List.{take-replicate}
use Rattle.std.proofs.lemmas.Bool.{cases_eq}
use Rattle.sfs_base.proofs.BasicOptions.{none_some}
use Rattle.sfs_image.specs.Bytes.{part, zeros}
use Rattle.sfs_image.specs.Super.{super_bytes, super_of, super_fault}
use Rattle.sfs_image.specs.Inode.{inode_bytes}
use Rattle.sfs_image.specs.ImageOf.{empty_directory, IsShut, with_opened, PointsToData}
use Rattle.sfs_image.specs.SlotBlock.{slots_bytes}
use Rattle.sfs_image.specs.Settled.{layout_of, super_fault_of, journal_slot, slot_byte, table_record, table_byte, image_block}
use Rattle.sfs_image.specs.Journal.{head_of}
use Rattle.sfs_image.specs.Part.{pointer_at, IsGathered}
use Rattle.sfs_image.proofs.SuperLaws.{length-super_bytes, super_of-super_bytes, super_fault-super_bytes}
use Rattle.sfs_image.proofs.BytesLaws.{length-zeros, part_in_zeros, zeros-byte, zeros-is}
use Rattle.sfs_image.proofs.InodeLaws.{length-inode_bytes}
use Rattle.sfs_image.proofs.SlotBlockLaws.{length-slots_bytes}
use Rattle.sfs_image.proofs.AcceptedLaws.{raw_of, is_gathered}
use Rattle.sfs_image.proofs.PartLaws.{gathered_same}
use Rattle.commit_one.specs.Change.{nothing_open}
use Rattle.slot_image_laws.proofs.Starts.{nothing_given}
use Rattle.example_laws.specs.Image.{TWELVE_BLOCKS, ROOT_INODE, ROOT_SLOTS, TWO_PARTS, ROOT_BLOCK, TWO_RECORDS}
use Rattle.example_laws.specs.Told.{TWO_IMAGE, IsTwoImage, TwoImageStands}
use Rattle.example_laws.proofs.Resting.{layout_fits}
use Rattle.example_laws.proofs.Image.{root_inode, one_inode, root_slots, inode_cases, root_raw, one_raw, one_has_none, free_has, ROOT_PART, root_block, root_others}

-- bytes behind others, and those that come first
pub skip : (front rest : List ℕ) (k at n : ℕ) → length front ≡ k → part (k + at) n (front ++ rest) ≡ part at n rest
skip front rest k at n long = subst (λ m. part (m + at) n (front ++ rest) ≡ part at n rest) long (ap (take n) (drop-append-add front rest at))

pub here : (front rest : List ℕ) (n : ℕ) → length front ≡ n → part 0 n (front ++ rest) ≡ front
here front rest n long = subst (λ m. take m (front ++ rest) ≡ front) long (take-append_seam front rest)

-- where the pieces of an image stand
module _ (super slots root one free rows : List ℕ) (super_long : length super ≡ 4096) (slots_long : length slots ≡ 32768) (root_long : length root ≡ 512)
    (one_long : length one ≡ 512) (free_long : length free ≡ 7168) (rows_long : length rows ≡ 4096) where
  abbrev image : List ℕ
  image = super ++ (slots ++ (root ++ (one ++ (free ++ rows))))

  whole : length image ≡ 49152
  whole =
      let five = length-append super (slots ++ (root ++ (one ++ (free ++ rows)))) in
      let four = length-append slots (root ++ (one ++ (free ++ rows))) in
      let three = length-append root (one ++ (free ++ rows)) in
      let two = length-append one (free ++ rows) in
      let last = length-append free rows in
      omega (arith, five, four, three, two, last, super_long, slots_long, root_long, one_long, free_long, rows_long)

  super_there : part 0 4096 image ≡ super
  super_there = here super _ 4096 super_long

  slots_there : part 4096 32768 image ≡ slots
  slots_there = skip super _ 4096 0 32768 super_long ∙ here slots _ 32768 slots_long

  root_there : part 36864 512 image ≡ root
  root_there = skip super _ 4096 32768 512 super_long ∙ (skip slots _ 32768 0 512 slots_long ∙ here root _ 512 root_long)

  one_there : part 37376 512 image ≡ one
  one_there =
      skip super _ 4096 33280 512 super_long
      ∙ (skip slots _ 32768 512 512 slots_long ∙ (skip root _ 512 0 512 root_long ∙ here one _ 512 one_long))

  free_there : part 37888 7168 image ≡ free
  free_there =
      skip super _ 4096 33792 7168 super_long
      ∙ (skip slots _ 32768 1024 7168 slots_long
      ∙ (skip root _ 512 512 7168 root_long ∙ (skip one _ 512 0 7168 one_long ∙ here free rows 7168 free_long)))

  rows_there : part 45056 4096 image ≡ rows
  rows_there =
      skip super _ 4096 40960 4096 super_long
      ∙ (skip slots _ 32768 8192 4096 slots_long
      ∙ (skip root _ 512 7680 4096 root_long
      ∙ (skip one _ 512 7168 4096 one_long ∙ (skip free rows 7168 0 4096 free_long ∙ take_all 4096 rows (omega (arith, rows_long))))))

-- What is so of an image with those pieces.
record HasPieces (image : List ℕ) : Type 0 where
  long : length image ≡ 49152
  super : part 0 4096 image ≡ super_bytes TWELVE_BLOCKS
  slots : part 4096 32768 image ≡ zeros 32768
  root : part 36864 512 image ≡ inode_bytes ROOT_INODE
  one : part 37376 512 image ≡ inode_bytes empty_directory
  free : part 37888 7168 image ≡ zeros 7168
  rows : part 45056 4096 image ≡ slots_bytes ROOT_SLOTS

has_pieces : HasPieces TWO_IMAGE
unfolding TWO_IMAGE
has_pieces = record {
  long = whole (super_bytes TWELVE_BLOCKS) (zeros 32768) (inode_bytes ROOT_INODE) (inode_bytes empty_directory) (zeros 7168) (slots_bytes ROOT_SLOTS)
      (length-super_bytes TWELVE_BLOCKS) (length-zeros 32768) (length-inode_bytes ROOT_INODE root_inode) (length-inode_bytes empty_directory one_inode)
      (length-zeros 7168) (length-slots_bytes ROOT_SLOTS root_slots);
  super = super_there (super_bytes TWELVE_BLOCKS) (zeros 32768) (inode_bytes ROOT_INODE) (inode_bytes empty_directory) (zeros 7168) (slots_bytes ROOT_SLOTS)
      (length-super_bytes TWELVE_BLOCKS) (length-zeros 32768) (length-inode_bytes ROOT_INODE root_inode) (length-inode_bytes empty_directory one_inode)
      (length-zeros 7168) (length-slots_bytes ROOT_SLOTS root_slots);
  slots = slots_there (super_bytes TWELVE_BLOCKS) (zeros 32768) (inode_bytes ROOT_INODE) (inode_bytes empty_directory) (zeros 7168) (slots_bytes ROOT_SLOTS)
      (length-super_bytes TWELVE_BLOCKS) (length-zeros 32768) (length-inode_bytes ROOT_INODE root_inode) (length-inode_bytes empty_directory one_inode)
      (length-zeros 7168) (length-slots_bytes ROOT_SLOTS root_slots);
  root = root_there (super_bytes TWELVE_BLOCKS) (zeros 32768) (inode_bytes ROOT_INODE) (inode_bytes empty_directory) (zeros 7168) (slots_bytes ROOT_SLOTS)
      (length-super_bytes TWELVE_BLOCKS) (length-zeros 32768) (length-inode_bytes ROOT_INODE root_inode) (length-inode_bytes empty_directory one_inode)
      (length-zeros 7168) (length-slots_bytes ROOT_SLOTS root_slots);
  one = one_there (super_bytes TWELVE_BLOCKS) (zeros 32768) (inode_bytes ROOT_INODE) (inode_bytes empty_directory) (zeros 7168) (slots_bytes ROOT_SLOTS)
      (length-super_bytes TWELVE_BLOCKS) (length-zeros 32768) (length-inode_bytes ROOT_INODE root_inode) (length-inode_bytes empty_directory one_inode)
      (length-zeros 7168) (length-slots_bytes ROOT_SLOTS root_slots);
  free = free_there (super_bytes TWELVE_BLOCKS) (zeros 32768) (inode_bytes ROOT_INODE) (inode_bytes empty_directory) (zeros 7168) (slots_bytes ROOT_SLOTS)
      (length-super_bytes TWELVE_BLOCKS) (length-zeros 32768) (length-inode_bytes ROOT_INODE root_inode) (length-inode_bytes empty_directory one_inode)
      (length-zeros 7168) (length-slots_bytes ROOT_SLOTS root_slots);
  rows = rows_there (super_bytes TWELVE_BLOCKS) (zeros 32768) (inode_bytes ROOT_INODE) (inode_bytes empty_directory) (zeros 7168) (slots_bytes ROOT_SLOTS)
      (length-super_bytes TWELVE_BLOCKS) (length-zeros 32768) (length-inode_bytes ROOT_INODE root_inode) (length-inode_bytes empty_directory one_inode)
      (length-zeros 7168) (length-slots_bytes ROOT_SLOTS root_slots);
}

module _ (image : List ℕ) (has : HasPieces image) where
  divided : layout_of image ≡ TWELVE_BLOCKS
  divided = ap super_of has.super ∙ super_of-super_bytes TWELVE_BLOCKS 12 layout_fits

  sound : super_fault_of image ≡ None
  sound =
      ap (λ (p : ℕ × List ℕ). super_fault p.0 p.1) (λ i. (blocks i, has.super i))
      ∙ super_fault-super_bytes 12 TWELVE_BLOCKS layout_fits
    where
      blocks : length image / 4096 ≡ 12
      blocks = ap (λ n. n / 4096) has.long

  -- both slots are shut
  shut : (k : ℕ) → k < 2 → IsShut (journal_slot TWELVE_BLOCKS image k)
  shut k low =
      ap (λ slot. (head_of (part 0 4096 slot)).gate)
      (part_in_zeros 4096 32768 (slot_byte TWELVE_BLOCKS k) 16384 image (let long = has.long in omega (arith, long)) has.slots (omega arith)
      (omega (arith, low)))
      ∙ (ap (λ block. (head_of block).gate) first ∙ ap (λ byte. byte == 1) (zeros-byte 4096 0))
    where
      first : part 0 4096 (zeros 16384) ≡ zeros 4096
      first = ap (take 4096) (zeros-is 16384) ∙ (take-replicate 4096 16384 0 (omega arith) ∙ sym (zeros-is 4096))

  -- the table has each record
  recorded : (i : ℕ) → i < 16 → table_record TWELVE_BLOCKS image i ≡ (TWO_PARTS i).raw
  recorded i low = elim (inode_cases i) [
    | inl some ↦ elim some [
      | inl first ↦ subst (λ n. table_record TWELVE_BLOCKS image n ≡ (TWO_PARTS n).raw) (sym first) (has.root ∙ sym root_raw)
      | inr second ↦ subst (λ n. table_record TWELVE_BLOCKS image n ≡ (TWO_PARTS n).raw) (sym second) (has.one ∙ sym one_raw)
    ]
    | inr other ↦
        part_in_zeros 37888 7168 (table_byte TWELVE_BLOCKS i) 512 image (let long = has.long in omega (arith, long)) has.free
        (let no_root = other.0 in let no_one = other.1 in omega (arith, no_root, no_one)) (omega (arith, low))
        ∙ sym (raw_of ROOT_BLOCK (TWO_RECORDS i) ∙ other.2)
  ]

  -- the one block that a pointer names is the root's
  points : (i : ℕ) (place : ℕ) → pointer_at (TWO_PARTS i) place ≢ 0 → pointer_at (TWO_PARTS i) place ≡ 11
  points i place there = elim (inode_cases i) [
    | inl some ↦ elim some [
      | inl first ↦ ap (λ n. pointer_at (TWO_PARTS n) place) first
          ∙ root_points place (λ none. there (ap (λ n. pointer_at (TWO_PARTS n) place) first ∙ none))
      | inr second ↦ absurd (there (ap (λ n. pointer_at (TWO_PARTS n) place) second ∙ one_has_none place))
    ]
    | inr other ↦ absurd (there (free_has i other.2 place))
  ]
    where
      root_points : (place : ℕ) → pointer_at ROOT_PART place ≢ 0 → pointer_at ROOT_PART place ≡ 11
      root_points place there = elim (cases_eq place 0) [
        | inl same ↦ ap (pointer_at ROOT_PART) same ∙ root_block
        | inr apart ↦ absurd (there (root_others place apart))
      ]

  given_none : (i : ℕ) → with_opened TWELVE_BLOCKS nothing_open TWO_PARTS i ≡ TWO_PARTS i
  given_none = nothing_given TWELVE_BLOCKS TWO_PARTS

  gathered : (i : ℕ) → IsGathered (image_block image) (TWO_PARTS i)
  gathered i =
      gathered_same ROOT_BLOCK (image_block image) (TWO_PARTS i) (is_gathered ROOT_BLOCK (TWO_RECORDS i))
      (λ place there. ap (image_block image) (points i place there) ∙ has.rows)

  lies : (i : ℕ) → PointsToData TWELVE_BLOCKS (TWO_PARTS i)
  lies i place there = let is = points i place there in (omega (arith, is), omega (arith, is))

  stands : IsTwoImage image
  stands = record {
    whole = has.long;
    stands = record {
      sound = sound;
      divided = divided;
      slots = λ k low. shut k low;
      stamps = λ j k one other low high opened. absurd (none_some opened);
      table = λ i low none. recorded i low;
      gathered = λ i low. subst (IsGathered (image_block image)) (sym (given_none i)) (gathered i);
      pointers = λ i low. subst (PointsToData TWELVE_BLOCKS) (sym (given_none i)) (lies i);
    };
  }

pub two_image_stands : TwoImageStands
two_image_stands = stands TWO_IMAGE has_pieces
