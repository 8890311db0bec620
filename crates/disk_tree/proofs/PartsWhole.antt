-- Parts that reads gave, and whose pointers point within the disk, were read whole.
use Rattle.std.proofs.Common.{◌≡◌, ℕ, ◌+◌, ◌-◌, ◌*◌, ◌<◌, ◌≤◌, ltb, List, [], length, Option, sym, ap, subst, ◌∙◌, arith, inl, inr}
use Rattle.std.specs.Prelude.{slice_index, slice_index_or}
use Rattle.std.proofs.lemmas.Bool.{cases_eq, cases_lt, cond-true, cond-false, lt-ltb, le-ltb}
use Rattle.sfs_dev.specs.Steps.{IfTold}
use Rattle.sfs_image.specs.Bytes.{AreBytes}
use Rattle.sfs_image.specs.Inode.{Inode, inode_of}
use Rattle.sfs_image.specs.Part.{Part, block_pointer, pointer_at, content_at}
use Rattle.sfs_image.specs.Seen.{FILE_BLOCKS, PLACES}
use Rattle.sfs_image.specs.Super.{Layout, IsLayout}
use Rattle.sfs_image.proofs.RuleLaws.{good_from_rule}
use Rattle.disk_tree.specs.Found.{WereReadWell}
use Rattle.disk_tree.specs.Judged.{IsReadPart}
use Rattle.disk_tree.specs.Reading.{IsReadBlock}
use Rattle.disk_tree.specs.Whole.{IsReadWhole, IsWholeRecord}
use Rattle.disk_tree.specs.declared.read.ReadInodes.{ReadInodes}
use Rattle.disk_tree.proofs.PartsRead.{read_inode, used_of_pointer}

-- A layout lies on a disk, and what that tells has the disk's size.
pub record LiesOnDisk (told : Option (List ℕ)) (layout : Layout) : Type 0 where
  pub size : ℕ
  pub fits : IsLayout size layout
  pub sized : IfTold told (λ content. length content ≡ 4096 * size)

-- what the disk tells goes on behind each block of the layout
pub block_lies : (told : Option (List ℕ)) (layout : Layout) → LiesOnDisk told layout → (pointer : ℕ) → pointer < layout.blocks
    → IfTold told (λ content. 4096 * (pointer + 1) ≤ length content)
block_lies told layout lies pointer low content is =
    let size = lies.sized content is in
    let within = lies.fits.within in
    omega (arith, low, size, within)

module _ (told : Option (List ℕ)) (raw : List ℕ) (part : Part) (read : IsReadPart told raw part) where
  block_at_place : (place : ℕ) → place < FILE_BLOCKS → IsReadBlock told (pointer_at part place) (content_at part place)
  block_at_place place inside =
      let pointer : pointer_at part place ≡ block_pointer (inode_of raw) part.tables place =
      cond-true (ltb place FILE_BLOCKS) _ _ (lt-ltb place FILE_BLOCKS inside)
      ∙ ap (λ (inode : Inode). block_pointer inode part.tables place) (read_inode told raw part read) in
      let content : content_at part place ≡ slice_index_or part.blocks place [] = cond-true (ltb place FILE_BLOCKS) _ _ (lt-ltb place FILE_BLOCKS inside) in
      subst (λ (p : ℕ). IsReadBlock told p (content_at part place)) (sym pointer)
      (subst (IsReadBlock told (block_pointer (inode_of raw) part.tables place)) (sym content) (read.each place inside))

  table_at_place : (place : ℕ) → FILE_BLOCKS ≤ place → place < PLACES → IsReadBlock told (pointer_at part place) (content_at part place)
  table_at_place place behind inside =
      let pointer : pointer_at part place ≡ slice_index (inode_of raw).indirect (place - FILE_BLOCKS) =
      cond-false (ltb place FILE_BLOCKS) _ _ (le-ltb place FILE_BLOCKS behind)
      ∙ ap (λ (inode : Inode). slice_index inode.indirect (place - FILE_BLOCKS)) (read_inode told raw part read) in
      let content : content_at part place ≡ slice_index_or part.tables (place - FILE_BLOCKS) [] =
      cond-false (ltb place FILE_BLOCKS) _ _ (le-ltb place FILE_BLOCKS behind) in
      subst (λ (p : ℕ). IsReadBlock told p (content_at part place)) (sym pointer)
      (subst (IsReadBlock told (slice_index (inode_of raw).indirect (place - FILE_BLOCKS))) (sym content)
      (read.tables.each (place - FILE_BLOCKS) (omega arith)))

  -- what stands at a place of a part is what was read of the block that its pointer names
  read_at_place : (place : ℕ) → place < PLACES → IsReadBlock told (pointer_at part place) (content_at part place)
  read_at_place place inside = elim (cases_lt place FILE_BLOCKS) [
    | inl block ↦ block_at_place place block
    | inr table ↦ table_at_place place table inside
  ]

  -- a part was read whole where its record is whole and its pointers name blocks of the disk
  pub part_whole : IsWholeRecord raw → (layout : Layout) → LiesOnDisk told layout
      → ((place : ℕ) → place < PLACES → pointer_at part place < layout.blocks) → IsReadWhole part
  part_whole record_is layout lies low = record {
    record_long = ap length read.raw_is ∙ record_is.long;
    record_bytes = subst AreBytes (sym read.raw_is) record_is.bytes;
    tables = read.tables.count;
    blocks = read.count;
    long = λ place inside. (read_at_place place inside).long (block_lies told layout lies (pointer_at part place) (low place inside));
    holes = λ place inside none. (read_at_place place inside).hole none;
  }

module _ (told : Option (List ℕ)) (layout : Layout) (records : List (List ℕ)) (count : length records ≡ layout.inodes) (read : ReadInodes)
    (ok : WereReadWell told layout records read) (lies : LiesOnDisk told layout) where
  abbrev parts : ℕ → Part
  parts = ok.well.parts

  -- each pointer names a block of the disk
  pointer_low : (i place : ℕ) → i < layout.inodes → place < PLACES → pointer_at (parts i) place < layout.blocks
  pointer_low i place within inside = elim (cases_eq (pointer_at (parts i) place) 0) [
    | inl hole ↦ (let room = lies.fits.room in omega (arith, hole, room))
    | inr there ↦ (let used = used_of_pointer told layout records count read.inodes.items ok.inodes ok.fit read.tables.items parts
        ok.well.hold.read ok.well.hold.kept i place within inside there in
        (good_from_rule layout (parts i) place (ok.well.keep 4 i (omega arith) (omega arith) within) used inside there).high)
  ]

  pub parts_whole : (i : ℕ) → i < layout.inodes → IsReadWhole (parts i)
  parts_whole i within =
      part_whole told (slice_index_or records i []) (parts i) (ok.well.hold.read i within) (ok.first.whole i within) layout lies
      (λ place inside. pointer_low i place within inside)
