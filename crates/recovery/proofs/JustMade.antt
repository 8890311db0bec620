-- What the bytes of a disk become while it is made.
use Rattle.std.proofs.Common.{◌≡◌, ◌≢◌, ℕ, suc, ◌+◌, ◌*◌, ◌-◌, ◌/◌, ◌<◌, ◌≤◌, ◌⊎◌, inl, inr, List, [], ◌∷◌, ◌++◌, length, take, drop, slice_index, refl, sym, ap, subst, ◌∙◌, arith, true, false, nat_eq, nat_lt, add-zero, ap₂, length-append, ◌^◌, Option, None, Some, option_map, replicate, min, ◌%◌, take_all}
use Rattle.std.proofs.lemmas.Bool.{ltb-true, ltb-false}
use Rattle.std.proofs.lemmas.List.{length-replicate}
use Rattle.std.specs.Int.{div_ceil}
use Rattle.std.proofs.Math.Seq.{take-append_seam, drop-append_seam, take-length}
use Rattle.sfs_base.proofs.BasicNumbers.{le_itself}
use Rattle.sfs_image.proofs.BytesLaws.{zeros-is, length-zeros, part_in_zeros}
use Rattle.std.proofs.Math.Nat.{mul-div_cancel_left}
use Rattle.sfs_dev.specs.Ranges.{put}
use Rattle.sfs_dev.specs.RangeLaws.{part-put, length-put, SameOutside-put}
use Rattle.sfs_image.specs.Bytes.{part, zeros}
use Rattle.sfs_image.specs.ImageOf.{IsShut, IsJustMade, empty_directory}
use Rattle.sfs_image.specs.ImageWrites.{AgreesOutside, LiesApart}
use Rattle.sfs_image.specs.Inode.{inode_bytes}
use Rattle.sfs_image.specs.Laws.{IsDivided}
use Rattle.sfs_image.specs.Settled.{journal_slot, slot_byte, slot_count, table_byte, table_record}
use Rattle.sfs_image.specs.Super.{Layout, InRange, IsLayout, super_bytes, slot_blocks, record_blocks, number_blocks, table_start}
use Rattle.sfs_image.proofs.FrameLaws.{part-part, part_apart, gate_byte}
use Rattle.sfs_image.proofs.LayoutLaws.{divided}
use Rattle.sfs_image.proofs.InodeLaws.{length-inode_bytes}
use Rattle.sfs_image.proofs.SuperLaws.{length-super_bytes}
use Rattle.sfs_base.proofs.BasicLists.{zeros_read}
use Rattle.sfs_base.proofs.BasicOptions.{none_some, some_same}
use Rattle.recovery.specs.Mkfs.{ShutBelow, empty_record, empty_table}

-- the bytes outside of what was put are as before
pub put_agrees : (at : ℕ) (bytes content : List ℕ) → at + length bytes ≤ length content → AgreesOutside at (length bytes) content (put at bytes content)
put_agrees at bytes content within =
    let same = SameOutside-put at bytes content within in
    record { before = same.before; behind = same.after; size = same.size }

-- a slot stays closed where something apart from it is put
pub shut_kept : (layout : Layout) (k at : ℕ) (bytes content : List ℕ) → at + length bytes ≤ length content
    → LiesApart (slot_byte layout k) (4096 * slot_blocks layout.inodes) at (length bytes)
    → IsShut (journal_slot layout content k) → IsShut (journal_slot layout (put at bytes content) k)
shut_kept layout k at bytes content within apart shut =
    subst (λ (slot : List ℕ). IsShut slot)
    (sym
    (part_apart at (length bytes) content (put at bytes content) (put_agrees at bytes content within) (slot_byte layout k)
    (4096 * slot_blocks layout.inodes) apart))
    shut

-- a slot whose first byte is 0 is closed
pub shut_by_byte : (slot : List ℕ) → take 1 slot ≡ 0 ∷ [] → IsShut slot
shut_by_byte slot zero_first = ap (λ b. nat_eq b 1) (gate_byte slot ∙ sym (first slot) ∙ ap (λ s. slice_index s 0) zero_first)
  where
    first : (s : List ℕ) → slice_index (take 1 s) 0 ≡ slice_index s 0
    first [] = refl
    first (x ∷ s) = refl

-- closing one slot more
pub shut_next : (layout : Layout) (k : ℕ) (content : List ℕ) → slot_byte layout k + 1 ≤ length content → ShutBelow layout k content
    → ShutBelow layout (suc k) (put (slot_byte layout k) (0 ∷ []) content)
shut_next layout k content within below j less =
    elim (cases j k less) [
      | inl lt ↦ shut_kept layout j (slot_byte layout k) (0 ∷ []) content within (inl (divides.slots j k lt)) (below j lt)
      | inr same ↦
          subst (λ j. IsShut (journal_slot layout (put (slot_byte layout k) (0 ∷ []) content) j)) (sym same)
          (shut_by_byte _ (front ∙ part-put (slot_byte layout k) (0 ∷ []) content within))
    ]
  where
    divides : IsDivided layout
    divides = divided layout

    cases : (j k : ℕ) → j < suc k → (j < k) ⊎ (j ≡ k)
    cases j k lt = elim (nat_lt j k) as (λ b. nat_lt j k ≡ b → (j < k) ⊎ (j ≡ k)) [
      | true ↦ λ t. inl (ltb-true j k t)
      | false ↦ λ f. inr (no_other j k lt (ltb-false j k f))
    ] refl
      where
        no_other : (j k : ℕ) → j < suc k → k ≤ j → j ≡ k
        no_other j k lt le = omega arith

    front : take 1 (journal_slot layout (put (slot_byte layout k) (0 ∷ []) content) k) ≡ part (slot_byte layout k) 1 (put (slot_byte layout k) (0 ∷ []) content)
    front =
        part-part 0 1 (slot_byte layout k) (4096 * slot_blocks layout.inodes) (put (slot_byte layout k) (0 ∷ []) content)
        (blocks (slot_blocks layout.inodes) refl)
        ∙ ap (λ at. part at 1 (put (slot_byte layout k) (0 ∷ []) content)) (add-zero (slot_byte layout k))
      where
        blocks : (n : ℕ) → n ≡ slot_blocks layout.inodes → 0 + 1 ≤ 4096 * n
        blocks n is = omega arith

-- what is put into a disk that is being made: the table, which begins with the root's record, and the superblock
pub record ArePieces (layout : Layout) (size : ℕ) (content root block : List ℕ) (n : ℕ) : Type 0 where
  pub fits : IsLayout size layout
  pub long : length content ≡ 4096 * size
  pub root_long : length root ≡ 512
  pub rest_long : 512 + n ≡ 4096 * record_blocks layout.inodes
  pub block_long : length block ≡ 4096

-- a record, and zeros behind it, are read at their places
front_read : (T n : ℕ) (root content : List ℕ) → length root ≡ 512 → part T (512 + n) content ≡ root ++ zeros n → part T 512 content ≡ root
front_read T n root content long is =
    ap (λ t. part t 512 content) (sym (add-zero T)) ∙ sym (part-part 0 512 T (512 + n) content (within n)) ∙ ap (part 0 512) is
    ∙ ap (λ k. take k (root ++ zeros n)) (sym long) ∙ take-append_seam root (zeros n)
  where
    within : (n : ℕ) → 0 + 512 ≤ 512 + n
    within n = omega arith

rest_read : (T n : ℕ) (root content : List ℕ) → length root ≡ 512 → part T (512 + n) content ≡ root ++ zeros n → part (T + 512) n content ≡ zeros n
rest_read T n root content long is =
    sym (part-part 512 n T (512 + n) content (le_itself (512 + n))) ∙ ap (part 512 n) is
    ∙ ap (λ k. take n (drop k (root ++ zeros n))) (sym long) ∙ ap (take n) (drop-append_seam root (zeros n))
    ∙ ap (λ k. take k (zeros n)) (sym (length-zeros n)) ∙ take-length (zeros n)

-- where the table lies
record TableLies (layout : Layout) (n : ℕ) (content : List ℕ) : Type 0 where
  starts : table_byte layout 0 ≡ 4096 * table_start layout
  behind_super : 4096 ≤ table_byte layout 0
  ends : table_byte layout 0 + (512 + n) ≤ length content

lies : (layout : Layout) (size : ℕ) (content root block : List ℕ) (n : ℕ) → ArePieces layout size content root block n → TableLies layout n content
lies layout size content root block n are = record {
  starts = add-zero (4096 * table_start layout);
  behind_super = behind (table_byte layout 0) _ (add-zero (4096 * table_start layout));
  ends =
      reaches (table_start layout) (record_blocks layout.inodes) layout.blocks size n (length content) are.fits.room are.fits.within are.long are.rest_long
      (table_byte layout 0) (add-zero (4096 * table_start layout));
}
  where
    behind : (t s : ℕ) → t ≡ 4096 * (1 + s) → 4096 ≤ t
    behind t s is = omega arith

    reaches : (s r b z n l : ℕ) → s + r + 1 ≤ b → b ≤ z → l ≡ 4096 * z → 512 + n ≡ 4096 * r → (t : ℕ) → t ≡ 4096 * s → t + (512 + n) ≤ l
    reaches s r b z n l room within long rest t is = omega arith

-- a record behind the first is zeros
record_zeros : (layout : Layout) (n : ℕ) (content : List ℕ) (i : ℕ) → TableLies layout n content → 512 + n ≡ 4096 * record_blocks layout.inodes
    → i < layout.inodes → i ≢ 0
    → part (table_byte layout 0 + 512) n content ≡ zeros n → table_record layout content i ≡ zeros 512
record_zeros layout n content i are rest less other is =
    part_in_zeros (table_byte layout 0 + 512) n (table_byte layout i) 512 content (assoc (table_byte layout 0) n (length content) are.ends) is
    (low (table_byte layout 0) (4096 * table_start layout) i are.starts other)
    (high (table_byte layout 0) (table_start layout) (record_blocks layout.inodes) n i are.starts rest (IsDivided.table (divided layout) i less))
  where
    assoc : (t n l : ℕ) → t + (512 + n) ≤ l → t + 512 + n ≤ l
    assoc t n l le = omega arith

    low : (t s i : ℕ) → t ≡ s → i ≢ 0 → t + 512 ≤ s + 512 * i
    low t s i is other = omega arith

    high : (t s r n i : ℕ) → t ≡ 4096 * s → 512 + n ≡ 4096 * r → 4096 * s + 512 * i + 512 ≤ 4096 * (s + r) → 4096 * s + 512 * i + 512 ≤ t + 512 + n
    high t s r n i is rest le = omega arith

-- a disk whose slots are closed, once the table and the superblock were put
pub just_made : (layout : Layout) (size : ℕ) (content root block : List ℕ) (n : ℕ) → ArePieces layout size content root block n
    → root ≡ inode_bytes empty_directory → block ≡ super_bytes layout
    → ShutBelow layout (slot_count layout) content → IsJustMade layout (put 0 block (put (table_byte layout 0) (root ++ zeros n) content))
just_made layout size content root block n are root_is block_is shut = record {
  fits = subst (λ s. IsLayout s layout) (size_is (length new) size (same_size ∙ are.long)) are.fits;
  super = ap (λ k. part 0 k new) (sym are.block_long) ∙ part-put 0 block mid super_within ∙ block_is;
  shut = λ k less.
      shut_kept layout k 0 block mid super_within (inr (block_before k))
      (shut_kept layout k T table content table_within (inl (before_table k less)) (shut k less));
  root = kept_record T (place_zero T refl) ∙ front_read T n root mid are.root_long table_there ∙ root_is;
  free =
      λ i less other. kept_record (table_byte layout i) (behind_all i)
      ∙ record_zeros layout n mid i mid_lies are.rest_long less other (rest_read T n root mid are.root_long table_there);
}
  where
    T : ℕ
    T = table_byte layout 0

    table : List ℕ
    table = root ++ zeros n

    mid : List ℕ
    mid = put T table content

    new : List ℕ
    new = put 0 block mid

    here : TableLies layout n content
    here = lies layout size content root block n are

    table_long : length table ≡ 512 + n
    table_long = length-append root (zeros n) ∙ ap₂ (λ a b. a + b) are.root_long (length-zeros n)

    table_within : T + length table ≤ length content
    table_within = subst (λ k. T + k ≤ length content) (sym table_long) here.ends

    mid_long : length mid ≡ length content
    mid_long = length-put T table content table_within

    mid_lies : TableLies layout n mid
    mid_lies = record { starts = here.starts; behind_super = here.behind_super; ends = subst (λ k. T + (512 + n) ≤ k) (sym mid_long) here.ends }

    super_within : 0 + length block ≤ length mid
    super_within = first_fits (length block) (length mid) T n are.block_long here.behind_super mid_lies.ends
      where
        first_fits : (b m t n : ℕ) → b ≡ 4096 → 4096 ≤ t → t + (512 + n) ≤ m → 0 + b ≤ m
        first_fits b m t n is low ends = omega arith

    same_size : length new ≡ length content
    same_size = length-put 0 block mid super_within ∙ mid_long

    table_there : part T (512 + n) mid ≡ root ++ zeros n
    table_there = ap (λ k. part T k mid) (sym table_long) ∙ part-put T table content table_within

    kept_record : (at : ℕ) → 4096 ≤ at → part at 512 new ≡ part at 512 mid
    kept_record at behind =
        part_apart 0 (length block) mid new (put_agrees 0 block mid super_within) at 512 (inr (subst (λ k. 0 + k ≤ at) (sym are.block_long) behind))

    behind_all : (i : ℕ) → 4096 ≤ table_byte layout i
    behind_all i = further (table_start layout) i here.behind_super here.starts
      where
        further : (s i : ℕ) {t : ℕ} → 4096 ≤ t → t ≡ 4096 * s → 4096 ≤ 4096 * s + 512 * i
        further s i le is = omega arith

    place_zero : (t : ℕ) → t ≡ T → 4096 ≤ t
    place_zero t is = subst (λ k. 4096 ≤ k) (sym is) here.behind_super

    block_before : (k : ℕ) → 0 + length block ≤ slot_byte layout k
    block_before k = subst (λ b. 0 + b ≤ slot_byte layout k) (sym are.block_long) (IsDivided.first_slot (divided layout) k)

    before_table : (k : ℕ) → k < slot_count layout → slot_byte layout k + 4096 * slot_blocks layout.inodes ≤ T
    before_table k less = subst (λ t. slot_byte layout k + 4096 * slot_blocks layout.inodes ≤ t) (sym here.starts) (IsDivided.last_slot (divided layout) k less)

    size_is : (l z : ℕ) → l ≡ 4096 * z → z ≡ l / 4096
    size_is l z is = sym (ap (λ n. n / 4096) is ∙ mul-div_cancel_left z (omega arith))

empty_record_long : length empty_record ≡ 512
unfolding empty_record
empty_record_long = length-inode_bytes empty_directory (record {
  kind = omega arith;
  links = omega arith;
  size = omega arith;
  direct_count = length-replicate {A = ℕ} 108 0;
  direct = λ k. small (zeros_read 108 k);
  indirect_count = length-replicate {A = ℕ} 16 0;
  indirect = λ k. small (zeros_read 16 k);
  free = λ none. cc;
})
  where
    small : {n : ℕ} → n ≡ 0 → n < 2 ^ 32
    small is = omega arith

empty_record_is : empty_record ≡ inode_bytes empty_directory
unfolding empty_record
empty_record_is = refl

empty_table_is : (layout : Layout) → empty_table layout ≡ empty_record ++ zeros (4096 * record_blocks layout.inodes - 512)
unfolding empty_table
empty_table_is layout = refl

some_records : (layout : Layout) → InRange layout → 512 + (4096 * record_blocks layout.inodes - 512) ≡ 4096 * record_blocks layout.inodes
some_records layout range = enough (record_blocks layout.inodes) (at_least layout.inodes range.inodes_low)
  where
    enough : (r : ℕ) → 1 ≤ r → 512 + (4096 * r - 512) ≡ 4096 * r
    enough r le = omega arith

    at_least : (i : ℕ) → 16 ≤ i → 1 ≤ (i + 7) / 8
    at_least i le = grind arith

-- the pieces that are put
pieces : (layout : Layout) (size : ℕ) (content : List ℕ) → IsLayout size layout → length content ≡ 4096 * size
    → ArePieces layout size content empty_record (super_bytes layout) (4096 * record_blocks layout.inodes - 512)
pieces layout size content fits long =
    record { fits = fits; long = long; root_long = empty_record_long; rest_long = some_records layout fits.ranges; block_long = length-super_bytes layout }

-- a disk with closed slots, once these were put
pub made_by_puts : (layout : Layout) (size : ℕ) (content table block : List ℕ) → IsLayout size layout → length content ≡ 4096 * size
    → table ≡ empty_table layout → block ≡ super_bytes layout
    → ShutBelow layout (slot_count layout) content → IsJustMade layout (put 0 block (put (table_byte layout 0) table content))
made_by_puts layout size content table block fits long table_is block_is shut =
    subst (λ (t : List ℕ). IsJustMade layout (put 0 block (put (table_byte layout 0) t content))) (sym (table_is ∙ empty_table_is layout))
    (subst (λ (b : List ℕ). IsJustMade layout (put 0 b (put (table_byte layout 0) (empty_record ++ zeros (4096 * record_blocks layout.inodes - 512)) content)))
    (sym block_is)
    (just_made layout size content empty_record (super_bytes layout) (4096 * record_blocks layout.inodes - 512)
    (pieces layout size content fits long) empty_record_is refl shut))

table_long : (layout : Layout) (table : List ℕ) → InRange layout → table ≡ empty_table layout → length table ≡ 4096 * record_blocks layout.inodes
table_long layout table range table_is =
    ap length (table_is ∙ empty_table_is layout) ∙ length-append empty_record _ ∙ ap₂ (λ a b. a + b) empty_record_long (length-zeros _)
    ∙ some_records layout range

-- the table ends within the disk
pub table_within : (layout : Layout) (size : ℕ) (table : List ℕ) → IsLayout size layout → table ≡ empty_table layout
    → table_byte layout 0 + length table ≤ 4096 * size
table_within layout size table fits table_is =
    ends (table_start layout) (record_blocks layout.inodes) layout.blocks size (length table) (table_byte layout 0) fits.room fits.within
    (table_long layout table fits.ranges table_is) (add-zero (4096 * table_start layout))
  where
    ends : (s r b z l t : ℕ) → s + r + 1 ≤ b → b ≤ z → l ≡ 4096 * r → t ≡ 4096 * s → t + l ≤ 4096 * z
    ends s r b z l t room within long is = omega arith

pub table_some : (layout : Layout) (table : List ℕ) → InRange layout → table ≡ empty_table layout → 0 < length table
table_some layout table range table_is = subst (λ n. 0 < n) (sym (table_long layout table range table_is ∙ sym (some_records layout range))) (omega arith)

-- so does each slot's gate
pub gate_within : (layout : Layout) (size k : ℕ) → IsLayout size layout → k < slot_count layout → slot_byte layout k + 1 ≤ 4096 * size
gate_within layout size k fits less =
    ends (slot_byte layout k) (number_blocks layout.inodes) (table_start layout) (record_blocks layout.inodes) layout.blocks size fits.room fits.within
    (IsDivided.last_slot (divided layout) k less)
  where
    ends : (a n s r b z : ℕ) → s + r + 1 ≤ b → b ≤ z → a + 4096 * (1 + n + r) ≤ 4096 * s → a + 1 ≤ 4096 * z
    ends a n s r b z room within le = omega arith

-- what a put leaves of a disk that tells what it holds
pub told_put : (at : ℕ) (bytes : List ℕ) (old new : Option (List ℕ)) (content : List ℕ) → new ≡ option_map (put at bytes) old → new ≡ Some content
    → (was : List ℕ) × (old ≡ Some was) × (content ≡ put at bytes was)
told_put at bytes None new content is told = absurd (none_some (sym is ∙ told))
told_put at bytes (Some was) new content is told = (was, refl, some_same (sym told ∙ is))

-- a root's record that is cut to the table's size, or filled up with zeros, is the table
pub new_table_is : (layout : Layout) (blocks long : ℕ) (root start table : List ℕ) → InRange layout → start ≡ root → root ≡ inode_bytes empty_directory
    → blocks ≡ div_ceil layout.inodes 8
    → long ≡ length root → table ≡ take (4096 * blocks) start ++ replicate (4096 * blocks - long) 0 → table ≡ empty_table layout
new_table_is layout blocks long root start table range start_is root_is blocks_is long_is table_is =
    table_is
    ∙ ap₂ (λ (a b : List ℕ). a ++ b) (front ∙ start_is ∙ root_is ∙ sym empty_record_is)
    (sym (zeros-is (4096 * blocks - long)) ∙ ap zeros (ap₂ (λ a b. 4096 * a - b) same_blocks start_long))
    ∙ sym (empty_table_is layout)
  where
    start_long : long ≡ 512
    start_long = long_is ∙ ap length (root_is ∙ sym empty_record_is) ∙ empty_record_long

    rounded : (i : ℕ) → i / 8 + min 1 (i % 8) ≡ (i + 7) / 8
    rounded i = omega arith

    same_blocks : blocks ≡ record_blocks layout.inodes
    same_blocks = blocks_is ∙ rounded layout.inodes

    within : (b r l n : ℕ) → b ≡ r → l ≡ 512 → l ≡ n → 512 + (4096 * r - 512) ≡ 4096 * r → n ≤ 4096 * b
    within b r l n is long own enough = omega arith

    front : take (4096 * blocks) start ≡ start
    front =
        take_all (4096 * blocks) start
        (within blocks (record_blocks layout.inodes) long (length start) same_blocks start_long (long_is ∙ ap length (sym start_is))
        (some_records layout range))
