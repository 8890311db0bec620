-- Laws of the part of one inode: stores that agree on what a part reaches gather it alike.
use Rattle.std.proofs.Common.{◌≡◌, ◌≢◌, ℕ, ◌+◌, ◌-◌, ◌*◌, ◌/◌, ◌%◌, ◌<◌, ◌≤◌, eqb, ltb, List, [], map, length, get_or, slice_index, replicate, None, sym, ap, ◌∙◌, subst, arith, inl, inr}
use Rattle.std.specs.Prelude.{slice_index_or}
use Rattle.std.proofs.lemmas.List.{get_or-map, get_or_past}
use Rattle.std.proofs.lemmas.Bool.{cases_Bool, cases_lt, cond-true, cond-false, ne_eqb, eq-eqb, le-ltb, lt-ltb, eqb-false}
use Rattle.sfs_image.specs.Bytes.{zeros}
use Rattle.sfs_image.specs.Inode.{inode_of, inode_fault, pointers_of, table_of, entry_of}
use Rattle.sfs_image.specs.LawsOfParts.{HavePlaces}
use Rattle.sfs_image.specs.Part.{Part, inode_in, read_block, block_pointer, part_of, pointer_at, file_byte, tabulate, IsGathered}
use Rattle.sfs_image.specs.Seen.{FILE_BLOCKS, PLACES}
use Rattle.sfs_image.proofs.Basics.{map_same, tabulate_same, get_or-tabulate}
use Rattle.sfs_image.proofs.BytesLaws.{zeros-byte}
use Rattle.sfs_image.proofs.InodeLaws.{IsFree-inode_of, pointers_of-zeros}
use Rattle.sfs_base.proofs.BasicLists.{zeros_read}
use Rattle.sfs_image.proofs.PiecesLaws.{length-u32s_at}

-- the pointer of a file's block stands at the block's place
pub pointer_of_block : (part : Part) (n : ℕ) → n < FILE_BLOCKS → pointer_at part n ≡ block_pointer (inode_in part) part.tables n
pointer_of_block part n below = cond-true (ltb n FILE_BLOCKS) _ _ (lt-ltb n FILE_BLOCKS below)

-- the pointer of an indirect block stands behind those
pub pointer_of_table : (part : Part) (k : ℕ) → pointer_at part (FILE_BLOCKS + k) ≡ slice_index (inode_in part).indirect k
pointer_of_table part k =
    let back : FILE_BLOCKS + k - FILE_BLOCKS ≡ k = omega arith in
    cond-false (ltb (FILE_BLOCKS + k) FILE_BLOCKS) _ _ (le-ltb (FILE_BLOCKS + k) FILE_BLOCKS (omega arith)) ∙ ap (slice_index (inode_in part).indirect) back

-- stores that agree on a pointer's block read it alike
read_same : (store other : ℕ → List ℕ) (pointer : ℕ) → (pointer ≢ 0 → other pointer ≡ store pointer) → read_block other pointer ≡ read_block store pointer
read_same store other pointer same =
    elim (cases_Bool (eqb pointer 0)) [
      | inl hole ↦ cond-true (eqb pointer 0) _ _ hole ∙ sym (cond-true (eqb pointer 0) _ _ hole)
      | inr there ↦ cond-false (eqb pointer 0) _ _ there ∙ same (eqb-false pointer 0 there) ∙ sym (cond-false (eqb pointer 0) _ _ there)
    ]

-- stores that agree on what a record reaches gather it alike
pub gather_same : (store other : ℕ → List ℕ) (raw : List ℕ) →
    ((place : ℕ) → pointer_at (part_of store raw) place ≢ 0 → other (pointer_at (part_of store raw) place) ≡ store (pointer_at (part_of store raw) place)) →
    part_of other raw ≡ part_of store raw
unfolding part_of
gather_same store other raw same =
    let inode = inode_of raw in
    let old = part_of store raw in
    let agree : (place pointer : ℕ) → pointer_at old place ≡ pointer → read_block other pointer ≡ read_block store pointer =
    λ place pointer is. read_same store other pointer (subst (λ (p : ℕ). p ≢ 0 → other p ≡ store p) is (same place)) in
    let tables : map (read_block other) inode.indirect ≡ map (read_block store) inode.indirect =
    map_same (read_block other) (read_block store) 0 inode.indirect (λ k h. agree (FILE_BLOCKS + k) (get_or inode.indirect k 0) (pointer_of_table old k)) in
    let blocks : tabulate FILE_BLOCKS (λ n. read_block other (block_pointer inode (map (read_block other) inode.indirect) n))
    ≡ tabulate FILE_BLOCKS (λ n. read_block store (block_pointer inode (map (read_block store) inode.indirect) n)) =
    tabulate_same FILE_BLOCKS _ _
    (λ n h.
    ap (λ (those : List (List ℕ)). read_block other (block_pointer inode those n)) tables
    ∙ agree n (block_pointer inode (map (read_block store) inode.indirect) n) (pointer_of_block old n h)) in
    λ i. record { raw = raw; tables = tables i; blocks = blocks i }

-- a part that was gathered from a store is gathered from each that agrees with it on what the part reaches
pub gathered_same : (store other : ℕ → List ℕ) (part : Part) → IsGathered store part →
    ((place : ℕ) → pointer_at part place ≢ 0 → other (pointer_at part place) ≡ store (pointer_at part place)) → IsGathered other part
gathered_same store other part is same =
    gather_same store other part.raw
    (subst (λ (p : Part). (place : ℕ) → pointer_at p place ≢ 0 → other (pointer_at p place) ≡ store (pointer_at p place)) (sym is) same)
    ∙ is

-- each block of a part is what its pointer reads, and so is each indirect block
pub block_is_read : (store : ℕ → List ℕ) (raw : List ℕ) (n : ℕ) → n < FILE_BLOCKS →
    slice_index_or (part_of store raw).blocks n [] ≡ read_block store (pointer_at (part_of store raw) n)
unfolding part_of
block_is_read store raw n below =
    get_or-tabulate FILE_BLOCKS (λ k. read_block store (block_pointer (inode_of raw) (map (read_block store) (inode_of raw).indirect) k)) n [] below
    ∙ ap (read_block store) (sym (pointer_of_block (part_of store raw) n below))

pub table_is_read : (store : ℕ → List ℕ) (raw : List ℕ) (k : ℕ) → k < 16 →
    slice_index_or (part_of store raw).tables k [] ≡ read_block store (pointer_at (part_of store raw) (FILE_BLOCKS + k))
unfolding part_of
table_is_read store raw k below =
    let long : k < length (inode_of raw).indirect = omega (arith, length-u32s_at 448 16 raw) in
    get_or-map (read_block store) (inode_of raw).indirect k 0 [] long ∙ ap (read_block store) (sym (pointer_of_table (part_of store raw) k))

-- a pointer 0 reads as zeros, and another one as its block
pub hole_is_read : (store : ℕ → List ℕ) (pointer : ℕ) → pointer ≡ 0 → read_block store pointer ≡ zeros 4096
hole_is_read store pointer hole = cond-true (eqb pointer 0) _ _ (eq-eqb pointer 0 hole)

pub block_behind : (store : ℕ → List ℕ) (pointer : ℕ) → pointer ≢ 0 → read_block store pointer ≡ store pointer
block_behind store pointer there = cond-false (eqb pointer 0) _ _ (ne_eqb pointer 0 there)

-- no place but those of the blocks and indirect blocks has a pointer
pub none_past_places : (store : ℕ → List ℕ) (raw : List ℕ) (place : ℕ) → PLACES ≤ place → pointer_at (part_of store raw) place ≡ 0
unfolding part_of
none_past_places store raw place past =
    cond-false (ltb place FILE_BLOCKS) _ _ (le-ltb place FILE_BLOCKS (omega arith))
    ∙ get_or_past (inode_of raw).indirect (place - FILE_BLOCKS) 0 (omega (arith, length-u32s_at 448 16 raw))

-- the byte of a file in a hole is 0
pub hole_byte : (store : ℕ → List ℕ) (raw : List ℕ) (place : ℕ) → place < 4096 * FILE_BLOCKS → pointer_at (part_of store raw) (place / 4096) ≡ 0 →
    file_byte (part_of store raw) place ≡ 0
hole_byte store raw place below hole =
    ap (λ (block : List ℕ). slice_index block (place % 4096))
    (block_is_read store raw (place / 4096) (omega arith) ∙ hole_is_read store (pointer_at (part_of store raw) (place / 4096)) hole)
    ∙ zeros-byte 4096 (place % 4096)

-- any other is the byte of the block
pub byte_of_block : (store : ℕ → List ℕ) (raw : List ℕ) (place : ℕ) → place < 4096 * FILE_BLOCKS → pointer_at (part_of store raw) (place / 4096) ≢ 0 →
    file_byte (part_of store raw) place ≡ slice_index (store (pointer_at (part_of store raw) (place / 4096))) (place % 4096)
byte_of_block store raw place below there =
    ap (λ (block : List ℕ). slice_index block (place % 4096))
    (block_is_read store raw (place / 4096) (omega arith) ∙ block_behind store (pointer_at (part_of store raw) (place / 4096)) there)

-- a record of holes alone has no pointers
pub holes_have_none : (store : ℕ → List ℕ) (raw : List ℕ) → (inode_of raw).direct ≡ replicate 108 0 → (inode_of raw).indirect ≡ replicate 16 0 →
    (place : ℕ) → pointer_at (part_of store raw) place ≡ 0
unfolding part_of
holes_have_none store raw direct indirect place =
    let part = part_of store raw in
    let tables : (k : ℕ) → pointer_at part (FILE_BLOCKS + k) ≡ 0 =
    λ k. pointer_of_table part k ∙ ap (λ (xs : List ℕ). slice_index xs k) indirect ∙ zeros_read 16 k in
    elim (cases_lt place FILE_BLOCKS) [
      | inl below ↦ pointer_of_block part place below ∙ elim (cases_lt place 108) [
        | inl near ↦ cond-true (ltb place 108) _ _ (lt-ltb place 108 near) ∙ ap (λ (xs : List ℕ). slice_index xs place) direct ∙ zeros_read 108 place
        | inr far ↦ cond-false (ltb place 108) _ _ (le-ltb place 108 far)
            ∙ ap (λ (block : List ℕ). slice_index (pointers_of block) (entry_of place))
            (table_is_read store raw (table_of place) (omega arith)
            ∙ hole_is_read store (pointer_at part (FILE_BLOCKS + table_of place)) (tables (table_of place)))
            ∙ pointers_of-zeros (entry_of place)
      ]
      | inr behind ↦ cond-false (ltb place FILE_BLOCKS) _ _ (le-ltb place FILE_BLOCKS behind)
          ∙ ap (λ (xs : List ℕ). slice_index xs (place - FILE_BLOCKS)) indirect ∙ zeros_read 16 (place - FILE_BLOCKS)
    ]

-- a free inode without a fault has no pointers
pub free_has_none : (store : ℕ → List ℕ) (raw : List ℕ) → length raw ≡ 512 → inode_fault raw ≡ None → slice_index raw 0 ≡ 0 →
    (place : ℕ) → pointer_at (part_of store raw) place ≡ 0
free_has_none store raw len none kind = let free = IsFree-inode_of raw len none kind in holes_have_none store raw free.direct free.indirect

pub have_places : (store : ℕ → List ℕ) (raw : List ℕ) → HavePlaces store raw
unfolding part_of
have_places store raw = record {
  direct = λ n near. pointer_of_block (part_of store raw) n (omega arith) ∙ cond-true (ltb n 108) _ _ (lt-ltb n 108 near);
  through = λ k entry below small.
      let n = 108 + 1024 * k + entry in
      let table : table_of n ≡ k = omega arith in
      let place : entry_of n ≡ entry = omega arith in
      pointer_of_block (part_of store raw) n (omega arith)
      ∙ cond-false (ltb n 108) _ _ (le-ltb n 108 (omega arith))
      ∙ ap (λ (t : ℕ). slice_index (pointers_of (slice_index_or (part_of store raw).tables t [])) (entry_of n)) table
      ∙ ap (λ (e : ℕ). slice_index (pointers_of (slice_index_or (part_of store raw).tables k [])) e) place
      ∙ ap (λ (block : List ℕ). slice_index (pointers_of block) entry)
      (table_is_read store raw k below ∙ ap (read_block store) (pointer_of_table (part_of store raw) k));
  indirect = pointer_of_table (part_of store raw);
}
