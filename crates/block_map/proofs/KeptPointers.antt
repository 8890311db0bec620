-- What is kept of a part has the part's pointers.
use Rattle.std.proofs.Common.{◌≡◌, ◌≢◌, ℕ, zero, suc, ◌+◌, ◌<◌, ◌≤◌, Bool, eqb, ltb, List, [], Option, Some, None, filter_map, refl, sym, ap, ◌∙◌, subst, arith, inl, inr}
use Rattle.std.specs.Prelude.{slice_index, slice_index_or}
use Rattle.std.specs.List.{find, range_with_len, cons_option}
use Rattle.std.specs.Option.{option_map_or}
use Rattle.std.proofs.lemmas.Bool.{cases_Bool, cases_lt, cond-true, cond-false, le-ltb, lt-ltb, eqb-true, eq-eqb, ne_eqb}
use Rattle.sfs_base.proofs.BasicOptions.{none_some, some_same}
use Rattle.sfs_image.specs.Inode.{Inode, Table, table_of, entry_of, pointers_of}
use Rattle.sfs_image.specs.Part.{Part, inode_in, part_of, pointer_at, block_pointer, IsGathered}
use Rattle.sfs_image.specs.Seen.{FILE_BLOCKS, PLACES}
use Rattle.sfs_image.specs.Bytes.{zeros}
use Rattle.sfs_image.proofs.PartLaws.{table_is_read, hole_is_read, pointer_of_table}
use Rattle.sfs_image.proofs.InodeLaws.{pointers_of-zeros}
use Rattle.block_map.specs.Kept.{table_kept, tables_kept, kept_tables, kept_of, block_kept, pointer_kept}

-- what a function gives of a number is at that place
abbrev pub PutsAtPlace : (ℕ → Option Table) → Type 0
PutsAtPlace f = (k : ℕ) (table : Table) → f k ≡ Some table → table.place ≡ k

-- whether an indirect block has this place
abbrev pub is_at : ℕ → Table → Bool
is_at k table = eqb table.place k

-- an option in front of a list, of which it is the first or not
first_found : (f : ℕ → Option Table) → PutsAtPlace f → (k a : ℕ) (rest : List Table) → a ≡ k → find (is_at k) rest ≡ None →
    find (is_at k) (cons_option (f a) rest) ≡ f a
first_found f puts k a rest same none = by (f a) refl
  where
    by : (o : Option Table) → f a ≡ o → find (is_at k) (cons_option o rest) ≡ o
    by None e = none
    by (Some table) e = cond-true (is_at k table) _ _ (eq-eqb table.place k (puts a table e ∙ same))

passed_over : (f : ℕ → Option Table) → PutsAtPlace f → (k a : ℕ) (rest : List Table) → a ≢ k →
    find (is_at k) (cons_option (f a) rest) ≡ find (is_at k) rest
passed_over f puts k a rest other = by (f a) refl
  where
    by : (o : Option Table) → f a ≡ o → find (is_at k) (cons_option o rest) ≡ find (is_at k) rest
    by None e = refl
    by (Some table) e = cond-false (is_at k table) _ _ (ne_eqb table.place k (λ same. other (sym (puts a table e) ∙ same)))

-- none is found for a number below all
found_none : (f : ℕ → Option Table) → PutsAtPlace f → (k a n : ℕ) → k < a → find (is_at k) (filter_map f (range_with_len a n)) ≡ None
found_none f puts k a zero below = refl
found_none f puts k a (suc n) below =
    passed_over f puts k a (filter_map f (range_with_len (a + 1) n)) (λ same. omega arith) ∙ found_none f puts k (a + 1) n (omega arith)

-- among what is given for the numbers from a on, that of place k is what is given for k
pub found_at : (f : ℕ → Option Table) → PutsAtPlace f → (k a n : ℕ) → a ≤ k → k < a + n →
    find (is_at k) (filter_map f (range_with_len a n)) ≡ f k
found_at f puts k a zero low high = absurd (omega arith)
found_at f puts k a (suc n) low high =
    let rest = filter_map f (range_with_len (a + 1) n) in
    elim (cases_lt a k) [
      | inl below ↦ passed_over f puts k a rest (λ same. omega arith) ∙ found_at f puts k (a + 1) n (omega arith) (omega arith)
      | inr here ↦ (let same : a ≡ k = omega arith in
          first_found f puts k a rest same (found_none f puts k (a + 1) n (omega arith)) ∙ ap f same)
    ]

-- each indirect block without a pointer reads as zeros
abbrev pub HaveHoles : Inode → List (List ℕ) → Type 0
HaveHoles inode blocks = (k : ℕ) → k < 16 → slice_index inode.indirect k ≡ 0 → slice_index_or blocks k [] ≡ zeros 4096

-- the pointer at an entry of an indirect block, or of none
abbrev pub entry_kept : ℕ → Option Table → ℕ
entry_kept entry found = option_map_or (λ table. slice_index table.pointers entry) found 0

module _ (inode : Inode) (blocks : List (List ℕ)) where
  -- an indirect block that is kept has its place
  pub kept_at_place : PutsAtPlace (table_kept inode blocks)
  kept_at_place k table is =
      elim (cases_Bool (eqb (slice_index inode.indirect k) 0)) [
        | inl hole ↦ (let none = cond-true (eqb (slice_index inode.indirect k) 0) _ _ hole in absurd (none_some (sym none ∙ is)))
        | inr there ↦ (let some = cond-false (eqb (slice_index inode.indirect k) 0) _ _ there in sym (ap (λ (t : Table). t.place) (some_same (sym some ∙ is))))
      ]

  -- what is kept of the indirect block of a place is found there
  pub table_found : (k : ℕ) → k < 16 → find (is_at k) (tables_kept inode blocks) ≡ table_kept inode blocks k
  unfolding tables_kept
  table_found k small = found_at (table_kept inode blocks) kept_at_place k 0 16 (omega arith) (omega arith)

  module _ (holes : HaveHoles inode blocks) where
    -- the pointer that an entry of what is kept of an indirect block has is that in the block
    entry_is : (k entry : ℕ) → k < 16 → entry_kept entry (table_kept inode blocks k) ≡ slice_index (pointers_of (slice_index_or blocks k [])) entry
    entry_is k entry small =
        let pointer = slice_index inode.indirect k in
        elim (cases_Bool (eqb pointer 0)) [
          | inl hole ↦ ap (entry_kept entry) (cond-true (eqb pointer 0) _ _ hole)
              ∙ sym (ap (λ (block : List ℕ). slice_index (pointers_of block) entry) (holes k small (eqb-true pointer 0 hole)) ∙ pointers_of-zeros entry)
          | inr there ↦ ap (entry_kept entry) (cond-false (eqb pointer 0) _ _ there)
        ]

    -- the pointer of a file's block, by what is kept, is that in the blocks
    pub kept_block : (n : ℕ) → n < FILE_BLOCKS → block_kept inode (tables_kept inode blocks) n ≡ block_pointer inode blocks n
    kept_block n within =
        elim (cases_lt n 108) [
          | inl near ↦ cond-true (ltb n 108) _ _ (lt-ltb n 108 near) ∙ sym (cond-true (ltb n 108) _ _ (lt-ltb n 108 near))
          | inr far ↦ (let small : table_of n < 16 = omega arith in
              cond-false (ltb n 108) _ _ (le-ltb n 108 far)
              ∙ ap (entry_kept (entry_of n)) (table_found (table_of n) small)
              ∙ entry_is (table_of n) (entry_of n) small
              ∙ sym (cond-false (ltb n 108) _ _ (le-ltb n 108 far)))
        ]

-- the pointer at each place of a part whose holes read as zeros, by what is kept, is the part's
pub kept_place : (part : Part) → HaveHoles (inode_in part) part.tables → (place : ℕ) →
    pointer_kept (inode_in part) (kept_tables part) place ≡ pointer_at part place
kept_place part holes place =
    elim (cases_lt place FILE_BLOCKS) [
      | inl block ↦ cond-true (ltb place FILE_BLOCKS) _ _ (lt-ltb place FILE_BLOCKS block) ∙ kept_block (inode_in part) part.tables holes place block
          ∙ sym (cond-true (ltb place FILE_BLOCKS) _ _ (lt-ltb place FILE_BLOCKS block))
      | inr table ↦ cond-false (ltb place FILE_BLOCKS) _ _ (le-ltb place FILE_BLOCKS table)
          ∙ sym (cond-false (ltb place FILE_BLOCKS) _ _ (le-ltb place FILE_BLOCKS table))
    ]

-- the holes of a gathered part read as zeros
gathered_holes : (store : ℕ → List ℕ) (part : Part) → IsGathered store part → HaveHoles (inode_in part) part.tables
gathered_holes store part is =
    let here : HaveHoles (inode_in (part_of store part.raw)) (part_of store part.raw).tables =
    λ k small hole. table_is_read store part.raw k small
    ∙ hole_is_read store (pointer_at (part_of store part.raw) (FILE_BLOCKS + k)) (pointer_of_table (part_of store part.raw) k ∙ hole) in
    subst (λ (p : Part). HaveHoles (inode_in p) p.tables) is here

pub kept_pointer : (store : ℕ → List ℕ) (part : Part) → IsGathered store part → (place : ℕ) → place < PLACES →
    pointer_kept (kept_of part).inode (kept_of part).tables place ≡ pointer_at part place
kept_pointer store part is place within = kept_place part (gathered_holes store part is) place
