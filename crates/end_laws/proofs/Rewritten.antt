-- Rewriting with no fresh block changes the record, where a block is given up.
use Rattle.std.specs.Prelude.{slice_index, nat_le}
use Rattle.std.specs.List.{find, list_any}
use Rattle.std.specs.Option.{option_map_or}
use Rattle.std.proofs.Common.{◌≡◌, ◌≢◌, ◌+◌, ◌-◌, ◌<◌, ◌≤◌, ◌&&◌, ◌||◌, ◌∙◌, ℕ, zero, suc, Bool, true, false, cond, not, List, [], Option, Some, None, refl, sym, ap, subst, arith, Contains, inl, inr, nat_lt, nat_eq}
use Rattle.std.proofs.lemmas.Bool.{cond-true, cond-false, cases_lt, lt-ltb, le-ltb, eqb-true, eqb-false}
use Rattle.sfs_base.proofs.BasicTruth.{and_first, and_second, not_true}
use Rattle.sfs_image.specs.Inode.{Inode, Table, table_of, entry_of}
use Rattle.sfs_image.specs.Seen.{FILE_BLOCKS}
use Rattle.sfs_image.proofs.Basics.{get_or-tabulate, found_passes}
use Rattle.image_laws.specs.Need.{Rewrite, changes_pointer, first_block, table_blocks, rewrites_table, table_has_pointer, takes_place, rank}
use Rattle.block_map.specs.declared.changed.ChangedBlock.{ChangedBlock}
use Rattle.block_map.specs.Kept.{block_kept}
use Rattle.block_map.specs.Remap.{rewrite_of, fresh_for, inode_remapped, pointer_remapped, IsGivenUp}
use Rattle.block_map.proofs.Places.{own_place}
use Rattle.block_map.proofs.Tables.{some_in_range}
use Rattle.commit_laws.proofs.Shown.{found_is_in}

-- where nothing is fresh there is no fresh block
no_fresh : (n : ℕ) → slice_index [] n ≡ 0
no_fresh zero = refl
no_fresh (suc n) = refl

-- what is written of a number of a range of blocks is written of its indirect block
changes_in_table : (rewrite : Rewrite) (k n : ℕ) → first_block k ≤ n → n < first_block k + 1024 → changes_pointer rewrite n ≡ true
    → list_any (changes_pointer rewrite) (table_blocks k) ≡ true
unfolding table_blocks
changes_in_table rewrite k n low high changes = some_in_range (changes_pointer rewrite) (first_block k) 1024 n low high changes

module _ (inode : Inode) (tables : List Table) (changed : List ChangedBlock) where
  abbrev rewrite : Rewrite
  rewrite = rewrite_of inode tables changed

  -- the inode is what it is remapped to, and each indirect block that is kept has its pointer in it
  module _ (before : Inode) (direct_is : inode.direct ≡ before.direct) (indirect_is : inode.indirect ≡ before.indirect)
      (same : before ≡ inode_remapped rewrite [] inode) (well : (table : Table) → Contains tables table → slice_index inode.indirect table.place ≢ 0) where
    -- a block that is rewritten has no pointer
    no_direct : (n : ℕ) → n < 108 → rewrite.is_rewritten n ≡ true → slice_index inode.direct n ≡ 0
    no_direct n low rewritten =
        ap (λ (pointers : List ℕ). slice_index pointers n) (direct_is ∙ ap (λ (i : Inode). i.direct) same)
        ∙ get_or-tabulate 108 (pointer_remapped rewrite []) n 0 low
        ∙ cond-true (nat_lt n FILE_BLOCKS) _ _ (lt-ltb n FILE_BLOCKS (omega arith))
        ∙ cond-true (rewrite.is_rewritten n) _ _ rewritten
        ∙ by (rewrite.is_zero n)
      where
        by : (b : Bool) → cond b 0 (fresh_for rewrite [] n) ≡ 0
        by true = refl
        by false = no_fresh (rank (takes_place rewrite) n)

    -- nor has an indirect block that is
    no_indirect : (k : ℕ) → k < 16 → rewrites_table rewrite k ≡ true → slice_index inode.indirect k ≡ 0
    no_indirect k low rewritten =
        let back : FILE_BLOCKS + k - FILE_BLOCKS ≡ k = omega arith in
        ap (λ (pointers : List ℕ). slice_index pointers k) (indirect_is ∙ ap (λ (i : Inode). i.indirect) same)
        ∙ get_or-tabulate 16 (λ j. pointer_remapped rewrite [] (FILE_BLOCKS + j)) k 0 low
        ∙ cond-false (nat_lt (FILE_BLOCKS + k) FILE_BLOCKS) _ _ (le-ltb (FILE_BLOCKS + k) FILE_BLOCKS (omega arith))
        ∙ ap (λ t. cond (rewrites_table rewrite t) (cond (table_has_pointer rewrite t) (fresh_for rewrite [] (FILE_BLOCKS + k)) 0)
        (rewrite.pointers (FILE_BLOCKS + k))) back
        ∙ cond-true (rewrites_table rewrite k) _ _ rewritten
        ∙ by (table_has_pointer rewrite k)
      where
        by : (b : Bool) → cond b (fresh_for rewrite [] (FILE_BLOCKS + k)) 0 ≡ 0
        by true = no_fresh (rank (takes_place rewrite) (FILE_BLOCKS + k))
        by false = refl

    -- an indirect block that has a pointer is kept, and has its own in the record
    table_there : (n : ℕ) → option_map_or (λ (table : Table). slice_index table.pointers (entry_of n)) (find (λ t. nat_eq t.place (table_of n)) tables) 0 ≢ 0
        → slice_index inode.indirect (table_of n) ≢ 0
    table_there n some = by (find (λ t. nat_eq t.place (table_of n)) tables) refl some
      where
        by : (o : Option Table) → find (λ t. nat_eq t.place (table_of n)) tables ≡ o
            → option_map_or (λ (table : Table). slice_index table.pointers (entry_of n)) o 0 ≢ 0 → slice_index inode.indirect (table_of n) ≢ 0
        by None e some = absurd (some refl)
        by (Some table) e some =
            let at : table.place ≡ table_of n = eqb-true table.place (table_of n) (found_passes (λ t. nat_eq t.place (table_of n)) tables table e) in
            subst (λ (k : ℕ). slice_index inode.indirect k ≢ 0) at (well table (found_is_in (λ t. nat_eq t.place (table_of n)) tables table e))

    -- a pointer that changes is that of a block with an own one
    changes : (n : ℕ) → rewrite.is_rewritten n ≡ true → rewrite.pointers n ≢ 0 → changes_pointer rewrite n ≡ true
    changes n rewritten some =
        ap (λ b. b && (not (rewrite.is_zero n) || not (nat_eq (rewrite.pointers n) 0))) rewritten
        ∙ by (rewrite.is_zero n) (nat_eq (rewrite.pointers n) 0) refl
      where
        by : (zero_there hole : Bool) → nat_eq (rewrite.pointers n) 0 ≡ hole → (not zero_there || not hole) ≡ true
        by false hole e = refl
        by true false e = refl
        by true true e = absurd (some (eqb-true (rewrite.pointers n) 0 e))

    -- what is given up is there, and its place is rewritten
    abbrev rewritten_at : ℕ → Bool
    rewritten_at place = cond (nat_lt place FILE_BLOCKS) (rewrite.is_rewritten place) (rewrites_table rewrite (place - FILE_BLOCKS))

    there_at : (block place : ℕ) → IsGivenUp rewrite block place → (rewritten_at place ≡ true) × (rewrite.pointers place ≢ 0)
    there_at block place up = (
      and_first (rewritten_at place) (not (nat_eq (rewrite.pointers place) 0)) up.given_up,
      eqb-false (rewrite.pointers place) 0 (not_true (nat_eq (rewrite.pointers place) 0) (and_second (rewritten_at place) _ up.given_up)),
    )

    -- so nothing is given up
    pub none_given_up : (block place : ℕ) → IsGivenUp rewrite block place → ⊥
    none_given_up block place up = let there = there_at block place up in elim (cases_lt place FILE_BLOCKS) [
      | inl below ↦
          let rewritten : rewrite.is_rewritten place ≡ true =
          sym (cond-true (nat_lt place FILE_BLOCKS) _ _ (lt-ltb place FILE_BLOCKS below)) ∙ there.0 in
          let kept : rewrite.pointers place ≡ block_kept inode tables place = cond-true (nat_lt place FILE_BLOCKS) _ _ (lt-ltb place FILE_BLOCKS below) in
          elim (cases_lt place 108) [
            | inl near ↦ there.1 (kept ∙ cond-true (nat_lt place 108) _ _ (lt-ltb place 108 near) ∙ no_direct place near rewritten)
            | inr far ↦
                let entry = cond-false (nat_lt place 108) (slice_index inode.direct place)
                (option_map_or (λ (table : Table). slice_index table.pointers (entry_of place)) (find (λ t. nat_eq t.place (table_of place)) tables) 0)
                (le-ltb place 108 far) in
                let some = table_there place (λ hole. there.1 (kept ∙ entry ∙ hole)) in
                some (no_indirect (table_of place) (omega arith)
                (ap (λ b. b || (not (nat_eq (rewrite.pointers (FILE_BLOCKS + table_of place)) 0)
                && nat_le rewrite.blocks (first_block (table_of place))))
                (changes_in_table rewrite (table_of place) place (omega arith) (omega arith) (changes place rewritten there.1))))
          ]
      | inr behind ↦
          let back : FILE_BLOCKS + (place - FILE_BLOCKS) ≡ place = omega arith in
          let within = up.within in
          let rewritten : rewrites_table rewrite (place - FILE_BLOCKS) ≡ true =
          sym (cond-false (nat_lt place FILE_BLOCKS) _ _ (le-ltb place FILE_BLOCKS behind)) ∙ there.0 in
          there.1 (ap rewrite.pointers (sym back) ∙ own_place inode tables (place - FILE_BLOCKS)
          ∙ no_indirect (place - FILE_BLOCKS) (omega (arith, within, behind)) rewritten)
    ]
