-- The blocks that an inode holds, gathered from its record and its indirect blocks.
use Rattle.std.proofs.Common.{◌≡◌, ◌≢◌, ℕ, ◌+◌, ◌-◌, ◌*◌, ◌<◌, ◌≤◌, List, [], ◌++◌, length, get_or, Option, Some, None, inl, inr, refl, sym, ap, subst, ◌∙◌, arith, nat_lt, nat_eq, Contains}
use Rattle.std.specs.Prelude.{slice_index, ◌↔◌, ◌⊎◌}
use Rattle.std.specs.List.{range_with_len, flat_map, find}
use Rattle.std.specs.Option.{option_map_or}
use Rattle.std.proofs.lemmas.Bool.{cond-true, cond-false, cases_lt, lt-ltb, le-ltb}
use Rattle.std.proofs.lemmas.List.{get_or_past}
use Rattle.std.proofs.lemmas.List.FromFn.{length-range_with_len, get_or-range_with_len}
use Rattle.std.proofs.lemmas.List.Elements.{Contains-append_left, Contains-append_right, Contains-append_cases}
use Rattle.sfs_base.proofs.BasicNumbers.{zero_plus}
use Rattle.sfs_image.specs.Inode.{Inode, Table, table_of, entry_of}
use Rattle.sfs_image.specs.Seen.{FILE_BLOCKS, PLACES}
use Rattle.block_map.specs.Kept.{pointer_kept, block_kept}
use Rattle.block_map.specs.Remap.{there}
use Rattle.block_map.specs.RemapLaws.{IsHeld}
use Rattle.block_map.proofs.GivenUp.{in_there, is_there, in_all, in_one}
use Rattle.block_map.proofs.Places.{own_place}
use Rattle.disk_change.specs.GivenUp.{pointers_of_place}

-- what is not 0 stands within a list
some_within : (xs : List ℕ) (i : ℕ) → get_or xs i 0 ≢ 0 → i < length xs
some_within xs i some = elim (cases_lt i (length xs)) [
  | inl within ↦ within
  | inr past ↦ absurd (some (get_or_past xs i 0 past))
]

-- the blocks that an indirect block holds
abbrev pub of_table : List Table → ℕ → List ℕ
of_table tables k = flat_map there (pointers_of_place tables k)

module _ (inode : Inode) (tables : List Table) where
  -- the pointers of blocks: direct ones, and those of indirect blocks
  direct_place : (n : ℕ) → n < 108 → pointer_kept inode tables n ≡ get_or inode.direct n 0
  direct_place n low =
      cond-true (nat_lt n FILE_BLOCKS) (block_kept inode tables n) _ (lt-ltb n FILE_BLOCKS (omega arith))
      ∙ cond-true (nat_lt n 108) (slice_index inode.direct n) _ (lt-ltb n 108 low)

  table_place : (n : ℕ) → 108 ≤ n → n < FILE_BLOCKS → pointer_kept inode tables n ≡ get_or (pointers_of_place tables (table_of n)) (entry_of n) 0
  table_place n low high =
      cond-true (nat_lt n FILE_BLOCKS) (block_kept inode tables n) _ (lt-ltb n FILE_BLOCKS high)
      ∙ cond-false (nat_lt n 108) (slice_index inode.direct n) _ (le-ltb n 108 low)
      ∙ by (find (λ table. nat_eq table.place (table_of n)) tables) (entry_of n)
    where
      by : (o : Option Table) (e : ℕ) → option_map_or (λ table. slice_index table.pointers e) o 0 ≡ get_or (option_map_or (λ table. table.pointers) o []) e 0
      by None e = refl
      by (Some table) e = refl

  -- a pointer that is listed is that of a place
  listed_held : (pointers : List ℕ) (place_of : ℕ → ℕ)
      → ((i : ℕ) → i < length pointers → (place_of i < PLACES) × (pointer_kept inode tables (place_of i) ≡ get_or pointers i 0))
      → (block : ℕ) → Contains (flat_map there pointers) block → IsHeld (pointer_kept inode tables) block
  listed_held pointers place_of at block has =
      let found = in_one there pointers block has in
      let some = in_there (get_or pointers found.0 0) block (found.2 0) in
      let stands = at found.0 found.1 in
      record { some = λ e. some.0 (some.1 ∙ e); place = place_of found.0; within = stands.0; stands = stands.1 ∙ some.1 }

  -- and that of a place is listed
  held_listed : (pointers : List ℕ) (i block : ℕ) → block ≢ 0 → get_or pointers i 0 ≡ block → Contains (flat_map there pointers) block
  held_listed pointers i block some is =
      in_all there pointers i 0 block (some_within pointers i (λ e. some (sym is ∙ e))) (subst (λ b. Contains (there b) block) (sym is) (is_there block some))

  module _ (direct_long : length inode.direct ≡ 108) (indirect_long : length inode.indirect ≡ 16)
      (tables_long : (k : ℕ) → k < 16 → length (pointers_of_place tables k) ≤ 1024) where
    from_tables : (block : ℕ) → Contains (flat_map (of_table tables) (range_with_len 0 16)) block → IsHeld (pointer_kept inode tables) block
    from_tables block has =
        let found = in_one (of_table tables) (range_with_len 0 16) block has in
        let place = get_or-range_with_len 0 16 found.0 0 (omega (arith, found.1, length-range_with_len 0 16)) ∙ zero_plus found.0 in
        at_table found.0 (omega (arith, found.1, length-range_with_len 0 16)) (subst (λ k. Contains (of_table tables k) block) place (found.2 0))
      where
        at_table : (k : ℕ) → k < 16 → Contains (of_table tables k) block → IsHeld (pointer_kept inode tables) block
        at_table k low one =
            listed_held (pointers_of_place tables k) (λ e. 108 + 1024 * k + e) (λ e within. of_entry e (omega (arith, within, tables_long k low))) block one
          where
            of_entry : (e : ℕ) → e < 1024
                → (108 + 1024 * k + e < PLACES) × (pointer_kept inode tables (108 + 1024 * k + e) ≡ get_or (pointers_of_place tables k) e 0)
            of_entry e within =
                let t : table_of (108 + 1024 * k + e) ≡ k = omega arith in
                let n : entry_of (108 + 1024 * k + e) ≡ e = omega arith in
                (omega arith, table_place (108 + 1024 * k + e) (omega arith) (omega arith) ∙ (λ i. get_or (pointers_of_place tables (t i)) (n i) 0))

    -- all blocks that an inode holds, behind others
    pub held_behind : (old all : List ℕ)
        → all ≡ ((old ++ flat_map there inode.direct) ++ flat_map there inode.indirect) ++ flat_map (of_table tables) (range_with_len 0 16)
        → (block : ℕ) → Contains all block ↔ (Contains old block ⊎ IsHeld (pointer_kept inode tables) block)
    held_behind old all is block = (λ has. to (subst (λ xs. Contains xs block) is has), λ has. subst (λ xs. Contains xs block) (sym is) (from has))
      where
        two : List ℕ
        two = old ++ flat_map there inode.direct

        three : List ℕ
        three = two ++ flat_map there inode.indirect

        to : Contains (three ++ flat_map (of_table tables) (range_with_len 0 16)) block → Contains old block ⊎ IsHeld (pointer_kept inode tables) block
        to has = elim (Contains-append_cases three (flat_map (of_table tables) (range_with_len 0 16)) block has) [
          | inl front ↦ elim (Contains-append_cases two (flat_map there inode.indirect) block front) [
            | inl first ↦ elim (Contains-append_cases old (flat_map there inode.direct) block first) [
              | inl before ↦ inl before
              | inr one ↦ inr (listed_held inode.direct (λ i. i) (λ i within. (omega arith, direct_place i (omega arith))) block one)
            ]
            | inr one ↦ inr (listed_held inode.indirect (λ i. FILE_BLOCKS + i) (λ i within. (omega arith, own_place inode tables i)) block one)
          ]
          | inr one ↦ inr (from_tables block one)
        ]

        from : Contains old block ⊎ IsHeld (pointer_kept inode tables) block → Contains (three ++ flat_map (of_table tables) (range_with_len 0 16)) block
        from (inl before) = Contains-append_left three _ block (Contains-append_left two _ block (Contains-append_left old _ block before))
        from (inr held) = elim (cases_lt held.place 108) [
          | inl low ↦ Contains-append_left three _ block (Contains-append_left two _ block (Contains-append_right old _ block
              (held_listed inode.direct held.place block held.some (sym (direct_place held.place low) ∙ held.stands))))
          | inr high ↦ elim (cases_lt held.place FILE_BLOCKS) [
            | inl below ↦
                let k : table_of held.place < 16 = omega arith in
                let listed : get_or (range_with_len 0 16) (table_of held.place) 0 ≡ table_of held.place =
                get_or-range_with_len 0 16 (table_of held.place) 0 k ∙ zero_plus (table_of held.place) in
                Contains-append_right three _ block
                (in_all (of_table tables) (range_with_len 0 16) (table_of held.place) 0 block (omega (arith, k, length-range_with_len 0 16))
                (subst (λ j. Contains (of_table tables j) block) (sym listed)
                (held_listed (pointers_of_place tables (table_of held.place)) (entry_of held.place) block held.some
                (sym (table_place held.place high below) ∙ held.stands))))
            | inr above ↦
                let back : FILE_BLOCKS + (held.place - FILE_BLOCKS) ≡ held.place = omega arith in
                Contains-append_left three _ block (Contains-append_right two _ block (held_listed inode.indirect (held.place - FILE_BLOCKS) block held.some
                (sym (own_place inode tables (held.place - FILE_BLOCKS)) ∙ ap (pointer_kept inode tables) back ∙ held.stands)))
          ]
        ]
