-- Which blocks are given up: those that stood at the places that are rewritten.
use Rattle.std.proofs.Common.{◌≡◌, ◌≢◌, ℕ, zero, suc, ◌+◌, ◌-◌, ◌<◌, Bool, true, false, cond, not, ◌&&◌, List, [], ◌∷◌, ◌++◌, length, get_or, take, Option, Some, None, is_some, inl, inr, refl, sym, ap, subst, ◌∙◌, arith, nat_lt, nat_eq, Contains, eqb}
use Rattle.std.specs.Prelude.{slice_index}
use Rattle.std.specs.List.{range_with_len, flat_map, dedup}
use Rattle.std.specs.List.Sorted.{IsPermutation, IsSorted, IsStrictlyIncreasing}
use Rattle.std.specs.Ordering.{nat_cmp}
use Rattle.std.proofs.lemmas.Bool.{cond-true, cond-false, cases_lt, cases_Bool, lt-ltb, le-ltb, eqb-false, ne_eqb}
use Rattle.std.proofs.lemmas.List.{append-nil, append_assoc, take_more}
use Rattle.std.proofs.lemmas.Grind.{flat_map-append}
use Rattle.std.proofs.lemmas.List.FromFn.{length-range_with_len, get_or-range_with_len}
use Rattle.sfs_base.proofs.BasicTruth.{and_first, and_second, false_not_true, not_true}
use Rattle.sfs_base.proofs.BasicNumbers.{zero_plus}
use Rattle.std.proofs.lemmas.List.Elements.{Contains-append_left, Contains-append_right, Contains-append_cases}
use Rattle.std.proofs.lemmas.List.Kept.{Contains-dedup_nat, Contains-from_dedup}
use Rattle.std.proofs.lemmas.List.Sorted.{Contains-permutation, IsPermutation-sym}
use Rattle.std.proofs.lemmas.Map.Keys.{IsStrictlyIncreasing-dedup}
use Rattle.sfs_image.specs.Inode.{Inode, Table}
use Rattle.sfs_image.specs.Seen.{FILE_BLOCKS}
use Rattle.image_laws.specs.Need.{Rewrite, rewrites_table, table_has_pointer}
use Rattle.block_map.specs.declared.changed.ChangedBlock.{ChangedBlock}
use Rattle.block_map.specs.declared.rewrite.TableFate.TheVariants.{Stays, Goes, IsWritten}
use Rattle.block_map.specs.Changed.{change_of, AscendByBlock}
use Rattle.block_map.specs.Kept.{pointer_kept}
use Rattle.block_map.specs.Remap.{rewrite_of, there, data_left, table_left, table_fate, IsGivenUp, AreFreed}
use Rattle.block_map.proofs.Changes.{change_at, change_stands}
use Rattle.block_map.proofs.Places.{own_place, range_more}

-- a block in a list of its own is that block, and none
pub in_there : (x block : ℕ) → Contains (there x) block → (x ≢ 0) × (x ≡ block)
in_there x block has = elim (cases_Bool (nat_eq x 0)) [
  | inl hole ↦ absurd (no_item block (subst (λ xs. Contains xs block) (cond-true (nat_eq x 0) [] (x ∷ []) hole) has))
  | inr some ↦ (eqb-false x 0 some, only x block (subst (λ xs. Contains xs block) (cond-false (nat_eq x 0) [] (x ∷ []) some) has))
]
  where
    no_item : (b : ℕ) → Contains [] b → ⊥
    no_item b (k, lt, e) = omega arith

    only : (x b : ℕ) → Contains (x ∷ []) b → x ≡ b
    only x b (zero, lt, e) = e
    only x b (suc k, lt, e) = absurd (omega arith)

pub is_there : (x : ℕ) → x ≢ 0 → Contains (there x) x
is_there x some = subst (λ xs. Contains xs x) (sym (cond-false (nat_eq x 0) [] (x ∷ []) (ne_eqb x 0 some))) (0, omega arith, refl)

-- what is in one of several lists is in them all together
pub in_all : {X : Type 0} (f : X → List ℕ) (xs : List X) (i : ℕ) (d : X) (block : ℕ) → i < length xs → Contains (f (get_or xs i d)) block
    → Contains (flat_map f xs) block
in_all f [] i d block within has = absurd (omega arith)
in_all f (x ∷ xs) zero d block within has = Contains-append_left (f x) (flat_map f xs) block has
in_all f (x ∷ xs) (suc i) d block within has = Contains-append_right (f x) (flat_map f xs) block (in_all f xs i d block (omega arith) has)

-- and the other way round
pub in_one : {X : Type 0} (f : X → List ℕ) (xs : List X) (block : ℕ) → Contains (flat_map f xs) block
    → (i : ℕ) × (i < length xs) × ((d : X) → Contains (f (get_or xs i d)) block)
in_one f [] block (k, lt, e) = absurd (omega arith)
in_one f (x ∷ xs) block has = elim (Contains-append_cases (f x) (flat_map f xs) block has) [
  | inl here ↦ (0, omega arith, λ d. here)
  | inr later ↦ let found = in_one f xs block later in (suc found.0, omega (arith, found.1), found.2)
]

abbrev pub ONE : ChangedBlock
ONE = record { block = 0; is_zero = false }

-- the block of an indirect block, where it is given up
abbrev pub of_table : Rewrite → Inode → ℕ → List ℕ
of_table rewrite inode k = there (table_left (table_fate rewrite k) (slice_index inode.indirect k))

module _ (inode : Inode) (tables : List Table) (changed : List ChangedBlock) (up : AscendByBlock changed) where
  abbrev pub rewrite : Rewrite
  rewrite = rewrite_of inode tables changed

  abbrev pub of_data : ChangedBlock → List ℕ
  of_data one = there (data_left (pointer_kept inode tables) one)

  abbrev pub all_left : List ℕ
  all_left = flat_map of_data changed ++ flat_map (of_table rewrite inode) (range_with_len 0 16)

  -- one more rewritten block gives up what it has
  pub data_more : (i : ℕ) (d : ChangedBlock) (freed new : List ℕ) (left : ℕ) → i < length changed → freed ≡ flat_map of_data (take i changed)
      → left ≡ data_left (pointer_kept inode tables) (get_or changed i d)
      → new ≡ freed ++ there left → new ≡ flat_map of_data (take (i + 1) changed)
  data_more i d freed new left within before is after =
      after ∙ (λ j. before j ++ there (is j)) ∙ ap (λ rest. flat_map of_data (take i changed) ++ rest) (sym (append-nil (of_data (get_or changed i d))))
      ∙ sym (flat_map-append of_data (take i changed) (get_or changed i d ∷ [])) ∙ ap (flat_map of_data) (sym (take_more changed i d within))

  -- and one more indirect block
  pub table_more : (k : ℕ) (freed new : List ℕ) (left : ℕ) → freed ≡ flat_map of_data changed ++ flat_map (of_table rewrite inode) (range_with_len 0 k)
      → left ≡ table_left (table_fate rewrite k) (slice_index inode.indirect k) → new ≡ freed ++ there left
      → new ≡ flat_map of_data changed ++ flat_map (of_table rewrite inode) (range_with_len 0 (k + 1))
  table_more k freed new left before is after =
      after ∙ (λ j. before j ++ there (is j))
      ∙ append_assoc (flat_map of_data changed) (flat_map (of_table rewrite inode) (range_with_len 0 k)) (of_table rewrite inode k)
      ∙ ap (λ rest. flat_map of_data changed ++ rest)
      (ap (λ rest. flat_map (of_table rewrite inode) (range_with_len 0 k) ++ rest) (sym (append-nil (of_table rewrite inode k)))
      ∙ sym (flat_map-append (of_table rewrite inode) (range_with_len 0 k) (k ∷ []))
      ∙ ap (flat_map (of_table rewrite inode)) (sym (range_more 0 k ∙ ap (λ m. range_with_len 0 k ++ m ∷ []) (zero_plus k))))

  left_by_tests : (rewritten some : Bool) (block : ℕ) → table_left (cond rewritten (cond some IsWritten Goes) Stays) block ≡ cond rewritten block 0
  left_by_tests true true block = refl
  left_by_tests true false block = refl
  left_by_tests false some block = refl

  -- a rewritten block gives up what stood there
  from_data : (block : ℕ) → Contains (flat_map of_data changed) block → (place : ℕ) × IsGivenUp rewrite block place
  from_data block has =
      let found = in_one of_data changed block has in
      let one : ChangedBlock = get_or changed found.0 ONE in
      let left = in_there (data_left (pointer_kept inode tables) one) block (found.2 ONE) in
      elim (cases_lt one.block FILE_BLOCKS) [
        | inl below ↦
            let is = cond-true (nat_lt one.block FILE_BLOCKS) (pointer_kept inode tables one.block) 0 (lt-ltb one.block FILE_BLOCKS below) in
            let some : pointer_kept inode tables one.block ≢ 0 = λ e. left.0 (is ∙ e) in (
              one.block,
              record {
                within = omega arith;
                given_up =
                    (λ i.
                    (cond-true (nat_lt one.block FILE_BLOCKS) (is_some (change_of changed one.block)) (rewrites_table rewrite (one.block - FILE_BLOCKS))
                    (lt-ltb one.block FILE_BLOCKS below)
                    ∙ ap is_some (change_at changed up found.0 ONE found.1))
                    i
                    && not (ne_eqb (pointer_kept inode tables one.block) 0 some i));
                stands = sym is ∙ left.1;
              },
            )
        | inr above ↦ absurd (left.0 (cond-false (nat_lt one.block FILE_BLOCKS) (pointer_kept inode tables one.block) 0 (le-ltb one.block FILE_BLOCKS above)))
      ]

  -- an indirect block that is rewritten gives up its own
  from_tables : (block : ℕ) → Contains (flat_map (of_table rewrite inode) (range_with_len 0 16)) block → (place : ℕ) × IsGivenUp rewrite block place
  from_tables block has =
      let found = in_one (of_table rewrite inode) (range_with_len 0 16) block has in
      let k : ℕ = get_or (range_with_len 0 16) found.0 0 in
      let within : k < 16 =
      omega (arith, get_or-range_with_len 0 16 found.0 0 (omega (arith, found.1, length-range_with_len 0 16)), found.1, length-range_with_len 0 16) in
      let left = in_there (table_left (table_fate rewrite k) (slice_index inode.indirect k)) block (found.2 0) in
      at_table k block within left.0 left.1
    where
      at_table : (k block : ℕ) → k < 16 → table_left (table_fate rewrite k) (slice_index inode.indirect k) ≢ 0
          → table_left (table_fate rewrite k) (slice_index inode.indirect k) ≡ block
          → (place : ℕ) × IsGivenUp rewrite block place
      at_table k block within some is =
          let own = own_place inode tables k in
          let tests = left_by_tests (rewrites_table rewrite k) (table_has_pointer rewrite k) (slice_index inode.indirect k) in
          elim (cases_Bool (rewrites_table rewrite k)) [
            | inl rewritten ↦
                let left = tests ∙ cond-true (rewrites_table rewrite k) (slice_index inode.indirect k) 0 rewritten in
                let there : pointer_kept inode tables (FILE_BLOCKS + k) ≢ 0 = λ e. some (left ∙ sym own ∙ e) in (
                  FILE_BLOCKS + k,
                  record {
                    within = omega arith;
                    given_up = (λ i. (behind k ∙ rewritten) i && not (ne_eqb (pointer_kept inode tables (FILE_BLOCKS + k)) 0 there i));
                    stands = own ∙ sym left ∙ is;
                  },
                )
            | inr stays ↦ absurd (some (tests ∙ cond-false (rewrites_table rewrite k) (slice_index inode.indirect k) 0 stays))
          ]
        where
          behind : (k : ℕ)
              → cond (nat_lt (FILE_BLOCKS + k) FILE_BLOCKS) (is_some (change_of changed (FILE_BLOCKS + k)))
              (rewrites_table rewrite (FILE_BLOCKS + k - FILE_BLOCKS))
              ≡ rewrites_table rewrite k
          behind k =
              let back : FILE_BLOCKS + k - FILE_BLOCKS ≡ k = omega arith in
              cond-false (nat_lt (FILE_BLOCKS + k) FILE_BLOCKS) _ _ (le-ltb (FILE_BLOCKS + k) FILE_BLOCKS (omega arith)) ∙ ap (rewrites_table rewrite) back

  -- a block that is given up is left
  given_is_left : (block place : ℕ) → IsGivenUp rewrite block place → Contains all_left block
  given_is_left block place is = elim (cases_lt place FILE_BLOCKS) [
    | inl below ↦
        Contains-append_left (flat_map of_data changed) _ block
        (at_block below (change_of changed place) refl (sym (cond-true (nat_lt place FILE_BLOCKS) _ _ (lt-ltb place FILE_BLOCKS below)) ∙ rewritten))
    | inr above ↦
        Contains-append_right (flat_map of_data changed) _ block
        (at_table (place - FILE_BLOCKS) (omega (arith, is.within)) (omega arith)
        (sym (cond-false (nat_lt place FILE_BLOCKS) _ _ (le-ltb place FILE_BLOCKS above)) ∙ rewritten))
  ]
    where
      rewritten : cond (nat_lt place FILE_BLOCKS) (is_some (change_of changed place)) (rewrites_table rewrite (place - FILE_BLOCKS)) ≡ true
      rewritten = and_first (cond (nat_lt place FILE_BLOCKS) (is_some (change_of changed place)) (rewrites_table rewrite (place - FILE_BLOCKS))) _ is.given_up

      some : block ≢ 0
      some e =
          eqb-false (pointer_kept inode tables place) 0
          (not_true _
          (and_second
          (cond (nat_lt place FILE_BLOCKS) (is_some (change_of changed place)) (rewrites_table rewrite (place - FILE_BLOCKS))) _ is.given_up))
          (is.stands ∙ e)

      at_block : place < FILE_BLOCKS → (said : Option ChangedBlock) → change_of changed place ≡ said → is_some (change_of changed place) ≡ true
          → Contains (flat_map of_data changed) block
      at_block below None e t = absurd (false_not_true (sym (ap is_some e) ∙ t))
      at_block below (Some one) e t =
          let found = change_stands changed place one e in
          let left : data_left (pointer_kept inode tables) one ≡ block =
          ap (λ b. cond (nat_lt b FILE_BLOCKS) (pointer_kept inode tables b) 0) found.2
          ∙ cond-true (nat_lt place FILE_BLOCKS) (pointer_kept inode tables place) 0 (lt-ltb place FILE_BLOCKS below) ∙ is.stands in
          in_all of_data changed found.0 one block found.1
          (subst (λ o. Contains (of_data o) block) (sym (found.3 one)) (subst (λ b. Contains (there b) block) (sym left) (is_there block some)))

      at_table : (k : ℕ) → k < 16 → place ≡ FILE_BLOCKS + k → rewrites_table rewrite k ≡ true
          → Contains (flat_map (of_table rewrite inode) (range_with_len 0 16)) block
      at_table k within here t =
          let left : table_left (table_fate rewrite k) (slice_index inode.indirect k) ≡ block =
          left_by_tests (rewrites_table rewrite k) (table_has_pointer rewrite k) (slice_index inode.indirect k)
          ∙ cond-true (rewrites_table rewrite k) (slice_index inode.indirect k) 0 t
          ∙ sym (own_place inode tables k) ∙ ap (pointer_kept inode tables) (sym here) ∙ is.stands in
          let listed : get_or (range_with_len 0 16) k 0 ≡ k = get_or-range_with_len 0 16 k 0 within ∙ zero_plus k in
          in_all (of_table rewrite inode) (range_with_len 0 16) k 0 block (omega (arith, length-range_with_len 0 16))
          (subst (λ j. Contains (of_table rewrite inode j) block) (sym listed) (subst (λ b. Contains (there b) block) (sym left) (is_there block some)))

  -- sorted, and each once, they are the freed blocks
  pub are_freed : (left sorted freed : List ℕ) → left ≡ all_left → IsPermutation left sorted → IsSorted nat_cmp sorted → freed ≡ dedup eqb sorted
      → AreFreed rewrite freed
  are_freed left sorted freed are same order once = record {
    ascending = subst IsStrictlyIncreasing (sym once) (IsStrictlyIncreasing-dedup sorted order);
    each = λ block. (
      (λ has. from_left block
          (subst (λ xs. Contains xs block) are
          (Contains-permutation sorted left block (IsPermutation-sym left sorted same)
          (Contains-from_dedup eqb sorted block (subst (λ xs. Contains xs block) once has))))),
      λ (place, is). subst (λ xs. Contains xs block) (sym once)
          (Contains-dedup_nat sorted block
          (Contains-permutation left sorted block same (subst (λ xs. Contains xs block) (sym are) (given_is_left block place is)))),
    );
  }
    where
      from_left : (block : ℕ) → Contains all_left block → (place : ℕ) × IsGivenUp rewrite block place
      from_left block has = elim (Contains-append_cases (flat_map of_data changed) (flat_map (of_table rewrite inode) (range_with_len 0 16)) block has) [
        | inl data_ ↦ from_data block data_
        | inr table ↦ from_tables block table
      ]
