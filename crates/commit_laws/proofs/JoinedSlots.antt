-- Slots block by block, and all of them in one row.
use Rattle.std.proofs.Common.{◌≡◌, ◌≢◌, ℕ, zero, suc, ◌+◌, ◌*◌, ◌/◌, ◌≤◌, Bool, true, false, cond, ◌&&◌, List, [], ◌∷◌, ◌++◌, length, map, take, drop, replicate, Option, Some, None, is_none, option_map, inl, inr, refl, sym, ap, ◌∙◌, arith, nat_eq, count_by}
use Rattle.std.specs.Int.{div_ceil}
use Rattle.std.specs.List.{range_with_len}
use Rattle.std.proofs.lemmas.Bool.{cases_Bool, eqb-false}
use Rattle.std.proofs.lemmas.List.{append-nil, append_assoc, map-append, length-append, take-append-le, replicate-append-replicate}
use Rattle.std.proofs.lemmas.Grind.{flat_map-append}
use Rattle.std.proofs.Math.Seq.{take-append-add}
use borrow.Author.Tests.{eqb-true}
use Rattle.sfs_base.proofs.BasicLists.{take_none}
use Rattle.sfs_base.proofs.BasicNumbers.{zero_plus, from_zero_plus, suc_is_one_more, suc_joins, not_same}
use Rattle.sfs_base.proofs.BasicTruth.{and_false}
use Rattle.sfs_image.specs.Slot.{Row}
use Rattle.tree_laws.proofs.Joined.{count-cons}
use Rattle.image_laws.specs.Commit.{filled}
use Rattle.image_laws.specs.Slots.{rows_end, in_blocks}
use Rattle.block_map.proofs.Places.{range_more}
use Rattle.disk_change.specs.Directory.{fill_front, rows_left, empty_block, block_added, blocks_for}
use Rattle.disk_change.specs.Seat.{has_no_row, blocks_to_last_row}
use Rattle.disk_change.proofs.Blocks.{fill-append, drop_none}
use Rattle.disk_change.proofs.NumbersGiven.{drop_zero}
use Rattle.commit_laws.specs.SlotsKept.{AreSlotBlocks, slots_joined}

abbrev pub Slots : Type 0
Slots = List (Option Row)

-- each block has the slots of one
unfoldable pub AreLong : List Slots → Type 0
AreLong [] = Unit {0}
AreLong (block ∷ blocks) = (length block ≡ 15) × AreLong blocks

pub long_blocks : (blocks : List Slots) → AreSlotBlocks blocks → AreLong blocks
unfolding AreLong
long_blocks [] long = tt
long_blocks (block ∷ blocks) long = (long block (0, omega arith, refl), long_blocks blocks (λ other (k, within, is). long other (suc k, omega arith, is)))

pub length_joined : (blocks : List Slots) → AreLong blocks → length (slots_joined blocks) ≡ 15 * length blocks
unfolding AreLong
length_joined [] long = refl
length_joined (block ∷ blocks) long = let rest = length_joined blocks long.1 in let first = long.0 in omega (arith, length-append block (slots_joined blocks))

-- slots that no further row fills
fill_none : (slots : Slots) → fill_front slots [] ≡ slots
fill_none [] = refl
fill_none (None ∷ slots) = ap (λ rest. None ∷ rest) (fill_none slots)
fill_none (Some row ∷ slots) = ap (λ rest. Some row ∷ rest) (fill_none slots)

-- filled slots, and the rows behind them
pub filled_is : (slots : Slots) (rows : List Row) → filled slots rows ≡ fill_front slots rows ++ map Some (rows_left slots rows)
filled_is [] [] = refl
filled_is [] (row ∷ rows) = refl
filled_is (slot ∷ slots) [] =
    sym
    (ap (λ front. front ++ map Some (rows_left (slot ∷ slots) [])) (fill_none (slot ∷ slots))
    ∙ ap (λ rows. (slot ∷ slots) ++ map Some rows) (drop_none (count_by is_none (slot ∷ slots))) ∙ append-nil (slot ∷ slots))
filled_is (None ∷ slots) (row ∷ rows) =
    ap (λ rest. Some row ∷ rest) (filled_is slots rows ∙ (λ i. fill_front slots (sym (drop_zero rows) i) ++ map Some (sym left i)))
  where
    left : rows_left (None ∷ slots) (row ∷ rows) ≡ rows_left slots rows
    left = ap (λ n. drop n (row ∷ rows)) (count-cons is_none None slots ∙ next (count_by is_none slots))
      where
        next : (n : ℕ) → 1 + n ≡ suc n
        next n = omega arith
filled_is (Some held ∷ slots) (row ∷ rows) =
    ap (λ rest. Some held ∷ rest)
    (filled_is slots (row ∷ rows)
    ∙ ap (λ n. fill_front slots (row ∷ rows) ++ map Some (drop n (row ∷ rows))) (sym (count-cons is_none (Some held) slots ∙ zero_plus _)))

-- rows that are each changed
module _ (f : Row → Row) where
  pub filled_mapped : (slots : Slots) (rows : List Row) → map (option_map f) (filled slots rows) ≡ filled (map (option_map f) slots) (map f rows)
  filled_mapped [] [] = refl
  filled_mapped [] (row ∷ rows) = ap (λ rest. Some (f row) ∷ rest) (filled_mapped [] rows)
  filled_mapped (slot ∷ slots) [] = refl
  filled_mapped (None ∷ slots) (row ∷ rows) = ap (λ rest. Some (f row) ∷ rest) (filled_mapped slots rows)
  filled_mapped (Some held ∷ slots) (row ∷ rows) = ap (λ rest. Some (f held) ∷ rest) (filled_mapped slots (row ∷ rows))

  rows_end_mapped : (slots : Slots) → rows_end (map (option_map f) slots) ≡ rows_end slots
  rows_end_mapped [] = refl
  rows_end_mapped (None ∷ slots) = ap (λ n. cond (nat_eq n 0) 0 (suc n)) (rows_end_mapped slots)
  rows_end_mapped (Some row ∷ slots) = ap suc (rows_end_mapped slots)

  taken_mapped : (n : ℕ) (slots : Slots) → map (option_map f) (take n slots) ≡ take n (map (option_map f) slots)
  taken_mapped zero [] = refl
  taken_mapped zero (slot ∷ slots) = refl
  taken_mapped (suc n) [] = refl
  taken_mapped (suc n) (slot ∷ slots) = ap (λ rest. option_map f slot ∷ rest) (taken_mapped n slots)

  empty_mapped : (n : ℕ) → map (option_map f) (replicate n None) ≡ replicate n None
  empty_mapped zero = refl
  empty_mapped (suc n) = ap (λ rest. None ∷ rest) (empty_mapped n)

  pub in_blocks_mapped : (slots : Slots) → map (option_map f) (in_blocks slots) ≡ in_blocks (map (option_map f) slots)
  in_blocks_mapped slots =
      let n : ℕ = 15 * ((rows_end slots + 14) / 15) in
      taken_mapped n (slots ++ replicate n None)
      ∙ ap (take n) (map-append (option_map f) slots (replicate n None) ∙ ap (λ rest. map (option_map f) slots ++ rest) (empty_mapped n))
      ∙ ap (λ e. take (15 * ((e + 14) / 15)) (map (option_map f) slots ++ replicate (15 * ((e + 14) / 15)) None)) (sym (rows_end_mapped slots))

pub joined_mapped : (f : Option Row → Option Row) (blocks : List Slots) → slots_joined (map (map f) blocks) ≡ map f (slots_joined blocks)
joined_mapped f [] = refl
joined_mapped f (block ∷ blocks) = ap (λ rest. map f block ++ rest) (joined_mapped f blocks) ∙ sym (map-append f block (slots_joined blocks))

-- further blocks have the rows, and are filled up with empty slots
count_empties : (m : ℕ) → count_by is_none (replicate {A = Option Row} m None) ≡ m
count_empties zero = refl
count_empties (suc m) = let first = count-cons {X = Option Row} is_none None (replicate m None) in let rest = count_empties m in omega arith

joined_added : (rows : List Row) (k : ℕ) → slots_joined (map (block_added rows) (range_with_len 0 k)) ≡ fill_front (replicate (15 * k) None) rows
joined_added rows zero = refl
joined_added rows (suc k) =
    ap (λ places. slots_joined (map (block_added rows) places)) (ap (range_with_len 0) (suc_is_one_more k) ∙ range_more 0 k)
    ∙ ap slots_joined (map-append (block_added rows) (range_with_len 0 k) ((0 + k) ∷ []))
    ∙ flat_map-append (λ block. block) (map (block_added rows) (range_with_len 0 k)) (block_added rows (0 + k) ∷ [])
    ∙ (λ i. joined_added rows k i ++ (append-nil (block_added rows (0 + k)) ∙ ap (block_added rows) (zero_plus k)) i)
    ∙ ap (λ n. fill_front (replicate (15 * k) None) rows ++ fill_front empty_block (drop n rows)) (sym (count_empties (15 * k)))
    ∙ sym (fill-append (replicate (15 * k) None) empty_block rows)
    ∙ ap (λ slots. fill_front slots rows) (replicate-append-replicate (15 * k) 15 None ∙ ap (λ n. replicate n None) (more k))
  where
    more : (k : ℕ) → 15 * k + 15 ≡ 15 * suc k
    more k = omega arith

fill_empties : (m : ℕ) (rows : List Row) → length rows ≤ m → (j : ℕ) × (fill_front (replicate m None) rows ≡ map Some rows ++ replicate j None)
fill_empties zero [] within = (0, refl)
fill_empties zero (row ∷ rows) within = absurd (omega arith)
fill_empties (suc m) [] within = let rest = fill_empties m [] (omega arith) in (suc rest.0, ap (λ slots. None ∷ slots) rest.1)
fill_empties (suc m) (row ∷ rows) within =
    let rest = fill_empties m rows (omega arith) in
    (rest.0, ap (λ slots. Some row ∷ slots) (ap (fill_front (replicate m None)) (drop_zero rows) ∙ rest.1))

pub added_blocks : (rows : List Row)
    → (j : ℕ) × (slots_joined (map (block_added rows) (range_with_len 0 (blocks_for rows))) ≡ map Some rows ++ replicate j None)
added_blocks rows =
    let padding = fill_empties (15 * blocks_for rows) rows (enough (length rows)) in
    (padding.0, joined_added rows (blocks_for rows) ∙ padding.1)
  where
    enough : (n : ℕ) → n ≤ 15 * div_ceil n 15
    enough n = omega arith

-- empty slots behind are cut off
rows_end_empty : (j : ℕ) → rows_end (replicate j None) ≡ 0
rows_end_empty zero = refl
rows_end_empty (suc j) = ap (λ n. cond (nat_eq n 0) 0 (suc n)) (rows_end_empty j)

rows_end_padded : (slots : Slots) (j : ℕ) → rows_end (slots ++ replicate j None) ≡ rows_end slots
rows_end_padded [] j = rows_end_empty j
rows_end_padded (slot ∷ slots) j = ap (λ n. cond (is_none slot && nat_eq n 0) 0 (suc n)) (rows_end_padded slots j)

take_padded : (n : ℕ) (slots : Slots) (a b : ℕ) → n ≤ a → n ≤ b → take n (slots ++ replicate a None) ≡ take n (slots ++ replicate b None)
take_padded zero slots a b le other = take_none (slots ++ replicate a None) ∙ sym (take_none (slots ++ replicate b None))
take_padded (suc n) [] zero b le other = absurd (omega arith)
take_padded (suc n) [] (suc a) zero le other = absurd (omega arith)
take_padded (suc n) [] (suc a) (suc b) le other = ap (λ rest. None ∷ rest) (take_padded n [] a b (omega arith) (omega arith))
take_padded (suc n) (slot ∷ slots) a b le other = ap (λ rest. slot ∷ rest) (take_padded n slots a b (omega arith) (omega arith))

pub in_blocks_padded : (slots : Slots) (j : ℕ) → in_blocks (slots ++ replicate j None) ≡ in_blocks slots
in_blocks_padded slots j =
    let n : ℕ = 15 * ((rows_end slots + 14) / 15) in
    ap (λ e. take (15 * ((e + 14) / 15)) ((slots ++ replicate j None) ++ replicate (15 * ((e + 14) / 15)) None)) (rows_end_padded slots j)
    ∙ ap (take n) (append_assoc slots (replicate j None) (replicate n None) ∙ ap (λ rest. slots ++ rest) (replicate-append-replicate j n None))
    ∙ take_padded n slots (j + n) n (omega arith) (omega arith)

-- where the rows of joined slots end
rows_end_within : (slots : Slots) → rows_end slots ≤ length slots
rows_end_within [] = omega arith
rows_end_within (slot ∷ slots) = by (is_none slot && nat_eq (rows_end slots) 0) (rows_end_within slots)
  where
    by : (b : Bool) → rows_end slots ≤ length slots → cond b 0 (suc (rows_end slots)) ≤ suc (length slots)
    by true le = omega arith
    by false le = omega arith

end_in_first : (block slots : Slots) → rows_end slots ≡ 0 → rows_end (block ++ slots) ≡ rows_end block
end_in_first [] slots none = none
end_in_first (slot ∷ block) slots none = ap (λ n. cond (is_none slot && nat_eq n 0) 0 (suc n)) (end_in_first block slots none)

end_behind : (block slots : Slots) → rows_end slots ≢ 0 → rows_end (block ++ slots) ≡ length block + rows_end slots
end_behind [] slots some = from_zero_plus (rows_end slots)
end_behind (slot ∷ block) slots some =
    let rest = end_behind block slots some in
    let far : rows_end (block ++ slots) ≢ 0 = λ e. some (omega arith) in
    ap (λ b. cond (is_none slot && b) 0 (suc (rows_end (block ++ slots)))) (not_same (rows_end (block ++ slots)) 0 far)
    ∙ ap (λ b. cond b 0 (suc (rows_end (block ++ slots)))) (and_false (is_none slot)) ∙ ap suc rest ∙ suc_joins (length block) (rows_end slots)

no_row_is : (block : Slots) → has_no_row block ≡ nat_eq (rows_end block) 0
no_row_is [] = refl
no_row_is (None ∷ block) = no_row_is block ∙ sym (by (nat_eq (rows_end block) 0))
  where
    by : (b : Bool) → nat_eq (cond b 0 (suc (rows_end block))) 0 ≡ b
    by true = refl
    by false = not_same (suc (rows_end block)) 0 (λ e. omega arith)
no_row_is (Some row ∷ block) = sym (not_same (suc (rows_end block)) 0 (λ e. omega arith))

-- the blocks up to the last one with a row
pub end_is : (blocks : List Slots) → AreLong blocks → blocks_to_last_row blocks ≡ (rows_end (slots_joined blocks) + 14) / 15
unfolding AreLong
end_is [] long = refl
end_is (block ∷ blocks) long = elim (cases_Bool (nat_eq (rows_end (slots_joined blocks)) 0)) [
  | inl t ↦
      let none = eqb-true (rows_end (slots_joined blocks)) 0 t in
      let rest : blocks_to_last_row blocks ≡ 0 = end_is blocks long.1 ∙ ap (λ n. (n + 14) / 15) none in
      (λ i. cond (no_row_is block i && nat_eq (rest i) 0) 0 (suc (rest i))) ∙ first (rows_end block) (omega (arith, rows_end_within block, long.0))
      ∙ ap (λ n. (n + 14) / 15) (sym (end_in_first block (slots_joined blocks) none))
  | inr f ↦
      let some = eqb-false (rows_end (slots_joined blocks)) 0 f in
      let rest = end_is blocks long.1 in
      let far : blocks_to_last_row blocks ≢ 0 = λ e. some (omega arith) in
      ap (λ b. cond (has_no_row block && b) 0 (suc (blocks_to_last_row blocks))) (not_same (blocks_to_last_row blocks) 0 far)
      ∙ ap (λ b. cond b 0 (suc (blocks_to_last_row blocks))) (and_false (has_no_row block))
      ∙ further (blocks_to_last_row blocks) (rows_end (slots_joined blocks)) (length block) rest long.0
      ∙ ap (λ n. (n + 14) / 15) (sym (end_behind block (slots_joined blocks) some))
]
  where
    first : (r : ℕ) → r ≤ 15 → cond (nat_eq r 0 && true) 0 1 ≡ (r + 14) / 15
    first zero le = refl
    first (suc r) le = ap (λ b. cond (b && true) 0 1) (not_same (suc r) 0 (λ e. omega arith)) ∙ one (suc r) (omega arith) le
      where
        one : (n : ℕ) → 1 ≤ n → n ≤ 15 → 1 ≡ (n + 14) / 15
        one n low high = omega arith

    further : (end e long : ℕ) → end ≡ (e + 14) / 15 → long ≡ 15 → suc end ≡ (long + e + 14) / 15
    further end e long is whole = omega arith

joined_taken : (blocks : List Slots) → AreLong blocks → (n : ℕ) → slots_joined (take n blocks) ≡ take (15 * n) (slots_joined blocks)
unfolding AreLong
joined_taken [] long zero = refl
joined_taken [] long (suc n) = none (15 * suc n)
  where
    none : (m : ℕ) → [] ≡ take {A = Option Row} m []
    none zero = refl
    none (suc m) = refl
joined_taken (block ∷ blocks) long zero = sym (take_none (block ++ slots_joined blocks))
joined_taken (block ∷ blocks) long (suc n) =
    ap (λ rest. block ++ rest) (joined_taken blocks long.1 n) ∙ sym (take-append-add block (slots_joined blocks) (15 * n))
    ∙ ap (λ m. take m (block ++ slots_joined blocks)) (let whole = long.0 in omega arith)

pub joined_kept : (blocks : List Slots) → AreLong blocks → slots_joined (take (blocks_to_last_row blocks) blocks) ≡ in_blocks (slots_joined blocks)
joined_kept blocks long =
    let slots = slots_joined blocks in
    let n : ℕ = (rows_end slots + 14) / 15 in
    let low = rows_end_within slots in
    let whole = length_joined blocks long in
    ap (λ k. slots_joined (take k blocks)) (end_is blocks long) ∙ joined_taken blocks long n
    ∙ sym (take-append-le (15 * n) slots (replicate (15 * n) None) (omega arith))
