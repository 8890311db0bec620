-- The blocks of a directory after a net, block by block.
use Rattle.std.proofs.Common.{◌≡◌, ℕ, zero, suc, ◌+◌, ◌<◌, ◌≤◌, Bool, true, false, List, [], ◌∷◌, ◌++◌, length, get_or, take, drop, map, replicate, filter_map, reverse, Option, refl, sym, ap, ◌∙◌, arith}
use Rattle.std.specs.Prelude.{option_to_list}
use Rattle.std.specs.List.{range_with_len}
use Rattle.std.proofs.lemmas.List.{take_more, reverse-append, length-append, length-replicate}
use Rattle.std.proofs.lemmas.List.FromFn.{length-map-range_with_len}
use Rattle.std.proofs.lemmas.List.Elements.{filter_map-append}
use Rattle.sfs_image.specs.Slot.{Row}
use Rattle.absorb.specs.declared.nets.NetRow.{NetRow}
use Rattle.disk_change.specs.Directory.{block_moved, fill_front, rows_left, block_is_touched, old_blocks_after, rows_behind, blocks_touched, block_added, empty_block, blocks_for, rows_new, slot_blocks_after, directory_touched}
use Rattle.sfs_base.proofs.BasicNumbers.{from_zero_plus, suc_joins}
use Rattle.block_map.proofs.Places.{as_list}
use Rattle.disk_change.proofs.Blocks.{drop_none}

-- what a function gives of one item more comes last
pub filter_map_more : {X Y : Type 0} (f : X → Option Y) (xs : List X) (i : ℕ) (d : X) → i < length xs
    → filter_map f (take (i + 1) xs) ≡ filter_map f (take i xs) ++ option_to_list (f (get_or xs i d))
filter_map_more f xs i d within =
    ap (filter_map f) (take_more xs i d within) ∙ filter_map-append f (take i xs) (get_or xs i d ∷ [])
    ∙ ap (λ rest. filter_map f (take i xs) ++ rest) (as_list (f (get_or xs i d)))

module _ (directories : List ℕ) (net : List NetRow) where
  -- one block more takes what the others leave
  pub filled_more : (blocks : List (List (Option Row))) (block : List (Option Row)) (rows : List Row)
      → old_blocks_after directories net (blocks ++ block ∷ []) rows
      ≡ old_blocks_after directories net blocks rows ++ fill_front (block_moved directories net block) (rows_behind directories net blocks rows) ∷ []
  filled_more [] block rows = refl
  filled_more (first ∷ blocks) block rows = ap (λ rest. fill_front (block_moved directories net first) rows ∷ rest) (filled_more blocks block _)

  pub behind_more : (blocks : List (List (Option Row))) (block : List (Option Row)) (rows : List Row)
      → rows_behind directories net (blocks ++ block ∷ []) rows ≡ rows_left (block_moved directories net block) (rows_behind directories net blocks rows)
  behind_more [] block rows = refl
  behind_more (first ∷ blocks) block rows = behind_more blocks block _

  pub touched_more : (blocks : List (List (Option Row))) (block : List (Option Row)) (rows : List Row)
      → blocks_touched directories net (blocks ++ block ∷ []) rows
      ≡ blocks_touched directories net blocks rows ++ block_is_touched directories net block (rows_behind directories net blocks rows) ∷ []
  touched_more [] block rows = refl
  touched_more (first ∷ blocks) block rows = ap (λ rest. block_is_touched directories net first rows ∷ rest) (touched_more blocks block _)

-- one more of the same
pub replicate_more : {X : Type 0} (n : ℕ) (x : X) → replicate (n + 1) x ≡ replicate n x ++ x ∷ []
replicate_more n x = ap (λ m. replicate m x) (one_suc n) ∙ by_count n
  where
    one_suc : (n : ℕ) → n + 1 ≡ suc n
    one_suc n = omega arith

    by_count : (n : ℕ) → replicate (suc n) x ≡ replicate n x ++ x ∷ []
    by_count zero = refl
    by_count (suc n) = ap (λ rest. x ∷ rest) (by_count n)

pub drop_twice : {X : Type 0} (a b : ℕ) (xs : List X) → drop a (drop b xs) ≡ drop (b + a) xs
drop_twice a zero xs = ap (λ n. drop n xs) (from_zero_plus a)
drop_twice a (suc b) [] = drop_none a ∙ sym (drop_none (suc b + a))
drop_twice a (suc b) (x ∷ xs) = drop_twice a b xs ∙ ap (λ n. drop n (x ∷ xs)) (suc_joins b a)

-- a block of empty slots takes 15 rows
pub left_of_empty : (rows : List Row) → rows_left empty_block rows ≡ drop 15 rows
left_of_empty rows = refl

pub reverse_twice : {X : Type 0} (xs : List X) → reverse (reverse xs) ≡ xs
reverse_twice [] = refl
reverse_twice (x ∷ xs) = ap reverse (reverse-append (x ∷ []) xs) ∙ reverse-append (reverse xs) (x ∷ []) ∙ ap (λ rest. x ∷ rest) (reverse_twice xs)

pub map_itself : {X : Type 0} (xs : List X) → map (λ y. y) xs ≡ xs
map_itself [] = refl
map_itself (x ∷ xs) = ap (λ rest. x ∷ rest) (map_itself xs)

-- each block is said to change or not
pub length-directory : (directories : List ℕ) (net : List NetRow) (blocks : List (List (Option Row)))
    → length (directory_touched directories net blocks) ≡ length (slot_blocks_after directories net blocks)
length-directory directories net blocks =
    let rest = rows_behind directories net blocks (rows_new directories net) in
    length-append (blocks_touched directories net blocks (rows_new directories net)) (replicate (blocks_for rest) true)
    ∙ (λ i. one_each blocks (rows_new directories net) i
    + (length-replicate (blocks_for rest) true ∙ sym (length-map-range_with_len (block_added rest) 0 (blocks_for rest))) i)
    ∙ sym (length-append (old_blocks_after directories net blocks (rows_new directories net)) (map (block_added rest) (range_with_len 0 (blocks_for rest))))
  where
    one_each : (blocks : List (List (Option Row))) (rows : List Row)
        → length (blocks_touched directories net blocks rows) ≡ length (old_blocks_after directories net blocks rows)
    one_each [] rows = refl
    one_each (block ∷ blocks) rows = ap suc (one_each blocks _)

-- which blocks change: those that are there by themselves, and all behind them
module _ (directories : List ℕ) (net : List NetRow) (blocks : List (List (Option Row))) where
  flags_long : (blocks : List (List (Option Row))) (rows : List Row) → length (blocks_touched directories net blocks rows) ≡ length blocks
  flags_long [] rows = refl
  flags_long (block ∷ blocks) rows = ap suc (flags_long blocks _)

  pub flags_count : length (directory_touched directories net blocks)
      ≡ length blocks + blocks_for (rows_behind directories net blocks (rows_new directories net))
  flags_count =
      length-append (blocks_touched directories net blocks (rows_new directories net))
      (replicate (blocks_for (rows_behind directories net blocks (rows_new directories net))) true)
      ∙ (λ i. flags_long blocks (rows_new directories net) i
      + length-replicate (blocks_for (rows_behind directories net blocks (rows_new directories net))) true i)

  pub flags_there : (n : ℕ) → n < length blocks
      → get_or (directory_touched directories net blocks) n false ≡ get_or (blocks_touched directories net blocks (rows_new directories net)) n false
  flags_there n low =
      before (blocks_touched directories net blocks (rows_new directories net)) _ n
      (let long = flags_long blocks (rows_new directories net) in omega (arith, long, low))
    where
      before : (xs ys : List Bool) (n : ℕ) → n < length xs → get_or (xs ++ ys) n false ≡ get_or xs n false
      before [] ys n low = absurd (omega (arith, low))
      before (x ∷ xs) ys zero low = refl
      before (x ∷ xs) ys (suc n) low = before xs ys n (omega (arith, low))

  pub flags_behind : (n : ℕ) → length blocks ≤ n → n < length (directory_touched directories net blocks)
      → get_or (directory_touched directories net blocks) n false ≡ true
  flags_behind n past low =
      behind (blocks_touched directories net blocks (rows_new directories net))
      (blocks_for (rows_behind directories net blocks (rows_new directories net))) n
      (let long = flags_long blocks (rows_new directories net) in omega (arith, long, past)) low
    where
      all_true : (count n : ℕ) → n < length (replicate count true) → get_or (replicate count true) n false ≡ true
      all_true zero n low = absurd (omega (arith, low))
      all_true (suc count) zero low = refl
      all_true (suc count) (suc n) low = all_true count n (omega (arith, low))

      behind : (xs : List Bool) (count n : ℕ) → length xs ≤ n → n < length (xs ++ replicate count true) → get_or (xs ++ replicate count true) n false ≡ true
      behind [] count n past low = all_true count n low
      behind (x ∷ xs) count zero past low = absurd (omega (arith, past))
      behind (x ∷ xs) count (suc n) past low = behind xs count n (omega (arith, past)) (omega (arith, low))
