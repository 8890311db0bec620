-- Blocks of a directory that a net leaves as they are, and those that it changes.
use Rattle.std.proofs.Common.{◌≡◌, ℕ, suc, ◌+◌, ◌<◌, ◌≤◌, Bool, true, false, cond, ◌||◌, List, [], ◌∷◌, ◌++◌, length, get_or, take, drop, Option, Some, None, is_none, is_some, refl, sym, ap, ◌∙◌, arith, nat_eq, count_by}
use Rattle.std.specs.Prelude.{not}
use Rattle.std.specs.List.{list_any}
use Rattle.std.specs.Option.{option_map_or, option_copied, option_and_then, unwrap_or}
use denote.Ref.{Bor}
use Rattle.std.proofs.Math.Seq.{drop-cons}
use Rattle.std.proofs.Math.ListN.{set}
use Rattle.std.proofs.lemmas.List.{append_assoc, take_more, length-take, length-drop}
use Rattle.sfs_image.specs.Slot.{Row}
use Rattle.sfs_base.proofs.BasicNumbers.{suc_is_one_more, not_same, same_number}
use Rattle.sfs_base.proofs.BasicTruth.{true_not_false}
use Rattle.tree_laws.proofs.Joined.{count-cons}
use Rattle.absorb.specs.declared.nets.NetRow.{NetRow}
use Rattle.image_laws.specs.Commit.{row_in_net}
use Rattle.disk_change.specs.Directory.{is_in_net, slot_moved, row_brought, block_moved, fill_front, rows_left, block_is_touched, old_blocks_after, rows_behind}
use Rattle.disk_change.specs.Numbered.{slot_numbered, block_numbered, row_with_inode}
use Rattle.disk_change.proofs.Blocks.{drop_none, set_next}
use Rattle.disk_change.proofs.Directories.{filled_more}

-- neither of two truths holds
neither : (a b : Bool) → (a || b) ≡ false → (a ≡ false) × (b ≡ false)
neither true b e = absurd (true_not_false e)
neither false b e = (refl, e)

-- a slot has a name of a net where a row of the net is lent for it
pub is_named : (net : List NetRow) (slot : Option Row) (row : Option (Bor NetRow))
    → option_copied row ≡ option_and_then (λ own. row_in_net own.name net) slot → is_in_net net slot ≡ is_some row
is_named net slot row e = by_slot slot ∙ sym (ap is_some e) ∙ by_row row
  where
    by_slot : (slot : Option Row) → is_in_net net slot ≡ is_some (option_and_then (λ (own : Row). row_in_net own.name net) slot)
    by_slot None = refl
    by_slot (Some own) = refl

    by_row : (row : Option (Bor NetRow)) → is_some (option_copied row) ≡ is_some row
    by_row None = refl
    by_row (Some one) = refl

module _ (net : List NetRow) where
  slot_stays : (directories : List ℕ) (slot : Option Row) → is_in_net net slot ≡ false → slot_moved directories net slot ≡ slot
  slot_stays directories None e = refl
  slot_stays directories (Some row) e = by (row_in_net row.name net) e
    where
      by : (o : Option NetRow) → is_some o ≡ false → option_map_or (row_brought directories) o (Some row) ≡ Some row
      by None e = refl
      by (Some own) e = absurd (true_not_false e)

  slot_keeps : (number : ℕ → Option ℕ) (slot : Option Row) → is_in_net net slot ≡ false → slot_numbered number net slot ≡ slot
  slot_keeps number None e = refl
  slot_keeps number (Some row) e = ap (λ b. Some (cond b (row_with_inode (unwrap_or (number row.inode) 0) row) row)) e

  -- a block without a name of a net is not moved by it
  pub block_stays : (directories : List ℕ) (block : List (Option Row)) → list_any (is_in_net net) block ≡ false → block_moved directories net block ≡ block
  block_stays directories [] e = refl
  block_stays directories (slot ∷ block) e =
      let none = neither (is_in_net net slot) (list_any (is_in_net net) block) e in
      λ i. slot_stays directories slot none.0 i ∷ block_stays directories block none.1 i

  -- and its rows keep their numbers
  pub block_keeps : (number : ℕ → Option ℕ) (block : List (Option Row)) → list_any (is_in_net net) block ≡ false → block_numbered number net block ≡ block
  block_keeps number [] e = refl
  block_keeps number (slot ∷ block) e =
      let none = neither (is_in_net net slot) (list_any (is_in_net net) block) e in
      λ i. slot_keeps number slot none.0 i ∷ block_keeps number block none.1 i

-- without rows nothing is filled
pub fill_none : (block : List (Option Row)) → fill_front block [] ≡ block
fill_none [] = refl
fill_none (None ∷ block) = ap (λ rest. None ∷ rest) (fill_none block)
fill_none (Some row ∷ block) = ap (λ rest. Some row ∷ rest) (fill_none block)

-- and without an empty slot neither
pub fill_full : (block : List (Option Row)) (rows : List Row) → list_any is_none block ≡ false → fill_front block rows ≡ block
fill_full [] rows e = refl
fill_full (None ∷ block) rows e = absurd (true_not_false e)
fill_full (Some row ∷ block) rows e = ap (λ rest. Some row ∷ rest) (fill_full block rows e)

count_full : (block : List (Option Row)) → list_any is_none block ≡ false → count_by is_none block ≡ 0
count_full [] e = refl
count_full (None ∷ block) e = absurd (true_not_false e)
count_full (Some row ∷ block) e = count-cons is_none (Some row) block ∙ ap (λ n. 0 + n) (count_full block e)

count_some : (block : List (Option Row)) → list_any is_none block ≡ true → 1 ≤ count_by is_none block
count_some [] e = absurd (true_not_false (sym e))
count_some (None ∷ block) e = let next = count-cons is_none None block in omega (arith, next)
count_some (Some row ∷ block) e = let next = count-cons is_none (Some row) block in let rest = count_some block e in omega (arith, next, rest)

-- What a block is after a net that leaves it as it is.
pub record Stays (directories : List ℕ) (net : List NetRow) (block : List (Option Row)) (rows : List Row) : Type 0 where
  pub filled : fill_front (block_moved directories net block) rows ≡ block
  pub left : rows_left (block_moved directories net block) rows ≡ rows
  pub untouched : block_is_touched directories net block rows ≡ false

module _ (directories : List ℕ) (net : List NetRow) (block : List (Option Row)) where
  untouched_by : (rows : List Row) → list_any (is_in_net net) block ≡ false → rows_left (block_moved directories net block) rows ≡ rows
      → block_is_touched directories net block rows ≡ false
  untouched_by rows none left =
      (λ i. none i || not (nat_eq (length (left i)) (length rows))) ∙ ap not (same_number (length rows))

  -- a block without a name of the net stays where no row waits
  pub stays_unwaited : (rows : List Row) → list_any (is_in_net net) block ≡ false → rows ≡ [] → Stays directories net block rows
  stays_unwaited rows none nothing =
      let moved = block_stays net directories block none in
      let left = (λ i. rows_left (moved i) (nothing i)) ∙ drop_none (count_by is_none block) ∙ sym nothing in
      record {
        filled = (λ i. fill_front (moved i) (nothing i)) ∙ fill_none block;
        left = left;
        untouched = untouched_by rows none left;
      }

  -- and where it has no empty slot
  pub stays_full : (rows : List Row) → list_any (is_in_net net) block ≡ false → list_any is_none block ≡ false → Stays directories net block rows
  stays_full rows none full =
      let moved = block_stays net directories block none in
      let left = ap (λ b. rows_left b rows) moved ∙ ap (λ n. drop n rows) (count_full block full) in
      record {
        filled = ap (λ b. fill_front b rows) moved ∙ fill_full block rows full;
        left = left;
        untouched = untouched_by rows none left;
      }

  -- a block with a name of the net changes
  pub named_touched : (rows : List Row) → list_any (is_in_net net) block ≡ true → block_is_touched directories net block rows ≡ true
  named_touched rows some = ap (λ b. b || not (nat_eq (length (rows_left (block_moved directories net block) rows)) (length rows))) some

  -- and one that takes rows
  pub filled_touched : (rows : List Row) → list_any (is_in_net net) block ≡ false → list_any is_none block ≡ true → 0 < length rows
      → block_is_touched directories net block rows ≡ true
  filled_touched rows none room some =
      let moved = block_stays net directories block none in
      let taken = count_some block room in
      let long = length-drop (count_by is_none block) rows in
      (λ i. none i || not (nat_eq (length (rows_left (moved i) rows)) (length rows)))
      ∙ ap not (not_same (length (drop (count_by is_none block) rows)) (length rows) (λ e. omega (arith, e, long, taken, some)))

  -- a block that is not touched stays
  pub stays_untouched : (rows : List Row) → block_is_touched directories net block rows ≡ false → Stays directories net block rows
  stays_untouched rows e = by_room (list_any is_none block) refl rows refl
    where
      none : list_any (is_in_net net) block ≡ false
      none = (neither (list_any (is_in_net net) block) (not (nat_eq (length (rows_left (block_moved directories net block) rows)) (length rows))) e).0

      by_room : (b : Bool) → list_any is_none block ≡ b → (those : List Row) → rows ≡ those → Stays directories net block rows
      by_room false full those same = stays_full rows none full
      by_room true room [] same = stays_unwaited rows none same
      by_room true room (row ∷ those) same =
          absurd (true_not_false (sym (filled_touched rows none room (let long = ap length same in omega (arith, long))) ∙ e))

  -- a block without a name of the net is not touched where no row waits
  pub unwaited_untouched : (rows : List Row) → list_any (is_in_net net) block ≡ false → length rows ≡ 0 → block_is_touched directories net block rows ≡ false
  unwaited_untouched [] none long = (stays_unwaited [] none refl).untouched
  unwaited_untouched (row ∷ rows) none long = absurd (omega (arith, long))

  -- and where rows wait it is touched just where it has room
  pub by_room : (rows : List Row) → list_any (is_in_net net) block ≡ false → 0 < length rows → block_is_touched directories net block rows ≡ list_any is_none block
  by_room rows none some = by (list_any is_none block) refl
    where
      by : (b : Bool) → list_any is_none block ≡ b → block_is_touched directories net block rows ≡ b
      by true room = filled_touched rows none room some
      by false full = (stays_full rows none full).untouched

-- a block that is not touched has no name of the net
pub untouched_alone : (directories : List ℕ) (net : List NetRow) (block : List (Option Row)) (rows : List Row)
    → block_is_touched directories net block rows ≡ false → list_any (is_in_net net) block ≡ false
untouched_alone directories net block rows e =
    (neither (list_any (is_in_net net) block) (not (nat_eq (length (rows_left (block_moved directories net block) rows)) (length rows))) e).0

pub length-filled : (directories : List ℕ) (net : List NetRow) (blocks : List (List (Option Row))) (rows : List Row)
    → length (old_blocks_after directories net blocks rows) ≡ length blocks
length-filled directories net [] rows = refl
length-filled directories net (block ∷ blocks) rows = ap suc (length-filled directories net blocks _)

-- blocks of which the first are as they are after a net, and the others as they were, and one more
module _ (directories : List ℕ) (net : List NetRow) (rows : List Row) (blocks : List (List (Option Row))) (n : ℕ) (within : n < length blocks) where
  filled_next : old_blocks_after directories net (take (n + 1) blocks) rows
      ≡ old_blocks_after directories net (take n blocks) rows
      ++ fill_front (block_moved directories net (get_or blocks n [])) (rows_behind directories net (take n blocks) rows) ∷ []
  filled_next =
      ap (λ l. old_blocks_after directories net l rows) (take_more blocks n [] within) ∙ filled_more directories net (take n blocks) (get_or blocks n []) rows

  pub next_put : (now : List (List (Option Row))) (block : List (Option Row)) → now ≡ old_blocks_after directories net (take n blocks) rows ++ drop n blocks
      → block ≡ fill_front (block_moved directories net (get_or blocks n [])) (rows_behind directories net (take n blocks) rows)
      → set now n block ≡ old_blocks_after directories net (take (n + 1) blocks) rows ++ drop (n + 1) blocks
  next_put now block was is =
      ap (λ l. set l n block) was
      ∙ set_next (old_blocks_after directories net (take n blocks) rows) blocks n block
      (let long = length-filled directories net (take n blocks) rows in let cut = length-take n blocks in omega (arith, long, cut, within)) within
      ∙ (λ i. (old_blocks_after directories net (take n blocks) rows ++ is i ∷ []) ++ drop (suc_is_one_more n i) blocks)
      ∙ ap (λ front. front ++ drop (n + 1) blocks) (sym filled_next)

  pub next_stays : (now : List (List (Option Row))) → now ≡ old_blocks_after directories net (take n blocks) rows ++ drop n blocks
      → get_or blocks n [] ≡ fill_front (block_moved directories net (get_or blocks n [])) (rows_behind directories net (take n blocks) rows)
      → now ≡ old_blocks_after directories net (take (n + 1) blocks) rows ++ drop (n + 1) blocks
  next_stays now was is =
      was ∙ ap (λ rest. old_blocks_after directories net (take n blocks) rows ++ rest) (drop-cons blocks n [] within)
      ∙ (λ i. old_blocks_after directories net (take n blocks) rows ++ is i ∷ drop (suc_is_one_more n i) blocks)
      ∙ sym (append_assoc (old_blocks_after directories net (take n blocks) rows) _ (drop (n + 1) blocks))
      ∙ ap (λ front. front ++ drop (n + 1) blocks) (sym filled_next)
