-- Which blocks of a directory a net changes.
use Rattle.std.proofs.Common.{◌≡◌, ◌≢◌, ℕ, zero, suc, ◌+◌, ◌-◌, ◌*◌, ◌<◌, ◌≤◌, Bool, true, false, cond, not, ◌&&◌, ◌||◌, List, [], ◌∷◌, length, get_or, map, drop, replicate, Option, Some, None, is_none, is_some, inl, inr, refl, sym, ap, ◌∙◌, arith, nat_eq, count_by, Contains}
use Rattle.std.specs.Prelude.{slice_get}
use Rattle.std.specs.List.{list_any, range_with_len}
use Rattle.std.specs.Option.{option_map_or, option_eq, unwrap_or}
use Rattle.std.proofs.lemmas.Bool.{cases_Bool, cases_lt}
use Rattle.std.proofs.lemmas.List.{get_or_past, get_or-append-add, get_or_append_left, length-append, length-drop}
use Rattle.std.proofs.lemmas.List.Elements.{Contains-append_left, Contains-append_right}
use Rattle.std.proofs.lemmas.List.FromFn.{get_or-map-range_with_len, length-map-range_with_len}
use Rattle.sfs_base.proofs.BasicNumbers.{same_number, not_same, zero_plus}
use Rattle.sfs_base.proofs.BasicOptions.{none_some, some_same, some_not_none}
use Rattle.sfs_base.proofs.BasicTruth.{or_true}
use Rattle.sfs_image.specs.Slot.{Row}
use Rattle.tree_laws.proofs.Joined.{count-cons}
use Rattle.absorb.specs.declared.nets.NetRow.{NetRow}
use Rattle.image_laws.specs.Commit.{row_in_net}
use Rattle.image_laws.specs.Need.{same_row, same_slots}
use Rattle.image_laws.proofs.Places.{slot_is, slot_itself}
use Rattle.disk_change.specs.Directory.{row_brought, slot_moved, is_in_net, block_moved, row_new, rows_new, fill_front, rows_left, old_blocks_after, rows_behind, block_is_touched, blocks_touched, empty_block, block_added, blocks_for, slot_blocks_after, directory_touched}
use Rattle.disk_change.specs.Numbered.{row_with_inode, row_numbered, slot_numbered, block_numbered}
use Rattle.disk_change.proofs.Blocks.{drop_none}
use Rattle.disk_change.proofs.NumbersGiven.{first_in, further_in, drop_zero}
use Rattle.commit_laws.specs.SlotsKept.{slots_joined}
use Rattle.commit_laws.proofs.Granted.{given_by, in_dropped}
use Rattle.commit_laws.proofs.JoinedSlots.{Slots}
use Rattle.commit_laws.proofs.SlotsKept.{found_there}

-- slots whose test fails are unlike
unlike : (a b : Option Row) → a ≢ b → option_eq same_row a b ≡ false
unlike a b apart = elim (cases_Bool (option_eq same_row a b)) [
  | inl t ↦ absurd (apart (slot_is a b t))
  | inr f ↦ f
]

module _ (numbers : ℕ → Option ℕ) (directories : List ℕ) (net : List NetRow) where
  -- a row that a net brings
  pub record IsBrought (row : Row) : Type 0 where
    pub change : NetRow
    pub one : Contains net change
    pub brought : row_brought directories change ≡ Some row

  -- no row that the net brings is one that stands in a slot whose name the net has
  abbrev pub TellsApart : Slots → Type 0
  TellsApart slots =
      (row : Row) → Contains slots (Some row) → is_in_net net (Some row) ≡ true → (brought : Row) → IsBrought brought → row_numbered numbers net brought ≢ row

  abbrev AreBrought : List Row → Type 0
  AreBrought rows = (row : Row) → Contains rows row → IsBrought row

  new_are_brought : AreBrought (rows_new directories net)
  new_are_brought row there = let change = given_by (row_new directories) net row there in
      record { change = change.0; one = change.1; brought = by (is_none change.0.before) (row_brought directories change.0) change.2 }
    where
      by : (b : Bool) (o : Option Row) → cond b o None ≡ Some row → o ≡ Some row
      by true o e = e
      by false o e = absurd (none_some e)

  -- whether a block changes
  abbrev changes : Slots → Slots → Bool
  changes old new = not (same_slots old (block_numbered numbers net new))

  -- a slot whose name the net has changes
  moved_apart : (row : Row) (rows : List Row) (o : Option Row) → ((brought : Row) → IsBrought brought → row_numbered numbers net brought ≢ row)
      → AreBrought rows
      → ((brought : Row) → o ≡ Some brought → IsBrought brought) → Some row ≢ slot_numbered numbers net (cond (is_none o) (slice_get rows 0) o)
  moved_apart row rows (Some brought) apart new own same = apart brought (own brought refl) (sym (some_same same))
  moved_apart row [] None apart new own same = some_not_none same
  moved_apart row (first ∷ rows) None apart new own same = apart first (new first (first_in first rows)) (sym (some_same same))

  none_dropped : (m : ℕ) → nat_eq (length (drop {A = Row} m [])) 0 ≡ true
  none_dropped m = ap (λ (rows : List Row). nat_eq (length rows) 0) (drop_none m)

  -- the slots of a block change exactly where the block is said to be touched
  slots_touched : (slots : Slots) (rows : List Row) → TellsApart slots → AreBrought rows
      → block_is_touched directories net slots rows ≡ changes slots (fill_front (block_moved directories net slots) rows)
  slots_touched [] rows apart new = ap (λ those. not (nat_eq (length those) (length rows))) (drop_zero rows) ∙ ap not (same_number (length rows))
  slots_touched (None ∷ slots) [] apart new =
      ap (λ b. list_any (is_in_net net) slots || not b)
      (none_dropped (count_by is_none (None ∷ block_moved directories net slots))
      ∙ sym (none_dropped (count_by is_none (block_moved directories net slots))))
      ∙ slots_touched slots [] (λ row there. apart row (further_in None (Some row) slots there)) new
  slots_touched (None ∷ slots) (first ∷ rows) apart new =
      ap (λ b. list_any (is_in_net net) slots || not b)
      (not_same (length (rows_left (None ∷ block_moved directories net slots) (first ∷ rows))) (suc (length rows)) (λ same.
      let count = count-cons {X = Option Row} is_none None (block_moved directories net slots) in
      let left = length-drop (count_by is_none (None ∷ block_moved directories net slots)) (first ∷ rows) in
      omega arith)) ∙ or_true (list_any (is_in_net net) slots)
  slots_touched (Some row ∷ slots) rows apart new =
      by (row_in_net row.name net) refl (slots_touched slots rows (λ other there. apart other (further_in (Some row) (Some other) slots there)) new)
    where
      Rest : Type 0
      Rest = block_is_touched directories net slots rows ≡ changes slots (fill_front (block_moved directories net slots) rows)

      -- a slot that stays has its row
      stays : (slot : Option Row) → slot ≡ Some row → slot_numbered numbers net (Some row) ≡ Some row → Rest
          → (false || list_any (is_in_net net) slots || not (nat_eq (length (rows_left (slot ∷ block_moved directories net slots) rows)) (length rows)))
          ≡ changes (Some row ∷ slots) (fill_front (slot ∷ block_moved directories net slots) rows)
      stays None e own rest = absurd (none_some e)
      stays (Some held) e own rest =
          ap (λ m. list_any (is_in_net net) slots || not (nat_eq (length (drop m rows)) (length rows)))
          (count-cons {X = Option Row} is_none (Some held) (block_moved directories net slots) ∙ zero_plus _)
          ∙ rest
          ∙ sym
          (ap
          (λ (o : Option Row). not
          (option_eq same_row (Some row) (slot_numbered numbers net o)
          && same_slots slots (block_numbered numbers net (fill_front (block_moved directories net slots) rows))))
          e
          ∙ ap (λ (o : Option Row). not
          (option_eq same_row (Some row) o && same_slots slots (block_numbered numbers net (fill_front (block_moved directories net slots) rows))))
          own
          ∙ ap (λ b. not (b && same_slots slots (block_numbered numbers net (fill_front (block_moved directories net slots) rows)))) (slot_itself (Some row)))

      by : (o : Option NetRow) → row_in_net row.name net ≡ o → Rest
          → block_is_touched directories net (Some row ∷ slots) rows
          ≡ changes (Some row ∷ slots) (fill_front (block_moved directories net (Some row ∷ slots)) rows)
      by None e rest =
          ap (λ (o : Option NetRow). (is_some o || list_any (is_in_net net) slots)
          || not (nat_eq (length (rows_left (block_moved directories net (Some row ∷ slots)) rows)) (length rows)))
          e
          ∙ stays (slot_moved directories net (Some row)) (ap (λ (o : Option NetRow). option_map_or (row_brought directories) o (Some row)) e)
          (ap (λ (o : Option NetRow). Some (cond (is_some o) (row_with_inode (unwrap_or (numbers row.inode) 0) row) row)) e) rest
      by (Some change) e rest =
          ap (λ (o : Option NetRow). (is_some o || list_any (is_in_net net) slots)
          || not (nat_eq (length (rows_left (block_moved directories net (Some row ∷ slots)) rows)) (length rows)))
          e
          ∙ sym
          (ap
          (λ b. not
          (b
          && same_slots slots
          (block_numbered numbers net
          (fill_front (block_moved directories net slots)
          (cond (is_none (slot_moved directories net (Some row))) (drop 1 rows) rows)))))
          (unlike (Some row)
          (slot_numbered numbers net (cond (is_none (slot_moved directories net (Some row))) (slice_get rows 0) (slot_moved directories net (Some row))))
          (moved_apart row rows (slot_moved directories net (Some row)) (apart row (first_in (Some row) slots) (ap is_some e)) new
          (λ brought is. record {
            change = change;
            one = found_there row.name net change e;
            brought = sym (ap (λ (o : Option NetRow). option_map_or (row_brought directories) o (Some row)) e) ∙ is;
          }))))

  length_touched : (blocks : List Slots) (rows : List Row) → length (blocks_touched directories net blocks rows) ≡ length blocks
  length_touched [] rows = refl
  length_touched (block ∷ blocks) rows = ap suc (length_touched blocks (rows_left (block_moved directories net block) rows))

  length_old : (blocks : List Slots) (rows : List Row) → length (old_blocks_after directories net blocks rows) ≡ length blocks
  length_old [] rows = refl
  length_old (block ∷ blocks) rows = ap suc (length_old blocks (rows_left (block_moved directories net block) rows))

  -- no block goes before its end is known
  pub length_after : (blocks : List Slots) → length blocks ≤ length (slot_blocks_after directories net blocks)
  length_after blocks =
      let rest = rows_behind directories net blocks (rows_new directories net) in
      let all =
      length-append (old_blocks_after directories net blocks (rows_new directories net)) (map (block_added rest) (range_with_len 0 (blocks_for rest))) in
      omega (arith, length_old blocks (rows_new directories net))

  -- so it is of each block that there was
  old_touched : (blocks : List Slots) (rows : List Row) (n : ℕ) → TellsApart (slots_joined blocks) → AreBrought rows → n < length blocks
      → get_or (blocks_touched directories net blocks rows) n false
      ≡ changes (get_or blocks n empty_block) (get_or (old_blocks_after directories net blocks rows) n empty_block)
  old_touched [] rows n apart new within = absurd (omega arith)
  old_touched (block ∷ blocks) rows zero apart new within =
      slots_touched block rows (λ row there. apart row (Contains-append_left block (slots_joined blocks) (Some row) there)) new
  old_touched (block ∷ blocks) rows (suc n) apart new within =
      old_touched blocks (rows_left (block_moved directories net block) rows) n
      (λ row there. apart row (Contains-append_right block (slots_joined blocks) (Some row) there))
      (λ row there. new row (in_dropped (count_by is_none (block_moved directories net block)) rows row there)) (omega arith)

  module _ (blocks : List Slots) (apart : TellsApart (slots_joined blocks)) where
    abbrev behind : List Row
    behind = rows_behind directories net blocks (rows_new directories net)

    -- a further block has a row
    further_changes : (rows : List Row) (m : ℕ) → m < blocks_for rows → true ≡ changes empty_block (block_added rows m)
    further_changes rows m within = by (drop (15 * m) rows) (length-drop (15 * m) rows)
      where
        by : (rest : List Row) → length rest ≡ length rows - 15 * m → true ≡ changes empty_block (fill_front empty_block rest)
        by [] long = absurd (omega arith)
        by (first ∷ rest) long = refl

    -- a block changes exactly where it is said to be touched
    pub block_touched : (n : ℕ) → n < length (slot_blocks_after directories net blocks)
        → get_or (directory_touched directories net blocks) n false
        ≡ changes (get_or blocks n empty_block) (get_or (slot_blocks_after directories net blocks) n empty_block)
    block_touched n within = elim (cases_lt n (length blocks)) [
      | inl low ↦
          get_or_append_left (blocks_touched directories net blocks (rows_new directories net)) (replicate (blocks_for behind) true) false n
          (omega (arith, low, length_touched blocks (rows_new directories net)))
          ∙ old_touched blocks (rows_new directories net) n apart new_are_brought low
          ∙ ap (changes (get_or blocks n empty_block))
          (sym
          (get_or_append_left (old_blocks_after directories net blocks (rows_new directories net))
          (map (block_added behind) (range_with_len 0 (blocks_for behind))) empty_block n
          (omega (arith, low, length_old blocks (rows_new directories net)))))
      | inr high ↦ further (n - length blocks) (omega arith)
    ]
      where
        further : (m : ℕ) → n ≡ length blocks + m
            → get_or (directory_touched directories net blocks) n false
            ≡ changes (get_or blocks n empty_block) (get_or (slot_blocks_after directories net blocks) n empty_block)
        further m at =
            let long = length_touched blocks (rows_new directories net) in
            let long_old = length_old blocks (rows_new directories net) in
            let all =
            length-append (old_blocks_after directories net blocks (rows_new directories net))
            (map (block_added behind) (range_with_len 0 (blocks_for behind))) in
            let added = length-map-range_with_len (block_added behind) 0 (blocks_for behind) in
            let low : m < blocks_for behind = omega (arith, within, at) in
            ap (λ k. get_or (directory_touched directories net blocks) k false) (at ∙ ap (λ k. k + m) (sym long))
            ∙ get_or-append-add (blocks_touched directories net blocks (rows_new directories net)) (replicate (blocks_for behind) true) m false
            ∙ all_true (blocks_for behind) m low
            ∙ further_changes behind m low
            ∙ ap (λ block. changes block (block_added behind m)) (sym (get_or_past blocks n empty_block (omega arith)))
            ∙ ap (changes (get_or blocks n empty_block))
            (sym (ap (λ k. get_or (slot_blocks_after directories net blocks) k empty_block) (at ∙ ap (λ k. k + m) (sym long_old))
            ∙ get_or-append-add (old_blocks_after directories net blocks (rows_new directories net))
            (map (block_added behind) (range_with_len 0 (blocks_for behind))) m empty_block
            ∙ get_or-map-range_with_len (block_added behind) 0 (blocks_for behind) m m empty_block low (omega arith)))
          where
            all_true : (k m : ℕ) → m < k → get_or (replicate k true) m false ≡ true
            all_true zero m low = absurd (omega arith)
            all_true (suc k) zero low = refl
            all_true (suc k) (suc m) low = all_true k m (omega arith)
