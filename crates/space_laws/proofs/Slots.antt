-- What stands in the slots of a directory after a net can stand in slots.
use Rattle.std.proofs.Common.{◌≡◌, ℕ, zero, suc, ◌*◌, ◌<◌, Bool, true, false, cond, List, [], ◌∷◌, length, map, drop, replicate, Option, Some, None, option_map, is_some, is_none, inl, inr, refl, sym, ap, subst, ◌∙◌, arith, count_by, Contains}
use Rattle.std.specs.Prelude.{◌^◌, All, bytes_eq}
use Rattle.std.specs.List.{cons_option, find, range_with_len}
use Rattle.std.specs.Option.{option_map_or, unwrap_or}
use Rattle.std.proofs.lemmas.List.{length-map, length-replicate}
use Rattle.std.proofs.lemmas.List.Elements.{All-cons, All-nil, Contains-append_cases}
use Rattle.sfs_base.specs.declared.numbers.NodeId.{NodeId}
use Rattle.sfs_base.specs.Name.{name_fault}
use Rattle.sfs_base.proofs.BasicLists.{same_bytes}
use Rattle.sfs_base.proofs.BasicTruth.{true_not_false}
use Rattle.sfs_image.specs.Slot.{Row, IsSlot}
use Rattle.sfs_image.specs.SlotBlock.{AreSlots}
use Rattle.tree_laws.specs.Tree.{kind_if}
use Rattle.absorb.specs.declared.nets.NetRow.{NetRow}
use Rattle.image_laws.specs.Commit.{row_in_net}
use Rattle.disk_change.specs.Directory.{is_among, row_brought, slot_moved, block_moved, row_new, rows_new, fill_front, rows_left, old_blocks_after, rows_behind, empty_block, block_added, blocks_for, slot_blocks_after}
use Rattle.disk_change.specs.Numbered.{slot_numbered, block_numbered, row_with_inode}
use Rattle.disk_change.proofs.Blocks.{length-fill}
use Rattle.disk_change.proofs.NumbersGiven.{first_in, further_in}
use Rattle.commit_laws.proofs.OwnInodes.{mapped_is_in}
use Rattle.commit_laws.proofs.SlotsKept.{found_there}

-- what passes a test is found
find_some : {X : Type 0} (test : X → Bool) (xs : List X) (x : X) → Contains xs x → test x ≡ true → is_some (find test xs) ≡ true
find_some test [] x (k, within, is) passes = absurd (omega arith)
find_some test (y ∷ xs) x (zero, within, is) passes = ap (λ b. is_some (cond b (Some y) (find test xs))) (ap test is ∙ passes)
find_some test (y ∷ xs) x (suc k, within, is) passes = by (test y) (find_some test xs x (k, omega arith, is) passes)
  where
    by : (b : Bool) → is_some (find test xs) ≡ true → is_some (cond b (Some y) (find test xs)) ≡ true
    by true rest = refl
    by false rest = rest

-- A row has a name, and an inode for which a slot has room, unless it is of a net, whose inodes are still to come.
pub record RowFits (net : List NetRow) (row : Row) : Type 0 where
  pub name : name_fault row.name ≡ None
  pub inode : is_some (row_in_net row.name net) ≡ false → row.inode < 2 ^ 32

-- a slot has such a row, or none
abbrev pub SlotFits : List NetRow → Option Row → Type 0
SlotFits net None = Unit {0}
SlotFits net (Some row) = RowFits net row

abbrev pub SlotsFit : List NetRow → List (Option Row) → Type 0
SlotsFit net [] = Unit {0}
SlotsFit net (slot ∷ slots) = SlotFits net slot × SlotsFit net slots

abbrev RowsFit : List NetRow → List Row → Type 0
RowsFit net [] = Unit {0}
RowsFit net (row ∷ rows) = RowFits net row × RowsFit net rows

-- a block has the slots of one, and they have such rows
pub record BlockFits (net : List NetRow) (block : List (Option Row)) : Type 0 where
  pub count : length block ≡ 15
  pub slots : SlotsFit net block

-- slots of which each fits
pub slots_fit : (net : List NetRow) (slots : List (Option Row)) → ((slot : Option Row) → Contains slots slot → SlotFits net slot) → SlotsFit net slots
slots_fit net [] each = tt
slots_fit net (slot ∷ slots) each = (each slot (first_in slot slots), slots_fit net slots (λ other there. each other (further_in slot other slots there)))

rows_dropped : (net : List NetRow) (n : ℕ) (rows : List Row) → RowsFit net rows → RowsFit net (drop n rows)
rows_dropped net zero [] fits = tt
rows_dropped net zero (row ∷ rows) fits = fits
rows_dropped net (suc n) [] fits = tt
rows_dropped net (suc n) (row ∷ rows) fits = rows_dropped net n rows fits.1

-- slots that are filled with rows
fill_fits : (net : List NetRow) (slots : List (Option Row)) (rows : List Row) → SlotsFit net slots → RowsFit net rows → SlotsFit net (fill_front slots rows)
fill_fits net [] rows fits rows_fit = tt
fill_fits net (None ∷ slots) [] fits rows_fit = (tt, fill_fits net slots [] fits.1 tt)
fill_fits net (None ∷ slots) (row ∷ rows) fits rows_fit =
    (rows_fit.0, fill_fits net slots (drop 1 (row ∷ rows)) fits.1 (rows_dropped net 1 (row ∷ rows) rows_fit))
fill_fits net (Some row ∷ slots) rows fits rows_fit = (fits.0, fill_fits net slots rows fits.1 rows_fit)

empty_fits : (net : List NetRow) (n : ℕ) → SlotsFit net (replicate n None)
empty_fits net zero = tt
empty_fits net (suc n) = (tt, empty_fits net n)

module _ (directories : List ℕ) (net : List NetRow) (good : (change : NetRow) → Contains net change → name_fault change.name ≡ None) where
  -- a row that a net brings
  brought_fits : (change : NetRow) → Contains net change → SlotFits net (row_brought directories change)
  brought_fits change there = by change.after
    where
      found : is_some (row_in_net change.name net) ≡ true
      found = find_some (λ row. bytes_eq change.name row.name) net change there (same_bytes change.name)

      by : (o : Option NodeId)
          → SlotFits net (option_map (λ child. record { inode = child.0; kind = kind_if (is_among directories child.0); name = change.name }) o)
      by None = tt
      by (Some child) = record { name = good change there; inode = λ none. absurd (true_not_false (sym found ∙ none)) }

  -- a slot after the net, before new names come
  moved_fits : (slot : Option Row) → SlotFits net slot → SlotFits net (slot_moved directories net slot)
  moved_fits None fits = tt
  moved_fits (Some row) fits = by (row_in_net row.name net) refl
    where
      by : (o : Option NetRow) → row_in_net row.name net ≡ o → SlotFits net (option_map_or (row_brought directories) o (Some row))
      by None e = fits
      by (Some change) e = brought_fits change (found_there row.name net change e)

  all_moved : (slots : List (Option Row)) → SlotsFit net slots → SlotsFit net (map (slot_moved directories net) slots)
  all_moved [] fits = tt
  all_moved (slot ∷ slots) fits = (moved_fits slot fits.0, all_moved slots fits.1)

  -- the rows of the names that are new
  new_fit : (rest : List NetRow) → ((change : NetRow) → Contains rest change → Contains net change) → RowsFit net (rows_new directories rest)
  new_fit [] there = tt
  new_fit (change ∷ rest) there =
      with_one (row_new directories change) (by (is_none change.before)) (new_fit rest (λ other is. there other (further_in change other rest is)))
    where
      by : (b : Bool) → SlotFits net (cond b (row_brought directories change) None)
      by true = brought_fits change (there change (first_in change rest))
      by false = tt

      with_one : (o : Option Row) → SlotFits net o → RowsFit net (rows_new directories rest) → RowsFit net (cons_option o (rows_new directories rest))
      with_one None fits others = others
      with_one (Some row) fits others = (fits, others)

  -- the blocks as many as there were, and the rows that they leave
  old_fit : (blocks : List (List (Option Row))) (rows : List Row) → ((block : List (Option Row)) → Contains blocks block → BlockFits net block)
      → RowsFit net rows
      → (block : List (Option Row)) → Contains (old_blocks_after directories net blocks rows) block → BlockFits net block
  old_fit [] rows each rows_fit block (k, within, is) = absurd (omega arith)
  old_fit (first ∷ blocks) rows each rows_fit block (zero, within, is) = subst (BlockFits net) is (record {
    count = length-fill (block_moved directories net first) rows ∙ length-map first (slot_moved directories net) ∙ (each first (first_in first blocks)).count;
    slots = fill_fits net (block_moved directories net first) rows (all_moved first (each first (first_in first blocks)).slots) rows_fit;
  })
  old_fit (first ∷ blocks) rows each rows_fit block (suc k, within, is) =
      old_fit blocks (rows_left (block_moved directories net first) rows) (λ other there. each other (further_in first other blocks there))
      (rows_dropped net (count_by is_none (block_moved directories net first)) rows rows_fit) block (k, omega arith, is)

  behind_fit : (blocks : List (List (Option Row))) (rows : List Row) → RowsFit net rows → RowsFit net (rows_behind directories net blocks rows)
  behind_fit [] rows fits = fits
  behind_fit (first ∷ blocks) rows fits =
      behind_fit blocks (rows_left (block_moved directories net first) rows) (rows_dropped net (count_by is_none (block_moved directories net first)) rows fits)

  -- all blocks after the net
  pub after_fits : (blocks : List (List (Option Row))) → ((block : List (Option Row)) → Contains blocks block → BlockFits net block)
      → (block : List (Option Row)) → Contains (slot_blocks_after directories net blocks) block → BlockFits net block
  after_fits blocks each block there =
      elim (Contains-append_cases (old_blocks_after directories net blocks (rows_new directories net))
      (map (block_added rest) (range_with_len 0 (blocks_for rest))) block there) [
        | inl old_one ↦ old_fit blocks (rows_new directories net) each (new_fit net (λ change is. is)) block old_one
        | inr added ↦
            let n = mapped_is_in (block_added rest) (range_with_len 0 (blocks_for rest)) block added in
            subst (BlockFits net) n.2 (record {
              count = length-fill empty_block (drop (15 * n.0) rest) ∙ length-replicate {A = Option Row} 15 None;
              slots =
                  fill_fits net empty_block (drop (15 * n.0) rest) (empty_fits net 15)
                  (rows_dropped net (15 * n.0) rest (behind_fit blocks (rows_new directories net) (new_fit net (λ change is. is))));
            })
      ]
    where
      rest : List Row
      rest = rows_behind directories net blocks (rows_new directories net)

-- with the numbers of a net's children such slots can stand in a block
module _ (net : List NetRow) (numbers : ℕ → Option ℕ) (low : (node : ℕ) → unwrap_or (numbers node) 0 < 2 ^ 32) where
  numbered_fits : (slot : Option Row) → SlotFits net slot → IsSlot (slot_numbered numbers net slot)
  numbered_fits None fits = tt
  numbered_fits (Some row) fits = by (is_some (row_in_net row.name net)) refl
    where
      by : (b : Bool) → is_some (row_in_net row.name net) ≡ b → IsSlot (Some (cond b (row_with_inode (unwrap_or (numbers row.inode) 0) row) row))
      by true e = (low row.inode, fits.name)
      by false e = (fits.inode e, fits.name)

  all_numbered : (slots : List (Option Row)) → SlotsFit net slots → All IsSlot (map (slot_numbered numbers net) slots)
  all_numbered [] fits = All-nil IsSlot
  all_numbered (slot ∷ slots) fits =
      All-cons IsSlot (slot_numbered numbers net slot) (map (slot_numbered numbers net) slots) (numbered_fits slot fits.0) (all_numbered slots fits.1)

  pub block_stands : (block : List (Option Row)) → BlockFits net block → AreSlots (block_numbered numbers net block)
  block_stands block fits = record { count = length-map block (slot_numbered numbers net) ∙ fits.count; sound = all_numbered block fits.slots }
