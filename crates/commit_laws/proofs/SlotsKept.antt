-- The slots of a directory after a net are those of a commit.
use Rattle.std.proofs.Common.{◌≡◌, ℕ, zero, suc, ◌*◌, Bool, true, false, cond, List, [], ◌∷◌, ◌++◌, length, map, take, drop, replicate, Option, Some, None, is_none, is_some, option_map, inr, refl, sym, ap, subst, ◌∙◌, arith, Contains}
use Rattle.std.specs.Prelude.{bytes_eq}
use Rattle.std.specs.List.{cons_option, range_with_len}
use Rattle.std.specs.Option.{option_map_or, unwrap_or}
use Rattle.std.proofs.lemmas.Bool.{cond-true}
use Rattle.std.proofs.lemmas.List.{append_assoc, map-append}
use Rattle.std.proofs.lemmas.Grind.{flat_map-append}
use Rattle.sfs_base.specs.declared.numbers.NodeId.{NodeId}
use Rattle.sfs_base.proofs.BasicLists.{same_bytes}
use Rattle.sfs_base.proofs.BasicOptions.{some_same, none_some}
use Rattle.sfs_image.specs.Slot.{Row}
use Rattle.tree_laws.specs.NameRow.{number_of}
use Rattle.tree_laws.specs.Tree.{TreeState, is_directory, kind_of, kind_if, kind_again}
use Rattle.tree_laws.proofs.Readings.{directory_by_kind}
use Rattle.absorb.specs.declared.nets.NetRow.{NetRow}
use Rattle.image_laws.specs.Commit.{row_in_net, brought_row, slot_after, new_rows, filled, slots_after}
use Rattle.image_laws.specs.Renamed.{Numbering}
use Rattle.image_laws.specs.Slots.{in_blocks}
use Rattle.image_laws.specs.Stands.{row_on}
use Rattle.disk_change.specs.Directory.{is_among, row_brought, slot_moved, block_moved, row_new, rows_new, fill_front, rows_left, old_blocks_after, rows_behind, empty_block, block_added, blocks_for, slot_blocks_after}
use Rattle.disk_change.specs.Numbered.{row_numbered, slot_numbered}
use Rattle.disk_change.specs.Seat.{blocks_to_last_row}
use Rattle.disk_change.proofs.Blocks.{fill-append, left-append, length-fill}
use Rattle.commit_laws.specs.KnownKinds.{KnowsChildren, NumbersChildren}
use Rattle.commit_laws.specs.SlotsKept.{slots_joined, NetSlotsAreThose}
use Rattle.disk_change.proofs.NumbersGiven.{first_in, further_in}
use Rattle.commit_laws.proofs.JoinedSlots.{Slots, joined_kept, in_blocks_padded, in_blocks_mapped, joined_mapped, AreLong, long_blocks, filled_is, filled_mapped, added_blocks}

-- a row of the net is found under its name
found_in : (rest : List NetRow) (change : NetRow) → Contains rest change → is_some (row_in_net change.name rest) ≡ true
found_in [] change (k, within, is) = absurd (omega arith)
found_in (row ∷ rest) change (zero, within, is) =
    ap (λ (it : NetRow). is_some (cond (bytes_eq change.name it.name) (Some row) (row_in_net change.name rest))) is
    ∙ ap (λ b. is_some (cond b (Some row) (row_in_net change.name rest))) (same_bytes change.name)
found_in (row ∷ rest) change (suc k, within, is) = by (bytes_eq change.name row.name) (found_in rest change (k, omega arith, is))
  where
    by : (b : Bool) → is_some (row_in_net change.name rest) ≡ true → is_some (cond b (Some row) (row_in_net change.name rest)) ≡ true
    by true t = refl
    by false t = t

-- and what is found is one of its rows
pub found_there : (name : List ℕ) (rest : List NetRow) (change : NetRow) → row_in_net name rest ≡ Some change → Contains rest change
found_there name [] change e = absurd (none_some e)
found_there name (row ∷ rest) change e = by (bytes_eq name row.name) e (found_there name rest change)
  where
    by : (b : Bool) → cond b (Some row) (row_in_net name rest) ≡ Some change → (row_in_net name rest ≡ Some change → Contains rest change)
        → Contains (row ∷ rest) change
    by true e later = subst (λ (it : NetRow). Contains (row ∷ rest) it) (some_same e) (first_in row rest)
    by false e later = further_in row change rest (later e)

module _ (numbers : ℕ → Option ℕ) (num : Numbering) (tree : TreeState) (directories : List ℕ) (net : List NetRow) (known : KnowsChildren directories tree net)
    (agree : NumbersChildren numbers num net) where
  -- the row that a name of the net gets has its child's number and kind
  pub brought_is : (change : NetRow) → Contains net change → slot_numbered numbers net (row_brought directories change) ≡ brought_row num tree change
  brought_is change there =
      by change.after (λ child e. known child (record { row = change; one = there; names = inr e }))
      (λ child e. agree child (record { row = change; one = there; names = inr e }))
    where
      kind_is : (child : ℕ) → is_among directories child ≡ is_directory tree child → kind_if (is_among directories child) ≡ kind_of tree child
      kind_is child e = ap kind_if (e ∙ directory_by_kind tree child) ∙ kind_again (kind_of tree child)

      by : (o : Option NodeId) → ((child : ℕ) → number_of o ≡ Some child → is_among directories child ≡ is_directory tree child)
          → ((child : ℕ) → number_of o ≡ Some child → numbers child ≡ num child)
          → slot_numbered numbers net (option_map (λ child. record { inode = child.0; kind = kind_if (is_among directories child.0); name = change.name }) o)
          ≡ option_map (row_on num tree change.name) (number_of o)
      by None kinds same = refl
      by (Some child) kinds same =
          ap Some
          (cond-true (is_some (row_in_net change.name net))
          (record { inode = unwrap_or (numbers child.0) 0; kind = kind_if (is_among directories child.0); name = change.name })
          (record { inode = child.0; kind = kind_if (is_among directories child.0); name = change.name }) (found_in net change there)
          ∙ (λ i. record { inode = unwrap_or (same child.0 refl i) 0; kind = kind_is child.0 (kinds child.0 refl) i; name = change.name }))

  -- a slot after the net
  slot_is : (slot : Option Row) → slot_numbered numbers net (slot_moved directories net slot) ≡ slot_after num tree net slot
  slot_is None = refl
  slot_is (Some row) = by (row_in_net row.name net) refl
    where
      by : (o : Option NetRow) → row_in_net row.name net ≡ o
          → slot_numbered numbers net (option_map_or (row_brought directories) o (Some row)) ≡ option_map_or (brought_row num tree) o (Some row)
      by None e = ap (λ (o : Option NetRow). Some (cond (is_some o) (record row { inode = unwrap_or (numbers row.inode) 0 }) row)) e
      by (Some change) e = brought_is change (found_there row.name net change e)

  slots_are : (slots : Slots) → map (slot_numbered numbers net) (map (slot_moved directories net) slots) ≡ map (slot_after num tree net) slots
  slots_are [] = refl
  slots_are (slot ∷ slots) = λ i. slot_is slot i ∷ slots_are slots i

  -- the rows that are new
  rows_are : (rest : List NetRow) → ((change : NetRow) → Contains rest change → Contains net change)
      → map (row_numbered numbers net) (rows_new directories rest) ≡ new_rows num tree rest
  rows_are [] there = refl
  rows_are (change ∷ rest) there =
      with_one (row_new directories change) (rows_new directories rest)
      ∙ (λ i. cons_option (by (is_none change.before) i) (rows_are rest (λ other is. there other (further_in change other rest is)) i))
    where
      with_one : (o : Option Row) (rows : List Row)
          → map (row_numbered numbers net) (cons_option o rows) ≡ cons_option (slot_numbered numbers net o) (map (row_numbered numbers net) rows)
      with_one None rows = refl
      with_one (Some row) rows = refl

      by : (b : Bool) → slot_numbered numbers net (cond b (row_brought directories change) None) ≡ cond b (brought_row num tree change) None
      by true = brought_is change (there change (first_in change rest))
      by false = refl

  -- all slots after the net, with the numbers
  pub all_are : (slots : Slots)
      → map (slot_numbered numbers net) (filled (map (slot_moved directories net) slots) (rows_new directories net)) ≡ slots_after num tree net slots
  all_are slots =
      filled_mapped (row_numbered numbers net) (map (slot_moved directories net) slots) (rows_new directories net)
      ∙ (λ i. filled (slots_are slots i) (rows_are net (λ change is. is) i))

long_append : (front back : List Slots) → AreLong front → AreLong back → AreLong (front ++ back)
unfolding AreLong
long_append [] back a b = b
long_append (block ∷ front) back a b = (a.0, long_append front back a.1 b)

long_added : (rows : List Row) (places : List ℕ) → AreLong (map (block_added rows) places)
unfolding AreLong
long_added rows [] = tt
long_added rows (n ∷ places) = (length-fill empty_block (drop (15 * n) rows), long_added rows places)

-- the blocks that there were, one after the other
module _ (directories : List ℕ) (net : List NetRow) where
  joined_old : (blocks : List Slots) (rows : List Row)
      → slots_joined (old_blocks_after directories net blocks rows) ≡ fill_front (map (slot_moved directories net) (slots_joined blocks)) rows
  joined_old [] rows = refl
  joined_old (block ∷ blocks) rows =
      ap (λ rest. fill_front (block_moved directories net block) rows ++ rest) (joined_old blocks (rows_left (block_moved directories net block) rows))
      ∙ sym (fill-append (block_moved directories net block) (map (slot_moved directories net) (slots_joined blocks)) rows)
      ∙ ap (λ slots. fill_front slots rows) (sym (map-append (slot_moved directories net) block (slots_joined blocks)))

  left_old : (blocks : List Slots) (rows : List Row)
      → rows_behind directories net blocks rows ≡ rows_left (map (slot_moved directories net) (slots_joined blocks)) rows
  left_old [] [] = refl
  left_old [] (row ∷ rows) = refl
  left_old (block ∷ blocks) rows =
      left_old blocks (rows_left (block_moved directories net block) rows)
      ∙ sym (left-append (block_moved directories net block) (map (slot_moved directories net) (slots_joined blocks)) rows)
      ∙ ap (λ slots. rows_left slots rows) (sym (map-append (slot_moved directories net) block (slots_joined blocks)))

  long_old : (blocks : List Slots) (rows : List Row) → AreLong blocks → AreLong (old_blocks_after directories net blocks rows)
  unfolding AreLong
  long_old [] rows long = tt
  long_old (block ∷ blocks) rows long = (
    length-fill (block_moved directories net block) rows ∙ length-mapped block
        ∙ long.0,
    long_old blocks (rows_left (block_moved directories net block) rows) long.1,
  )
    where
      length-mapped : (slots : Slots) → length (map (slot_moved directories net) slots) ≡ length slots
      length-mapped [] = refl
      length-mapped (slot ∷ slots) = ap suc (length-mapped slots)

  pub long_after : (blocks : List Slots) → AreLong blocks → AreLong (slot_blocks_after directories net blocks)
  long_after blocks long =
      long_append _ _ (long_old blocks (rows_new directories net) long)
      (long_added (rows_behind directories net blocks (rows_new directories net))
      (range_with_len 0 (blocks_for (rows_behind directories net blocks (rows_new directories net)))))

  -- all blocks are the slots after the net, filled up with empty ones
  pub joined_after : (blocks : List Slots)
      → (j : ℕ)
      × (slots_joined (slot_blocks_after directories net blocks)
      ≡ filled (map (slot_moved directories net) (slots_joined blocks)) (rows_new directories net) ++ replicate j None)
  joined_after blocks =
      let rest = rows_behind directories net blocks (rows_new directories net) in
      let moved = map (slot_moved directories net) (slots_joined blocks) in
      let added = added_blocks rest in (
        added.0,
        flat_map-append (λ block. block) (old_blocks_after directories net blocks (rows_new directories net))
            (map (block_added rest) (range_with_len 0 (blocks_for rest)))
            ∙ (λ i. joined_old blocks (rows_new directories net) i ++ added.1 i)
            ∙ sym (append_assoc (fill_front moved (rows_new directories net)) (map Some rest) (replicate added.0 None))
            ∙ ap (λ slots. slots ++ replicate added.0 None)
            (ap (λ rows. fill_front moved (rows_new directories net) ++ map Some rows) (left_old blocks (rows_new directories net))
            ∙ sym (filled_is moved (rows_new directories net))),
      )

pub net_slots_are_those : NetSlotsAreThose
net_slots_are_those numbers num tree directories net blocks long known agree =
    let after = slot_blocks_after directories net blocks in
    let padding = joined_after directories net blocks in
    joined_mapped (slot_numbered numbers net) (take (blocks_to_last_row after) after)
    ∙ ap (map (slot_numbered numbers net))
    (joined_kept after (long_after directories net blocks (long_blocks blocks long)) ∙ ap in_blocks padding.1
    ∙ in_blocks_padded (filled (map (slot_moved directories net) (slots_joined blocks)) (rows_new directories net)) padding.0)
    ∙ in_blocks_mapped (row_numbered numbers net) (filled (map (slot_moved directories net) (slots_joined blocks)) (rows_new directories net))
    ∙ ap in_blocks (all_are numbers num tree directories net known agree (slots_joined blocks))
