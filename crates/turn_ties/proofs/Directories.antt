-- Which blocks of a directory a plan rewrites, by numbers that stand in for those of its children.
use Rattle.std.proofs.Common.{◌≡◌, ℕ, zero, suc, ◌+◌, ◌*◌, ◌/◌, ◌<◌, ◌≤◌, Bool, true, false, cond, not, ◌&&◌, ◌||◌, List, [], ◌∷◌, length, get_or, min, take, Option, Some, None, is_none, is_some, option_map, inl, inr, refl, sym, ap, subst, ◌∙◌, arith, nat_eq, Contains}
use Rattle.std.specs.Prelude.{nat_le}
use Rattle.std.specs.List.{list_all}
use Rattle.std.specs.Option.{option_map_or}
use Rattle.std.proofs.Math.Nat.{min-eq_left}
use Rattle.std.proofs.lemmas.Bool.{cases_lt}
use Rattle.std.proofs.lemmas.List.{get_or_past, get_or_default, length-map}
use Rattle.std.proofs.lemmas.List.Elements.{All-contains}
use Rattle.sfs_base.proofs.BasicLists.{same_bytes}
use Rattle.sfs_base.proofs.BasicOptions.{none_some, some_same, some_not_none}
use Rattle.sfs_base.proofs.BasicTruth.{and_false, true_not_false}
use Rattle.sfs_base.specs.declared.numbers.Kind.TheVariants.{Directory}
use Rattle.sfs_image.specs.Rules.{DIRECTORY_BLOCKS}
use Rattle.sfs_image.specs.Seen.{Seen, SeenInodes, FILE_BLOCKS, PLACES}
use Rattle.sfs_image.specs.Slot.{Row, kind_byte}
use Rattle.tree_laws.specs.NameRow.{number_of}
use Rattle.tree_laws.specs.Tree.{TreeState, row_of, kind_of, names_of, BUCKET_ROWS}
use Rattle.absorb.specs.Net.{IsNetRow}
use Rattle.absorb.specs.declared.nets.NetRow.{NetRow}
use Rattle.image_laws.specs.Commit.{blank, slots_after, brought_row, new_rows}
use Rattle.image_laws.specs.Need.{slots_in_block, same_slots, rewrites_slots, directory_rewrite}
use Rattle.image_laws.specs.Renamed.{Numbering}
use Rattle.image_laws.specs.Slots.{looked_up, name_count, has_name, in_blocks, blocks_up_to_last}
use Rattle.image_laws.specs.Stands.{row_on}
use Rattle.image_laws.proofs.NetRows.{once_ascending}
use Rattle.image_laws.proofs.Renaming.{under_is}
use Rattle.image_laws.proofs.Sizes.{rows-le}
use Rattle.image_laws.proofs.SlotRows.{count_slot, looked_counts}
use Rattle.block_map.specs.Changed.{change_of}
use Rattle.block_map.specs.Kept.{pointer_kept}
use Rattle.block_map.specs.declared.changed.ChangedBlock.{ChangedBlock}
use Rattle.disk_change.specs.Built.{rewrite_in}
use Rattle.disk_change.specs.Directory.{empty_block, slot_blocks_after, directory_touched}
use Rattle.disk_change.specs.Numbered.{slot_numbered, block_numbered}
use Rattle.disk_change.specs.Planned.{Planned}
use Rattle.disk_change.specs.Seat.{has_no_row, blocks_to_last_row, block_said, directory_changed}
use Rattle.disk_change.specs.Seated.{Begun, seated_as, net_of_node, size_of_blocks}
use Rattle.disk_change.proofs.Rewriting.{said_at}
use Rattle.commit_laws.specs.CommitOfPlan.{CommitPlan, change_planned}
use Rattle.commit_laws.specs.KnownKinds.{KnowsChildren}
use Rattle.commit_laws.specs.Rewritten.{SayTheSame}
use Rattle.commit_laws.specs.SlotsKept.{AreSlotBlocks, slots_joined, blocks_kept}
use Rattle.commit_laws.proofs.CommitOfPlan.{begun_pointers}
use Rattle.commit_laws.proofs.JoinedSlots.{Slots, AreLong, long_blocks, length_joined, joined_kept, joined_mapped, end_is}
use Rattle.commit_laws.proofs.RewrittenBlocks.{said_within, said_behind}
use Rattle.commit_laws.proofs.Shown.{children_of, length_in_blocks}
use Rattle.commit_laws.proofs.SlotBlocks.{in_block_joined, block_after}
use Rattle.commit_laws.proofs.SlotsKept.{brought_is, long_after, net_slots_are_those}
use Rattle.commit_laws.proofs.SlotsTouched.{TellsApart, block_touched, length_after}
use Rattle.turn_laws.specs.Need.{stand_in}
use Rattle.turn_ties.proofs.Between.{IsPlanBetween, seen, directories_known}
use Rattle.turn_ties.proofs.FewNew.{few_new, few_blocks}

-- a row that stands in slots is found under its name, where each name stands once
row_found : (slots : Slots) (row : Row) → name_count row.name slots ≤ 1 → Contains slots (Some row) → looked_up row.name slots ≡ Some row
row_found [] row once (k, within, is) = absurd (omega arith)
row_found (slot ∷ slots) row once (zero, within, is) = by slot is
  where
    by : (s : Option Row) → s ≡ Some row → cond (has_name row.name s) s (looked_up row.name slots) ≡ Some row
    by None e = absurd (none_some e)
    by (Some held) e = ap (λ b. cond b (Some held) (looked_up row.name slots)) (ap (λ o. has_name row.name o) e ∙ same_bytes row.name) ∙ e
row_found (slot ∷ slots) row once (suc k, within, is) =
    by (has_name row.name slot) refl (row_found slots row (let c = count_slot row.name slot slots in omega arith) (k, omega arith, is))
  where
    by : (b : Bool) → has_name row.name slot ≡ b → looked_up row.name slots ≡ Some row → cond b slot (looked_up row.name slots) ≡ Some row
    by false e rest = rest
    by true e rest = absurd (
        let c = count_slot row.name slot slots ∙ ap (λ b. cond b 1 0 + name_count row.name slots) e in
        let some = looked_counts row.name slots row rest in
        omega arith)

-- what is said of a block says that it is rewritten
said_some : (b : Bool) (one : ChangedBlock) → is_some (cond b (Some one) None) ≡ b
said_some true one = refl
said_some false one = refl

-- numbers empty no slot
empties_numbered : (numbers : ℕ → Option ℕ) (net : List NetRow) (block : Slots) → has_no_row block ≡ list_all is_none (block_numbered numbers net block)
empties_numbered numbers net [] = refl
empties_numbered numbers net (None ∷ block) = empties_numbered numbers net block
empties_numbered numbers net (Some row ∷ block) = refl

-- the blocks of a directory's size
blocks_of_size : (b : ℕ) → b ≤ 1000000 → (size_of_blocks b + 4095) / 4096 ≡ b
blocks_of_size b few = ap (λ n. (n + 4095) / 4096) (min-eq_left (omega arith)) ∙ whole b
  where
    whole : (b : ℕ) → (4096 * b + 4095) / 4096 ≡ b
    whole b = omega arith

-- A node of a plan begins with what its inode shows: of its kind, the slots and the pointers.
pub record Begins (old : TreeState) (seen : Seen) (begun : Begun) : Type 0 where
  pub kind : begun.kind ≡ kind_of old begun.node
  pub slots : slots_joined begun.slots ≡ seen.slots
  pub blocks : AreSlotBlocks begun.slots
  pub pointers : (place : ℕ) → place < PLACES → pointer_kept begun.base begun.tables place ≡ seen.blocks place

module _ (num : Numbering) (concerned : List ℕ) (old new : TreeState) (image : SeenInodes) (plan : CommitPlan)
    (is : IsPlanBetween num concerned old new image plan) where
  abbrev change : Planned
  change = change_planned plan

  abbrev directories : List ℕ
  directories = change.changes.directories

  abbrev numbers : ℕ → Option ℕ
  numbers = stand_in image

  abbrev seen_of_node : ℕ → Seen
  seen_of_node = seen num concerned old new image plan is

  -- a row that stands in the slots of a node names an inode of the image
  row_below : (node i : ℕ) → num node ≡ Some i → (row : Row) → Contains (image.seen i).slots (Some row) → row.inode < image.count
  row_below node i has row there =
      by (row_of old node row.name) refl
      (sym (row_found (image.seen i).slots row ((is.stands.each node i has).once row.name) there) ∙ (is.stands.each node i has).slots row.name)
    where
      by : (o : Option ℕ) → row_of old node row.name ≡ o → Some row ≡ option_map (row_on num old row.name) o → row.inode < image.count
      by None e f = absurd (some_not_none f)
      by (Some x) e f =
          let named = is.stands.named node row.name x e in
          let inode : row.inode ≡ named.0 = ap (λ (r : Row). r.inode) (some_same f) ∙ under_is num x named.0 named.1 in
          subst (λ n. n < image.count) (sym inode) (is.stands.within x named.0 named.1)

  -- a row that a net brings is not one that stands there, since it has a number that stands in
  rows_apart : (node : ℕ) (blocks : List Slots) → slots_joined blocks ≡ (seen_of_node node).slots → KnowsChildren directories new (net_of_node plan.nets node)
      → TellsApart numbers directories (net_of_node plan.nets node) (slots_joined blocks)
  rows_apart node blocks joined known row there named brought comes same = by_number (num node) refl
    where
      now : Some row ≡ brought_row numbers new comes.change
      now = ap Some (sym same) ∙ ap (slot_numbered numbers (net_of_node plan.nets node)) (sym comes.brought)
          ∙ brought_is numbers numbers new directories (net_of_node plan.nets node) known (λ _ _. refl) comes.change comes.one

      by_child : row.inode < image.count → (o : Option ℕ) → number_of comes.change.after ≡ o → ⊥
      by_child low None e = some_not_none (now ∙ ap (option_map (row_on numbers new comes.change.name)) e)
      by_child low (Some y) e =
          let inode : row.inode ≡ image.count + y = ap (λ (r : Row). r.inode) (some_same (now ∙ ap (option_map (row_on numbers new comes.change.name)) e)) in
          absurd (omega (arith, low, inode))

      stands : (o : Option ℕ) → num node ≡ o → Contains (option_map_or image.seen o blank).slots (Some row)
      stands o e = subst (λ (s : Slots). Contains s (Some row)) (joined ∙ ap (λ (o : Option ℕ). (option_map_or image.seen o blank).slots) e) there

      by_number : (o : Option ℕ) → num node ≡ o → ⊥
      by_number None e = none_there (stands None e)
        where
          none_there : Contains [] (Some row) → ⊥
          none_there (k, within, f) = absurd (omega arith)
      by_number (Some i) e =
          by_child (row_below node i e row (stands (Some i) e)) (number_of comes.change.after) refl

  module _ (begun : Begun) (begins : Begins old (seen_of_node begun.node) begun) (kind : begun.kind ≡ Directory) where
    abbrev own : Seen
    own = seen_of_node begun.node

    abbrev net : List NetRow
    net = net_of_node plan.nets begun.node

    abbrev slots : Slots
    slots = slots_after numbers new net own.slots

    abbrev after : List Slots
    after = slot_blocks_after directories net begun.slots

    abbrev touched : List Bool
    touched = directory_touched directories net begun.slots

    abbrev said : ℕ → Option ChangedBlock
    said = block_said (pointer_kept begun.base begun.tables) after touched

    long : AreLong begun.slots
    long = long_blocks begun.slots begins.blocks

    known : KnowsChildren directories new net
    known = children_of directories new plan.nets (directories_known num concerned old new image plan is) begun.node

    old_block : (n : ℕ) → slots_in_block n own.slots ≡ get_or begun.slots n empty_block
    old_block n = ap (slots_in_block n) (sym begins.slots) ∙ in_block_joined begun.slots long n

    new_block : (n : ℕ) → slots_in_block n slots ≡ block_numbered numbers net (get_or after n empty_block)
    new_block n = ap (λ those. slots_in_block n (slots_after numbers new net those)) (sym begins.slots)
        ∙ block_after numbers numbers new directories net begun.slots known (λ _ _. refl) long n

    -- the blocks up to the last one with a row
    end : blocks_to_last_row after ≡ blocks_up_to_last slots
    end = omega (arith, kept, same)
      where
        slots_are : slots_joined (blocks_kept numbers directories net begun.slots) ≡ in_blocks slots
        slots_are =
            net_slots_are_those numbers numbers new directories net begun.slots begins.blocks known (λ _ _. refl)
            ∙ ap (λ those. in_blocks (slots_after numbers new net those)) begins.slots

        kept : length (slots_joined (blocks_kept numbers directories net begun.slots)) ≡ 15 * blocks_to_last_row after
        kept =
            let whole = long_after directories net begun.slots long in
            ap length (joined_mapped (slot_numbered numbers net) (take (blocks_to_last_row after) after))
            ∙ length-map (slots_joined (take (blocks_to_last_row after) after)) (slot_numbered numbers net)
            ∙ ap length (joined_kept after whole) ∙ length_in_blocks (slots_joined after) ∙ ap (λ n. 15 * n) (sym (end_is after whole))

        same : length (slots_joined (blocks_kept numbers directories net begun.slots)) ≡ 15 * blocks_up_to_last slots
        same = ap length slots_are ∙ length_in_blocks slots

    -- are few
    few : blocks_up_to_last slots ≤ 1000000
    few =
        let blocks = few_blocks numbers new net own.slots (15 * DIRECTORY_BLOCKS) (8 * BUCKET_ROWS) (few_slots (num begun.node) refl) new_few in
        omega (arith, blocks)
      where
        few_slots : (o : Option ℕ) → num begun.node ≡ o → length (option_map_or image.seen o blank).slots ≤ 15 * DIRECTORY_BLOCKS
        few_slots None e = omega arith
        few_slots (Some i) e = is.fit i (is.stands.within begun.node i e, (is.stands.each begun.node i e).kind ∙ ap kind_byte (sym begins.kind ∙ kind))

        new_few : length (new_rows numbers new net) ≤ 8 * BUCKET_ROWS
        new_few =
            let each = is.to.between.each begun.node in
            let rows = rows-le begun.node new.rows (λ number low. is.limits.buckets begun.node number) in
            let one = All-contains (IsNetRow (names_of begun.node old.rows) (names_of begun.node new.rows)) net in
            let all = few_new numbers new net (names_of begun.node new.rows) (once_ascending net each.ascending)
            (λ row there child e. ap is_some (sym (one row each.each there).after ∙ e)) in
            omega (arith, rows, all)

    -- a block of the directory as it then is
    test_is : (n : ℕ) → n < FILE_BLOCKS → n < length after
        → (get_or touched n false || (nat_le (blocks_to_last_row after) n && not (nat_eq (pointer_kept begun.base begun.tables n) 0)))
        ≡ rewrites_slots own slots n
    test_is n low within =
        let changes = block_touched numbers directories net begun.slots (rows_apart begun.node begun.slots begins.slots known) n within in
        λ i. (changes ∙ ap not (λ j. same_slots (sym (old_block n) j) (sym (new_block n) j))) i
        || (nat_le (end i) n && not (nat_eq (begins.pointers n (omega arith) i) 0))

    said_there : (n : ℕ) → n < FILE_BLOCKS → n < length after → change_of (directory_changed (pointer_kept begun.base begun.tables) after touched) n ≡ said n
    said_there n low within =
        said_within said (said_at (pointer_kept begun.base begun.tables) after touched) 0 (min (length after) FILE_BLOCKS) n (omega arith) (omega arith)

    -- behind its blocks nothing is rewritten
    none_behind : (n : ℕ) → n < FILE_BLOCKS → length after ≤ n → rewrites_slots own slots n ≡ false
    none_behind n low behind =
        (λ i. not (same_slots (old_empty i) (new_empty i)) || (nat_le (blocks_up_to_last slots) n && not (nat_eq (hole (num begun.node) refl i) 0)))
        ∙ and_false (nat_le (blocks_up_to_last slots) n)
      where
        short : length begun.slots ≤ n
        short = let all = length_after numbers directories net begun.slots in omega arith

        old_empty : slots_in_block n own.slots ≡ empty_block
        old_empty = old_block n ∙ get_or_past begun.slots n empty_block short

        new_empty : slots_in_block n slots ≡ empty_block
        new_empty = new_block n ∙ ap (block_numbered numbers net) (get_or_past after n empty_block behind)

        hole : (o : Option ℕ) → num begun.node ≡ o → own.blocks n ≡ 0
        hole None e = ap (λ (o : Option ℕ). (option_map_or image.seen o blank).blocks n) e
        hole (Some i) e =
            let here : own ≡ image.seen i = ap (λ (o : Option ℕ). option_map_or image.seen o blank) e in
            let count = ap length (begins.slots ∙ ap (λ (s : Seen). s.slots) here) in
            let whole = length_joined begun.slots long in
            ap (λ (s : Seen). s.blocks n) here
            ∙ is.behind i n (is.stands.within begun.node i e, (is.stands.each begun.node i e).kind ∙ ap kind_byte (sym begins.kind ∙ kind)) low
            (omega (arith, short, count, whole))

    -- what is planned of it says what the definition says
    pub directory_says : SayTheSame (rewrite_in (seated_as Directory change.changes begun)) (directory_rewrite own slots)
    directory_says = record {
      blocks = ap (λ b. (size_of_blocks b + 4095) / 4096) end ∙ blocks_of_size (blocks_up_to_last slots) few;
      rewritten = λ n low. elim (cases_lt n (length after)) [
        | inl within ↦
            ap is_some (said_there n low within)
            ∙ said_some (get_or touched n false || (nat_le (blocks_to_last_row after) n && not (nat_eq (pointer_kept begun.base begun.tables n) 0))) _
            ∙ test_is n low within
        | inr behind ↦
            ap is_some (said_behind said (said_at (pointer_kept begun.base begun.tables) after touched) 0 (min (length after) FILE_BLOCKS) n (omega arith))
            ∙ sym (none_behind n low behind)
      ];
      zero = λ n low rewritten. elim (cases_lt n (length after)) [
        | inr behind ↦ absurd (true_not_false (sym rewritten ∙ none_behind n low behind))
        | inl within ↦
            ap (λ (o : Option ChangedBlock). option_map_or (λ one. one.is_zero) o false)
            (said_there n low within
            ∙ ap (λ b. cond b (Some (record { block = n; is_zero = has_no_row (get_or after n []) })) None) (test_is n low within ∙ rewritten))
            ∙ ap has_no_row (get_or_default after n [] empty_block within) ∙ empties_numbered numbers net (get_or after n empty_block)
            ∙ ap (list_all is_none) (sym (new_block n))
      ];
      pointers = λ place within. begun_pointers change.changes begun Directory place ∙ begins.pointers place within;
    }
