-- The part of a directory after a commit has the new slots in its blocks.
use Rattle.std.proofs.Common.{◌≡◌, ℕ, suc, ◌*◌, ◌/◌, ◌%◌, ◌<◌, ◌≤◌, Bool, true, false, cond, ◌&&◌, List, [], ◌∷◌, length, get_or, map, take, Option, Some, None, is_none, is_some, inl, inr, refl, sym, ap, subst, ◌∙◌, arith, nat_eq, Contains}
use Rattle.std.specs.Prelude.{◌⊎◌, slice_get, slice_index_or}
use Rattle.std.specs.List.{list_all, flat_map}
use Rattle.std.specs.Option.{option_map_or, unwrap_or}
use borrow.Author.Tests.{eqb-true, eq-eqb}
use Rattle.std.proofs.Math.Nat.{min-eq_left}
use Rattle.std.proofs.lemmas.Bool.{cond-true, cases_Bool, cases_lt}
use Rattle.std.proofs.lemmas.List.{ext_get_or, get_or-map, get_or-take, get_or_past, get_or_default, length-map, length-take, length-take-le}
use Rattle.std.proofs.lemmas.Option.{slice_get-get_or}
use Rattle.sfs_base.proofs.BasicTruth.{false_not_true}
use Rattle.sfs_base.specs.declared.numbers.Kind.TheVariants.{Directory}
use Rattle.absorb.specs.declared.nets.NetRow.{NetRow}
use Rattle.sfs_image.specs.Inode.{Inode}
use Rattle.sfs_image.specs.Part.{Part, directory_blocks, is_directory_part, read_block, inode_in, seen_of, file_byte, tabulate}
use Rattle.sfs_image.specs.Bytes.{zeros}
use Rattle.sfs_image.specs.LawsOfParts.{FitsSize}
use Rattle.sfs_image.specs.Rules.{DIRECTORY_BLOCKS, breaks_slots}
use Rattle.sfs_image.specs.Seen.{Seen, SeenInodes, FILE_BLOCKS}
use Rattle.sfs_image.specs.Slot.{kind_byte}
use Rattle.sfs_image.specs.SlotBlock.{slots_of, slots_bytes, slots_fault, AreSlots}
use Rattle.sfs_image.proofs.PartLaws.{hole_is_read}
use Rattle.sfs_image.proofs.SlotBlockLaws.{slots_of-slots_bytes, slots_fault-slots_bytes}
use Rattle.sfs_image.proofs.RuleFacts.{slots_say}
use Rattle.tree_laws.specs.Tree.{TreeState, kind_of, bytes_of, is_directory_kind}
use Rattle.tree_laws.proofs.Readings.{directory_by_kind}
use Rattle.image_laws.specs.Commit.{Commit, blank, seen_before, slots_after}
use Rattle.image_laws.specs.Need.{slots_in_block, rewrites_slots, directory_rewrite}
use Rattle.image_laws.specs.Renamed.{Numbering}
use Rattle.image_laws.specs.Stands.{ShowsNode}
use Rattle.image_laws.proofs.BlockRows.{empty_blocks_are_holes}
use Rattle.image_laws.proofs.Places.{blocks_are_kept_or_rewritten}
use Rattle.block_map.specs.Changed.{change_of}
use Rattle.block_map.specs.declared.changed.ChangedBlock.{ChangedBlock}
use Rattle.space_map.specs.Space.{GrantedNumbers}
use Rattle.disk_change.specs.AllBuilt.{numbers_with, nodes_with_grant}
use Rattle.disk_change.specs.Built.{Built, built, rewrite_in}
use Rattle.disk_change.specs.Directory.{empty_block, slot_blocks_after}
use Rattle.disk_change.specs.Fresh.{zero_bytes}
use Rattle.disk_change.specs.Numbered.{block_numbered}
use Rattle.disk_change.specs.Planned.{Planned}
use Rattle.disk_change.specs.Seat.{has_no_row, blocks_to_last_row}
use Rattle.disk_change.specs.Seated.{Begun, Seated, seated_as, net_of_node, size_of_blocks}
use Rattle.commit_laws.specs.CommitOfPlan.{CommitPlan, change_planned, commit_of, image_planned, IsCommitPlan}
use Rattle.commit_laws.specs.DirectoriesMade.{HasSlotContents, IsKeptMade, PlansMakeDirectories}
use Rattle.commit_laws.specs.PartsMade.{store_over, blocks_planned, part_made, IsPlanOverParts, store_planned, IsPartMade}
use Rattle.commit_laws.specs.Ranked.{fresh_cut}
use Rattle.commit_laws.specs.Rewritten.{IsWrittenPlan, SayTheSame}
use Rattle.commit_laws.specs.SlotsKept.{slots_joined}
use Rattle.commit_laws.proofs.BlocksRead.{content_is, block_is, old_read, zero_read, data_read, IsOneNode, one_node}
use Rattle.commit_laws.proofs.GoodParts.{zeros_have_no_fault}
use Rattle.commit_laws.proofs.JoinedSlots.{Slots, long_blocks, length_joined}
use Rattle.commit_laws.proofs.KeptShown.{joined_slots, slot_blocks}
use Rattle.commit_laws.proofs.PartsMade.{shows_node, pointer_after_is, part_is_made}
use Rattle.commit_laws.proofs.PlanShown.{IsBuiltNode, node_built}
use Rattle.commit_laws.proofs.RewrittenAsDefined.{new_block, old_block, end, directory_says}
use Rattle.commit_laws.proofs.SeatsOfPlan.{there_is_in}
use Rattle.commit_laws.proofs.SlotBlocks.{in_block_joined}

-- there are no fewer blocks than up to the last one with a row
last_within : (blocks : List Slots) → blocks_to_last_row blocks ≤ length blocks
last_within [] = omega arith
last_within (block ∷ blocks) = by (has_no_row block && nat_eq (blocks_to_last_row blocks) 0) (last_within blocks)
  where
    by : (b : Bool) → blocks_to_last_row blocks ≤ length blocks → cond b 0 (suc (blocks_to_last_row blocks)) ≤ suc (length blocks)
    by true low = omega arith
    by false low = omega arith

module _ (num : Numbering) (concerned : List ℕ) (old new : TreeState) (image : SeenInodes) (plan : CommitPlan) (grant : GrantedNumbers) (store : ℕ → List ℕ)
    (parts : ℕ → Part)
    (is : IsPlanOverParts num concerned old new image plan grant store parts) (contents : HasSlotContents new image plan grant) (one : Built)
    (there_one : Contains (nodes_with_grant (change_planned plan) grant) one)
    (node : IsBuiltNode num concerned old new image plan grant is.full one) (directory : kind_of new one.node ≡ Directory) where
  abbrev whole : IsCommitPlan num concerned old new image plan grant
  whole = is.full.sound.whole

  abbrev written : IsWrittenPlan num concerned old new image plan grant
  written = record { full = is.full; pages = contents.pages; behind = contents.behind }

  abbrev change : Planned
  change = change_planned plan

  abbrev commit : Commit
  commit = commit_of num concerned plan grant

  abbrev next : SeenInodes
  next = image_planned num concerned new image plan grant

  abbrev i : ℕ
  i = node.of.inode

  abbrev begun : Begun
  begun = node.of.begun

  abbrev after : Part
  after = part_made store plan grant one

  abbrev net : List NetRow
  net = net_of_node plan.nets node.of.begun.node

  abbrev seen : Seen
  seen = seen_before commit image node.of.begun.node

  abbrev slots : Slots
  slots = slots_after commit.after new net seen.slots

  abbrev blocks : List Slots
  blocks = slot_blocks_after change.changes.directories net node.of.begun.slots

  same_node : IsOneNode one node.seat node.of.begun
  same_node = one_node num concerned old new image plan grant store parts is one there_one node

  kind_old : kind_of old begun.node ≡ Directory
  kind_old = sym (node.of.built.leads.nets.between.kinds begun.node) ∙ ap (kind_of new) (sym same_node.built_is) ∙ directory

  kind_begun : begun.kind ≡ Directory
  kind_begun = node.of.built.begins.kind ∙ kind_old

  seat_is_directory : node.seat ≡ seated_as Directory change.changes begun
  seat_is_directory = sym node.of.begins ∙ ap (λ kind. seated_as kind change.changes begun) kind_begun

  says : SayTheSame (rewrite_in node.seat) (directory_rewrite seen slots)
  says = subst (λ (s : Seated). SayTheSame (rewrite_in s) (directory_rewrite seen slots)) (sym seat_is_directory)
      (directory_says num concerned old new image plan grant written node.m node.seat node.of kind_begun)

  -- the slots that are built
  slots_are : one.slots ≡ map (block_numbered (numbers_with change grant.inodes) net) (take (blocks_to_last_row blocks) blocks)
  slots_are =
      ap (λ (b : Built). b.slots) node.is
      ∙ (λ j. map (block_numbered (numbers_with change grant.inodes) (net_of_node plan.nets (same_node.seat_is j))) (seat_is_directory j).slots)

  long_slots : length one.slots ≡ blocks_to_last_row blocks
  long_slots =
      ap length slots_are ∙ length-map (take (blocks_to_last_row blocks) blocks) (block_numbered (numbers_with change grant.inodes) net)
      ∙ length-take-le (blocks_to_last_row blocks) blocks (last_within blocks)

  block_at : (n : ℕ) (d : Slots) → n < blocks_to_last_row blocks → get_or one.slots n d ≡ slots_in_block n slots
  block_at n d low =
      ap (λ those. get_or those n d) slots_are
      ∙ get_or-map (block_numbered (numbers_with change grant.inodes) net) (take (blocks_to_last_row blocks) blocks) n empty_block d
      (omega (arith, low, length-take-le (blocks_to_last_row blocks) blocks (last_within blocks)))
      ∙ ap (block_numbered (numbers_with change grant.inodes) net) (get_or-take (blocks_to_last_row blocks) blocks n empty_block low)
      ∙ sym (new_block num concerned old new image plan grant written node.m node.seat node.of n)

  few : blocks_to_last_row blocks ≤ DIRECTORY_BLOCKS
  few = subst (λ b. b ≤ DIRECTORY_BLOCKS) (sym (end num concerned old new image plan grant written node.m node.seat node.of)) node.of.built.leads.blocks

  -- what is read where the pointer of a block then points
  abbrev reads : ℕ → List ℕ
  reads n = read_block (store_planned store plan grant) ((next.seen i).blocks n)

  -- What is read of a block that is not rewritten: nothing stands there, or a block that the directory had.
  data ReadsAsBefore (n : ℕ) : Type 0 where
    nothing : (next.seen i).blocks n ≡ 0 → slots_in_block n slots ≡ empty_block → ReadsAsBefore n
    stood : (j : ℕ) → j < image.count → is_directory_part (parts j) ≡ true → n < length (directory_blocks (parts j))
        → reads n ≡ get_or (directory_blocks (parts j)) n []
        → slots_in_block n slots ≡ slots_of (get_or (directory_blocks (parts j)) n []) → ReadsAsBefore n

  read_before : (n : ℕ) → n < FILE_BLOCKS → rewrites_slots seen slots n ≡ false → ReadsAsBefore n
  read_before n low unwritten = by (num begun.node) refl
    where
      slots_same : slots_in_block n slots ≡ slots_in_block n seen.slots
      slots_same = ((blocks_are_kept_or_rewritten seen slots n).0 unwritten).slots_kept

      none_changed : (o : Option ChangedBlock) → change_of node.seat.changed n ≡ o → o ≡ None
      none_changed None e = refl
      none_changed (Some c) e = absurd (false_not_true (sym (says.rewritten n low ∙ unwritten) ∙ ap is_some e))

      stays : (next.seen i).blocks n ≡ seen.blocks n
      stays =
          block_is num concerned old new image plan grant store parts is one there_one node n low None (none_changed (change_of node.seat.changed n) refl)
          ∙ says.pointers n (omega arith)

      by : (o : Option ℕ) → num begun.node ≡ o → ReadsAsBefore n
      by None e =
          nothing (stays ∙ ap (λ (o : Option ℕ). (option_map_or image.seen o blank).blocks n) e)
          (slots_same ∙ ap (λ (o : Option ℕ). slots_in_block n (option_map_or image.seen o blank).slots) e ∙ none_in_block)
        where
          none_in_block : slots_in_block n [] ≡ empty_block
          none_in_block =
              in_block_joined [] (long_blocks [] (λ block there. absurd (let low = there.1 in omega arith))) n ∙ get_or_past [] n empty_block (omega arith)
      by (Some j) e = of_old (cases_lt n (length those))
        where
          low_j : j < image.count
          low_j = whole.stands.within begun.node j e

          seen_j : seen ≡ seen_of (parts j)
          seen_j = ap (λ (o : Option ℕ). option_map_or image.seen o blank) e ∙ is.standing.shown j low_j

          kind_j : is_directory_part (parts j) ≡ true
          kind_j =
              eq-eqb (inode_in (parts j)).kind (kind_byte Directory)
              (sym (ap (λ (s : Seen). s.kind) (is.standing.shown j low_j)) ∙ (whole.stands.each begun.node j e).kind ∙ ap kind_byte kind_old)

          those : List (List ℕ)
          those = directory_blocks (parts j)

          seen_slots : seen.slots ≡ slots_joined (map slots_of those)
          seen_slots =
              ap (λ (s : Seen). s.slots) seen_j ∙ cond-true (is_directory_part (parts j)) (flat_map slots_of those) [] kind_j ∙ sym (joined_slots those)

          in_block : slots_in_block n seen.slots ≡ get_or (map slots_of those) n empty_block
          in_block = ap (slots_in_block n) seen_slots ∙ in_block_joined (map slots_of those) (long_blocks (map slots_of those) (slot_blocks those)) n

          of_old : (n < length those) ⊎ (length those ≤ n) → ReadsAsBefore n
          of_old (inl there) = stood j low_j kind_j there
              (ap (λ p. read_block (store_planned store plan grant) p) (stays ∙ ap (λ (s : Seen). s.blocks n) seen_j)
              ∙ old_read num concerned old new image plan grant store parts is one there_one node j n low_j low ∙ sym (taken there))
              (slots_same ∙ in_block ∙ get_or-map slots_of those n [] empty_block there)
            where
              taken : n < length those → get_or those n [] ≡ slice_index_or (parts j).blocks n []
              taken there = by_size (cases_lt n ((inode_in (parts j)).size / 4096))
                where
                  by_size : (n < (inode_in (parts j)).size / 4096) ⊎ ((inode_in (parts j)).size / 4096 ≤ n)
                      → get_or those n [] ≡ slice_index_or (parts j).blocks n []
                  by_size (inl below) = get_or-take ((inode_in (parts j)).size / 4096) (parts j).blocks n [] below
                  by_size (inr past) = absurd (let few = length-take ((inode_in (parts j)).size / 4096) (parts j).blocks in omega (arith, there, past, few))
          of_old (inr past) = nothing
              (stays ∙ ap (λ (s : Seen). s.blocks n) (ap (λ (o : Option ℕ). option_map_or image.seen o blank) e)
              ∙ contents.behind j n (low_j, (whole.stands.each begun.node j e).kind ∙ ap kind_byte kind_old) low (short past))
              (slots_same ∙ in_block ∙ get_or_past (map slots_of those) n empty_block (omega (arith, past, length-map those slots_of)))
            where
              short : length those ≤ n → length (image.seen j).slots ≤ 15 * n
              short past =
                  let count = ap length (sym (ap (λ (o : Option ℕ). (option_map_or image.seen o blank).slots) e) ∙ seen_slots) in
                  let whole_count = length_joined (map slots_of those) (long_blocks (map slots_of those) (slot_blocks those)) in
                  omega (arith, past, count, whole_count, length-map those slots_of)

  -- What is read of a block that is rewritten: it has no row and is a hole, or its slots are written.
  data ReadsAsNew (n : ℕ) : Type 0 where
    emptied : reads n ≡ zeros 4096 → list_all is_none (slots_in_block n slots) ≡ true → ReadsAsNew n
    filled : reads n ≡ slots_bytes (slots_in_block n slots) → AreSlots (slots_in_block n slots) → ReadsAsNew n

  read_new : (n : ℕ) → n < blocks_to_last_row blocks → rewrites_slots seen slots n ≡ true → ReadsAsNew n
  read_new n low rewritten = by (change_of node.seat.changed n) refl
    where
      below : n < FILE_BLOCKS
      below = let most = few in omega arith

      by : (o : Option ChangedBlock) → change_of node.seat.changed n ≡ o → ReadsAsNew n
      by None e = absurd (false_not_true (ap is_some (sym e) ∙ says.rewritten n below ∙ rewritten))
      by (Some c) e = by_zero (cases_Bool c.is_zero)
        where
          zero_is : c.is_zero ≡ list_all is_none (slots_in_block n slots)
          zero_is = ap (λ (o : Option ChangedBlock). option_map_or (λ (one : ChangedBlock). one.is_zero) o false) (sym e) ∙ says.zero n below rewritten

          kind_built : (built (numbers_with change grant.inodes) (net_of_node plan.nets node.seat.node)
              (unwrap_or ((numbers_with change grant.inodes) node.seat.node) 0) (fresh_cut change.seats grant.blocks node.m node.seat) node.seat).meta.kind
              ≡ 2
          kind_built = ap (λ (s : Seated). s.meta.kind) seat_is_directory

          slots_built : (built (numbers_with change grant.inodes) (net_of_node plan.nets node.seat.node)
              (unwrap_or ((numbers_with change grant.inodes) node.seat.node) 0) (fresh_cut change.seats grant.blocks node.m node.seat) node.seat).slots
              ≡ one.slots
          slots_built = ap (λ (b : Built). b.slots) (sym node.is)

          there : slice_get one.slots n ≡ Some (slots_in_block n slots)
          there = slice_get-get_or one.slots n empty_block (omega (arith, low, long_slots)) ∙ ap Some (block_at n empty_block low)

          by_zero : (c.is_zero ≡ true) ⊎ (c.is_zero ≡ false) → ReadsAsNew n
          by_zero (inl empty) =
              emptied (zero_read num concerned old new image plan grant store parts is one there_one node n below c e empty) (sym zero_is ∙ empty)
          by_zero (inr full) = filled
              (data_read num concerned old new image plan grant store parts is one there_one node n below c e full
              ∙ cond-true (nat_eq _ 2) _ _ (ap (λ k. nat_eq k 2) kind_built)
              ∙ ap (λ (o : Option Slots). option_map_or slots_bytes o zero_bytes) (ap (λ those. slice_get those n) slots_built ∙ there))
              (contents.slots one there_one (slots_in_block n slots) (there_is_in one.slots n (slots_in_block n slots) there))

  -- a block that is not rewritten has its slots as before, and one that is has the new ones
  kept_block : (n : ℕ) → ReadsAsBefore n → slots_of (reads n) ≡ slots_in_block n slots
  kept_block n (nothing none same) =
      ap slots_of (hole_is_read (store_planned store plan grant) _ none) ∙ empty_blocks_are_holes n slots (ap (list_all is_none) same)
  kept_block n (stood j low kind there read same) = ap slots_of read ∙ sym same

  new_slots : (n : ℕ) → ReadsAsNew n → slots_of (reads n) ≡ slots_in_block n slots
  new_slots n (emptied read empty) = ap slots_of read ∙ empty_blocks_are_holes n slots empty
  new_slots n (filled read fits) = ap slots_of read ∙ slots_of-slots_bytes (slots_in_block n slots) fits

  content_slots : (n : ℕ) → n < blocks_to_last_row blocks → slots_of (slice_index_or after.blocks n []) ≡ slots_in_block n slots
  content_slots n low =
      ap slots_of (content_is num concerned old new image plan grant store parts is one there_one node n (let most = few in omega arith))
      ∙ elim (cases_Bool (rewrites_slots seen slots n)) [
        | inl t ↦ new_slots n (read_new n low t)
        | inr f ↦ kept_block n (read_before n (let most = few in omega arith) f)
      ]

  made_part : IsPartMade (blocks_planned plan grant) (parts one.number) after one
  made_part = part_is_made num concerned old new image plan grant store parts is one there_one node

  size_same : (inode_in after).size / 4096 ≡ blocks_to_last_row blocks
  size_same =
      ap (λ (m : Inode). m.size / 4096) made_part.inode ∙ ap (λ (b : Built). b.meta.size / 4096) node.is
      ∙ ap (λ (s : Seated). s.meta.size / 4096) seat_is_directory
      ∙ whole_size (blocks_to_last_row blocks) few
    where
      whole_size : (b : ℕ) → b ≤ DIRECTORY_BLOCKS → size_of_blocks b / 4096 ≡ b
      whole_size b most = ap (λ n. n / 4096) (min-eq_left (omega arith)) ∙ back b
        where
          back : (b : ℕ) → 4096 * b / 4096 ≡ b
          back b = omega arith

  kind_after : (inode_in after).kind ≡ kind_byte Directory
  kind_after = ap (λ (m : Inode). m.kind) made_part.inode ∙ ap (λ (b : Built). b.meta.kind) node.is ∙ ap (λ (s : Seated). s.meta.kind) seat_is_directory

  long_after : length (directory_blocks after) ≡ blocks_to_last_row blocks
  long_after =
      ap (λ n. length (take n after.blocks)) size_same
      ∙ length-take-le (blocks_to_last_row blocks) after.blocks
      (let most = few in let all = (part_is_made num concerned old new image plan grant store parts is one there_one node).made.blocks in omega arith)

  kept_slots_are : map slots_of (directory_blocks after) ≡ one.slots
  kept_slots_are =
      ext_get_or empty_block (map slots_of (directory_blocks after)) one.slots (length-map (directory_blocks after) slots_of ∙ long_after ∙ sym long_slots)
      (λ n inside.
      let low : n < blocks_to_last_row blocks = omega (arith, inside, length-map (directory_blocks after) slots_of, long_after) in
      get_or-map slots_of (directory_blocks after) n [] empty_block (omega (arith, low, long_after))
      ∙ ap slots_of (ap (λ m. get_or (take m after.blocks) n []) size_same ∙ get_or-take (blocks_to_last_row blocks) after.blocks n [] low)
      ∙ content_slots n low ∙ sym (block_at n empty_block low))

  -- nothing is wrong in a block of the new part, where nothing was wrong in those of directories before
  fault_before : (n : ℕ) → ((j : ℕ) → j < image.count → breaks_slots (parts j) ≡ false) → ReadsAsBefore n → slots_fault (reads n) ≡ None
  fault_before n sound (nothing none same) = ap slots_fault (hole_is_read (store_planned store plan grant) _ none) ∙ zeros_have_no_fault
  fault_before n sound (stood j low kind there read same) = ap slots_fault read ∙ (slots_say (parts j)).0 (sound j low) kind n [] there

  fault_new : (n : ℕ) → ReadsAsNew n → slots_fault (reads n) ≡ None
  fault_new n (emptied read empty) = ap slots_fault read ∙ zeros_have_no_fault
  fault_new n (filled read fits) = ap slots_fault read ∙ slots_fault-slots_bytes (slots_in_block n slots) fits

  pub no_fault_after : ((j : ℕ) → j < image.count → breaks_slots (parts j) ≡ false) → breaks_slots after ≡ false
  no_fault_after sound = (slots_say after).1 (λ kind n d inside.
      let low : n < blocks_to_last_row blocks = omega (arith, inside, long_after) in
      ap slots_fault
      (ap (λ m. get_or (take m after.blocks) n d) size_same ∙ get_or-take (blocks_to_last_row blocks) after.blocks n d low
      ∙ get_or_default after.blocks n d [] (let most = few in let all = made_part.made.blocks in omega arith)
      ∙ content_is num concerned old new image plan grant store parts is one there_one node n (let most = few in omega arith))
      ∙ elim (cases_Bool (rewrites_slots seen slots n)) [
        | inl t ↦ fault_new n (read_new n low t)
        | inr f ↦ fault_before n sound (read_before n (let most = few in omega arith) f)
      ])

  -- and its size is one that a directory can have
  pub size_fits_after : FitsSize after
  size_fits_after = record {
    file = λ kind. absurd (let a = eqb-true (inode_in after).kind 1 kind in let b = kind_after in omega arith);
    whole = λ kind. ap (λ n. n % 4096) size_after ∙ whole_blocks (blocks_to_last_row blocks);
    few = λ kind. let most = few in let is = size_after in omega arith;
  }
    where
      size_after : (inode_in after).size ≡ 4096 * blocks_to_last_row blocks
      size_after =
          ap (λ (m : Inode). m.size) made_part.inode ∙ ap (λ (b : Built). b.meta.size) node.is ∙ ap (λ (s : Seated). s.meta.size) seat_is_directory
          ∙ min-eq_left (let most = few in omega arith)

      whole_blocks : (b : ℕ) → 4096 * b % 4096 ≡ 0
      whole_blocks b = omega arith

  is_directory_after : is_directory_part after ≡ true
  is_directory_after = eq-eqb (inode_in after).kind (kind_byte Directory) kind_after

  pub directory_is_made : IsKeptMade next after one
  directory_is_made = record {
    kept = λ j. record {
      inode = made_part.inode j;
      tables = (part_is_made num concerned old new image plan grant store parts is one there_one node).tables j;
      slots = (cond-true (is_directory_part after) (map slots_of (directory_blocks after)) [] is_directory_after ∙ kept_slots_are) j;
    };
    shows = record {
      kind = ap (λ (m : Inode). m.kind) made_part.inode ∙ node.shows.kind;
      links = ap (λ (m : Inode). m.links) made_part.inode ∙ node.shows.links;
      size = ap (λ (m : Inode). m.size) made_part.inode ∙ node.shows.size;
      slots =
          cond-true (is_directory_part after) (flat_map slots_of (directory_blocks after)) [] is_directory_after ∙ sym (joined_slots (directory_blocks after))
          ∙ ap slots_joined kept_slots_are ∙ node.shows.slots;
      bytes =
          ap (λ k. cond (nat_eq k 1) (tabulate (inode_in after).size (file_byte after)) []) kind_after
          ∙ sym (ap (λ n. (next.seen n).bytes) node.inode ∙ shows.bytes ∙ plain);
      blocks =
          λ place low. pointer_after_is num concerned old new image plan grant store parts is one there_one node place low
          ∙ ap (λ n. (next.seen n).blocks place) (sym node.inode);
    };
  }
    where
      shows : ShowsNode commit.after new begun.node (next.seen i)
      shows = shows_node num concerned old new image plan grant store parts is one there_one node

      plain : bytes_of new begun.node ≡ []
      plain =
          is.full.sound.storable.limits.plain begun.node
          (directory_by_kind new begun.node ∙ ap is_directory_kind (ap (kind_of new) (sym same_node.built_is) ∙ directory))

pub plans_make_directories : PlansMakeDirectories
plans_make_directories num concerned old new image plan grant store parts is contents one there directory =
    directory_is_made num concerned old new image plan grant store parts is contents one there
    (node_built num concerned old new image plan grant is.full one there) directory
