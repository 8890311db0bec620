-- The parts after a commit break no rule on the bytes of one inode, and memory then has what is kept of them.
use Rattle.std.proofs.Common.{◌≡◌, ◌≢◌, ℕ, ◌+◌, ◌-◌, ◌*◌, ◌/◌, ◌<◌, ◌≤◌, Bool, true, false, cond, List, [], length, map, take, get_or, replicate, Option, Some, None, is_none, is_some, option_map, position, inl, inr, refl, sym, ap, subst, ◌∙◌, arith, nat_eq, nat_lt, Contains}
use Rattle.std.specs.Prelude.{◌⊎◌, slice_get}
use Rattle.std.specs.List.{find, list_all, flat_map}
use Rattle.std.specs.Option.{option_map_or}
use borrow.Author.Tests.{eqb-true, eq-eqb}
use Rattle.std.proofs.Math.ListN.{drop_of_length-le}
use Rattle.std.proofs.lemmas.Bool.{cond-true, cond-false, cases_Bool, cases_lt, eqb-false, lt-ltb, le-ltb}
use Rattle.std.proofs.lemmas.List.{same_lists, get_or_default, get_or-replicate, length-map, length-take}
use Rattle.sfs_base.proofs.BasicTruth.{true_not_false, false_not_true}
use Rattle.sfs_base.specs.declared.numbers.Kind.{Kind}
use Rattle.sfs_base.specs.declared.numbers.Kind.TheVariants.{File, Directory}
use Rattle.sfs_image.specs.Bytes.{nonzero_in, is_nonzero}
use Rattle.sfs_image.specs.Inode.{Inode, inode_bytes, inode_fault}
use Rattle.sfs_image.specs.LawsOfParts.{FitsSize, PointsWell}
use Rattle.sfs_image.specs.Part.{Part, part_of, inode_in, pointer_at, is_free_part, is_directory_part, directory_blocks, seen_of}
use Rattle.sfs_image.specs.Rules.{breaks_record, breaks_size, breaks_tail, breaks_slots, first_covered}
use Rattle.sfs_image.specs.Seen.{Seen, SeenInodes, FILE_BLOCKS, PLACES}
use Rattle.sfs_image.specs.Slot.{kind_byte}
use Rattle.sfs_image.specs.SlotBlock.{slots_of}
use Rattle.sfs_image.specs.Super.{Layout}
use Rattle.sfs_image.proofs.AcceptedLaws.{raw_of}
use Rattle.sfs_image.proofs.InodeLaws.{inode_fault-inode_bytes, inode_of-inode_bytes}
use Rattle.sfs_image.proofs.RuleFacts.{asked, sizes_say, tails_say, slots_say, blocks_cover}
use Rattle.sfs_image.proofs.RuleLaws.{good_from_rule, rule_from_good}
use Rattle.tree_laws.specs.Tree.{TreeState, kind_of, bytes_of, is_directory, is_directory_kind}
use Rattle.tree_laws.proofs.Readings.{directory_by_kind}
use Rattle.image_laws.specs.Commit.{Commit, blank, seen_before, slots_after}
use Rattle.image_laws.specs.Image.{HaveGoodBytes}
use Rattle.image_laws.specs.Keeps.{IsDirectoryInode}
use Rattle.image_laws.specs.Need.{Rewrite, slots_in_block, rewrites_slots, directory_rewrite, file_rewrite, pointer_after, first_block, blocks_filled}
use Rattle.image_laws.specs.Renamed.{Numbering}
use Rattle.image_laws.specs.Slots.{blocks_up_to_last}
use Rattle.image_laws.specs.Stands.{ShowsNode}
use Rattle.image_laws.proofs.LastBlock.{blocks_end_with_row}
use Rattle.image_laws.proofs.Places.{blocks_are_kept_or_rewritten}
use Rattle.image_laws.proofs.Standing.{not_used}
use Rattle.block_map.specs.Kept.{kept_of, pointer_kept}
use Rattle.disk_nodes.specs.OldKept.{Kept}
use Rattle.block_map.specs.Remap.{fresh_for}
use Rattle.block_map.proofs.Left.{remapped_pointers_stand}
use Rattle.space_map.specs.Space.{GrantedNumbers}
use Rattle.disk_change.specs.AllBuilt.{nodes_with_grant, entry_after, after_commit}
use Rattle.disk_change.specs.Built.{Built, rewrite_in}
use Rattle.disk_change.specs.Directory.{is_among}
use Rattle.disk_change.specs.GivenUp.{entry_number}
use Rattle.disk_nodes.specs.Nodes.{entry_node}
use Rattle.disk_change.specs.Seated.{free_inode}
use Rattle.disk_nodes.specs.declared.old.OldEntry.{OldEntry}
use Rattle.commit_laws.specs.BytesKept.{CutsOffEnds, AreGoodParts, GoodPartsHaveNoneBehind, GoodPartsFit, IsCleanPlan, PlansLeaveGoodBytes, PlansKeepParts}
use Rattle.commit_laws.specs.CommitOfPlan.{CommitPlan, change_planned, commit_of, image_planned, IsCommitPlan}
use Rattle.commit_laws.specs.PartsMade.{part_made, IsPlanOverParts, store_planned}
use Rattle.commit_laws.specs.PartsStand.{HasContents, part_next}
use Rattle.commit_laws.specs.Ranked.{fresh_cut}
use Rattle.commit_laws.specs.Rewritten.{SayTheSame, rewrite_defined, has_page}
use Rattle.commit_laws.proofs.BlocksRead.{one_node}
use Rattle.commit_laws.proofs.DirectoriesMade.{no_fault_after, size_fits_after, directory_is_made}
use Rattle.commit_laws.proofs.FilesMade.{file_fits_after, clean_after, file_is_made}
use Rattle.commit_laws.proofs.GoodParts.{IsGoodPart, good_part, all_good, LeavesNone, none_after, no_table_after}
use Rattle.commit_laws.proofs.GrantWritten.{found_once}
use Rattle.commit_laws.proofs.JoinedSlots.{Slots, long_blocks, length_joined}
use Rattle.commit_laws.proofs.KeptShown.{joined_slots, slot_blocks}
use Rattle.commit_laws.proofs.OwnInodes.{mapped_is_in, ascending_is_in}
use Rattle.commit_laws.proofs.PartsMade.{read_inode, meta_fits, meta_is, tables_are, pointer_is, pointer_after_is, part_is_made, shows_node, lengths}
use Rattle.commit_laws.proofs.PartsTurned.{by_part, free_has_none, built_in_data}
use Rattle.commit_laws.proofs.PlanShown.{IsBuiltNode, node_built}
use Rattle.commit_laws.proofs.PartsStand.{free_fits}
use Rattle.commit_laws.proofs.Rewritten.{take_same}
use Rattle.commit_laws.proofs.RewrittenAsDefined.{plans_rewrite_as_defined}
use Rattle.commit_laws.proofs.SeatsOfPlan.{there_is_in, inodes_once}
use Rattle.commit_laws.proofs.SlotBlocks.{get_in_block, length_in_block}

-- a node that is no directory is a file
file_kind : (tree : TreeState) (node : ℕ) → is_directory tree node ≡ false → kind_of tree node ≡ File
file_kind tree node none = by (kind_of tree node) (sym (directory_by_kind tree node) ∙ none)
  where
    by : (kind : Kind) → is_directory_kind kind ≡ false → kind ≡ File
    by File e = refl
    by Directory e = absurd (true_not_false e)

-- behind a directory's last block no block has a row
no_rows_behind : (slots : Slots) (n : ℕ) → blocks_up_to_last slots ≤ n → list_all is_none (slots_in_block n slots) ≡ true
no_rows_behind slots n behind = ap (list_all is_none) empty
  where
    empty : slots_in_block n slots ≡ replicate 15 None
    empty = same_lists (slots_in_block n slots) (replicate 15 None) (length_in_block n slots)
        (λ k d inside.
        let low : k < 15 = subst (λ l. k < l) (length_in_block n slots) inside in
        get_or_default (slots_in_block n slots) k d None inside ∙ get_in_block n slots k low ∙ (blocks_end_with_row slots).rest (15 * n + k) (omega arith)
        ∙ sym (get_or-replicate 15 k None d low))

-- behind a file's end no byte is left
no_bytes_behind : (bytes : List ℕ) (n : ℕ) → length bytes ≤ 4096 * n → is_none (nonzero_in (4096 * n) 4096 bytes) ≡ true
no_bytes_behind bytes n behind = ap (λ those. is_none (option_map (λ k. 4096 * n + k) (position is_nonzero (take 4096 those)))) (drop_of_length-le bytes behind)

-- a free part breaks no rule
free_is_good : (layout : Layout) (store : ℕ → List ℕ) → IsGoodPart layout (part_of store (inode_bytes free_inode))
free_is_good layout store = record {
  record_good = ap is_some (ap inode_fault (raw_of store (inode_bytes free_inode)) ∙ inode_fault-inode_bytes free_inode free_fits);
  size =
      (sizes_say free).1
      (record {
        file = λ kind. absurd (no_kind 1 kind (λ e. omega arith));
        whole = λ kind. absurd (no_kind 2 kind (λ e. omega arith));
        few = λ kind. absurd (no_kind 2 kind (λ e. omega arith));
      });
  pointers = rule_from_good layout free (λ p low there. absurd (there (free_has_none store p)));
  tail = (tails_say free).1 (λ kind. absurd (no_kind 1 kind (λ e. omega arith)));
  slots = (slots_say free).1 (λ kind. absurd (no_kind 2 kind (λ e. omega arith)));
}
  where
    free : Part
    free = part_of store (inode_bytes free_inode)

    kind_free : (inode_in free).kind ≡ 0
    kind_free = ap (λ (m : Inode). m.kind) (read_inode store free_inode free_fits)

    no_kind : (k : ℕ) → nat_eq (inode_in free).kind k ≡ true → k ≢ 0 → ⊥
    no_kind k same some = some (sym (eqb-true (inode_in free).kind k same) ∙ kind_free)

module _ (num : Numbering) (concerned : List ℕ) (old new : TreeState) (image : SeenInodes) (plan : CommitPlan) (grant : GrantedNumbers) (store : ℕ → List ℕ)
    (parts : ℕ → Part) (layout : Layout)
    (is : IsPlanOverParts num concerned old new image plan grant store parts) (clean : IsCleanPlan num concerned old new image plan grant layout parts) where
  abbrev whole : IsCommitPlan num concerned old new image plan grant
  whole = is.full.sound.whole

  abbrev commit : Commit
  commit = commit_of num concerned plan grant

  abbrev next : SeenInodes
  next = image_planned num concerned new image plan grant

  good_before : (i : ℕ) → i < image.count → IsGoodPart layout (parts i)
  good_before i low = good_part layout parts clean.good.good i (subst (λ n. i < n) clean.good.count low)

  module _ (one : Built) (there : Contains (nodes_with_grant (change_planned plan) grant) one) where
    node : IsBuiltNode num concerned old new image plan grant is.full one
    node = node_built num concerned old new image plan grant is.full one there

    abbrev after : Part
    after = part_made store plan grant one

    abbrev own : ℕ
    own = node.of.begun.node

    abbrev seen : Seen
    seen = seen_before commit image node.of.begun.node

    abbrev defined : Rewrite
    defined = rewrite_defined commit new image plan.files node.seat.node

    same_node : node.seat.node ≡ node.of.begun.node
    same_node = (one_node num concerned old new image plan grant store parts is one there node).seat_is

    -- what is rewritten of the node, by its kind
    defined_as : (b : Bool) → is_directory new node.of.begun.node ≡ b
        → defined
        ≡ cond b (directory_rewrite seen (slots_after commit.after new (commit.nets own) seen.slots))
        (file_rewrite (has_page plan.files own) seen (bytes_of new own))
    defined_as b e =
        ap (rewrite_defined commit new image plan.files) same_node
        ∙ ap (λ b. cond b (directory_rewrite seen (slots_after commit.after new (commit.nets own) seen.slots))
        (file_rewrite (has_page plan.files own) seen (bytes_of new own)))
        e

    says : SayTheSame (rewrite_in node.seat) defined
    says =
        plans_rewrite_as_defined num concerned old new image plan grant
        (record { full = is.full; pages = clean.contents.files.pages; behind = clean.contents.directories.behind }) node.seat
        (there_is_in (change_planned plan).seats node.m node.seat node.at)

    -- behind its end nothing is left of it
    leaves_none : LeavesNone defined defined.blocks
    leaves_none = by (is_directory new own) refl
      where
        slots : Slots
        slots = slots_after commit.after new (commit.nets own) seen.slots

        of_directory : LeavesNone (directory_rewrite seen slots) (blocks_up_to_last slots)
        of_directory = record {
          zero = λ n behind low rewritten. no_rows_behind slots n behind;
          none = λ n behind low unwritten. ((blocks_are_kept_or_rewritten seen slots n).0 unwritten).gone behind;
        }

        no_pointer : (n : ℕ) → length (bytes_of new own) ≤ 4096 * n → n < FILE_BLOCKS → has_page plan.files own n ≡ false → kind_of old own ≡ File
            → seen.blocks n ≡ 0
        no_pointer n behind low none file = by_number (num own) refl
          where
            by_number : (o : Option ℕ) → num own ≡ o → seen.blocks n ≡ 0
            by_number None e = ap (λ (o : Option ℕ). (option_map_or image.seen o blank).blocks n) e
            by_number (Some j) e =
                ap (λ (o : Option ℕ). (option_map_or image.seen o blank).blocks n) e ∙ elim (cases_Bool (nat_eq ((image.seen j).blocks n) 0)) [
                  | inl zero ↦ eqb-true ((image.seen j).blocks n) 0 zero
                  | inr some ↦ absurd (pointed (eqb-false ((image.seen j).blocks n) 0 some))
                ]
              where
                low_j : j < image.count
                low_j = whole.stands.within own j e

                seen_j : image.seen j ≡ seen_of (parts j)
                seen_j = is.standing.shown j low_j

                shows_j : ShowsNode num old own (image.seen j)
                shows_j = whole.stands.each own j e

                used : is_free_part (parts j) ≡ false
                used = ap (λ k. nat_eq k 0) (sym (ap (λ (s : Seen). s.kind) seen_j) ∙ shows_j.kind ∙ ap kind_byte file)

                size_j : (inode_in (parts j)).size ≡ length (bytes_of old own)
                size_j =
                    sym (ap (λ (s : Seen). s.size) seen_j) ∙ shows_j.size
                    ∙ ap (λ k. cond (nat_eq k 2) (4096 * (length (image.seen j).slots / 15)) (length (image.seen j).bytes)) (shows_j.kind ∙ ap kind_byte file)
                    ∙ ap length shows_j.bytes

                pointed : (image.seen j).blocks n ≢ 0 → ⊥
                pointed some =
                    let well =
                    good_from_rule layout (parts j) n (good_before j low_j).pointers used (omega arith)
                    (λ none. some (ap (λ (s : Seen). s.blocks n) seen_j ∙ none)) in
                    let covered = well.covers in
                    let first = blocks_cover n low in
                    true_not_false (sym (clean.ends own n node.of.among node.of.held (omega (arith, covered, first, size_j)) behind) ∙ none)

        of_file : kind_of old own ≡ File → LeavesNone (file_rewrite (has_page plan.files own) seen (bytes_of new own)) (blocks_filled (bytes_of new own))
        of_file file = record {
          zero = λ n behind low rewritten. no_bytes_behind (bytes_of new own) n (omega (arith, behind));
          none = λ n behind low unwritten. no_pointer n (omega (arith, behind)) low unwritten file;
        }

        by : (b : Bool) → is_directory new own ≡ b → LeavesNone defined defined.blocks
        by true e = subst (λ (r : Rewrite). LeavesNone r r.blocks) (sym (defined_as true e)) of_directory
        by false e = subst (λ (r : Rewrite). LeavesNone r r.blocks) (sym (defined_as false e)) (of_file (sym (whole.follows.kinds own) ∙ file_kind new own e))

    -- the pointers afterwards are those of what is rewritten
    pointer_defined : (place : ℕ) → place < PLACES
        → pointer_at after place
        ≡ pointer_after defined (fresh_for (rewrite_in node.seat) (fresh_cut (change_planned plan).seats grant.blocks node.m node.seat)) place
    pointer_defined place low =
        pointer_after_is num concerned old new image plan grant store parts is one there node place low
        ∙ sym (pointer_is num concerned old new image plan grant store parts is one there node place low)
        ∙ (λ j. pointer_kept (meta_is num concerned old new image plan grant store parts is one there node j)
        (tables_are num concerned old new image plan grant store parts is one there node j) place)
        ∙ remapped_pointers_stand node.seat.meta node.seat.tables node.seat.changed
        (fresh_cut (change_planned plan).seats grant.blocks node.m node.seat) place low
        ∙ (take_same (rewrite_in node.seat) defined says).after
        (fresh_for (rewrite_in node.seat) (fresh_cut (change_planned plan).seats grant.blocks node.m node.seat)) place low

    end_is : defined.blocks ≡ ((inode_in after).size + 4095) / 4096
    end_is =
        sym says.blocks
        ∙ sym
        (ap (λ (m : Inode). (m.size + 4095) / 4096)
        ((part_is_made num concerned old new image plan grant store parts is one there node).inode
        ∙ meta_is num concerned old new image plan grant store parts is one there node))

    -- so each pointer covers a byte below the size
    covered : (place : ℕ) → place < PLACES → pointer_at after place ≢ 0 → first_covered place < (inode_in after).size
    covered place low some = elim (cases_lt (first_covered place) (inode_in after).size) [
      | inl below ↦ below
      | inr behind ↦ absurd (some (pointer_defined place low ∙ none_there behind (cases_lt place FILE_BLOCKS)))
    ]
      where
        fresh : ℕ → ℕ
        fresh = fresh_for (rewrite_in node.seat) (fresh_cut (change_planned plan).seats grant.blocks node.m node.seat)

        none_there : (inode_in after).size ≤ first_covered place → (place < FILE_BLOCKS) ⊎ (FILE_BLOCKS ≤ place) → pointer_after defined fresh place ≡ 0
        none_there behind (inl block) =
            let first = blocks_cover place block in
            none_after defined leaves_none fresh place (omega (arith, behind, first, end_is)) block
        none_there behind (inr table) =
            let first : first_covered place ≡ 4096 * (108 + 1024 * (place - FILE_BLOCKS)) =
            cond-false (nat_lt place FILE_BLOCKS) _ _ (le-ltb place FILE_BLOCKS table) in
            let back : FILE_BLOCKS + (place - FILE_BLOCKS) ≡ place = omega arith in
            ap (pointer_after defined fresh) (sym back)
            ∙ no_table_after defined leaves_none fresh (place - FILE_BLOCKS) (omega arith) (omega (arith, behind, first, end_is))

    built_points : (p : ℕ) → p < PLACES → pointer_at after p ≢ 0 → PointsWell layout after p
    built_points p low some =
        let lies = built_in_data num concerned old new image plan grant store parts is layout clean.within one there p some in
        record { low = lies.0; high = lies.1; covers = covered p low some }

    built_is_good : IsGoodPart layout after
    built_is_good = by (kind_of new one.node) refl
      where
        record_is : breaks_record after ≡ false
        record_is =
            ap is_some
            (ap inode_fault (raw_of (store_planned store plan grant) (inode_bytes one.meta))
            ∙ inode_fault-inode_bytes one.meta (meta_fits num concerned old new image plan grant store parts is one there node))

        kind_after : (inode_in after).kind ≡ kind_byte (kind_of new one.node)
        kind_after =
            ap (λ (m : Inode). m.kind) (part_is_made num concerned old new image plan grant store parts is one there node).inode ∙ node.shows.kind
            ∙ ap (λ n. (next.seen n).kind) node.inode
            ∙ (shows_node num concerned old new image plan grant store parts is one there node).kind
            ∙ ap (λ x. kind_byte (kind_of new x)) (sym (one_node num concerned old new image plan grant store parts is one there node).built_is)

        by : (kind : Kind) → kind_of new one.node ≡ kind → IsGoodPart layout after
        by File e = record {
          record_good = record_is;
          size = (sizes_say after).1 (file_fits_after num concerned old new image plan grant store parts is clean.contents.files one there node e);
          pointers = rule_from_good layout after built_points;
          tail = clean_after num concerned old new image plan grant store parts is clean.contents.files one there node e;
          slots = (slots_say after).1 (λ kind. absurd (let a = eqb-true (inode_in after).kind 2 kind in let b = kind_after ∙ ap kind_byte e in omega arith));
        }
        by Directory e = record {
          record_good = record_is;
          size = (sizes_say after).1 (size_fits_after num concerned old new image plan grant store parts is clean.contents.directories one there node e);
          pointers = rule_from_good layout after built_points;
          tail = (tails_say after).1 (λ kind. absurd (let a = eqb-true (inode_in after).kind 1 kind in let b = kind_after ∙ ap kind_byte e in omega arith));
          slots =
              no_fault_after num concerned old new image plan grant store parts is clean.contents.directories one there node e
              (λ j low. (good_before j low).slots);
        }

  leave_good : HaveGoodBytes layout (part_next store parts plan grant)
  leave_good = all_good layout (part_next store parts plan grant) (λ i low.
      by_part num concerned old new image plan grant store parts is (λ _ part. IsGoodPart layout part) built_is_good
      (λ _. free_is_good layout store) good_before i (subst (λ n. i < n) (sym clean.good.count) low))

pub plans_leave_good_bytes : PlansLeaveGoodBytes
plans_leave_good_bytes = leave_good

-- a directory shows 15 slots for each of its blocks
slots_counted : (part : Part) → is_directory_part part ≡ true → length (seen_of part).slots ≡ 15 * length (directory_blocks part)
slots_counted part directory =
    let blocks : List (List ℕ) = directory_blocks part in
    ap length (cond-true (is_directory_part part) (flat_map slots_of blocks) [] directory ∙ sym (joined_slots blocks))
    ∙ length_joined (map slots_of blocks) (long_blocks (map slots_of blocks) (slot_blocks blocks)) ∙ ap (λ n. 15 * n) (length-map blocks slots_of)

pub good_parts_fit : GoodPartsFit
good_parts_fit store layout image parts standing good i directory =
    let seen_i : image.seen i ≡ seen_of (parts i) = standing.shown i directory.0 in
    let is_one : is_directory_part (parts i) ≡ true =
    eq-eqb (inode_in (parts i)).kind (kind_byte Directory) (sym (ap (λ (s : Seen). s.kind) seen_i) ∙ directory.1) in
    let fits = (sizes_say (parts i)).0 (good_part layout parts good.good i (subst (λ n. i < n) good.count directory.0)).size in
    let few = fits.few is_one in
    let taken = length-take ((inode_in (parts i)).size / 4096) (parts i).blocks in
    let count : length (image.seen i).slots ≡ 15 * length (directory_blocks (parts i)) =
    ap (λ (s : Seen). length s.slots) seen_i ∙ slots_counted (parts i) is_one in
    omega (arith, few, taken, count)

pub good_parts_have_none_behind : GoodPartsHaveNoneBehind
good_parts_have_none_behind store layout image parts standing good i n directory low short =
    ap (λ (s : Seen). s.blocks n) seen_i ∙ elim (cases_Bool (nat_eq (pointer_at (parts i) n) 0)) [
      | inl zero ↦ eqb-true (pointer_at (parts i) n) 0 zero
      | inr some ↦ absurd (pointed (eqb-false (pointer_at (parts i) n) 0 some))
    ]
  where
    low_i : i < layout.inodes
    low_i = subst (λ n. i < n) good.count directory.0

    seen_i : image.seen i ≡ seen_of (parts i)
    seen_i = standing.shown i directory.0

    is_good : IsGoodPart layout (parts i)
    is_good = good_part layout parts good.good i low_i

    kind_i : (inode_in (parts i)).kind ≡ kind_byte Directory
    kind_i = sym (ap (λ (s : Seen). s.kind) seen_i) ∙ directory.1

    is_one : is_directory_part (parts i) ≡ true
    is_one = eq-eqb (inode_in (parts i)).kind (kind_byte Directory) kind_i

    fits : FitsSize (parts i)
    fits = (sizes_say (parts i)).0 is_good.size

    slots_count : length (image.seen i).slots ≡ 15 * length (directory_blocks (parts i))
    slots_count = ap (λ (s : Seen). length s.slots) seen_i ∙ slots_counted (parts i) is_one

    blocks_count : length (parts i).blocks ≡ FILE_BLOCKS
    blocks_count = ap (λ (p : Part). length p.blocks) (sym (standing.gathered i directory.0)) ∙ (lengths store (parts i).raw).1

    pointed : pointer_at (parts i) n ≢ 0 → ⊥
    pointed some =
        let well = good_from_rule layout (parts i) n is_good.pointers (ap (λ k. nat_eq k 0) kind_i) (omega arith) some in
        let covered = well.covers in
        let first = blocks_cover n low in
        let whole = fits.whole is_one in
        let few = fits.few is_one in
        let taken = length-take ((inode_in (parts i)).size / 4096) (parts i).blocks in
        omega (arith, covered, first, whole, few, taken, short, slots_count, blocks_count)

module _ (num : Numbering) (concerned : List ℕ) (old new : TreeState) (image : SeenInodes) (plan : CommitPlan) (grant : GrantedNumbers) (store : ℕ → List ℕ)
    (parts : ℕ → Part)
    (is : IsPlanOverParts num concerned old new image plan grant store parts) (contents : HasContents num concerned old new image plan grant parts) where
  abbrev nodes : List Built
  nodes = nodes_with_grant (change_planned plan) grant

  kept_built : (one : Built) → Contains nodes one → (entry_after one).old.kept ≡ kept_of (part_made store plan grant one)
  kept_built one there = by (kind_of new one.node) refl
    where
      node : IsBuiltNode num concerned old new image plan grant is.full one
      node = node_built num concerned old new image plan grant is.full one there

      by : (kind : Kind) → kind_of new one.node ≡ kind → (entry_after one).old.kept ≡ kept_of (part_made store plan grant one)
      by File e = sym (file_is_made num concerned old new image plan grant store parts is contents.files one there node e).kept
      by Directory e = sym (directory_is_made num concerned old new image plan grant store parts is contents.directories one there node e).kept

  keep_parts : (entry : OldEntry) → Contains (after_commit (change_planned plan) grant) entry
      → entry.old.kept ≡ kept_of (part_next store parts plan grant entry.old.number)
  keep_parts entry there =
      let one = mapped_is_in entry_after nodes entry (ascending_is_in entry_node _ entry there) in
      let found = found_once (λ (b : Built). b.number) nodes (inodes_once num concerned old new image plan grant is.full.sound.whole) one.0 one.1 in
      ap (λ (e : OldEntry). e.old.kept) (sym one.2) ∙ kept_built one.0 one.1
      ∙ sym (ap kept_of (ap (λ (o : Option Built). option_map_or (part_made store plan grant) o (rest is one.0.number)) found) ∙ refl)
      ∙ ap (λ (e : OldEntry). kept_of (part_next store parts plan grant e.old.number)) one.2
    where
      rest : IsPlanOverParts num concerned old new image plan grant store parts → ℕ → Part
      rest _ i = cond (is_among (map entry_number (change_planned plan).gone) i) (part_of store (inode_bytes free_inode)) (parts i)

pub plans_keep_parts : PlansKeepParts
plans_keep_parts = keep_parts
