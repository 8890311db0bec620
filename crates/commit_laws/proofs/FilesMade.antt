-- The part of a file after a commit has the new bytes in its blocks.
use Rattle.std.proofs.Common.{◌≡◌, ℕ, zero, suc, ◌+◌, ◌*◌, ◌/◌, ◌%◌, ◌<◌, ◌≤◌, true, false, cond, List, [], ◌∷◌, ◌++◌, length, map, take, drop, Option, Some, None, is_none, is_some, option_map, inl, inr, refl, sym, ap, subst, ◌∙◌, arith, nat_eq, Contains}
use Rattle.std.specs.Prelude.{◌⊎◌, slice_index, slice_index_or}
use Rattle.std.specs.List.{flat_map}
use Rattle.std.specs.Option.{option_map_or, unwrap_or}
use borrow.Author.Tests.{eqb-true}
use Rattle.std.proofs.lemmas.Bool.{cond-false, cases_Bool}
use Rattle.std.proofs.lemmas.List.{get_or-take, get_or-drop, get_or_past, take_all, length-append, length-take-le}
use Rattle.sfs_base.proofs.BasicLists.{zeros_read}
use Rattle.sfs_base.proofs.BasicOptions.{none_some}
use Rattle.sfs_base.specs.declared.numbers.Kind.TheVariants.{File}
use Rattle.absorb.specs.declared.nets.NetRow.{NetRow}
use Rattle.sfs_image.specs.Bytes.{zeros, nonzero_in}
use Rattle.sfs_image.specs.ImageOf.{FreshBlock}
use Rattle.sfs_image.specs.Inode.{Inode}
use Rattle.sfs_image.specs.Part.{Part, directory_blocks, is_directory_part, read_block, inode_in, file_byte}
use Rattle.sfs_image.specs.LawsOfParts.{FitsSize}
use Rattle.sfs_image.specs.Rules.{breaks_tail}
use Rattle.sfs_image.proofs.RuleFacts.{tails_say}
use Rattle.sfs_image.specs.Seen.{Seen, SeenInodes, FILE_BLOCKS}
use Rattle.sfs_image.specs.Slot.{kind_byte}
use Rattle.sfs_image.specs.SlotBlock.{slots_of}
use Rattle.sfs_image.proofs.BytesLaws.{zeros-is, length-zeros, part_from_none}
use Rattle.sfs_image.proofs.PartLaws.{hole_is_read}
use Rattle.tree_laws.specs.Tree.{TreeState, kind_of, bytes_of}
use Rattle.image_laws.specs.Commit.{Commit, blank, seen_before}
use Rattle.image_laws.specs.Renamed.{Numbering}
use Rattle.image_laws.proofs.BlockRows.{byte_blocks_show}
use Rattle.block_map.specs.Changed.{change_of}
use Rattle.space_map.specs.Space.{GrantedNumbers}
use Rattle.disk_change.specs.AllBuilt.{numbers_with, nodes_with_grant, pages_of_node}
use Rattle.disk_change.specs.Built.{Built, built}
use Rattle.disk_change.specs.Fresh.{content_of, zero_bytes}
use Rattle.keyed_list.specs.Ascending.{item_with}
use Rattle.disk_change.specs.Nodes.{file_node}
use Rattle.disk_change.specs.Numbered.{block_numbered}
use Rattle.disk_change.specs.Pages.{page_block}
use Rattle.disk_change.specs.Planned.{Planned}
use Rattle.disk_change.specs.Seat.{page_said}
use Rattle.disk_change.specs.Seated.{Begun, Seated, seated_as, begun_old, begun_entering, net_of_node}
use Rattle.disk_change.specs.declared.pages.Page.{Page}
use Rattle.disk_change.proofs.Blocks.{drop_none}
use Rattle.disk_change.proofs.NumbersGiven.{planned_node, drop_zero}
use Rattle.commit_laws.specs.CommitOfPlan.{CommitPlan, change_planned, commit_of, image_planned, IsCommitPlan}
use Rattle.commit_laws.specs.FilesMade.{HasBytesInBlocks, HasFileBlocks, IsFileMade, PlansMakeFiles}
use Rattle.commit_laws.specs.PartsMade.{store_over, blocks_planned, part_made, IsPlanOverParts, store_planned, IsPartMade}
use Rattle.commit_laws.specs.Ranked.{fresh_cut}
use Rattle.commit_laws.specs.Rewritten.{bytes_in_block}
use Rattle.commit_laws.specs.SlotsKept.{slots_joined}
use Rattle.commit_laws.proofs.BegunShown.{made}
use Rattle.commit_laws.proofs.BlocksRead.{content_is, block_is, old_read, zero_read, data_read, IsOneNode, one_node}
use Rattle.commit_laws.proofs.NumbersGiven.{kept_in}
use Rattle.commit_laws.proofs.PartsMade.{shows_node, pointer_after_is, part_is_made}
use Rattle.commit_laws.proofs.PlanShown.{IsBuiltNode, node_built}
use Rattle.commit_laws.proofs.RewrittenBlocks.{change_said, page_bytes}
use Rattle.commit_laws.proofs.SeatsOfPlan.{there_is_in, seat_comes}

-- zeros behind bytes read as what is past their end
zeros_past : (bytes : List ℕ) (m k : ℕ) → slice_index (bytes ++ zeros m) k ≡ slice_index bytes k
zeros_past [] m k = ap (λ those. slice_index those k) (zeros-is m) ∙ zeros_read m k ∙ sym (get_or_past [] k 0 (omega arith))
zeros_past (byte ∷ bytes) m zero = refl
zeros_past (byte ∷ bytes) m (suc k) = zeros_past bytes m k

-- each byte of a block is that of the file
pub byte_in_block : (n r : ℕ) (bytes : List ℕ) → r < 4096 → slice_index (bytes_in_block n bytes) r ≡ slice_index bytes (4096 * n + r)
byte_in_block n r bytes low =
    get_or-take 4096 (drop (4096 * n) bytes ++ zeros 4096) r 0 low ∙ zeros_past (drop (4096 * n) bytes) 4096 r ∙ get_or-drop (4096 * n) bytes r 0

pub length_block : (n : ℕ) (bytes : List ℕ) → length (bytes_in_block n bytes) ≡ 4096
length_block n bytes =
    length-take-le 4096 (drop (4096 * n) bytes ++ zeros 4096) (omega (arith, length-append (drop (4096 * n) bytes) (zeros 4096), length-zeros 4096))

-- a block without a byte that is not 0 is one of zeros
zero_block : (block : List ℕ) → length block ≡ 4096 → is_none (nonzero_in 0 4096 block) ≡ true → zeros 4096 ≡ block
zero_block block long none =
    sym (part_from_none 0 4096 block (omega arith) (by (nonzero_in 0 4096 block) none)) ∙ ap (take 4096) (drop_zero block) ∙ take_all 4096 block (omega arith)
  where
    by : (o : Option ℕ) → is_none o ≡ true → o ≡ None
    by None t = refl
    by (Some k) t = absurd (cc)

-- a file without bytes has zeros in each block
no_bytes : (n : ℕ) → zeros 4096 ≡ bytes_in_block n []
no_bytes n = sym (ap (λ those. take 4096 (those ++ zeros 4096)) (drop_none (4096 * n)) ∙ take_all 4096 (zeros 4096) (omega (arith, length-zeros 4096)))

module _ (num : Numbering) (concerned : List ℕ) (old new : TreeState) (image : SeenInodes) (plan : CommitPlan) (grant : GrantedNumbers) (store : ℕ → List ℕ)
    (parts : ℕ → Part)
    (is : IsPlanOverParts num concerned old new image plan grant store parts) (blocks : HasFileBlocks num concerned old new plan parts) (one : Built)
    (there_one : Contains (nodes_with_grant (change_planned plan) grant) one)
    (node : IsBuiltNode num concerned old new image plan grant is.full one) (file : kind_of new one.node ≡ File) where
  abbrev whole : IsCommitPlan num concerned old new image plan grant
  whole = is.full.sound.whole

  abbrev change : Planned
  change = change_planned plan

  abbrev commit : Commit
  commit = commit_of num concerned plan grant

  abbrev next : SeenInodes
  next = image_planned num concerned new image plan grant

  abbrev fresh : List FreshBlock
  fresh = blocks_planned plan grant

  abbrev i : ℕ
  i = node.of.inode

  abbrev begun : Begun
  begun = node.of.begun

  abbrev own : List ℕ
  own = fresh_cut change.seats grant.blocks node.m node.seat

  abbrev after : Part
  after = part_made store plan grant one

  abbrev net : List NetRow
  net = net_of_node plan.nets node.seat.node

  abbrev number : ℕ
  number = unwrap_or ((numbers_with change grant.inodes) node.seat.node) 0

  abbrev pages : List Page
  pages = pages_of_node plan.files node.seat.node

  same_node : IsOneNode one node.seat node.of.begun
  same_node = one_node num concerned old new image plan grant store parts is one there_one node

  kind_old : kind_of old begun.node ≡ File
  kind_old = sym (node.of.built.leads.nets.between.kinds begun.node) ∙ ap (kind_of new) (sym same_node.built_is) ∙ file

  kind_begun : begun.kind ≡ File
  kind_begun = node.of.built.begins.kind ∙ kind_old

  seat_is_file : node.seat ≡ seated_as File change.changes begun
  seat_is_file = sym node.of.begins ∙ ap (λ kind. seated_as kind change.changes begun) kind_begun

  changed_is : (n : ℕ) → change_of node.seat.changed n ≡ option_map page_said (item_with page_block n (pages_of_node plan.files begun.node))
  changed_is n = ap (λ (s : Seated). change_of s.changed n) seat_is_file ∙ change_said (item_with file_node begun.node plan.files) n

  -- a file that enters had no bytes
  no_bytes_before : num begun.node ≡ None → bytes_of old begun.node ≡ []
  no_bytes_before none = elim (seat_comes num concerned old new image plan grant whole node.seat (there_is_in change.seats node.m node.seat node.at)) [
    | inl (entry, stay, same) ↦
        let there = (kept_in _ plan.old entry stay).0 in
        let here : begun.node ≡ entry.node.0 =
        sym same_node.seat_is ∙ ap (λ (s : Seated). s.node) (sym same) ∙ planned_node change.changes (begun_old entry) (begun_old entry).kind in
        absurd (none_some (sym none ∙ ap num here ∙ whole.from.numbered.old_numbers entry there))
    | inr (enter, there, same) ↦
        let here : begun.node ≡ enter.node.0 =
        sym same_node.seat_is ∙ ap (λ (s : Seated). s.node) (sym same) ∙ planned_node change.changes (begun_entering enter) (begun_entering enter).kind in
        ap (bytes_of old) here ∙ is.full.sizes.entering enter there
  ]

  untouched_block : (n : ℕ) → n < FILE_BLOCKS → item_with page_block n (pages_of_node plan.files begun.node) ≡ None
      → slice_index_or after.blocks n [] ≡ bytes_in_block n (bytes_of new begun.node)
  untouched_block n low none =
      content_is num concerned old new image plan grant store parts is one there_one node n low ∙ ap (read_block (store_planned store plan grant)) stays
      ∙ by (num begun.node) refl ∙ sym (blocks.untouched begun.node n node.of.among node.of.held (ap is_some none))
    where
      stays : (next.seen i).blocks n ≡ (seen_before commit image begun.node).blocks n
      stays =
          block_is num concerned old new image plan grant store parts is one there_one node n low None (changed_is n ∙ ap (option_map page_said) none)
          ∙ (made num concerned old new image plan grant is.full).is.pointers node.m n node.seat node.at (omega arith)
          ∙ ap (λ x. (seen_before commit image x).blocks n) same_node.seat_is

      by : (o : Option ℕ) → num begun.node ≡ o
          → read_block (store_planned store plan grant) ((seen_before commit image begun.node).blocks n) ≡ bytes_in_block n (bytes_of old begun.node)
      by None e =
          hole_is_read (store_planned store plan grant) _ (ap (λ (o : Option ℕ). (option_map_or image.seen o blank).blocks n) e) ∙ no_bytes n
          ∙ ap (bytes_in_block n) (sym (no_bytes_before e))
      by (Some j) e =
          let low_j = whole.stands.within begun.node j e in
          ap (read_block (store_planned store plan grant))
          (ap (λ (o : Option ℕ). (option_map_or image.seen o blank).blocks n) e ∙ ap (λ (s : Seen). s.blocks n) (is.standing.shown j low_j))
          ∙ old_read num concerned old new image plan grant store parts is one there_one node j n low_j low
          ∙ blocks.before begun.node j node.of.among e kind_old n low

  touched_block : (n : ℕ) → n < FILE_BLOCKS → (page : Page) → item_with page_block n (pages_of_node plan.files begun.node) ≡ Some page
      → slice_index_or after.blocks n [] ≡ bytes_in_block n (bytes_of new begun.node)
  touched_block n low page is_page =
      content_is num concerned old new image plan grant store parts is one there_one node n low ∙ by (cases_Bool (page_said page).is_zero)
      ∙ page_bytes new plan blocks.pages begun.node n page is_page
    where
      said : change_of node.seat.changed n ≡ Some (page_said page)
      said = changed_is n ∙ ap (option_map page_said) is_page

      long : length page.bytes ≡ 4096
      long = ap length (page_bytes new plan blocks.pages begun.node n page is_page) ∙ length_block n (bytes_of new begun.node)

      by : ((page_said page).is_zero ≡ true) ⊎ ((page_said page).is_zero ≡ false)
          → read_block (store_planned store plan grant) ((next.seen i).blocks n) ≡ page.bytes
      by (inl empty) =
          zero_read num concerned old new image plan grant store parts is one there_one node n low (page_said page) said empty
          ∙ zero_block page.bytes long empty
      by (inr full) = data_read num concerned old new image plan grant store parts is one there_one node n low (page_said page) said full ∙ content
        where
          kind_file : (built (numbers_with change grant.inodes) net number own node.seat).meta.kind ≡ 1
          kind_file = ap (λ (s : Seated). s.meta.kind) seat_is_file

          content : content_of (built (numbers_with change grant.inodes) net number own node.seat) pages n ≡ page.bytes
          content =
              cond-false (nat_eq (built (numbers_with change grant.inodes) net number own node.seat).meta.kind 2) _ _ (ap (λ k. nat_eq k 2) kind_file)
              ∙ ap (λ (o : Option Page). option_map_or (λ p. p.bytes) o zero_bytes)
              (ap (λ x. item_with page_block n (pages_of_node plan.files x)) same_node.seat_is ∙ is_page)

  pub file_blocks : HasBytesInBlocks after (bytes_of new begun.node)
  file_blocks n low = by (item_with page_block n (pages_of_node plan.files begun.node)) refl
    where
      by : (o : Option Page) → item_with page_block n (pages_of_node plan.files begun.node) ≡ o
          → slice_index_or after.blocks n [] ≡ bytes_in_block n (bytes_of new begun.node)
      by None e = untouched_block n low e
      by (Some page) e = touched_block n low page e

  abbrev of_next : Seen
  of_next = next.seen one.number

  next_is : of_next ≡ next.seen i
  next_is = ap next.seen node.inode

  made_part : IsPartMade fresh (parts one.number) after one
  made_part = part_is_made num concerned old new image plan grant store parts is one there_one node

  kind_next : (next.seen i).kind ≡ kind_byte File
  kind_next =
      (shows_node num concerned old new image plan grant store parts is one there_one node).kind
      ∙ ap kind_byte (ap (kind_of new) (sym same_node.built_is) ∙ file)

  kind_after : (inode_in after).kind ≡ kind_byte File
  kind_after = ap (λ (m : Inode). m.kind) made_part.inode ∙ node.shows.kind ∙ ap (λ (s : Seen). s.kind) next_is ∙ kind_next

  size_after : (inode_in after).size ≡ length (bytes_of new begun.node)
  size_after =
      let shows = shows_node num concerned old new image plan grant store parts is one there_one node in
      ap (λ (m : Inode). m.size) made_part.inode ∙ node.shows.size ∙ ap (λ (s : Seen). s.size) next_is ∙ shows.size
      ∙ ap (λ k. cond (nat_eq k 2) (4096 * (length (next.seen i).slots / 15)) (length (next.seen i).bytes)) kind_next ∙ ap length shows.bytes

  -- its size is one that a file can have, and behind its end its last block has zeros
  pub file_fits_after : FitsSize after
  file_fits_after = record {
    file = λ kind. let short = blocks.short begun.node in let is = size_after in omega arith;
    whole = λ kind. absurd (let a = eqb-true (inode_in after).kind 2 kind in let b = kind_after in omega arith);
    few = λ kind. absurd (let a = eqb-true (inode_in after).kind 2 kind in let b = kind_after in omega arith);
  }

  pub clean_after : breaks_tail after ≡ false
  clean_after = (tails_say after).1 (λ kind place past low.
      let short = blocks.short begun.node in
      let is = size_after in
      let within : place / 4096 < FILE_BLOCKS = omega arith in
      let back : 4096 * (place / 4096) + place % 4096 ≡ place = omega arith in
      ap (λ block. slice_index block (place % 4096)) (file_blocks (place / 4096) within)
      ∙ byte_in_block (place / 4096) (place % 4096) (bytes_of new begun.node) (omega arith)
      ∙ get_or_past (bytes_of new begun.node) (4096 * (place / 4096) + place % 4096) 0 (omega (arith, back, is, past)))

  pub file_is_made : IsFileMade new next after one
  file_is_made = record {
    bytes = subst (λ x. HasBytesInBlocks after (bytes_of new x)) (sym same_node.built_is) file_blocks;
    kept = λ j. record {
      inode = made_part.inode j;
      tables = made_part.tables j;
      slots = (cond-false (is_directory_part after) (map slots_of (directory_blocks after)) [] (ap (λ k. nat_eq k 2) kind_after) ∙ sym no_slots) j;
    };
    shows = record {
      kind = ap (λ (m : Inode). m.kind) made_part.inode ∙ node.shows.kind;
      links = ap (λ (m : Inode). m.links) made_part.inode ∙ node.shows.links;
      size = ap (λ (m : Inode). m.size) made_part.inode ∙ node.shows.size;
      slots = ap (λ k. cond (nat_eq k 2) (flat_map slots_of (directory_blocks after)) []) kind_after ∙ sym (ap slots_joined no_slots) ∙ node.shows.slots;
      bytes = byte_blocks_show after (bytes_of new begun.node) (record { kind = kind_after; size = size_after; each = each_byte })
          ∙ sym (ap (λ (s : Seen). s.bytes) next_is ∙ (shows_node num concerned old new image plan grant store parts is one there_one node).bytes);
      blocks =
          λ place low. pointer_after_is num concerned old new image plan grant store parts is one there_one node place low
          ∙ ap (λ (s : Seen). s.blocks place) (sym next_is);
    };
  }
    where
      no_slots : one.slots ≡ []
      no_slots = ap (λ (b : Built). b.slots) node.is ∙ ap (λ (s : Seated). map (block_numbered (numbers_with change grant.inodes) net) s.slots) seat_is_file

      each_byte : (place : ℕ) → place < length (bytes_of new begun.node) → file_byte after place ≡ slice_index (bytes_of new begun.node) place
      each_byte place low =
          let short = blocks.short begun.node in
          let whole_place : 4096 * (place / 4096) + place % 4096 ≡ place = omega arith in
          ap (λ block. slice_index block (place % 4096)) (file_blocks (place / 4096) (omega (arith, low, short)))
          ∙ byte_in_block (place / 4096) (place % 4096) (bytes_of new begun.node) (omega arith) ∙ ap (slice_index (bytes_of new begun.node)) whole_place

pub plans_make_files : PlansMakeFiles
plans_make_files num concerned old new image plan grant store parts is blocks one there file =
    file_is_made num concerned old new image plan grant store parts is blocks one there
    (node_built num concerned old new image plan grant is.full one there) file
