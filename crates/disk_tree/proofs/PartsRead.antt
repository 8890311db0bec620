-- Parts of which the indirect blocks were read, and the rules that speak of their pointers.
use Rattle.std.proofs.Common.{◌≡◌, ◌≢◌, ◌⊎◌, ℕ, ◌-◌, ◌<◌, ◌≤◌, Bool, true, false, not, ◌&&◌, ◌||◌, eqb, ltb, List, [], length, Option, All, map, refl, sym, ap, subst, ◌∙◌, arith, inl, inr}
use Rattle.std.specs.Prelude.{slice_index, slice_index_or}
use Rattle.std.specs.Option.{option_map_or}
use Rattle.std.proofs.lemmas.Bool.{cases_Bool, cases_lt, cases_order, cond-true, cond-false, lt-ltb, le-ltb, eq-eqb, ne_eqb, eqb-true, eqb-false, and_left, or_left, or_right}
use Rattle.std.proofs.lemmas.List.Elements.{All-get_or}
use Rattle.sfs_base.proofs.BasicLists.{zeros_read}
use Rattle.sfs_base.specs.Lists.{Roomy}
use Rattle.sfs_image.specs.Inode.{Inode, Table, IsInode, IsFree, inode_of, pointers_of, table_of, entry_of}
use Rattle.sfs_image.specs.Part.{Part, inode_in, block_pointer, pointer_at, read_block, tabulate, is_free_part}
use Rattle.sfs_image.specs.Rules.{any_below, breaks_bytes_rule, breaks_apart, is_held_before, stands_below}
use Rattle.sfs_image.specs.Seen.{FILE_BLOCKS, PLACES}
use Rattle.sfs_image.specs.Super.{Layout}
use Rattle.sfs_image.proofs.Basics.{length-tabulate, get_or-tabulate, any_below-at}
use Rattle.sfs_image.proofs.InodeLaws.{pointers_of-zeros}
use Rattle.sfs_image.proofs.RuleLaws.{blocks_say, good_from_rule}
use Rattle.image_laws.proofs.Parts.{HasEmptyHoles}
use Rattle.block_map.specs.Kept.{tables_kept, kept_tables, pointer_kept}
use Rattle.block_map.proofs.KeptPointers.{HaveHoles, kept_place, table_found}
use Rattle.disk_tree.specs.Apart.{is_marked, pointer_in, HoldOnce, SharesFirst}
use Rattle.disk_tree.specs.Gathered.{tables_at, HaveTables, AreTables, BreaksFourth, KeepTables, KeepPointerRules}
use Rattle.disk_tree.specs.Inodes.{AreDecoded, inode_at, HaveRecords, KeepRecordRules}
use Rattle.disk_tree.specs.Judged.{IsReadPart, AreReadParts, Refused, IsReadRefusal}
use Rattle.disk_tree.specs.declared.fault.TreeFault.{TreeFault}
use Rattle.disk_tree.specs.declared.fault.TreeFault.TheVariants.{DiskFailed, BadImage, NoMemory}
use Rattle.disk_tree.specs.Pointers.{points_badly, AreJudgedTables}
use Rattle.disk_tree.specs.Reading.{IsReadBlock, HasTables}
use Rattle.disk_tree.proofs.InodesRead.{inode_at_record, length_inodes}
use Rattle.disk_tree.proofs.PartsMade.{parts_made, made_within}
use Rattle.disk_tree.proofs.PointersJudged.{free_indirect, rule_by_kept, unread_tables}
use Rattle.disk_tree.proofs.Refusals.{store_of, store_reads, refused_at, byte_rule}

-- the part of a record whose indirect blocks were read, and nothing else of it
module _ (told : Option (List ℕ)) (raw : List ℕ) (tables : List Table) (has : HasTables told (inode_of raw) tables) where
  pub part_from : Part
  part_from =
      record { raw = raw; tables = has.blocks; blocks = tabulate FILE_BLOCKS (λ n. read_block (store_of told) (block_pointer (inode_of raw) has.blocks n)) }

  pub part_from_read : IsReadPart told raw part_from
  unfolding part_from
  part_from_read = record {
    raw_is = refl;
    tables = has.read;
    count = length-tabulate FILE_BLOCKS _;
    each =
        λ n below. subst (IsReadBlock told (block_pointer (inode_of raw) has.blocks n))
        (sym (get_or-tabulate FILE_BLOCKS (λ n. read_block (store_of told) (block_pointer (inode_of raw) has.blocks n)) n [] below))
        (store_reads told (block_pointer (inode_of raw) has.blocks n));
  }

  pub part_from_kept : kept_tables part_from ≡ tables
  unfolding part_from
  part_from_kept = sym has.kept

-- what a part that was read has in its holes
module _ (told : Option (List ℕ)) (raw : List ℕ) (part : Part) (read : IsReadPart told raw part) where
  pub read_inode : inode_in part ≡ inode_of raw
  read_inode = ap inode_of read.raw_is

  pub read_holes : HaveHoles (inode_in part) part.tables
  read_holes k small hole = (read.tables.each k small).hole (sym (ap (λ (i : Inode). slice_index i.indirect k) read_inode) ∙ hole)

  pub entry_holes : HasEmptyHoles part
  entry_holes k small hole e = ap (λ (block : List ℕ). slice_index (pointers_of block) e) (read_holes k small hole) ∙ pointers_of-zeros e

  pub read_pointer : (place : ℕ) → pointer_at part place ≡ pointer_kept (inode_of raw) (kept_tables part) place
  read_pointer place = sym (kept_place part read_holes place) ∙ ap (λ (i : Inode). pointer_kept i (kept_tables part) place) read_inode

-- a free inode has no pointer
pub free_pointers : (inode : Inode) (blocks : List (List ℕ)) → IsFree inode → (place : ℕ) → place < PLACES
    → pointer_kept inode (tables_kept inode blocks) place ≡ 0
free_pointers inode blocks free place within =
    elim (cases_lt place FILE_BLOCKS) [
      | inr behind ↦ cond-false (ltb place FILE_BLOCKS) _ _ (le-ltb place FILE_BLOCKS behind) ∙ free_indirect inode free (place - FILE_BLOCKS)
      | inl block ↦ cond-true (ltb place FILE_BLOCKS) _ _ (lt-ltb place FILE_BLOCKS block) ∙ elim (cases_lt place 108) [
        | inl near ↦ cond-true (ltb place 108) _ _ (lt-ltb place 108 near) ∙ ap (λ (xs : List ℕ). slice_index xs place) free.direct ∙ zeros_read 108 place
        | inr far ↦ cond-false (ltb place 108) _ _ (le-ltb place 108 far)
            ∙ ap (λ (o : Option Table). option_map_or (λ table. slice_index table.pointers (entry_of place)) o 0)
            (table_found inode blocks (table_of place) (omega arith)
            ∙ cond-true (eqb (slice_index inode.indirect (table_of place)) 0) _ _ (eq-eqb _ _ (free_indirect inode free (table_of place))))
      ]
    ]

-- parts of inodes whose indirect blocks were read
pub parts_of_tables : (told : Option (List ℕ)) (layout : Layout) (records : List (List ℕ)) (tables : List (Roomy Table)) → HaveTables told layout records tables
    → ℕ → Part
parts_of_tables told layout records tables has =
    parts_made layout.inodes (λ i within. part_from told (slice_index_or records i []) (tables_at tables i) (has i within))

module _ (told : Option (List ℕ)) (layout : Layout) (records : List (List ℕ)) (tables : List (Roomy Table)) (has : HaveTables told layout records tables) where
  pub parts_of_tables_read : AreReadParts told layout records (parts_of_tables told layout records tables has)
  unfolding parts_of_tables
  parts_of_tables_read = made_within layout.inodes (λ i within. part_from told (slice_index_or records i []) (tables_at tables i) (has i within))
      (λ i part. IsReadPart told (slice_index_or records i []) part)
      (λ i within. part_from_read told (slice_index_or records i []) (tables_at tables i) (has i within))

  pub parts_of_tables_kept : KeepTables layout tables (parts_of_tables told layout records tables has)
  unfolding parts_of_tables
  parts_of_tables_kept = made_within layout.inodes (λ i within. part_from told (slice_index_or records i []) (tables_at tables i) (has i within))
      (λ i part. kept_tables part ≡ tables_at tables i) (λ i within. part_from_kept told (slice_index_or records i []) (tables_at tables i) (has i within))

module _ (told : Option (List ℕ)) (layout : Layout) (records : List (List ℕ)) (count : length records ≡ layout.inodes) (inodes : List Inode)
    (are : inodes ≡ map inode_of records) (fit : All IsInode inodes) where
  pub own_inode : AreDecoded layout records inodes
  own_inode i within = inode_at_record records inodes i are (omega arith)

  pub fits_at : (i : ℕ) → i < layout.inodes → IsInode (inode_of (slice_index_or records i []))
  fits_at i within =
      subst IsInode (own_inode i within)
      (All-get_or IsInode inodes i (inode_of []) (let c = (length_inodes layout records inodes count are) in omega arith) fit)

  -- parts that were read and whose indirect blocks are kept so
  module _ (tables : List (Roomy Table)) (parts : ℕ → Part) (read : AreReadParts told layout records parts) where
    records_are : HaveRecords layout records parts
    records_are i within = (read i within).raw_is

    -- the fourth rule, by what is kept of one inode
    pub fourth_rule : (i : ℕ) → i < layout.inodes → (badly : Bool) (own : List Table) → kept_tables (parts i) ≡ own
        → AreJudgedTables told layout (inode_at inodes i) badly own → breaks_bytes_rule 4 layout parts i ≡ badly
    fourth_rule i within badly own kept judged =
        rule_by_kept layout (parts i) (entry_holes told (slice_index_or records i []) (parts i) (read i within))
        ∙ ap (λ (inode : Inode). points_badly layout inode (kept_tables (parts i)))
        (read_inode told (slice_index_or records i []) (parts i) (read i within) ∙ sym (own_inode i within))
        ∙ ap (points_badly layout (inode_at inodes i)) kept
        ∙ judged.judged

    module _ (keep : KeepTables layout tables parts) where
      pub own_pointer : (i place : ℕ) → i < layout.inodes → pointer_at (parts i) place ≡ pointer_in inodes tables i place
      own_pointer i place within =
          read_pointer told (slice_index_or records i []) (parts i) (read i within) place
          ∙ ap (λ (inode : Inode). pointer_kept inode (kept_tables (parts i)) place) (sym (own_inode i within))
          ∙ ap (λ (own : List Table). pointer_kept (inode_at inodes i) own place) (keep i within)

      -- no free inode has a pointer
      pub used_of_pointer : (i place : ℕ) → i < layout.inodes → place < PLACES → pointer_at (parts i) place ≢ 0 → is_free_part (parts i) ≡ false
      used_of_pointer i place within inside some = elim (cases_Bool (is_free_part (parts i))) [
        | inr used ↦ used
        | inl free ↦
            (let kind : (inode_of (slice_index_or records i [])).kind
            ≡ 0 = sym (ap (λ (n : Inode). n.kind) (read_inode told (slice_index_or records i []) (parts i) (read i within)))
            ∙ eqb-true _ _ free in
            let none =
            free_pointers (inode_in (parts i)) (parts i).tables
            (subst IsFree (sym (read_inode told (slice_index_or records i []) (parts i) (read i within))) ((fits_at i within).free kind)) place
            inside in
            absurd (some (sym (kept_place (parts i) (read_holes told (slice_index_or records i []) (parts i) (read i within)) place) ∙ none)))
      ]

      pub fifth_rule : (n i : ℕ) (marked : List Bool) → HoldOnce inodes tables n marked → i < n → i < layout.inodes → breaks_apart parts i ≡ false
      fifth_rule n i marked once less within = elim (cases_Bool (is_free_part (parts i))) [
        | inl free ↦ and_left (not (is_free_part (parts i))) _ (ap not free)
        | inr used ↦ (blocks_say parts i used).1 (λ place inside there.
            let some : pointer_in inodes tables i place ≢ 0 = λ none. there (own_pointer i place within ∙ none) in
            record {
              below =
                  λ j q lower far same. once.below i j place q less lower inside far some
                  (sym (own_pointer j q (omega arith)) ∙ same ∙ own_pointer i place within);
              before = λ q earlier same. once.before i place q less earlier inside some (sym (own_pointer i q within) ∙ same ∙ own_pointer i place within);
            })
      ]

      pub fifth_broken : (i : ℕ) → i < layout.inodes → SharesFirst inodes tables i → breaks_apart parts i ≡ true
      fifth_broken i within shares =
          let at = shares.meets.at in
          let there : pointer_at (parts i) at ≢ 0 = λ none. shares.meets.there (sym (own_pointer i at within) ∙ none) in
          let used = used_of_pointer i at within shares.meets.within there in
          let here : is_held_before parts i at ≡ true = held_before at there shares.meets.before in
          ap (λ b. not b && any_below PLACES (is_held_before parts i)) used ∙ any_below-at PLACES (is_held_before parts i) at shares.meets.within here
        where
          held_before : (at : ℕ) → pointer_at (parts i) at ≢ 0
              → (is_marked shares.marked (pointer_in inodes tables i at) ≡ true)
              ⊎ ((earlier : ℕ) × (earlier < at) × (pointer_in inodes tables i earlier ≡ pointer_in inodes tables i at)) →
              is_held_before parts i at ≡ true
          held_before at there (inl marked) =
              let one = shares.lesser.only (pointer_in inodes tables i at) marked in
              let same : pointer_at (parts one.0) one.1 ≡ pointer_at (parts i) at =
              own_pointer one.0 one.1 (let h = one.2 in omega arith) ∙ one.4 ∙ sym (own_pointer i at within) in
              ap (λ b. not b
              && (any_below i (λ j. stands_below PLACES (parts j) (pointer_at (parts i) at)) || stands_below at (parts i) (pointer_at (parts i) at)))
              (ne_eqb _ _ there)
              ∙ or_left (any_below i (λ j. stands_below PLACES (parts j) (pointer_at (parts i) at))) _
              (any_below-at i (λ j. stands_below PLACES (parts j) (pointer_at (parts i) at)) one.0 one.2
              (any_below-at PLACES (λ place. eqb (pointer_at (parts one.0) place) (pointer_at (parts i) at)) one.1 one.3 (eq-eqb _ _ same)))
          held_before at there (inr one) =
              let same : pointer_at (parts i) one.0 ≡ pointer_at (parts i) at = own_pointer i one.0 within ∙ one.2 ∙ sym (own_pointer i at within) in
              ap (λ b. not b
              && (any_below i (λ j. stands_below PLACES (parts j) (pointer_at (parts i) at)) || stands_below at (parts i) (pointer_at (parts i) at)))
              (ne_eqb _ _ there)
              ∙ or_right (any_below i (λ j. stands_below PLACES (parts j) (pointer_at (parts i) at))) _
              (any_below-at at (λ place. eqb (pointer_at (parts i) place) (pointer_at (parts i) at)) one.0 one.1 (eq-eqb _ _ same))

  -- the tables of an inode were judged, as those of its record
  judged_has : (i : ℕ) → i < layout.inodes → (badly : Bool) (own : List Table) → AreJudgedTables told layout (inode_at inodes i) badly own
      → HasTables told (inode_of (slice_index_or records i [])) own
  judged_has i within badly own judged = subst (λ (inode : Inode). HasTables told inode own) (own_inode i within) judged.has

  -- an inode up to the first that breaks the fourth rule has its judged tables, and any other some tables
  record Chosen (broken i : ℕ) : Type 0 where
    own : List Table
    has : HasTables told (inode_of (slice_index_or records i [])) own
    lesser : i < layout.inodes → i < broken → AreJudgedTables told layout (inode_at inodes i) false own
    here : i < layout.inodes → i ≡ broken → AreJudgedTables told layout (inode_at inodes i) true own

  not_chosen : (broken i : ℕ) → (i < layout.inodes → ⊥) ⊎ (broken < i) → length (inode_of (slice_index_or records i [])).indirect ≡ 16 → Chosen broken i
  not_chosen broken i (inl past) long = record {
    own = tables_kept (inode_of (slice_index_or records i [])) (map (read_block (store_of told)) (inode_of (slice_index_or records i [])).indirect);
    has = unread_tables told (inode_of (slice_index_or records i [])) long;
    lesser = λ within. absurd (past within);
    here = λ within. absurd (past within);
  }
  not_chosen broken i (inr behind) long = record {
    own = tables_kept (inode_of (slice_index_or records i [])) (map (read_block (store_of told)) (inode_of (slice_index_or records i [])).indirect);
    has = unread_tables told (inode_of (slice_index_or records i [])) long;
    lesser = λ _ less. absurd (omega arith);
    here = λ _ same. absurd (omega arith);
  }

  module _ (broken rule : ℕ) (breaks : BreaksFourth told layout inodes broken rule) where
    broken_within : broken < layout.inodes
    broken_within = subst (λ (n : ℕ). broken < n) (length_inodes layout records inodes count are) breaks.within

    choice : (i : ℕ) → Chosen broken i
    choice i = elim (cases_order i broken) [
      | inl same ↦ (let within : i < layout.inodes = (let h = broken_within in omega arith) in
          let one = subst (λ (j : ℕ). (tables : List Table) × AreJudgedTables told layout (inode_at inodes j) true tables) (sym same) breaks.here in
          record { own = one.0; has = judged_has i within true one.0 one.1; lesser = λ _ less. absurd (omega arith); here = λ _ _. one.1 })
      | inr (inl less) ↦ (let within : i < layout.inodes = (let h = broken_within in omega arith) in
          let one = breaks.before i less in
          record { own = one.0; has = judged_has i within false one.0 one.1; lesser = λ _ _. one.1; here = λ _ same. absurd (omega arith) })
      | inr (inr more) ↦ not_chosen broken i (inr more) (Rattle.sfs_image.proofs.PiecesLaws.length-u32s_at 448 16 (slice_index_or records i []))
    ]

    chosen_parts : ℕ → Part
    chosen_parts i = part_from told (slice_index_or records i []) (choice i).own (choice i).has

    chosen_read : AreReadParts told layout records chosen_parts
    unfolding chosen_parts
    chosen_read i within = part_from_read told (slice_index_or records i []) (choice i).own (choice i).has

    chosen_kept : (i : ℕ) → kept_tables (chosen_parts i) ≡ (choice i).own
    unfolding chosen_parts
    chosen_kept i = part_from_kept told (slice_index_or records i []) (choice i).own (choice i).has

    pub fourth_refused : KeepRecordRules layout records → Refused told layout records broken rule
    fourth_refused keep =
        subst (λ (r : ℕ). Refused told layout records broken r) (sym breaks.fourth)
        (refused_at told layout records chosen_parts 4 broken chosen_read (omega arith) (omega arith)
        (λ lesser j low high within. byte_rule layout chosen_parts lesser j (omega arith)
        ∙ keep.keep chosen_parts (records_are [] chosen_parts chosen_read) lesser j low (omega arith) within)
        (record {
          within = broken_within;
          passes =
              byte_rule layout chosen_parts 4 broken (omega arith)
              ∙ fourth_rule [] chosen_parts chosen_read broken broken_within true (choice broken).own (chosen_kept broken)
              ((choice broken).here broken_within refl);
          before =
              λ j less. byte_rule layout chosen_parts 4 j (omega arith)
              ∙ fourth_rule [] chosen_parts chosen_read j (let h = broken_within in omega arith) false (choice j).own (chosen_kept j)
              ((choice j).lesser (let h = broken_within in omega arith) less);
        }))

  -- where all tables were read
  module _ (tables : List (Roomy Table)) (all : AreTables told layout inodes layout.inodes tables) where
    has_at : HaveTables told layout records tables
    has_at i within = judged_has i within false (tables_at tables i) (all.each i within)

    -- each pointer lies below the disk's blocks
    pub pointers_below : (i place : ℕ) → i < layout.inodes → place < PLACES → 0 < layout.blocks → pointer_in inodes tables i place < layout.blocks
    pointers_below i place within inside some =
        let parts = parts_of_tables told layout records tables has_at in
        let read = parts_of_tables_read told layout records tables has_at in
        let kept = parts_of_tables_kept told layout records tables has_at in
        subst (λ (p : ℕ). p < layout.blocks) (own_pointer tables parts read kept i place within) (elim (cases_Bool (eqb (pointer_at (parts i) place) 0)) [
          | inl hole ↦ (let none = eqb-true _ _ hole in omega arith)
          | inr there ↦ (let some_there = eqb-false _ _ there in
              let used = used_of_pointer tables parts read kept i place within inside some_there in
              (good_from_rule layout (parts i) place
              (fourth_rule tables parts read i within false (tables_at tables i) (kept i within) (all.each i within)) used inside some_there).high)
        ])

    lesser_four : KeepRecordRules layout records → (parts : ℕ → Part) → AreReadParts told layout records parts → KeepTables layout tables parts → (rule j : ℕ)
        → 1 ≤ rule → rule ≤ 4 → j < layout.inodes →
        breaks_bytes_rule rule layout parts j ≡ false
    lesser_four keep parts read kept rule j low high within = elim (cases_lt rule 4) [
      | inl less ↦ keep.keep parts (records_are tables parts read) rule j low (omega arith) within
      | inr here ↦ (let same : 4 ≡ rule = omega arith in
          subst (λ (r : ℕ). breaks_bytes_rule r layout parts j ≡ false) same
          (fourth_rule tables parts read j within false (tables_at tables j) (kept j within) (all.each j within)))
    ]

    pub fifth_refused : KeepRecordRules layout records → (i : ℕ) → SharesFirst inodes tables i → Refused told layout records i 5
    fifth_refused keep i shares =
        let within : i < layout.inodes = subst (λ (n : ℕ). i < n) (length_inodes layout records inodes count are) shares.within in
        let parts = parts_of_tables told layout records tables has_at in
        let read = parts_of_tables_read told layout records tables has_at in
        let kept = parts_of_tables_kept told layout records tables has_at in
        refused_at told layout records parts 5 i read (omega arith) (omega arith)
        (λ lesser j low high inside. byte_rule layout parts lesser j (omega arith) ∙ lesser_four keep parts read kept lesser j low (omega arith) inside)
        (record {
          within = within;
          passes = byte_rule layout parts 5 i (omega arith) ∙ fifth_broken tables parts read kept i within shares;
          before = λ j less. byte_rule layout parts 5 j (omega arith) ∙ fifth_rule tables parts read kept i j shares.marked shares.lesser less (omega arith);
        })

    pub pointer_rules_kept : KeepRecordRules layout records → (marked : List Bool) → HoldOnce inodes tables (length inodes) marked
        → KeepPointerRules told layout records tables
    pointer_rules_kept keep marked once = record {
      sound = keep.sound;
      has = has_at;
      keep = λ parts read kept rule j low high within. elim (cases_lt rule 5) [
        | inl less ↦ lesser_four keep parts read kept rule j low (omega arith) within
        | inr here ↦ (let same : 5 ≡ rule = omega arith in
            subst (λ (r : ℕ). breaks_bytes_rule r layout parts j ≡ false) same
            (fifth_rule tables parts read kept (length inodes) j marked once
            (let c = (length_inodes layout records inodes count are) in omega arith) within))
      ];
    }

-- a refusal by the fourth rule
pub fourth_refusal : (told : Option (List ℕ)) (layout : Layout) (records : List (List ℕ)) → length records ≡ layout.inodes → (inodes : List Inode)
    → inodes ≡ map inode_of records → All IsInode inodes →
    KeepRecordRules layout records → (fault : TreeFault) → IsReadRefusal (BreaksFourth told layout inodes) fault
    → IsReadRefusal (Refused told layout records) fault
fourth_refusal told layout records count inodes are fit keep (BadImage inode rule) breaks =
    fourth_refused told layout records count inodes are fit inode rule breaks keep
fourth_refusal told layout records count inodes are fit keep NoMemory _ = tt
fourth_refusal told layout records count inodes are fit keep DiskFailed _ = tt
