-- The bytes of all inodes, judged by the rules on bytes.
use Rattle.std.proofs.Common.{◌≡◌, ℕ, ◌*◌, ◌<◌, ◌≤◌, false, eqb, ltb, List, [], length, map, Option, All, sym, ap, subst, ◌∙◌, arith, inl, inr}
use Rattle.std.specs.Prelude.{slice_index_or}
use Rattle.std.proofs.lemmas.Bool.{cases_Bool, cases_lt, eq-eqb, eqb-true, eqb-false, cond-true, lt-ltb}
use Rattle.sfs_base.specs.Lists.{Roomy}
use Rattle.sfs_image.specs.Inode.{Inode, IsInode, inode_of, Table}
use Rattle.sfs_image.specs.Part.{Part, pointer_at}
use Rattle.sfs_image.specs.Rules.{breaks_bytes_rule}
use Rattle.sfs_image.specs.Seen.{FILE_BLOCKS}
use Rattle.sfs_image.specs.Slot.{Row}
use Rattle.sfs_image.specs.Super.{Layout}
use Rattle.sfs_image.proofs.RuleFacts.{sizes_say}
use Rattle.sfs_image.proofs.RuleLaws.{good_from_rule}
use Rattle.block_map.specs.Kept.{block_kept}
use Rattle.disk_tree.specs.Blocks.{breaks_tail_at, breaks_slots_at, AreSlotLists, BreaksSeventh, ReadWell}
use Rattle.disk_tree.specs.Contents.{blocks_of_size, AreReadContents, HoldContents}
use Rattle.disk_tree.specs.First.{IsFirst, NonePasses}
use Rattle.disk_tree.specs.Gathered.{tables_at, KeepPointerRules}
use Rattle.disk_tree.specs.Inodes.{AreDecoded, inode_at, KeepRecordRules}
use Rattle.disk_tree.specs.Judged.{Refused, IsRefusal, IsReadRefusal}
use Rattle.disk_tree.specs.declared.fault.TreeFault.{TreeFault}
use Rattle.disk_tree.specs.declared.fault.TreeFault.TheVariants.{DiskFailed, BadImage, NoMemory}
use Rattle.disk_tree.proofs.BytesJudged.{sixth_rule, seventh_rule}
use Rattle.disk_tree.proofs.ContentsRead.{hold_contents, own_part}
use Rattle.disk_tree.proofs.InodesRead.{length_inodes, unread, unread_have}
use Rattle.disk_tree.proofs.PartsMade.{parts_made}
use Rattle.disk_tree.proofs.PartsRead.{own_inode, own_pointer, used_of_pointer, fits_at, parts_of_tables, parts_of_tables_read, parts_of_tables_kept}
use Rattle.disk_tree.proofs.Refusals.{refused_at, byte_rule}

module _ (told : Option (List ℕ)) (layout : Layout) (records : List (List ℕ)) (count : length records ≡ layout.inodes) (inodes : List Inode)
    (are : inodes ≡ map inode_of records) (fit : All IsInode inodes)
    (tables : List (Roomy Table)) (first : KeepRecordRules layout records) (keep : KeepPointerRules told layout records tables) where
  abbrev own : AreDecoded layout records inodes
  own = own_inode told layout records count inodes are fit

  -- no inode is larger than a file may be
  pub sizes_fit : (i : ℕ) → i < layout.inodes → (inode_at inodes i).size ≤ 4096 * FILE_BLOCKS
  sizes_fit i within =
      let fits =
      (sizes_say (unread told records i)).0 (first.keep (unread told records) (unread_have told layout records) 3 i (omega arith) (omega arith) within) in
      let same : inode_of (unread told records i).raw ≡ inode_at inodes i = ap inode_of (unread_have told layout records i within) ∙ sym (own i within) in
      let size = ap (λ (inode : Inode). inode.size) same in
      let kinds = fits_at told layout records count inodes are fit i within in
      let kind = ap (λ (inode : Inode). inode.kind) same in
      let again = ap (λ (inode : Inode). inode.kind) (own i within) in
      let big = ap (λ (inode : Inode). inode.size) (own i within) in
      elim (cases_Bool (eqb (inode_at inodes i).kind 1)) [
        | inl file ↦ (let h = fits.file (eq-eqb _ _ (kind ∙ eqb-true _ _ file)) in omega arith)
        | inr other ↦ elim (cases_Bool (eqb (inode_at inodes i).kind 2)) [
          | inl directory ↦ (let h = fits.few (eq-eqb _ _ (kind ∙ eqb-true _ _ directory)) in omega arith)
          | inr none ↦ (let a = eqb-false _ _ other in
              let b = eqb-false _ _ none in
              let high = kinds.kind in
              let zero_kind : (inode_of (slice_index_or records i [])).kind ≡ 0 = omega arith in
              let free = (kinds.free zero_kind).size in
              omega arith)
        ]
      ]

  -- each block lies on the disk
  pub blocks_within : (size i n : ℕ) → i < layout.inodes → n < FILE_BLOCKS → 0 < layout.blocks → layout.blocks ≤ size
      → block_kept (inode_at inodes i) (tables_at tables i) n < size
  blocks_within size i n within inside some le =
      let parts = parts_of_tables told layout records tables keep.has in
      let read = parts_of_tables_read told layout records tables keep.has in
      let kept = parts_of_tables_kept told layout records tables keep.has in
      let same : pointer_at (parts i) n ≡ block_kept (inode_at inodes i) (tables_at tables i) n =
      own_pointer told layout records count inodes are fit tables parts read kept i n within
      ∙ cond-true (ltb n FILE_BLOCKS) _ _ (lt-ltb n FILE_BLOCKS inside) in
      subst (λ (p : ℕ). p < size) same (elim (cases_Bool (eqb (pointer_at (parts i) n) 0)) [
        | inl hole ↦ (let none = eqb-true _ _ hole in omega arith)
        | inr there ↦ (let some_there = eqb-false _ _ there in
            let used = used_of_pointer told layout records count inodes are fit tables parts read kept i n within (omega arith) some_there in
            let h = (good_from_rule layout (parts i) n (keep.keep parts read kept 4 i (omega arith) (omega arith) within) used (omega arith) some_there).high in
            omega arith)
      ])

  module _ (contents : List (Roomy ℕ)) (all : AreReadContents told inodes tables layout.inodes contents) where
    few_blocks : (i : ℕ) → i < layout.inodes → blocks_of_size (inode_of (slice_index_or records i [])).size ≤ FILE_BLOCKS
    few_blocks i within = (let h = sizes_fit i within in let e = ap (λ (inode : Inode). inode.size) (own i within) in omega arith)

    abbrev parts : ℕ → Part
    parts = parts_made layout.inodes (own_part told layout records inodes tables contents own keep.has all few_blocks)

    abbrev hold : HoldContents told layout records tables contents parts
    hold = hold_contents told layout records inodes tables contents own keep.has all few_blocks

    five : (rule i : ℕ) → 1 ≤ rule → rule ≤ 5 → i < layout.inodes → breaks_bytes_rule rule layout parts i ≡ false
    five = keep.keep parts hold.read hold.kept

    sixth : (i : ℕ) → i < layout.inodes → breaks_bytes_rule 6 layout parts i ≡ breaks_tail_at inodes contents i
    sixth i within = sixth_rule told layout records count inodes are fit tables keep contents parts hold i within

    seventh : (i : ℕ) → i < layout.inodes → breaks_bytes_rule 7 layout parts i ≡ breaks_slots_at inodes contents i
    seventh i within = seventh_rule told layout records count inodes are fit tables keep contents parts hold i within

    pub sixth_refused : (i : ℕ) → IsFirst (length inodes) (breaks_tail_at inodes contents) i → Refused told layout records i 6
    sixth_refused i is =
        let within : i < layout.inodes = subst (λ (n : ℕ). i < n) (length_inodes layout records inodes count are) is.within in
        refused_at told layout records parts 6 i hold.read (omega arith) (omega arith)
        (λ lesser j low high inside. byte_rule layout parts lesser j (omega arith) ∙ five lesser j low (omega arith) inside)
        (record {
          within = within;
          passes = byte_rule layout parts 6 i (omega arith) ∙ sixth i within ∙ is.passes;
          before = λ j less. byte_rule layout parts 6 j (omega arith) ∙ sixth j (omega arith) ∙ is.before j less;
        })

    module _ (tails : NonePasses (length inodes) (breaks_tail_at inodes contents)) where
      six : (rule i : ℕ) → 1 ≤ rule → rule ≤ 6 → i < layout.inodes → breaks_bytes_rule rule layout parts i ≡ false
      six rule i low high within = elim (cases_lt rule 6) [
        | inl less ↦ five rule i low (omega arith) within
        | inr here ↦ (let e : 6 ≡ rule = omega arith in
            subst (λ (r : ℕ). breaks_bytes_rule r layout parts i ≡ false) e
            (sixth i within ∙ tails i (let m = length_inodes layout records inodes count are in omega arith)))
      ]

      seventh_refused : (i rule : ℕ) → BreaksSeventh inodes contents i rule → Refused told layout records i rule
      seventh_refused i rule is =
          let within : i < layout.inodes = subst (λ (n : ℕ). i < n) (length_inodes layout records inodes count are) is.first.within in
          subst (λ (r : ℕ). Refused told layout records i r) (sym is.seventh)
          (refused_at told layout records parts 7 i hold.read (omega arith) (omega arith)
          (λ lesser j low high inside. byte_rule layout parts lesser j (omega arith) ∙ six lesser j low (omega arith) inside)
          (record {
            within = within;
            passes = byte_rule layout parts 7 i (omega arith) ∙ seventh i within ∙ is.first.passes;
            before = λ j less. byte_rule layout parts 7 j (omega arith) ∙ seventh j (omega arith) ∙ is.first.before j less;
          }))

      pub seventh_refusal : (fault : TreeFault) → IsRefusal (BreaksSeventh inodes contents) fault → IsReadRefusal (Refused told layout records) fault
      seventh_refusal (BadImage inode rule) is = seventh_refused inode rule is
      seventh_refusal NoMemory is = tt
      seventh_refusal DiskFailed is = tt

      pub read_well : (slots : List (Roomy (List (Option Row)))) → AreSlotLists inodes contents (length inodes) slots
          → ReadWell told layout records inodes tables contents slots
      read_well slots lists = record {
        parts = parts;
        hold = hold;
        content_count = all.count;
        slots_are = subst (λ (n : ℕ). AreSlotLists inodes contents n slots) (length_inodes layout records inodes count are) lists;
        keep = λ rule i low high within. elim (cases_lt rule 7) [
          | inl less ↦ six rule i low (omega arith) within
          | inr here ↦ (let e : 7 ≡ rule = omega arith in
              subst (λ (r : ℕ). breaks_bytes_rule r layout parts i ≡ false) e
              (seventh i within ∙ lists.keep i (let m = length_inodes layout records inodes count are in omega arith)))
        ];
      }
