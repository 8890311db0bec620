-- The rule on pointers, by what is kept of an inode.
use Rattle.std.proofs.Common.{◌≡◌, ◌≢◌, ◌⊎◌, ℕ, ◌+◌, ◌-◌, ◌*◌, ◌<◌, Bool, true, false, not, ◌&&◌, ◌||◌, eqb, ltb, List, [], length, Option, None, replicate, map, leb, refl, sym, ap, subst, ◌∙◌, arith, inl, inr}
use Rattle.std.specs.Prelude.{slice_index, slice_index_or}
use Rattle.std.specs.List.{find}
use Rattle.std.proofs.lemmas.Bool.{cases_Bool, cases_lt, cond-true, cond-false, lt-ltb, le-ltb, eq-eqb, ne_eqb, eqb-true, or_from, or_parts, or_left, or_right, or_cases, ltb-true, and_left, and_parts}
use Rattle.sfs_base.proofs.BasicTruth.{not_both_of, not_false, not_true}
use Rattle.sfs_base.proofs.BasicLists.{zeros_read}
use Rattle.sfs_image.specs.Inode.{Inode, Table, pointers_of, table_of, entry_of, IsFree, IsInode}
use Rattle.sfs_image.specs.Part.{Part, inode_in, is_free_part, read_block}
use Rattle.sfs_image.specs.Rules.{any_below, is_data_block, is_good_pointer, first_covered, breaks_pointers}
use Rattle.sfs_image.specs.Seen.{FILE_BLOCKS, PLACES}
use Rattle.sfs_image.specs.Super.{Layout, IsLayout, data_start}
use Rattle.sfs_image.specs.Bytes.{zeros}
use Rattle.sfs_image.specs.Settled.{image_block}
use Rattle.std.proofs.lemmas.List.{get_or-replicate, get_or_past, get_or-map, length-map}
use Rattle.disk_tree.specs.Reading.{IsReadBlock}
use Rattle.disk_tree.proofs.Refusals.{store_of, store_reads}
use Rattle.sfs_image.proofs.Basics.{any_below-from, any_below-none, any_below-at, any_below-some}
use Rattle.sfs_image.proofs.BytesLaws.{length-zeros}
use Rattle.sfs_image.proofs.PartLaws.{pointer_of_block, pointer_of_table, hole_is_read}
use Rattle.sfs_image.proofs.PiecesLaws.{length-u32s_at}
use Rattle.image_laws.proofs.Parts.{HasEmptyHoles}
use Rattle.block_map.specs.Kept.{table_kept, tables_kept, kept_tables}
use Rattle.block_map.proofs.KeptPointers.{table_found}
use Rattle.disk_tree.specs.Reading.{HasTables}
use Rattle.disk_tree.specs.Pointers.{points_well, some_points_badly, record_points_badly, table_points_badly, tables_point_badly, points_badly, AreJudgedTables}
use Rattle.disk_tree.proofs.TablesRead.{filter_map_same}

-- a hole points well
hole_well : (layout : Layout) (size pointer first : ℕ) → pointer ≡ 0 → points_well layout size pointer first ≡ true
hole_well layout size pointer first none = or_left (eqb pointer 0) _ (eq-eqb pointer 0 none)

module _ (layout : Layout) (part : Part) where
  abbrev inode : Inode
  inode = inode_in part

  direct_count : length inode.direct ≡ 108
  direct_count = length-u32s_at 16 108 part.raw

  indirect_count : length inode.indirect ≡ 16
  indirect_count = length-u32s_at 448 16 part.raw

  direct_well : (n : ℕ) → n < 108 → is_good_pointer layout part n ≡ points_well layout inode.size (slice_index inode.direct n) (0 + 4096 * n)
  direct_well n near =
      let far : n < FILE_BLOCKS = omega arith in
      let covers : 4096 * n ≡ 0 + 4096 * n = omega arith in
      ap (λ (p : ℕ). points_well layout inode.size p (first_covered n)) (pointer_of_block part n far ∙ cond-true (ltb n 108) _ _ (lt-ltb n 108 near))
      ∙ ap (points_well layout inode.size (slice_index inode.direct n)) (cond-true (ltb n FILE_BLOCKS) _ _ (lt-ltb n FILE_BLOCKS far) ∙ covers)

  indirect_well : (k : ℕ)
      → is_good_pointer layout part (FILE_BLOCKS + k) ≡ points_well layout inode.size (slice_index inode.indirect k) (4096 * 108 + 4096 * 1024 * k)
  indirect_well k =
      let covers : 4096 * (108 + 1024 * (FILE_BLOCKS + k - FILE_BLOCKS)) ≡ 4096 * 108 + 4096 * 1024 * k = omega arith in
      ap (λ (p : ℕ). points_well layout inode.size p (first_covered (FILE_BLOCKS + k))) (pointer_of_table part k)
      ∙ ap (points_well layout inode.size (slice_index inode.indirect k))
      (cond-false (ltb (FILE_BLOCKS + k) FILE_BLOCKS) _ _ (le-ltb (FILE_BLOCKS + k) FILE_BLOCKS (omega arith)) ∙ covers)

  entry_well : (k e : ℕ) → k < 16 → e < 1024 →
      is_good_pointer layout part (108 + 1024 * k + e)
      ≡ points_well layout inode.size (slice_index (pointers_of (slice_index_or part.tables k [])) e) (4096 * (108 + 1024 * k) + 4096 * e)
  entry_well k e small tiny =
      let n = 108 + 1024 * k + e in
      let table : table_of n ≡ k = omega arith in
      let entry : entry_of n ≡ e = omega arith in
      let far : n < FILE_BLOCKS = omega arith in
      let covers : 4096 * n ≡ 4096 * (108 + 1024 * k) + 4096 * e = omega arith in
      ap (λ (p : ℕ). points_well layout inode.size p (first_covered n))
      (pointer_of_block part n far ∙ cond-false (ltb n 108) _ _ (le-ltb n 108 (omega arith))
      ∙ ap (λ (t : ℕ). slice_index (pointers_of (slice_index_or part.tables t [])) (entry_of n)) table
      ∙ ap (λ (i : ℕ). slice_index (pointers_of (slice_index_or part.tables k [])) i) entry)
      ∙ ap (points_well layout inode.size (slice_index (pointers_of (slice_index_or part.tables k [])) e))
      (cond-true (ltb n FILE_BLOCKS) _ _ (lt-ltb n FILE_BLOCKS far) ∙ covers)

  -- the pointers of what is kept of an indirect block
  abbrev badly_kept : Option Table → Bool
  badly_kept = table_points_badly layout inode.size

  -- a place that points badly
  bad_place : (place : ℕ) → place < PLACES → is_good_pointer layout part place ≡ false
      → any_below PLACES (λ place. not (is_good_pointer layout part place)) ≡ true
  bad_place place within bad = any_below-at PLACES (λ place. not (is_good_pointer layout part place)) place within (ap not bad)

  pub record_bad : record_points_badly layout inode ≡ true → any_below PLACES (λ place. not (is_good_pointer layout part place)) ≡ true
  record_bad bad = elim (or_cases (some_points_badly layout inode.size inode.direct 0 4096) _ bad) [
    | inl direct ↦
        (let one = any_below-some (length inode.direct) (λ k. not (points_well layout inode.size (slice_index inode.direct k) (0 + 4096 * k))) direct in
        let near : one.0 < 108 = subst (λ (n : ℕ). one.0 < n) direct_count one.1 in
        bad_place one.0 (omega arith) (direct_well one.0 near ∙ not_true _ one.2))
    | inr indirect ↦
        (let one = any_below-some (length inode.indirect)
        (λ k. not (points_well layout inode.size (slice_index inode.indirect k) (4096 * 108 + 4096 * 1024 * k))) indirect in
        let small : one.0 < 16 = subst (λ (n : ℕ). one.0 < n) indirect_count one.1 in
        bad_place (FILE_BLOCKS + one.0) (omega arith) (indirect_well one.0 ∙ not_true _ one.2))
  ]

  -- the same for an indirect block
  table_bad : (k : ℕ) → k < 16 → badly_kept (table_kept inode part.tables k) ≡ true → any_below PLACES (λ place. not (is_good_pointer layout part place)) ≡ true
  table_bad k small bad = elim (cases_Bool (eqb (slice_index inode.indirect k) 0)) [
    | inl hole ↦
        absurd (not_both_of (badly_kept (table_kept inode part.tables k)) bad (ap badly_kept (cond-true (eqb (slice_index inode.indirect k) 0) _ _ hole)))
    | inr there ↦ (let here = sym (ap badly_kept (cond-false (eqb (slice_index inode.indirect k) 0) _ _ there)) ∙ bad in
        let one =
        any_below-some 1024
        (λ e. not (points_well layout inode.size (slice_index (pointers_of (slice_index_or part.tables k [])) e) (4096 * (108 + 1024 * k) + 4096 * e)))
        here in
        bad_place (108 + 1024 * k + one.0) (let h = one.1 in omega arith) (entry_well k one.0 small one.1 ∙ not_true _ one.2))
  ]

  -- where no pointer that is kept points badly each place points well
  module _ (record_good : record_points_badly layout inode ≡ false) (tables_good : tables_point_badly layout inode.size (kept_tables part) ≡ false)
      (holes : HasEmptyHoles part) where
    both_good : (some_points_badly layout inode.size inode.direct 0 4096 ≡ false)
        × (some_points_badly layout inode.size inode.indirect (4096 * 108) (4096 * 1024) ≡ false)
    both_good = or_parts (some_points_badly layout inode.size inode.direct 0 4096) _ record_good

    direct_good : (n : ℕ) → n < 108 → is_good_pointer layout part n ≡ true
    direct_good n near =
        direct_well n near
        ∙ not_false _
        (any_below-none (length inode.direct) (λ k. not (points_well layout inode.size (slice_index inode.direct k) (0 + 4096 * k))) both_good.0 n
        (subst (λ (m : ℕ). n < m) (sym direct_count) near))

    indirect_good : (k : ℕ) → k < 16 → is_good_pointer layout part (FILE_BLOCKS + k) ≡ true
    indirect_good k small =
        indirect_well k
        ∙ not_false _
        (any_below-none (length inode.indirect)
        (λ k. not (points_well layout inode.size (slice_index inode.indirect k) (4096 * 108 + 4096 * 1024 * k))) both_good.1 k
        (subst (λ (m : ℕ). k < m) (sym indirect_count) small))

    table_good : (k : ℕ) → k < 16 → badly_kept (table_kept inode part.tables k) ≡ false
    table_good k small =
        sym (ap badly_kept (table_found inode part.tables k small))
        ∙ any_below-none 16 (λ k. badly_kept (find (λ table. eqb table.place k) (kept_tables part))) tables_good k small

    entry_good : (k e : ℕ) → k < 16 → e < 1024 → is_good_pointer layout part (108 + 1024 * k + e) ≡ true
    entry_good k e small tiny = elim (cases_Bool (eqb (slice_index inode.indirect k) 0)) [
      | inl hole ↦ entry_well k e small tiny ∙ hole_well layout inode.size _ _ (holes k small (eqb-true _ _ hole) e)
      | inr there ↦ (let here = sym (ap badly_kept (cond-false (eqb (slice_index inode.indirect k) 0) _ _ there)) ∙ table_good k small in
          entry_well k e small tiny
          ∙ not_false _
          (any_below-none 1024
          (λ e. not
          (points_well layout inode.size (slice_index (pointers_of (slice_index_or part.tables k [])) e) (4096 * (108 + 1024 * k) + 4096 * e)))
          here e tiny))
    ]

    pub all_well : (place : ℕ) → place < PLACES → is_good_pointer layout part place ≡ true
    all_well place within = elim (cases_lt place 108) [
      | inl near ↦ direct_good place near
      | inr far ↦ elim (cases_lt place FILE_BLOCKS) [
        | inl block ↦ (let same : 108 + 1024 * table_of place + entry_of place ≡ place = omega arith in
            subst (λ (p : ℕ). is_good_pointer layout part p ≡ true) same (entry_good (table_of place) (entry_of place) (omega arith) (omega arith)))
        | inr table ↦ (let same : FILE_BLOCKS + (place - FILE_BLOCKS) ≡ place = omega arith in
            subst (λ (p : ℕ). is_good_pointer layout part p ≡ true) same (indirect_good (place - FILE_BLOCKS) (omega arith)))
      ]
    ]

-- the rule, by what is kept
pub rule_by_kept : (layout : Layout) (part : Part) → HasEmptyHoles part → breaks_pointers layout part ≡ points_badly layout (inode_in part) (kept_tables part)
rule_by_kept layout part holes =
    ap (λ b. not (is_free_part part) && b)
    (by (cases_Bool (record_points_badly layout (inode_in part))) (cases_Bool (tables_point_badly layout (inode_in part).size (kept_tables part))))
  where
    by : ((record_points_badly layout (inode_in part) ≡ true) ⊎ (record_points_badly layout (inode_in part) ≡ false)) →
        ((tables_point_badly layout (inode_in part).size (kept_tables part) ≡ true)
        ⊎ (tables_point_badly layout (inode_in part).size (kept_tables part) ≡ false)) →
        any_below PLACES (λ place. not (is_good_pointer layout part place))
        ≡ (record_points_badly layout (inode_in part) || tables_point_badly layout (inode_in part).size (kept_tables part))
    by (inl bad) other = record_bad layout part bad ∙ sym (or_left (record_points_badly layout (inode_in part)) _ bad)
    by (inr good) (inl bad) =
        (let one = any_below-some 16 (λ k. table_points_badly layout (inode_in part).size (find (λ table. eqb table.place k) (kept_tables part))) bad in
        table_bad layout part one.0 one.1
        (sym (ap (table_points_badly layout (inode_in part).size) (table_found (inode_in part) part.tables one.0 one.1)) ∙ one.2))
        ∙ sym (or_right (record_points_badly layout (inode_in part)) _ bad)
    by (inr good) (inr fine) =
        any_below-from PLACES _ (λ place within. ap not (all_well layout part good fine holes place within))
        ∙ sym (or_from (record_points_badly layout (inode_in part)) _ good fine)

-- a free inode has no pointer to an indirect block
pub free_indirect : (own : Inode) → IsFree own → (k : ℕ) → slice_index own.indirect k ≡ 0
free_indirect own free k = ap (λ (xs : List ℕ). slice_index xs k) free.indirect ∙ zeros_read 16 k

-- the indirect blocks of a free inode
free_tables : (told : Option (List ℕ)) (inode : Inode) → IsFree inode → HasTables told inode []
unfolding tables_kept
free_tables told inode free = record {
  blocks = replicate 16 (zeros 4096);
  read = record {
    count = refl;
    each = λ k small. record {
      hole = λ _. zeros_there k small;
      gives = λ content _. zeros_there k small ∙ sym (hole_is_read (image_block content) (slice_index inode.indirect k) (free_indirect inode free k));
      long = λ _. ap length (zeros_there k small) ∙ length-zeros 4096;
    };
  };
  kept =
      sym
      (filter_map_same (table_kept inode (replicate 16 (zeros 4096))) (λ _. None) 0 16
      (λ k low high. cond-true (eqb (slice_index inode.indirect k) 0) _ _ (eq-eqb _ _ (free_indirect inode free k))));
}
  where
    zeros_there : (k : ℕ) → k < 16 → slice_index_or (replicate 16 (zeros 4096)) k [] ≡ zeros 4096
    zeros_there k small = get_or-replicate 16 k (zeros 4096) [] small

pub free_judged : (told : Option (List ℕ)) (layout : Layout) (inode : Inode) → IsInode inode → inode.kind ≡ 0 → AreJudgedTables told layout inode false []
free_judged told layout inode fits free = record {
  has = free_tables told inode (fits.free free);
  judged = and_left (not (eqb inode.kind 0)) _ (ap not (eq-eqb _ _ free));
}

-- the indirect blocks of an inode of which none was read
pub unread_tables : (told : Option (List ℕ)) (inode : Inode) → length inode.indirect ≡ 16
    → HasTables told inode (tables_kept inode (map (read_block (store_of told)) inode.indirect))
unread_tables told inode long = record {
  blocks = map (read_block (store_of told)) inode.indirect;
  read = record {
    count = length-map inode.indirect (read_block (store_of told)) ∙ long;
    each =
        λ k small. subst (IsReadBlock told (slice_index inode.indirect k)) (sym (get_or-map (read_block (store_of told)) inode.indirect k 0 [] (omega arith)))
        (store_reads told (slice_index inode.indirect k));
  };
  kept = refl;
}

-- a record of which a pointer points badly
pub record_judged : (told : Option (List ℕ)) (layout : Layout) (inode : Inode) → IsInode inode → inode.kind ≢ 0 → record_points_badly layout inode ≡ true →
    (tables : List Table) × AreJudgedTables told layout inode true tables
record_judged told layout inode fits used bad = (
  tables_kept inode (map (read_block (store_of told)) inode.indirect),
  record {
    has = unread_tables told inode fits.indirect_count;
    judged =
        ap (λ b. not b
        && (record_points_badly layout inode || tables_point_badly layout inode.size (tables_kept inode (map (read_block (store_of told)) inode.indirect))))
        (ne_eqb _ _ used)
        ∙ or_left (record_points_badly layout inode) _ bad;
  },
)

-- tables of which a pointer points badly, or none does
pub tables_judged : (told : Option (List ℕ)) (layout : Layout) (inode : Inode) (tables : List Table) (badly : Bool) → inode.kind ≢ 0
    → record_points_badly layout inode ≡ false →
    HasTables told inode tables → tables_point_badly layout inode.size tables ≡ badly → AreJudgedTables told layout inode badly tables
tables_judged told layout inode tables badly used good has is = record {
  has = has;
  judged =
      ap (λ b. not b && (record_points_badly layout inode || tables_point_badly layout inode.size tables)) (ne_eqb _ _ used)
      ∙ ap (λ b. b || tables_point_badly layout inode.size tables) good ∙ is;
}

-- the indirect blocks of an inode whose record points well lie on the disk
pub indirect_within : (size : ℕ) (layout : Layout) (inode : Inode) → IsLayout size layout → IsInode inode → record_points_badly layout inode ≡ false → (k : ℕ)
    → slice_index inode.indirect k < size
indirect_within size layout inode valid fits good k = elim (cases_lt k 16) [
  | inr past ↦ (let none = get_or_past inode.indirect k 0 (let c = fits.indirect_count in omega arith) in
      let room = valid.room in
      let within = valid.within in
      omega arith)
  | inl small ↦ (let both = or_parts (some_points_badly layout inode.size inode.direct 0 4096) _ good in
      let here =
      not_false _
      (any_below-none (length inode.indirect)
      (λ k. not (points_well layout inode.size (slice_index inode.indirect k) (4096 * 108 + 4096 * 1024 * k))) both.1 k
      (let c = fits.indirect_count in omega arith)) in
      elim (or_cases (eqb (slice_index inode.indirect k) 0) _ here) [
        | inl hole ↦ (let none = eqb-true _ _ hole in
            let room = valid.room in
            let within = valid.within in
            omega arith)
        | inr there ↦ (let inside = and_parts (is_data_block layout (slice_index inode.indirect k)) _ there in
            let ends = and_parts (leb (data_start layout) (slice_index inode.indirect k)) _ inside.0 in
            let below = ltb-true (slice_index inode.indirect k) layout.blocks ends.1 in
            let within = valid.within in
            omega arith)
      ])
]
