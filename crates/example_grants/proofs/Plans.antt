-- A plan of a file that gets its first byte needs one block, and what its commit writes.
use Rattle.std.specs.List.{range_with_len, cons_option, flat_map}
use Rattle.std.specs.Option.{unwrap_or}
use Rattle.std.proofs.Common.{◌<◌, ◌≢◌, ◌++◌, ◌≡◌, ◌∷◌, ◌∙◌, ◌+◌, ◌-◌, ◌==◌, ◌&&◌, ◌||◌, if◌then◌else◌, take, None, Some, ℕ, Bool, false, zero, refl, suc, cond, ap, arith, List, [], slice_index, nat_lt, not, nat_le, true, nat_eq, ne_eqb, map, Option, sum_by, subst, sym, filter_map, replicate, is_some, count_by, get_or}
use Rattle.std.proofs.lemmas.Bool.{cond-false, and_right}
use Rattle.std.proofs.lemmas.List.{length-replicate, get_or-replicate}
use Rattle.sfs_base.proofs.BasicLists.{zeros_read}
use Rattle.sfs_image.specs.Bytes.{zeros}
use Rattle.sfs_image.specs.Inode.{Inode}
use Rattle.sfs_image.specs.Part.{tabulate, directory_blocks}
use Rattle.sfs_image.specs.Seen.{FILE_BLOCKS, PLACES}
use Rattle.sfs_image.specs.SlotBlock.{slots_of}
use Rattle.image_laws.specs.Need.{table_has_pointer, rank, takes_place, Rewrite, rewrites_table, first_block, changes_pointer, table_blocks, takes_data, takes_table}
use Rattle.image_laws.proofs.Ranks.{rank_more}
use Rattle.disk_nodes.specs.OldKept.{Kept}
use Rattle.disk_nodes.specs.Nodes.{entry_node}
use Rattle.block_map.specs.declared.changed.ChangedBlock.{ChangedBlock}
use Rattle.block_map.specs.declared.rewrite.TableFate.{TableFate}
use Rattle.block_map.specs.declared.rewrite.TableFate.TheVariants.{Stays, Goes, IsWritten}
use Rattle.block_map.specs.Changed.{change_of}
use Rattle.block_map.specs.Remap.{pointer_remapped, inode_remapped, fresh_for, TABLES, rewrite_of, gives_up, table_fate, table_remapped, tables_remapped, table_by_fate}
use Rattle.block_map.specs.Kept.{tables_kept, kept_of, kept_tables, kept_slots}
use Rattle.block_map.proofs.Tables.{none_in_range, tabulated}
use Rattle.disk_change.specs.AllBuilt.{nodes_with_grant, numbers_with, fresh_of_node, entry_after, after_commit, fresh_of_commit}
use Rattle.disk_change.specs.Built.{Built}
use Rattle.disk_change.specs.Lists.{ascending_by}
use Rattle.disk_change.specs.Planned.{Planned, blocks_taken, enters}
use Rattle.disk_change.specs.Records.{records_written, record_inode, written_of_built}
use Rattle.disk_change.specs.Seated.{Seated, changes_in}
use Rattle.commit_laws.specs.CommitOfPlan.{CommitPlan, change_planned}
use Rattle.example_grants.specs.Image.{EMPTY_FILE, file_inode}
use Rattle.example_grants.specs.Fsyncs.{Writer, OWN, OTHER, change_by, plan_of_writer, grant_by}
use Rattle.example_grants.specs.Laws.{WritesOne}
use Rattle.example_grants.proofs.Image.{FILE_PART, file_is}

-- a test that the first number passes and no other counts one
rank_zero : (takes : ℕ → Bool) → rank takes 0 ≡ 0
unfolding rank
rank_zero takes = refl

rank_one : (takes : ℕ → Bool) → takes 0 ≡ true → ((n : ℕ) → n ≢ 0 → takes n ≡ false) → (n : ℕ) → 0 < n → rank takes n ≡ 1
rank_one takes first later zero some = absurd (omega (arith, some))
rank_one takes first later (suc zero) some =
    rank_more takes 0 ∙ ap (λ b. rank takes 0 + cond b 1 0) first ∙ ap (λ n. n + 1) (rank_zero takes)
rank_one takes first later (suc (suc n)) some =
    rank_more takes (suc n) ∙ ap (λ b. rank takes (suc n) + cond b 1 0) (later (suc n) (λ e. omega (arith, e)))
    ∙ ap (λ m. m + 0) (rank_one takes first later (suc n) (omega arith))

-- what memory keeps of an empty file
abbrev pub KEPT_FILE : Kept
KEPT_FILE = record { inode = EMPTY_FILE; tables = []; slots = [] }

no_tables : (blocks : List (List ℕ)) → tables_kept EMPTY_FILE blocks ≡ []
unfolding tables_kept
no_tables blocks = refl

pub kept_file : kept_of FILE_PART ≡ KEPT_FILE
kept_file = λ i. record { inode = file_is i; tables = tables i; slots = slots i }
  where
    tables : kept_tables FILE_PART ≡ []
    tables = ap (λ (inode : Inode). tables_kept inode FILE_PART.tables) file_is ∙ no_tables FILE_PART.tables

    slots : kept_slots FILE_PART ≡ []
    slots = ap (λ (inode : Inode). cond (nat_eq inode.kind 2) (map slots_of (directory_blocks FILE_PART)) []) file_is

-- the first block is rewritten and is not all zeros
abbrev pub FIRST_CHANGED : List ChangedBlock
FIRST_CHANGED = record { block = 0; is_zero = false } ∷ []

abbrev pub FIRST_REWRITE : Rewrite
FIRST_REWRITE = rewrite_of (file_inode 1 0) [] FIRST_CHANGED

others_stay : (n : ℕ) → n ≢ 0 → change_of FIRST_CHANGED n ≡ None
others_stay n other =
    ap (λ b. cond b (Some (record { block = 0; is_zero = false })) (let o : Option ChangedBlock = None in o)) (ne_eqb 0 n (λ same. other (sym same)))

pub no_pointer : (place : ℕ) → FIRST_REWRITE.pointers place ≡ 0
no_pointer place = none (nat_lt place FILE_BLOCKS) (nat_lt place 108)
  where
    none : (b c : Bool) → cond b (cond c (slice_index (0 ∷ replicate 107 0) place) 0) (slice_index (replicate 16 0) (place - FILE_BLOCKS)) ≡ 0
    none true true = zeros_read 108 place
    none true false = refl
    none false c = zeros_read 16 (place - FILE_BLOCKS)

no_table : (table : ℕ) → rewrites_table FIRST_REWRITE table ≡ false
unfolding table_blocks
no_table table =
    ap (λ b. b || (not (FIRST_REWRITE.pointers (FILE_BLOCKS + table) == 0) && nat_le FIRST_REWRITE.blocks (first_block table)))
    (none_in_range (changes_pointer FIRST_REWRITE) (first_block table) 1024 (λ m low high.
    ap (λ (o : Option ChangedBlock). is_some o && (not (FIRST_REWRITE.is_zero m) || not (FIRST_REWRITE.pointers m == 0)))
    (others_stay m (λ e. omega (arith, e, low)))))
    ∙ ap (λ p. not (p == 0) && nat_le FIRST_REWRITE.blocks (first_block table)) (no_pointer (FILE_BLOCKS + table))

takes_no_other : (place : ℕ) → place ≢ 0 → takes_place FIRST_REWRITE place ≡ false
takes_no_other place other = by (nat_lt place FILE_BLOCKS)
  where
    by : (b : Bool) → (if b then takes_data FIRST_REWRITE place else takes_table FIRST_REWRITE (place - FILE_BLOCKS)) ≡ false
    by true = ap (λ (o : Option ChangedBlock). is_some o && not (FIRST_REWRITE.is_zero place)) (others_stay place other)
    by false = ap (λ b. b && table_has_pointer FIRST_REWRITE (place - FILE_BLOCKS)) (no_table (place - FILE_BLOCKS))

pub gives_up_none : (place : ℕ) → gives_up FIRST_REWRITE place ≡ false
gives_up_none place = and_right _ _ (ap (λ p. not (p == 0)) (no_pointer place))

-- what becomes of the file's inode
module _ (block : ℕ) where
  abbrev pointers : ℕ → ℕ
  pointers = pointer_remapped FIRST_REWRITE (block ∷ [])

  first_pointer : pointers 0 ≡ block
  first_pointer = ap (slice_index (block ∷ [])) (rank_zero (takes_place FIRST_REWRITE))

  later_pointer : (place : ℕ) → place ≢ 0 → pointers place ≡ 0
  later_pointer place other = by (nat_lt place FILE_BLOCKS)
    where
      by : (b : Bool)
          → (if b then (if FIRST_REWRITE.is_rewritten place
          then (if FIRST_REWRITE.is_zero place then 0 else fresh_for FIRST_REWRITE (block ∷ []) place) else FIRST_REWRITE.pointers place)
          else (if rewrites_table FIRST_REWRITE (place - FILE_BLOCKS)
          then (if table_has_pointer FIRST_REWRITE (place - FILE_BLOCKS) then fresh_for FIRST_REWRITE (block ∷ []) place else 0)
          else FIRST_REWRITE.pointers place))
          ≡ 0
      by true =
          ap (λ (o : Option ChangedBlock). if is_some o
          then (if FIRST_REWRITE.is_zero place then 0 else fresh_for FIRST_REWRITE (block ∷ []) place) else FIRST_REWRITE.pointers place)
          (others_stay place other) ∙ no_pointer place
      by false =
          cond-false (rewrites_table FIRST_REWRITE (place - FILE_BLOCKS)) _ _ (no_table (place - FILE_BLOCKS)) ∙ no_pointer place

  direct_then : tabulate 108 pointers ≡ block ∷ replicate 107 0
  direct_then = sym (tabulated 108 pointers (block ∷ replicate 107 0) (ap suc (length-replicate {A = ℕ} 107 0)) each)
    where
      each : (k d : ℕ) → k < 108 → get_or (block ∷ replicate 107 0) k d ≡ pointers k
      each zero d low = sym first_pointer
      each (suc k) d low = get_or-replicate {A = ℕ} 107 k 0 d (omega (arith, low)) ∙ sym (later_pointer (suc k) (λ e. omega (arith, e)))

  indirect_then : tabulate TABLES (λ k. pointers (FILE_BLOCKS + k)) ≡ replicate 16 0
  indirect_then =
      sym
      (tabulated 16 (λ k. pointers (FILE_BLOCKS + k)) (replicate 16 0) (length-replicate {A = ℕ} 16 0)
      (λ k d low. get_or-replicate {A = ℕ} 16 k 0 d low ∙ sym (later_pointer (FILE_BLOCKS + k) (λ e. omega (arith, e)))))

  inode_then : inode_remapped FIRST_REWRITE (block ∷ []) (file_inode 1 0) ≡ file_inode 1 block
  inode_then = λ i. record { kind = 1; links = 1; size = 1; direct = direct_then i; indirect = indirect_then i }

  no_table_then : (k : ℕ) → table_remapped FIRST_REWRITE (block ∷ []) [] k ≡ None
  no_table_then k =
      ap (λ b. table_by_fate (if b then
      (if table_has_pointer FIRST_REWRITE k then IsWritten else Goes) else Stays) FIRST_REWRITE (block ∷ []) [] k)
      (no_table k)

  tables_then : tables_remapped FIRST_REWRITE (block ∷ []) [] ≡ []
  tables_then = none (range_with_len 0 TABLES)
    where
      none : (numbers : List ℕ) → filter_map (table_remapped FIRST_REWRITE (block ∷ []) []) numbers ≡ []
      none [] = refl
      none (k ∷ numbers) =
          ap (λ o. cons_option o (filter_map (table_remapped FIRST_REWRITE (block ∷ []) []) numbers)) (no_table_then k) ∙ none numbers

fates_then : tabulate TABLES (table_fate FIRST_REWRITE) ≡ replicate 16 Stays
fates_then =
    sym
    (tabulated 16 (table_fate FIRST_REWRITE) (replicate 16 Stays) (length-replicate {A = TableFate} 16 Stays)
    (λ k d low. get_or-replicate {A = TableFate} 16 k Stays d low
    ∙ sym (ap (λ b. if b then (if table_has_pointer FIRST_REWRITE k then IsWritten else Goes) else Stays) (no_table k))))

-- the plan where this is kept of the file, and what it changes
abbrev pub plan_kept : Writer → Kept → CommitPlan
plan_kept writer kept = record {
  old = record { node = record { 0 = writer.file }; old = record { number = writer.file; kept = kept } } ∷ [];
  nets = [];
  files = change_by writer ∷ [];
  enter = [];
  leave = [];
}

abbrev pub seat_by : Writer → Seated
seat_by writer = record {
  node = writer.file;
  number = Some writer.file;
  before = EMPTY_FILE;
  meta = file_inode 1 0;
  tables = [];
  slots = [];
  changed = FIRST_CHANGED;
}

abbrev pub planned_by : Writer → Planned
planned_by writer = record {
  old = (plan_kept writer KEPT_FILE).old;
  seats = seat_by writer ∷ [];
  gone = [];
  changes = changes_in [] [] (change_by writer ∷ []);
}

pub own_planned : change_planned (plan_kept OWN KEPT_FILE) ≡ planned_by OWN
unfolding zeros
own_planned = refl

pub other_planned : change_planned (plan_kept OTHER KEPT_FILE) ≡ planned_by OTHER
unfolding zeros
other_planned = refl

pub one_taken : (writer : Writer) → blocks_taken (seat_by writer) ≡ 1
one_taken writer = rank_one (takes_place FIRST_REWRITE) refl takes_no_other PLACES (omega arith)

-- what is built of the file
abbrev pub built_by : Writer → Built
built_by writer = record {
  node = writer.file;
  number = writer.file;
  before = EMPTY_FILE;
  meta = file_inode 1 writer.block;
  tables = [];
  slots = [];
  changed = FIRST_CHANGED;
  fates = replicate 16 Stays;
}

is_built : (writer : Writer) → unwrap_or (numbers_with (planned_by writer) [] writer.file) 0 ≡ writer.file
    → nodes_with_grant (planned_by writer) (grant_by writer) ≡ built_by writer ∷ []
is_built writer number =
    ap (λ fresh. build fresh ∷ []) (ap (λ n. take n (writer.block ∷ [])) (one_taken writer))
    ∙ (λ i. record {
      node = writer.file;
      number = number i;
      before = EMPTY_FILE;
      meta = inode_then writer.block i;
      tables = tables_then writer.block i;
      slots = [];
      changed = FIRST_CHANGED;
      fates = fates_then i;
    } ∷ [])
  where
    build : List ℕ → Built
    build fresh = record {
      node = writer.file;
      number = unwrap_or (numbers_with (planned_by writer) [] writer.file) 0;
      before = EMPTY_FILE;
      meta = inode_remapped FIRST_REWRITE fresh (file_inode 1 0);
      tables = tables_remapped FIRST_REWRITE fresh [];
      slots = [];
      changed = FIRST_CHANGED;
      fates = tabulate TABLES (table_fate FIRST_REWRITE);
    }

-- what its commit writes
module _ (writer : Writer) (plan : CommitPlan) (is : change_planned plan ≡ planned_by writer)
    (number : unwrap_or (numbers_with (planned_by writer) [] writer.file) 0 ≡ writer.file)
    (page : flat_map (fresh_of_node (change_by writer ∷ [])) (built_by writer ∷ [])
    ≡ record { block = writer.block; bytes = writer.byte ∷ zeros 4095 } ∷ []) where
  built : nodes_with_grant (planned_by writer) (grant_by writer) ≡ built_by writer ∷ []
  built = is_built writer number

  writes_one : WritesOne writer plan
  writes_one = record {
    needs = ap (λ (p : Planned). record { inodes = count_by enters p.seats; blocks = sum_by blocks_taken p.seats }) is
        ∙ (λ i. record { inodes = 0; blocks = ap (λ n. sum_by (λ (m : ℕ). m) (n ∷ [])) (one_taken writer) i });
    records = ap (λ (p : Planned). records_written p (grant_by writer)) is
        ∙ ap (λ (l : List Built). ascending_by record_inode (filter_map written_of_built l ++ [])) built;
    fresh = ap (λ (p : Planned). fresh_of_commit p (grant_by writer)) is
        ∙ ap (flat_map (fresh_of_node (change_by writer ∷ []))) built ∙ page;
    leaves = ap (λ (p : Planned). after_commit p (grant_by writer)) is
        ∙ ap (λ (l : List Built). ascending_by entry_node (map entry_after l)) built;
  }

pub own_writes : WritesOne OWN (plan_of_writer OWN)
own_writes = subst (λ kept. WritesOne OWN (plan_kept OWN kept)) (sym kept_file) (writes_one OWN (plan_kept OWN KEPT_FILE) own_planned refl refl)

pub other_writes : WritesOne OTHER (plan_of_writer OTHER)
other_writes =
    subst (λ kept. WritesOne OTHER (plan_kept OTHER kept)) (sym kept_file) (writes_one OTHER (plan_kept OTHER KEPT_FILE) other_planned refl refl)
