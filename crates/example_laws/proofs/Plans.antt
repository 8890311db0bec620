-- A plan that changes nothing of a directory needs nothing.
use Rattle.std.specs.List.{cons_option, list_any}
use Rattle.std.proofs.Common.{◌++◌, ◌≡◌, ◌∷◌, ◌||◌, ◌∙◌, ◌+◌, ◌-◌, ◌==◌, ◌&&◌, if◌then◌else◌, ◌*◌, take, None, Some, ℕ, Bool, false, zero, refl, suc, cond, ap, arith, List, [], slice_index, nat_lt, le-ltb, not, nat_le, true, nat_eq, map, Option, sum_by, count_by, length, subst, sym, take_all, Contains}
use Rattle.std.proofs.lemmas.Bool.{cond-false}
use Rattle.std.proofs.lemmas.List.{length-map}
use Rattle.sfs_base.proofs.BasicLists.{zeros_read}
use Rattle.sfs_image.specs.Inode.{inode_bytes, Inode}
use Rattle.sfs_image.specs.Part.{tabulate, directory_blocks}
use Rattle.sfs_image.specs.Seen.{FILE_BLOCKS, PLACES}
use Rattle.sfs_image.specs.ImageOf.{empty_directory}
use Rattle.sfs_image.specs.SlotBlock.{slots_of}
use Rattle.sfs_image.specs.Slot.{Row}
use Rattle.sfs_image.proofs.SlotBlockLaws.{slots_of-slots_bytes}
use Rattle.image_laws.specs.Need.{table_has_pointer, rank, takes_place, Rewrite, rewrites_table, first_block, changes_pointer, table_blocks, takes_data, takes_table, takes_in_row, place_in_row}
use Rattle.image_laws.proofs.Ranks.{rank_more}
use Rattle.disk_nodes.specs.OldKept.{Kept}
use Rattle.block_map.specs.Remap.{pointer_remapped, inode_remapped, fresh_for, TABLES, rewrite_of, gives_up}
use Rattle.block_map.specs.Kept.{pointer_kept, tables_kept, kept_of, kept_tables, kept_slots}
use Rattle.disk_change.specs.Lists.{ascending_by}
use Rattle.disk_change.specs.Records.{records_written, record_inode, same_inode}
use Rattle.disk_change.specs.Planned.{enters, blocks_taken}
use Rattle.disk_change.specs.Seated.{Seated, directory_seated, changes_in, begun_old}
use Rattle.disk_change.specs.declared.enter.Enter.{Enter}
use Rattle.disk_change.specs.Nodes.{enter_node}
use Rattle.disk_change.specs.Built.{rewrite_in}
use Rattle.commit_laws.specs.CommitOfPlan.{CommitPlan, change_planned}
use Rattle.commit_laws.proofs.Ranked.{rank_of_first}
use Rattle.space_laws.specs.Laws.{ServesAt}
use Rattle.example_laws.specs.Image.{ROOT_INODE, ROOT_SLOTS, TWELVE_BLOCKS, TWO_PARTS}
use Rattle.example_laws.specs.Fsyncs.{commit_plan, FIRST_FLUSH, SECOND_FLUSH, NO_GRANT}
use Rattle.example_laws.proofs.Image.{ROOT_PART, root_is, root_blocks, root_slots, ONE_PART, one_is, one_blocks}

-- where no number passes a test none is counted
rank_none : (test : ℕ → Bool) (n : ℕ) → ((k : ℕ) → test k ≡ false) → rank test n ≡ 0
unfolding rank
rank_none test zero none = refl
rank_none test (suc n) none =
    let more = rank_more test n in
    let here : ◌≡◌ {A = ℕ} (cond (test n) 1 0) 0 = ap (λ b. cond b 1 0) (none n) in
    let before = rank_none test n none in omega (arith, more, here, before)

none_passes : {X : Type 0} (test : X → Bool) (xs : List X) → ((x : X) → test x ≡ false) → list_any test xs ≡ false
none_passes test [] none = refl
none_passes test (x ∷ xs) none = ap (λ b. b || list_any test xs) (none x) ∙ none_passes test xs none

-- where no block is rewritten and no indirect block is there
module _ (inode : Inode) (none : (k : ℕ) → slice_index inode.indirect k ≡ 0) where
  abbrev rewrite : Rewrite
  rewrite = rewrite_of inode [] []

  pointer_none : (table : ℕ) → pointer_kept inode [] (FILE_BLOCKS + table) ≡ 0
  pointer_none table =
      cond-false (nat_lt (FILE_BLOCKS + table) FILE_BLOCKS) _ _ (le-ltb (FILE_BLOCKS + table) FILE_BLOCKS (omega arith))
      ∙ ap (slice_index inode.indirect) (let e : FILE_BLOCKS + table - FILE_BLOCKS ≡ table = omega arith in e) ∙ none table

  pub still : (table : ℕ) → rewrites_table rewrite table ≡ false
  still table =
      ap (λ b. b || (not (pointer_kept inode [] (FILE_BLOCKS + table) == 0) && nat_le rewrite.blocks (first_block table)))
      (none_passes (changes_pointer rewrite) (table_blocks table) (λ n. refl))
      ∙ ap (λ p. not (p == 0) && nat_le rewrite.blocks (first_block table)) (pointer_none table)

  -- nothing is taken
  still_takes_none : (place : ℕ) → takes_place rewrite place ≡ false
  still_takes_none place = by (nat_lt place FILE_BLOCKS)
    where
      by : (b : Bool) → (if b then takes_data rewrite place else takes_table rewrite (place - FILE_BLOCKS)) ≡ false
      by true = refl
      by false = ap (λ b. b && table_has_pointer rewrite (place - FILE_BLOCKS)) (still (place - FILE_BLOCKS))

  -- and nothing is given up
  still_gives_none : (place : ℕ) → gives_up rewrite place ≡ false
  still_gives_none place = by (nat_lt place FILE_BLOCKS)
    where
      by : (b : Bool)
          → ((if b then rewrite.is_rewritten place else rewrites_table rewrite (place - FILE_BLOCKS)) && not (rewrite.pointers place == 0)) ≡ false
      by true = refl
      by false = ap (λ b. b && not (rewrite.pointers place == 0)) (still (place - FILE_BLOCKS))

-- what memory keeps of the two directories
abbrev pub KEPT_ROOT : Kept
KEPT_ROOT = record { inode = ROOT_INODE; tables = []; slots = ROOT_SLOTS ∷ [] }

abbrev pub KEPT_ONE : Kept
KEPT_ONE = record { inode = empty_directory; tables = []; slots = [] }

no_tables : (blocks : List (List ℕ)) → tables_kept ROOT_INODE blocks ≡ []
unfolding tables_kept
no_tables blocks = refl

no_more_tables : (blocks : List (List ℕ)) → tables_kept empty_directory blocks ≡ []
unfolding tables_kept
no_more_tables blocks = refl

pub kept_root : kept_of ROOT_PART ≡ KEPT_ROOT
kept_root = λ i. record { inode = root_is i; tables = tables i; slots = slots i }
  where
    tables : kept_tables ROOT_PART ≡ []
    tables = ap (λ (inode : Inode). tables_kept inode ROOT_PART.tables) root_is ∙ no_tables ROOT_PART.tables

    slots : kept_slots ROOT_PART ≡ ROOT_SLOTS ∷ []
    slots =
        ap (λ (inode : Inode). cond (nat_eq inode.kind 2) (map slots_of (directory_blocks ROOT_PART)) []) root_is
        ∙ ap (map slots_of) root_blocks ∙ ap (λ (l : List (Option Row)). l ∷ []) (slots_of-slots_bytes ROOT_SLOTS root_slots)

pub kept_one : kept_of ONE_PART ≡ KEPT_ONE
kept_one = λ i. record { inode = one_is i; tables = tables i; slots = slots i }
  where
    tables : kept_tables ONE_PART ≡ []
    tables = ap (λ (inode : Inode). tables_kept inode ONE_PART.tables) one_is ∙ no_more_tables ONE_PART.tables

    slots : kept_slots ONE_PART ≡ []
    slots =
        ap (λ (inode : Inode). cond (nat_eq inode.kind 2) (map slots_of (directory_blocks ONE_PART)) []) one_is
        ∙ ap (map slots_of) one_blocks

-- the plan of a node of which this is kept
abbrev pub plan_kept : ℕ → Kept → CommitPlan
plan_kept node kept =
    record { old = record { node = record { 0 = node }; old = record { number = node; kept = kept } } ∷ []; nets = []; files = []; enter = []; leave = [] }

abbrev pub root_seat : Seated
root_seat = directory_seated (changes_in (0 ∷ []) [] []) (begun_old (record { node = record { 0 = 0 }; old = record { number = 0; kept = KEPT_ROOT } }))

abbrev pub one_seat : Seated
one_seat = directory_seated (changes_in (1 ∷ []) [] []) (begun_old (record { node = record { 0 = 1 }; old = record { number = 1; kept = KEPT_ONE } }))

root_takes : blocks_taken root_seat ≡ 0
root_takes = rank_none (takes_place (rewrite_of root_seat.meta [] [])) PLACES (still_takes_none root_seat.meta (λ k. zeros_read 16 k))

one_takes : blocks_taken one_seat ≡ 0
one_takes = rank_none (takes_place (rewrite_of one_seat.meta [] [])) PLACES (still_takes_none one_seat.meta (λ k. zeros_read 16 k))

-- A plan needs nothing.
pub record NeedsNone (plan : CommitPlan) : Type 0 where
  pub inodes : count_by enters (change_planned plan).seats ≡ 0
  pub blocks : sum_by blocks_taken (change_planned plan).seats ≡ 0
  pub still : (seat : Seated) → Contains (change_planned plan).seats seat → (place : ℕ) → gives_up (rewrite_in seat) place ≡ false

root_still : (seat : Seated) → Contains (root_seat ∷ []) seat → (place : ℕ) → gives_up (rewrite_in seat) place ≡ false
root_still seat (zero, low, is) place =
    subst (λ (s : Seated). gives_up (rewrite_in s) place ≡ false) is (still_gives_none root_seat.meta (λ k. zeros_read 16 k) place)
root_still seat (suc n, low, is) place = absurd (omega (arith, low))

one_still : (seat : Seated) → Contains (one_seat ∷ []) seat → (place : ℕ) → gives_up (rewrite_in seat) place ≡ false
one_still seat (zero, low, is) place =
    subst (λ (s : Seated). gives_up (rewrite_in s) place ≡ false) is (still_gives_none one_seat.meta (λ k. zeros_read 16 k) place)
one_still seat (suc n, low, is) place = absurd (omega (arith, low))

root_needs : NeedsNone (plan_kept 0 KEPT_ROOT)
root_needs = record { inodes = refl; blocks = let none = root_takes in omega (arith, none); still = root_still }

one_needs : NeedsNone (plan_kept 1 KEPT_ONE)
one_needs = record { inodes = refl; blocks = let none = one_takes in omega (arith, none); still = one_still }

pub first_needs : NeedsNone (commit_plan FIRST_FLUSH)
first_needs = subst (λ kept. NeedsNone (plan_kept 1 kept)) (sym kept_one) one_needs

pub second_needs : NeedsNone (commit_plan SECOND_FLUSH)
second_needs = subst (λ kept. NeedsNone (plan_kept 0 kept)) (sym kept_root) root_needs

-- so an empty grant serves it
pub serves_none : (plan : CommitPlan) → plan.enter ≡ [] → NeedsNone plan → ServesAt TWELVE_BLOCKS TWO_PARTS plan NO_GRANT
serves_none plan enter needs = record {
  serves = record {
    inodes = record {
      enough = ap (λ (l : List Enter). length (map enter_node l)) (sym enter);
      once = λ j k low. absurd (omega (arith, low));
      within = λ k low. absurd (omega (arith, low));
      free = λ k low. absurd (omega (arith, low));
    };
    blocks = record {
      enough =
          sym
          (ap (rank (takes_in_row (map rewrite_in seats)))
          (let long = length-map seats rewrite_in in let e : PLACES * length (map rewrite_in seats) ≡ place_in_row (length seats) 0 = omega (arith, long) in e)
          ∙ rank_of_first seats (length seats) (omega arith) ∙ ap (sum_by blocks_taken) (take_all (length seats) seats (omega arith)) ∙ needs.blocks);
      once = λ j k low. absurd (omega (arith, low));
      free = λ k i place low. absurd (omega (arith, low));
    };
  };
  lies = λ block has. absurd (let low = has.1 in omega (arith, low));
}
  where
    seats : List Seated
    seats = (change_planned plan).seats

-- where no block is rewritten and no indirect block is there each pointer stays
module _ (inode : Inode) (none : (k : ℕ) → slice_index inode.indirect k ≡ 0) (fresh : List ℕ) where
  pub pointer_stays : (place : ℕ) → pointer_remapped (rewrite_of inode [] []) fresh place ≡ pointer_kept inode [] place
  pointer_stays place = by (nat_lt place FILE_BLOCKS)
    where
      by : (b : Bool)
          → (if b then (if (rewrite_of inode [] []).is_rewritten place
          then (if (rewrite_of inode [] []).is_zero place then 0 else fresh_for (rewrite_of inode [] []) fresh place) else pointer_kept inode [] place)
          else (if rewrites_table (rewrite_of inode [] []) (place - FILE_BLOCKS)
          then (if table_has_pointer (rewrite_of inode [] []) (place - FILE_BLOCKS) then fresh_for (rewrite_of inode [] []) fresh place else 0)
          else pointer_kept inode [] place))
          ≡ pointer_kept inode [] place
      by true = refl
      by false =
          cond-false (rewrites_table (rewrite_of inode [] []) (place - FILE_BLOCKS)) _ _ (still inode none (place - FILE_BLOCKS))

-- so both records stay as they are
root_same : (fresh : List ℕ) → same_inode ROOT_INODE (inode_remapped (rewrite_in root_seat) fresh root_seat.meta) ≡ true
unfolding tabulate
root_same fresh =
    ap (λ (f : ℕ → ℕ). same_inode ROOT_INODE (record root_seat.meta { direct = tabulate 108 f; indirect = tabulate TABLES (λ k. f (FILE_BLOCKS + k)) }))
    (λ i place. pointer_stays root_seat.meta (λ k. zeros_read 16 k) fresh place i)

one_same : (fresh : List ℕ) → same_inode empty_directory (inode_remapped (rewrite_in one_seat) fresh one_seat.meta) ≡ true
unfolding tabulate
one_same fresh =
    ap (λ (f : ℕ → ℕ). same_inode empty_directory (record one_seat.meta { direct = tabulate 108 f; indirect = tabulate TABLES (λ k. f (FILE_BLOCKS + k)) }))
    (λ i place. pointer_stays one_seat.meta (λ k. zeros_read 16 k) fresh place i)

-- no record is written
root_unwritten : records_written (change_planned (plan_kept 0 KEPT_ROOT)) NO_GRANT ≡ []
root_unwritten =
    let after : Inode = inode_remapped (rewrite_in root_seat) (take (blocks_taken root_seat) NO_GRANT.blocks) root_seat.meta in
    ap (λ (b : Bool). ascending_by record_inode (cons_option (if b then None else Some (record { inode = 0; bytes = inode_bytes after })) [] ++ []))
    (root_same (take (blocks_taken root_seat) NO_GRANT.blocks))

one_unwritten : records_written (change_planned (plan_kept 1 KEPT_ONE)) NO_GRANT ≡ []
one_unwritten =
    let after : Inode = inode_remapped (rewrite_in one_seat) (take (blocks_taken one_seat) NO_GRANT.blocks) one_seat.meta in
    ap (λ (b : Bool). ascending_by record_inode (cons_option (if b then None else Some (record { inode = 1; bytes = inode_bytes after })) [] ++ []))
    (one_same (take (blocks_taken one_seat) NO_GRANT.blocks))

pub first_unwritten : records_written (change_planned (commit_plan FIRST_FLUSH)) NO_GRANT ≡ []
first_unwritten = subst (λ kept. records_written (change_planned (plan_kept 1 kept)) NO_GRANT ≡ []) (sym kept_one) one_unwritten

pub second_unwritten : records_written (change_planned (commit_plan SECOND_FLUSH)) NO_GRANT ≡ []
second_unwritten = subst (λ kept. records_written (change_planned (plan_kept 0 kept)) NO_GRANT ≡ []) (sym kept_root) root_unwritten
