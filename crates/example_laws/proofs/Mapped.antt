-- The map of free space is right, and an fsync that changes nothing leaves it as it is.
use Rattle.std.specs.List.{filter_map}
use Rattle.std.proofs.Common.{◌++◌, ◌≡◌, ◌∷◌, if◌then◌else◌, ◌-◌, ◌∙◌, ◌&&◌, ◌≤◌, ◌<◌, ◌↔◌, ◌≢◌, ◌||◌, ◌⊎◌, ℕ, [], inl, subst, sym, refl, inr, ap, slice_get, None, nat_lt, Some, arith, nat_le, false, true, replicate, zero, suc, Contains, Bool, count_by, sum_by, nat_eq, ne_eqb, cond, slice_index, map}
use Rattle.std.proofs.lemmas.Bool.{cases_eq}
use Rattle.std.proofs.lemmas.Option.{slice_get_past}
use Rattle.std.proofs.lemmas.Bool.Decides.{nat_tests}
use Rattle.std.proofs.lemmas.List.Elements.{All-nil}
use Rattle.std.proofs.lemmas.Map.Keys.{IsStrictlyIncreasing-from_sorted}
use Rattle.sfs_base.specs.Listed.{is_listed}
use Rattle.sfs_base.proofs.BasicLists.{zeros_read}
use Rattle.sfs_base.proofs.BasicTruth.{not_both}
use Rattle.sfs_image.specs.ImageOf.{empty_directory}
use Rattle.sfs_image.specs.Seen.{FILE_BLOCKS}
use Rattle.fmt_journal.specs.declared.tx.Tx.{Tx}
use Rattle.fmt_journal.specs.Ascending.{AscendByInode}
use Rattle.space_map.specs.declared.status.Status.TheVariants.{Granted, Taken, Free}
use Rattle.space_map.specs.Pool.{Pool, status_of, first_status, Grants, free_numbers}
use Rattle.disk_nodes.specs.OldKept.{Kept}
use Rattle.disk_nodes.specs.declared.old.OldEntry.{OldEntry}
use Rattle.block_map.specs.Kept.{pointer_kept}
use Rattle.block_map.specs.RemapLaws.{IsHeld}
use Rattle.disk_change.specs.Written.{IsTransactionOf}
use Rattle.disk_change.specs.Records.{written_of_built, written_of_gone, records_written, record_inode}
use Rattle.disk_change.specs.AllBuilt.{nodes_with_grant, fresh_of_commit}
use Rattle.disk_change.specs.GivenUp.{IsLeftByGone, IsLeftBySeat}
use Rattle.disk_change.specs.Planned.{as_u32, enters, blocks_taken}
use Rattle.commit_laws.specs.CommitOfPlan.{CommitPlan, change_planned}
use Rattle.cut_laws.proofs.Basics.{below_or}
use Rattle.space_laws.specs.Map.{IsMapOf}
use Rattle.space_laws.specs.Laws.{HasNoneGranted}
use Rattle.space_laws.proofs.Mapped.{first_maps_are_right}
use Rattle.plan_laws.proofs.Nets.{ascend_sorted}
use Rattle.turn_ties.specs.Plans.{amount_planned}
use Rattle.book_laws.proofs.Left.{ascending_ascends}
use Rattle.book_laws.specs.Out.{WasReserved}
use Rattle.book_laws.specs.Along.{EndsBringing}
use Rattle.example_laws.specs.Map.{TWO_TAKEN}
use Rattle.example_laws.specs.Fsyncs.{entry_at, NO_GRANT, roomless, Flushing, commit_plan, pair_by}
use Rattle.example_laws.specs.Image.{ROOT_INODE, TWELVE_BLOCKS}
use Rattle.example_laws.proofs.Telling.{ENTRIES, entry_cases}
use Rattle.example_laws.proofs.Plans.{kept_root, kept_one, NeedsNone}
use Rattle.example_laws.proofs.Reserving.{take_none}
use Rattle.example_laws.proofs.Image.{later_direct}

blocks_are : (block : ℕ) → status_of TWO_TAKEN.blocks block ≡ first_status 11 12 (11 ∷ []) block
blocks_are block = elim (cases_eq block 11) [
  | inl same ↦ subst (λ n. status_of TWO_TAKEN.blocks n ≡ first_status 11 12 (11 ∷ []) n) (sym same) refl
  | inr other ↦ elim (below_or block 11) [
    | inl low ↦
        ap (λ b. if b then slice_get TWO_TAKEN.blocks.statuses (block - 11) else None) (not_from 11 block low)
        ∙ sym (ap (λ b. if b && nat_lt block 12 then Some (if is_listed (11 ∷ []) block then Taken else Free) else None) (not_from 11 block low))
    | inr high ↦
        let above : 12 ≤ block = omega (arith, other, high) in
        ap (λ b. if b then slice_get TWO_TAKEN.blocks.statuses (block - 11) else None) (is_from_there 11 block high)
        ∙ slice_get_past TWO_TAKEN.blocks.statuses (block - 11) (omega (arith, above))
        ∙ sym (ap (λ b. if b && nat_lt block 12 then Some (if is_listed (11 ∷ []) block then Taken else Free) else None) (is_from_there 11 block high)
        ∙ ap (λ b. if b then Some (if is_listed (11 ∷ []) block then Taken else Free) else None) (not_under 12 block above))
  ]
]
  where
    not_from : (m n : ℕ) → n < m → nat_le m n ≡ false
    not_from m n less = grind (arith, nat_tests, less)

    is_from_there : (m n : ℕ) → m ≤ n → nat_le m n ≡ true
    is_from_there m n le = grind (arith, nat_tests, le)

    not_under : (m n : ℕ) → m ≤ n → nat_lt n m ≡ false
    not_under m n le = grind (arith, nat_tests, le)

pub free_there : (n k : ℕ) → slice_get (replicate n Free) k ≡ (if nat_lt k n then Some Free else None)
free_there zero k = sym (ap (λ b. if b then Some Free else None) (none k))
  where
    none : (k : ℕ) → nat_lt k 0 ≡ false
    none k = grind (arith, nat_tests)
free_there (suc n) zero = sym (ap (λ b. if b then Some Free else None) (some n))
  where
    some : (n : ℕ) → nat_lt 0 (suc n) ≡ true
    some n = grind (arith, nat_tests)
free_there (suc n) (suc k) = free_there n k ∙ ap (λ b. if b then Some Free else None) (less k n)
  where
    less : (k n : ℕ) → nat_lt k n ≡ nat_lt (suc k) (suc n)
    less k n = elim (below_or k n) [
      | inl low ↦
          (let a : nat_lt k n ≡ true = grind (arith, nat_tests, low) in
          let b : nat_lt (suc k) (suc n) ≡ true = grind (arith, nat_tests, low) in a ∙ sym b)
      | inr high ↦
          (let a : nat_lt k n ≡ false = grind (arith, nat_tests, high) in
          let b : nat_lt (suc k) (suc n) ≡ false = grind (arith, nat_tests, high) in a ∙ sym b)
    ]

inodes_are : (inode : ℕ) → status_of TWO_TAKEN.inodes inode ≡ first_status 0 16 (0 ∷ 1 ∷ []) inode
inodes_are zero = refl
inodes_are (suc zero) = refl
inodes_are (suc (suc k)) =
    ap (λ b. if b then slice_get TWO_TAKEN.inodes.statuses (n - 0) else None) from
    ∙ ap (slice_get TWO_TAKEN.inodes.statuses) (let e : n - 0 ≡ n = omega arith in e)
    ∙ free_there 14 k
    ∙ sym
    (ap (λ b. if b && nat_lt n 16 then Some (if is_listed (0 ∷ 1 ∷ []) n then Taken else Free) else None) from
    ∙ ap (λ b. if nat_lt n 16 then Some (if b || (nat_eq 1 n || false) then Taken else Free) else None) (ne_eqb 0 n (λ same. omega (arith, same)))
    ∙ ap (λ b. if nat_lt n 16 then Some (if b || false then Taken else Free) else None) (ne_eqb 1 n (λ same. omega (arith, same)))
    ∙ ap (λ b. if b then Some Free else None) less)
  where
    n : ℕ
    n = suc (suc k)

    from : nat_le 0 (suc (suc k)) ≡ true
    from = grind (arith, nat_tests)

    less : nat_lt (suc (suc k)) 16 ≡ nat_lt k 14
    less = elim (below_or k 14) [
      | inl low ↦
          (let a : nat_lt k 14 ≡ true = grind (arith, nat_tests, low) in
          let b : nat_lt (suc (suc k)) 16 ≡ true = grind (arith, nat_tests, low) in b ∙ sym a)
      | inr high ↦
          (let a : nat_lt k 14 ≡ false = grind (arith, nat_tests, high) in
          let b : nat_lt (suc (suc k)) 16 ≡ false = grind (arith, nat_tests, high) in b ∙ sym a)
    ]

-- the root's block is the one that an inode holds
held_is : (block : ℕ) → Contains (11 ∷ []) block ↔ IsLeftByGone ENTRIES block
held_is block = (there, back)
  where
    there : Contains (11 ∷ []) block → IsLeftByGone ENTRIES block
    there (zero, low, is) = record {
      entry = entry_at 0;
      one = (0, omega arith, refl);
      held = record {
        some = let e : 11 ≡ block = is in λ none. omega (arith, e, none);
        place = 0;
        within = omega arith;
        stands = ap (λ (kept : Kept). pointer_kept kept.inode kept.tables 0) kept_root ∙ is;
      };
    }
    there (suc k, low, is) = absurd (omega (arith, low))

    root_only : (place : ℕ) → pointer_kept ROOT_INODE [] place ≡ block → block ≢ 0 → Contains (11 ∷ []) block
    root_only place stands some = elim (cases_eq place 0) [
      | inl first ↦ (0, omega arith, ap (pointer_kept ROOT_INODE []) (sym first) ∙ stands)
      | inr other ↦ absurd (some (sym stands ∙ none (nat_lt place FILE_BLOCKS) (nat_lt place 108) other))
    ]
      where
        none : (b c : Bool) → place ≢ 0
            → cond b (cond c (slice_index (11 ∷ replicate 107 0) place) 0) (slice_index (replicate 16 0) (place - FILE_BLOCKS)) ≡ 0
        none true true other = later_direct place other
        none true false other = refl
        none false c other = zeros_read 16 (place - FILE_BLOCKS)

    one_none : (place : ℕ) → pointer_kept empty_directory [] place ≡ 0
    one_none place = none (nat_lt place FILE_BLOCKS) (nat_lt place 108)
      where
        none : (b c : Bool) → cond b (cond c (slice_index (replicate 108 0) place) 0) (slice_index (replicate 16 0) (place - FILE_BLOCKS)) ≡ 0
        none true true = zeros_read 108 place
        none true false = refl
        none false c = zeros_read 16 (place - FILE_BLOCKS)

    back : IsLeftByGone ENTRIES block → Contains (11 ∷ []) block
    back left = elim (entry_cases left.entry left.one) [
      | inl root ↦
          let held = subst (λ (e : OldEntry). IsHeld (pointer_kept e.old.kept.inode e.old.kept.tables) block) (sym root) left.held in
          root_only held.place (sym (ap (λ (kept : Kept). pointer_kept kept.inode kept.tables held.place) kept_root) ∙ held.stands) held.some
      | inr one ↦
          let held = subst (λ (e : OldEntry). IsHeld (pointer_kept e.old.kept.inode e.old.kept.tables) block) (sym one) left.held in
          absurd (held.some (sym held.stands ∙ ap (λ (kept : Kept). pointer_kept kept.inode kept.tables held.place) kept_one ∙ one_none held.place))
    ]

pub map_right : IsMapOf TWELVE_BLOCKS ENTRIES TWO_TAKEN
map_right = first_maps_are_right TWELVE_BLOCKS ENTRIES (11 ∷ []) TWO_TAKEN held_is blocks_are inodes_are

pub none_granted : (low taken : Bool) → (if low then Some (if taken then Taken else Free) else None) ≡ Some Granted → ⊥
none_granted true true is = cc is
none_granted true false is = cc is
none_granted false taken is = cc is

pub nothing_granted : HasNoneGranted TWO_TAKEN
nothing_granted = record {
  inodes = λ number is. none_granted _ _ (sym (inodes_are number) ∙ is);
  blocks = λ number is. none_granted _ _ (sym (blocks_are number) ∙ is);
}

-- an empty grant changes nothing
pub grants_none : (pool : Pool) (count : ℕ) → count ≡ 0 → Grants pool (as_u32 count) [] pool
grants_none pool count none =
    subst (λ n. Grants pool n [] pool) (sym (ap as_u32 none)) (record {
      counted = refl;
      ascending = λ k less. absurd (omega (arith, less));
      free = All-nil _;
      granted = λ number. refl;
      left = omega arith;
    })

pub reserved_none : (plan : CommitPlan) → NeedsNone plan → WasReserved plan TWO_TAKEN NO_GRANT TWO_TAKEN
reserved_none plan needs = record {
  taken = record {
    inodes = grants_none TWO_TAKEN.inodes (count_by enters (change_planned plan).seats) needs.inodes;
    blocks = grants_none TWO_TAKEN.blocks (sum_by blocks_taken (change_planned plan).seats) needs.blocks;
  };
  least = sym (take_none (free_numbers TWO_TAKEN.inodes) (as_u32 (amount_planned plan).inodes) (ap as_u32 needs.inodes));
}

pub written_ascend : (plan : CommitPlan) → AscendByInode (records_written (change_planned plan) NO_GRANT)
written_ascend plan =
    IsStrictlyIncreasing-from_sorted (map record_inode (records_written (change_planned plan) NO_GRANT))
    (ascend_sorted record_inode (records_written (change_planned plan) NO_GRANT) (ascending_ascends record_inode
    (filter_map written_of_built (nodes_with_grant (change_planned plan) NO_GRANT) ++ filter_map written_of_gone (change_planned plan).gone)))

-- the transaction of a commit of such a plan
abbrev pub tx_of : CommitPlan → Tx
tx_of plan = record {
  records = roomless (records_written (change_planned plan) NO_GRANT);
  fresh = roomless (fresh_of_commit (change_planned plan) NO_GRANT);
  freed_blocks = roomless [];
  freed_inodes = roomless [];
  records_ascend = written_ascend plan;
  blocks_ascend = λ k less. absurd (omega (arith, less));
  inodes_ascend = λ k less. absurd (omega (arith, less));
}

pub ended_none : (flushing : Flushing) → NeedsNone (commit_plan flushing) → EndsBringing (pair_by flushing).one TWO_TAKEN TWO_TAKEN
ended_none flushing needs = record {
  tx = tx_of (commit_plan flushing);
  used = record {
    gives_up = record {
      records = refl;
      fresh = refl;
      freed_blocks = record {
        ascending = λ k less. absurd (omega (arith, less));
        each = λ block. (λ has. absurd (let low = has.1 in omega (arith, low)), λ left. absurd (none_left block left));
      };
      freed_inodes = record { ascending = λ k less. absurd (omega (arith, less)); each = λ inode. (λ has. has, λ has. has) };
    };
    inodes = λ number. refl;
    blocks = λ number. refl;
  };
}
  where
    none_left : (block : ℕ)
        → IsLeftBySeat (change_planned (commit_plan flushing)).seats block ⊎ IsLeftByGone (change_planned (commit_plan flushing)).gone block → ⊥
    none_left block (inl left) = not_both left.left.given_up (needs.still left.seat left.one left.place)
    none_left block (inr left) = let low = left.one.1 in omega (arith, low)

-- the same of its transaction alone
pub transaction_none : (flushing : Flushing) → NeedsNone (commit_plan flushing)
    → IsTransactionOf (change_planned (commit_plan flushing)) NO_GRANT (tx_of (commit_plan flushing))
unfolding ended_none
transaction_none flushing needs = (ended_none flushing needs).used.gives_up
