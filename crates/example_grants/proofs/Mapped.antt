-- The map of free space is right, and a block is taken from it for each of the two commits.
use Rattle.std.proofs.Common.{◌≡◌, ◌∷◌, if◌then◌else◌, ◌-◌, ◌∙◌, ◌&&◌, ◌≤◌, ◌<◌, ◌↔◌, ◌≢◌, ◌||◌, ◌⊎◌, ℕ, [], List, Option, inl, subst, sym, refl, inr, ap, slice_get, None, nat_lt, Some, arith, nat_le, false, true, replicate, zero, suc, Contains, Bool, nat_eq, ne_eqb, cond, slice_index, option_map, take, ◌+◌}
use Rattle.std.proofs.lemmas.Bool.{cases_eq}
use Rattle.std.proofs.lemmas.Option.{slice_get_past}
use Rattle.std.proofs.lemmas.Bool.Decides.{nat_tests}
use Rattle.std.proofs.lemmas.List.Elements.{All-from_recursion}
use Rattle.sfs_base.specs.Listed.{is_listed}
use Rattle.sfs_base.proofs.BasicLists.{zeros_read}
use Rattle.sfs_base.proofs.BasicTruth.{not_both}
use Rattle.sfs_image.specs.Seen.{FILE_BLOCKS}
use Rattle.fmt_journal.specs.declared.tx.Tx.{Tx}
use Rattle.space_map.specs.declared.status.Status.{Status}
use Rattle.space_map.specs.declared.status.Status.TheVariants.{Granted, Taken, Free}
use Rattle.space_map.specs.Pool.{status_of, first_status, Grants, Changes, Ends, free_numbers, free_count}
use Rattle.disk_nodes.specs.OldKept.{Kept}
use Rattle.disk_nodes.specs.declared.old.OldEntry.{OldEntry}
use Rattle.block_map.specs.Kept.{pointer_kept, tables_kept, kept_of}
use Rattle.block_map.specs.RemapLaws.{IsHeld}
use Rattle.disk_change.specs.Built.{rewrite_in}
use Rattle.disk_change.specs.Written.{IsTransactionOf}
use Rattle.disk_change.specs.GivenUp.{IsLeftByGone, IsLeftBySeat}
use Rattle.disk_change.specs.Planned.{as_u32, Planned}
use Rattle.disk_change.specs.Seated.{Seated}
use Rattle.block_map.specs.Remap.{gives_up}
use Rattle.commit_laws.specs.CommitOfPlan.{change_planned}
use Rattle.cut_laws.proofs.Basics.{below_or}
use Rattle.sfs_image.specs.Inode.{inode_bytes, Inode, Table}
use Rattle.sfs_image.specs.Part.{Part}
use Rattle.sfs_image.specs.Bytes.{zeros}
use Rattle.space_laws.specs.Map.{IsMapOf}
use Rattle.space_laws.specs.Laws.{HasNoneGranted}
use Rattle.space_laws.proofs.Mapped.{first_maps_are_right}
use Rattle.turn_laws.specs.Need.{Amount}
use Rattle.turn_ties.specs.Plans.{amount_planned}
use Rattle.book_laws.specs.Out.{WasReserved}
use Rattle.book_laws.specs.Along.{EndsBringing}
use Rattle.example_laws.specs.Fsyncs.{roomless}
use Rattle.example_laws.proofs.Mapped.{grants_none}
use Rattle.example_laws.proofs.Reserving.{take_none}
use Rattle.example_grants.specs.Image.{ROOT_RECORD, FIFTEEN_BLOCKS, FIRST_PARTS, file_inode}
use Rattle.example_grants.specs.Fsyncs.{Writer, OWN, OTHER, ENTRIES, entry_for_node, plan_of_writer, grant_by, pair_made}
use Rattle.example_grants.specs.Laws.{WritesOne}
use Rattle.example_grants.specs.Map.{map_with, FIRST_MAP}
use Rattle.example_grants.proofs.Image.{ROOT_PART, FILE_PART, root_is, later_direct}
use Rattle.example_grants.proofs.Plans.{kept_file, no_pointer, gives_up_none, plan_kept, planned_by, own_planned, other_planned, own_writes, other_writes}
use Rattle.example_laws.proofs.Mapped.{none_granted, free_there}

-- A number is that of a data block, or lies outside.
at_each : (P : ℕ → Type 0) → P 11 → P 12 → P 13 → P 14 → ((n : ℕ) → (n < 11) ⊎ (15 ≤ n) → P n) → (n : ℕ) → P n
at_each P first second third fourth outside n = elim (cases_eq n 11) [
  | inl same ↦ subst P (sym same) first
  | inr no_first ↦ elim (cases_eq n 12) [
    | inl same ↦ subst P (sym same) second
    | inr no_second ↦ elim (cases_eq n 13) [
      | inl same ↦ subst P (sym same) third
      | inr no_third ↦ elim (cases_eq n 14) [
        | inl same ↦ subst P (sym same) fourth
        | inr no_fourth ↦ elim (below_or n 11) [
          | inl low ↦ outside n (inl low)
          | inr high ↦ outside n (inr (omega (arith, no_first, no_second, no_third, no_fourth, high)))
        ]
      ]
    ]
  ]
]

not_from : (m n : ℕ) → n < m → nat_le m n ≡ false
not_from m n less = grind (arith, nat_tests, less)

is_from_there : (m n : ℕ) → m ≤ n → nat_le m n ≡ true
is_from_there m n le = grind (arith, nat_tests, le)

not_under : (m n : ℕ) → m ≤ n → nat_lt n m ≡ false
not_under m n le = grind (arith, nat_tests, le)

-- outside of the data area a map has no status
none_outside : (own other : Status) (n : ℕ) → (n < 11) ⊎ (15 ≤ n) → status_of (map_with own other).blocks n ≡ None
none_outside own other n apart = elim apart [
  | inl low ↦ ap (λ b. if b then slice_get (map_with own other).blocks.statuses (n - 11) else None) (not_from 11 n low)
  | inr high ↦ ap (λ b. if b then slice_get (map_with own other).blocks.statuses (n - 11) else None) (is_from_there 11 n (omega (arith, high)))
      ∙ slice_get_past (map_with own other).blocks.statuses (n - 11) (omega (arith, high))
]

first_outside : (n : ℕ) → (n < 11) ⊎ (15 ≤ n) → first_status 11 15 (12 ∷ []) n ≡ None
first_outside n apart = elim apart [
  | inl low ↦ ap (λ b. if b && nat_lt n 15 then Some (if is_listed (12 ∷ []) n then Taken else Free) else None) (not_from 11 n low)
  | inr high ↦
      ap (λ b. if b && nat_lt n 15 then Some (if is_listed (12 ∷ []) n then Taken else Free) else None) (is_from_there 11 n (omega (arith, high)))
      ∙ ap (λ b. if b then Some (if is_listed (12 ∷ []) n then Taken else Free) else None) (not_under 15 n high)
]

blocks_are : (block : ℕ) → status_of FIRST_MAP.blocks block ≡ first_status 11 15 (12 ∷ []) block
blocks_are =
    at_each (λ n. status_of FIRST_MAP.blocks n ≡ first_status 11 15 (12 ∷ []) n) refl refl refl refl
    (λ n apart. none_outside Free Free n apart ∙ sym (first_outside n apart))

inodes_are : (inode : ℕ) → status_of FIRST_MAP.inodes inode ≡ first_status 0 16 (0 ∷ 1 ∷ 2 ∷ []) inode
inodes_are zero = refl
inodes_are (suc zero) = refl
inodes_are (suc (suc zero)) = refl
inodes_are (suc (suc (suc k))) =
    ap (λ b. if b then slice_get FIRST_MAP.inodes.statuses (n - 0) else None) from
    ∙ ap (slice_get FIRST_MAP.inodes.statuses) (let e : n - 0 ≡ n = omega arith in e)
    ∙ free_there 13 k
    ∙ sym
    (ap (λ b. if b && nat_lt n 16 then Some (if is_listed (0 ∷ 1 ∷ 2 ∷ []) n then Taken else Free) else None) from
    ∙ ap (λ b. if nat_lt n 16 then Some (if b || (nat_eq 1 n || (nat_eq 2 n || false)) then Taken else Free) else None)
    (ne_eqb 0 n (λ same. omega (arith, same)))
    ∙ ap (λ b. if nat_lt n 16 then Some (if b || (nat_eq 2 n || false) then Taken else Free) else None) (ne_eqb 1 n (λ same. omega (arith, same)))
    ∙ ap (λ b. if nat_lt n 16 then Some (if b || false then Taken else Free) else None) (ne_eqb 2 n (λ same. omega (arith, same)))
    ∙ ap (λ b. if b then Some Free else None) less)
  where
    n : ℕ
    n = suc (suc (suc k))

    from : nat_le 0 (suc (suc (suc k))) ≡ true
    from = grind (arith, nat_tests)

    less : nat_lt (suc (suc (suc k))) 16 ≡ nat_lt k 13
    less = elim (below_or k 13) [
      | inl low ↦
          (let a : nat_lt k 13 ≡ true = grind (arith, nat_tests, low) in
          let b : nat_lt (suc (suc (suc k))) 16 ≡ true = grind (arith, nat_tests, low) in b ∙ sym a)
      | inr high ↦
          (let a : nat_lt k 13 ≡ false = grind (arith, nat_tests, high) in
          let b : nat_lt (suc (suc (suc k))) 16 ≡ false = grind (arith, nat_tests, high) in b ∙ sym a)
    ]

-- what memory keeps of the root has one block
no_root_tables : (blocks : List (List ℕ)) → tables_kept ROOT_RECORD blocks ≡ []
unfolding tables_kept
no_root_tables blocks = refl

root_pointer : (place : ℕ) → pointer_kept (kept_of ROOT_PART).inode (kept_of ROOT_PART).tables place ≡ pointer_kept ROOT_RECORD [] place
root_pointer place =
    ap (λ (inode : Inode). pointer_kept inode (tables_kept inode ROOT_PART.tables) place) root_is
    ∙ ap (λ (tables : List Table). pointer_kept ROOT_RECORD tables place) (no_root_tables ROOT_PART.tables)

file_pointer : (place : ℕ) → pointer_kept (kept_of FILE_PART).inode (kept_of FILE_PART).tables place ≡ 0
file_pointer place = ap (λ (kept : Kept). pointer_kept kept.inode kept.tables place) kept_file ∙ no_pointer place

pub entry_cases : (entry : OldEntry) → Contains ENTRIES entry → (entry_for_node 0 ≡ entry) ⊎ ((entry_for_node 1 ≡ entry) ⊎ (entry_for_node 2 ≡ entry))
entry_cases entry (zero, low, is) = inl is
entry_cases entry (suc zero, low, is) = inr (inl is)
entry_cases entry (suc (suc zero), low, is) = inr (inr is)
entry_cases entry (suc (suc (suc k)), low, is) = absurd (omega (arith, low))

-- the root's block is the one that an inode holds
held_is : (block : ℕ) → Contains (12 ∷ []) block ↔ IsLeftByGone ENTRIES block
held_is block = (there, back)
  where
    there : Contains (12 ∷ []) block → IsLeftByGone ENTRIES block
    there (zero, low, is) = record {
      entry = entry_for_node 0;
      one = (0, omega arith, refl);
      held = record {
        some = let e : 12 ≡ block = is in λ none. omega (arith, e, none);
        place = 0;
        within = omega arith;
        stands = root_pointer 0 ∙ is;
      };
    }
    there (suc k, low, is) = absurd (omega (arith, low))

    root_only : (place : ℕ) → pointer_kept ROOT_RECORD [] place ≡ block → block ≢ 0 → Contains (12 ∷ []) block
    root_only place stands some = elim (cases_eq place 0) [
      | inl first ↦ (0, omega arith, ap (pointer_kept ROOT_RECORD []) (sym first) ∙ stands)
      | inr other ↦ absurd (some (sym stands ∙ none (nat_lt place FILE_BLOCKS) (nat_lt place 108) other))
    ]
      where
        none : (b c : Bool) → place ≢ 0
            → cond b (cond c (slice_index (12 ∷ replicate 107 0) place) 0) (slice_index (replicate 16 0) (place - FILE_BLOCKS)) ≡ 0
        none true true other = later_direct 12 place other
        none true false other = refl
        none false c other = zeros_read 16 (place - FILE_BLOCKS)

    no_file : (node : ℕ) → FIRST_PARTS node ≡ FILE_PART → (entry : OldEntry) → entry_for_node node ≡ entry
        → IsHeld (pointer_kept entry.old.kept.inode entry.old.kept.tables) block → ⊥
    no_file node file entry same left =
        let held = subst (λ (e : OldEntry). IsHeld (pointer_kept e.old.kept.inode e.old.kept.tables) block) (sym same) left in
        held.some
        (sym held.stands ∙ ap (λ (part : Part). pointer_kept (kept_of part).inode (kept_of part).tables held.place) file ∙ file_pointer held.place)

    back : IsLeftByGone ENTRIES block → Contains (12 ∷ []) block
    back left = elim (entry_cases left.entry left.one) [
      | inl root ↦
          let held = subst (λ (e : OldEntry). IsHeld (pointer_kept e.old.kept.inode e.old.kept.tables) block) (sym root) left.held in
          root_only held.place (sym (root_pointer held.place) ∙ held.stands) held.some
      | inr file ↦ absurd (elim file [ inl own ↦ no_file 1 refl left.entry own left.held | inr other ↦ no_file 2 refl left.entry other left.held ])
    ]

pub map_right : IsMapOf FIFTEEN_BLOCKS ENTRIES FIRST_MAP
map_right = first_maps_are_right FIFTEEN_BLOCKS ENTRIES (12 ∷ []) FIRST_MAP held_is blocks_are inodes_are

pub nothing_granted : HasNoneGranted FIRST_MAP
nothing_granted = record {
  inodes = λ number is. none_granted _ _ (sym (inodes_are number) ∙ is);
  blocks = λ number is. none_granted _ _ (sym (blocks_are number) ∙ is);
}

-- The statuses of blocks 11 and 13 change from a pair to another one, by four equations.
abbrev StatusBecomes : (Status → Status) → List ℕ → Status × Status → Status × Status → ℕ → Type 0
StatusBecomes change numbers old new block =
    status_of (map_with new.0 new.1).blocks block
    ≡ (if is_listed numbers block then option_map change (status_of (map_with old.0 old.1).blocks block) else status_of (map_with old.0 old.1).blocks block)

blocks_change : (change : Status → Status) (numbers : List ℕ) (old new : Status × Status) → StatusBecomes change numbers old new 11
    → StatusBecomes change numbers old new 12 → StatusBecomes change numbers old new 13 → StatusBecomes change numbers old new 14
    → Changes change numbers (map_with old.0 old.1).blocks (map_with new.0 new.1).blocks
blocks_change change numbers old new first second third fourth =
    at_each (StatusBecomes change numbers old new) first second third fourth
    (λ n apart. none_outside new.0 new.1 n apart
    ∙ sym
    (ap (λ (o : Option Status). if is_listed numbers n then option_map change o else o) (none_outside old.0 old.1 n apart) ∙ none (is_listed numbers n)))
  where
    none : (b : Bool) → (if b then option_map change None else None) ≡ (let o : Option Status = None in o)
    none true = refl
    none false = refl

-- a grant of one block
one_granted : (block : ℕ) (old new : Status × Status) → status_of (map_with old.0 old.1).blocks block ≡ Some Free
    → Changes (λ _. Granted) (block ∷ []) (map_with old.0 old.1).blocks (map_with new.0 new.1).blocks
    → free_count (map_with new.0 new.1).blocks + 1 ≡ free_count (map_with old.0 old.1).blocks
    → (count : ℕ) → count ≡ 1 → Grants (map_with old.0 old.1).blocks (as_u32 count) (block ∷ []) (map_with new.0 new.1).blocks
one_granted block old new free changes left count is =
    subst (λ n. Grants (map_with old.0 old.1).blocks n (block ∷ []) (map_with new.0 new.1).blocks) (sym (ap as_u32 is)) (record {
      counted = refl;
      ascending = λ k less. absurd (omega (arith, less));
      free = All-from_recursion (λ number. status_of (map_with old.0 old.1).blocks number ≡ Some Free) (block ∷ []) (free, tt);
      granted = changes;
      left = left;
    })

no_inode : (writer : Writer) → WritesOne writer (plan_of_writer writer) → (amount_planned (plan_of_writer writer)).inodes ≡ 0
no_inode writer writes = ap (λ (a : Amount). a.inodes) writes.needs

one_block : (writer : Writer) → WritesOne writer (plan_of_writer writer) → (amount_planned (plan_of_writer writer)).blocks ≡ 1
one_block writer writes = ap (λ (a : Amount). a.blocks) writes.needs

least_none : (writer : Writer) (own other : Status) → WritesOne writer (plan_of_writer writer)
    → [] ≡ take (as_u32 (amount_planned (plan_of_writer writer)).inodes) (free_numbers (map_with own other).inodes)
least_none writer own other writes =
    sym (take_none (free_numbers (map_with own other).inodes) (as_u32 (amount_planned (plan_of_writer writer)).inodes) (ap as_u32 (no_inode writer writes)))

-- the first core is granted block 11, and behind it the second one block 13
pub own_granted : (count : ℕ) → count ≡ 1 → Grants FIRST_MAP.blocks (as_u32 count) (11 ∷ []) (map_with Granted Free).blocks
own_granted =
    one_granted 11 (Free, Free) (Granted, Free) refl (blocks_change (λ _. Granted) (11 ∷ []) (Free, Free) (Granted, Free) refl refl refl refl) refl

pub other_granted : (count : ℕ) → count ≡ 1 → Grants (map_with Granted Free).blocks (as_u32 count) (13 ∷ []) (map_with Granted Granted).blocks
other_granted =
    one_granted 13 (Granted, Free) (Granted, Granted) refl
    (blocks_change (λ _. Granted) (13 ∷ []) (Granted, Free) (Granted, Granted) refl refl refl refl) refl

pub own_reserved : WasReserved (plan_of_writer OWN) FIRST_MAP (grant_by OWN) (map_with Granted Free)
own_reserved = record {
  taken = record {
    inodes = grants_none FIRST_MAP.inodes (amount_planned (plan_of_writer OWN)).inodes (no_inode OWN own_writes);
    blocks = own_granted (amount_planned (plan_of_writer OWN)).blocks (one_block OWN own_writes);
  };
  least = least_none OWN Free Free own_writes;
}

pub other_reserved : WasReserved (plan_of_writer OTHER) (map_with Granted Free) (grant_by OTHER) (map_with Granted Granted)
other_reserved = record {
  taken = record {
    inodes = grants_none FIRST_MAP.inodes (amount_planned (plan_of_writer OTHER)).inodes (no_inode OTHER other_writes);
    blocks = other_granted (amount_planned (plan_of_writer OTHER)).blocks (one_block OTHER other_writes);
  };
  least = least_none OTHER Granted Free other_writes;
}

-- no block is given up
abbrev GivesNone : Planned → Type 0
GivesNone change = (seat : Seated) → Contains change.seats seat → (place : ℕ) → gives_up (rewrite_in seat) place ≡ false

planned_gives_none : (writer : Writer) → GivesNone (planned_by writer)
planned_gives_none writer seat (zero, low, is) place = subst (λ (s : Seated). gives_up (rewrite_in s) place ≡ false) is (gives_up_none place)
planned_gives_none writer seat (suc k, low, is) place = absurd (omega (arith, low))

own_gives_none : GivesNone (change_planned (plan_of_writer OWN))
own_gives_none =
    subst (λ kept. GivesNone (change_planned (plan_kept OWN kept))) (sym kept_file) (subst GivesNone (sym own_planned) (planned_gives_none OWN))

other_gives_none : GivesNone (change_planned (plan_of_writer OTHER))
other_gives_none =
    subst (λ kept. GivesNone (change_planned (plan_kept OTHER kept))) (sym kept_file) (subst GivesNone (sym other_planned) (planned_gives_none OTHER))

-- the transaction of a commit
abbrev pub tx_by : Writer → Tx
tx_by writer = record {
  records = roomless (record { inode = writer.file; bytes = inode_bytes (file_inode 1 writer.block) } ∷ []);
  fresh = roomless (record { block = writer.block; bytes = writer.byte ∷ zeros 4095 } ∷ []);
  freed_blocks = roomless [];
  freed_inodes = roomless [];
  records_ascend = λ k less. absurd (omega (arith, less));
  blocks_ascend = λ k less. absurd (omega (arith, less));
  inodes_ascend = λ k less. absurd (omega (arith, less));
}

transaction : (writer : Writer) → WritesOne writer (plan_of_writer writer) → GivesNone (change_planned (plan_of_writer writer))
    → IsTransactionOf (change_planned (plan_of_writer writer)) (grant_by writer) (tx_by writer)
transaction writer writes still = record {
  records = sym writes.records;
  fresh = sym writes.fresh;
  freed_blocks = record {
    ascending = λ k less. absurd (omega (arith, less));
    each = λ block. (λ has. absurd (let low = has.1 in omega (arith, low)), λ left. absurd (none_left block left));
  };
  freed_inodes = record { ascending = λ k less. absurd (omega (arith, less)); each = λ inode. (λ has. has, λ has. has) };
}
  where
    none_left : (block : ℕ)
        → IsLeftBySeat (change_planned (plan_of_writer writer)).seats block ⊎ IsLeftByGone (change_planned (plan_of_writer writer)).gone block → ⊥
    none_left block (inl left) = not_both left.left.given_up (still left.seat left.one left.place)
    none_left block (inr left) = let low = left.one.1 in omega (arith, low)

pub own_transaction : IsTransactionOf (change_planned (plan_of_writer OWN)) (grant_by OWN) (tx_by OWN)
own_transaction = transaction OWN own_writes own_gives_none

pub other_transaction : IsTransactionOf (change_planned (plan_of_writer OTHER)) (grant_by OTHER) (tx_by OTHER)
other_transaction = transaction OTHER other_writes other_gives_none

-- the second core's commit ends, and then the first one's
pub other_ends : Ends (13 ∷ []) [] (map_with Granted Granted).blocks (map_with Granted Taken).blocks
other_ends = blocks_change (λ _. Taken) (13 ∷ []) (Granted, Granted) (Granted, Taken) refl refl refl refl

pub own_ends : Ends (11 ∷ []) [] (map_with Granted Taken).blocks (map_with Taken Taken).blocks
own_ends = blocks_change (λ _. Taken) (11 ∷ []) (Granted, Taken) (Taken, Taken) refl refl refl refl

pub other_ended : EndsBringing (pair_made OTHER).one (map_with Granted Granted) (map_with Granted Taken)
other_ended = record { tx = tx_by OTHER; used = record { gives_up = other_transaction; inodes = λ number. refl; blocks = other_ends } }

pub own_ended : EndsBringing (pair_made OWN).one (map_with Granted Taken) (map_with Taken Taken)
own_ended = record { tx = tx_by OWN; used = record { gives_up = own_transaction; inodes = λ number. refl; blocks = own_ends } }
