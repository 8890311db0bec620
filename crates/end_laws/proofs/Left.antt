-- What a commit leaves of nodes that are well kept is well kept.
use Rattle.std.specs.Prelude.{slice_index}
use Rattle.std.specs.List.{range_with_len}
use Rattle.std.proofs.Common.{◌≡◌, ◌≢◌, ◌+◌, ◌-◌, ◌<◌, ◌≤◌, ◌^◌, ◌&&◌, ◌∷◌, ◌∙◌, ℕ, zero, suc, Bool, true, false, cond, List, [], length, map, take, drop, min, Option, Some, sum_by, refl, sym, ap, subst, arith, Contains, nat_lt, nat_eq, get_or}
use Rattle.std.proofs.lemmas.Bool.{eqb-true, cond-false, le-ltb}
use Rattle.std.proofs.lemmas.List.{length-take, length-drop}
use Rattle.std.proofs.lemmas.List.Sums.{sum_by-cons}
use Rattle.sfs_base.specs.declared.numbers.NodeId.{NodeId}
use Rattle.sfs_base.specs.declared.numbers.Kind.{Kind}
use Rattle.sfs_base.specs.declared.numbers.Kind.TheVariants.{File, Directory}
use Rattle.sfs_base.proofs.BasicOptions.{none_some}
use Rattle.sfs_image.specs.Inode.{Inode, Table}
use Rattle.sfs_image.specs.Slot.{kind_byte}
use Rattle.sfs_image.specs.Seen.{FILE_BLOCKS, PLACES}
use Rattle.sfs_image.specs.Super.{Layout}
use Rattle.sfs_image.proofs.Basics.{get_or-tabulate, found_passes}
use Rattle.space_map.specs.declared.grant.Need.{Need}
use Rattle.space_map.specs.Space.{GrantedNumbers}
use Rattle.image_laws.specs.Need.{Rewrite, rewrites_table, table_has_pointer, takes_place, takes_table, rank}
use Rattle.image_laws.proofs.Ranks.{ranks_serve}
use Rattle.disk_nodes.specs.Nodes.{entry_node}
use Rattle.disk_nodes.specs.declared.old.OldEntry.{OldEntry}
use Rattle.block_map.specs.declared.changed.ChangedBlock.{ChangedBlock}
use Rattle.block_map.specs.declared.rewrite.TableFate.{TableFate}
use Rattle.block_map.specs.declared.rewrite.TableFate.TheVariants.{Stays, Goes, IsWritten}
use Rattle.block_map.specs.Remap.{rewrite_of, inode_remapped, tables_remapped, table_remapped, table_by_fate, table_fate, own_pointer, pointer_remapped}
use Rattle.block_map.proofs.Places.{own_pointer_is, remapped_at_place}
use Rattle.disk_change.specs.AllBuilt.{after_commit, built_by, entry_after, nodes_built, nodes_with_grant, numbers_with}
use Rattle.disk_change.specs.Built.{Built}
use Rattle.disk_change.specs.Planned.{Planned, blocks_taken, planned}
use Rattle.disk_change.specs.Seated.{Begun, CommitChanges, Seated}
use Rattle.disk_change.specs.declared.directory_net.DirectoryNet.{DirectoryNet}
use Rattle.disk_change.specs.declared.enter.Enter.{Enter}
use Rattle.disk_change.specs.declared.files.FileChange.{FileChange}
use Rattle.disk_change.proofs.NumbersGiven.{further_in}
use Rattle.commit_laws.proofs.Granted.{given_by, in_dropped, low_place}
use Rattle.commit_laws.proofs.OwnInodes.{ascending_is_in, mapped_is_in}
use Rattle.commit_laws.proofs.Shown.{found_is_in}
use Rattle.made_laws.specs.Made.{of_notes, of_file}
use Rattle.flush_agrees.specs.Made.{FlushMade, change_of}
use Rattle.end_laws.specs.Frees.{CommitsLeaveWell, WasGranted}
use Rattle.end_laws.specs.Kept.{AreWellKept, IsWellKept}
use Rattle.end_laws.proofs.Frees.{BeginsWell, IsSeatOf, has_begun, seat_is}
use Rattle.end_laws.proofs.Unwritten.{nothing_in}

-- what is in the first items of a list is in the list
in_taken : {X : Type 0} (n : ℕ) (xs : List X) (x : X) → Contains (take n xs) x → Contains xs x
in_taken zero xs x has = absurd (nothing_in [] x refl has)
in_taken (suc n) [] x has = has
in_taken (suc n) (y ∷ xs) x (zero, within, is) = (0, omega arith, is)
in_taken (suc n) (y ∷ xs) x (suc k, within, is) = further_in y x xs (in_taken n xs x (k, omega arith, is))

-- What is built of a seat, with as many fresh blocks as it takes.
pub record IsBuiltOf (changes : CommitChanges) (numbers : ℕ → Option ℕ) (seats : List Seated) (blocks : List ℕ) (one : Built) : Type 0 where
  pub seat : Seated
  pub among : Contains seats seat
  pub fresh : List ℕ
  pub is : built_by changes numbers fresh seat ≡ one
  pub enough : blocks_taken seat ≤ length fresh
  pub own : (block : ℕ) → Contains fresh block → Contains blocks block

pub built_of : (changes : CommitChanges) (numbers : ℕ → Option ℕ) (seats : List Seated) (blocks : List ℕ) (one : Built)
    → sum_by blocks_taken seats ≤ length blocks → Contains (nodes_built changes numbers seats blocks) one → IsBuiltOf changes numbers seats blocks one
built_of changes numbers [] blocks one few there = absurd (nothing_in [] one refl there)
built_of changes numbers (seat ∷ seats) blocks one few (zero, within, is) =
    let long = length-take (blocks_taken seat) blocks in
    let all = sum_by-cons blocks_taken seat seats in
    record {
      seat = seat;
      among = (0, omega arith, refl);
      fresh = take (blocks_taken seat) blocks;
      is = is;
      enough = omega (arith, long, few, all);
      own = λ block has. in_taken (blocks_taken seat) blocks block has;
    }
built_of changes numbers (seat ∷ seats) blocks one few (suc k, within, is) =
    let long = length-drop (blocks_taken seat) blocks in
    let all = sum_by-cons blocks_taken seat seats in
    let more = built_of changes numbers seats (drop (blocks_taken seat) blocks) one (omega (arith, long, few, all)) (k, omega arith, is) in
    record {
      seat = more.seat;
      among = further_in seat more.seat seats more.among;
      fresh = more.fresh;
      is = more.is;
      enough = more.enough;
      own = λ block has. in_dropped (blocks_taken seat) blocks block (more.own block has);
    }

-- an indirect block that is written is rewritten and has a pointer
written_takes : (rewritten some : Bool) → cond rewritten (cond some IsWritten Goes) Stays ≡ IsWritten → (rewritten && some) ≡ true
written_takes true true e = refl
written_takes true false e = absurd (let never : Goes ≡ IsWritten = e in cc)
written_takes false some e = absurd (let never : Stays ≡ IsWritten = e in cc)

-- a kind's byte is that of an inode in use
kind_used : (kind : Kind) → kind_byte kind ≢ 0
kind_used File e = omega (arith, e)
kind_used Directory e = omega (arith, e)

module _ (inode : Inode) (tables : List Table) (changed : List ChangedBlock) (fresh : List ℕ)
    (well : (table : Table) → Contains tables table → slice_index inode.indirect table.place ≢ 0)
    (enough : rank (takes_place (rewrite_of inode tables changed)) PLACES ≤ length fresh) (some : (block : ℕ) → Contains fresh block → block ≢ 0) where
  abbrev rewrite : Rewrite
  rewrite = rewrite_of inode tables changed

  abbrev after : Inode
  after = inode_remapped rewrite fresh inode

  -- an indirect block's own pointer afterwards is that of its fate
  own_after : (k : ℕ) → k < 16
      → slice_index after.indirect k
      ≡ own_pointer (table_fate rewrite k) (slice_index inode.indirect k) (slice_index fresh (rank (takes_place rewrite) (FILE_BLOCKS + k)))
  own_after k low = get_or-tabulate 16 (λ j. pointer_remapped rewrite fresh (FILE_BLOCKS + j)) k 0 low ∙ sym (own_pointer_is inode tables changed fresh k)

  -- a fresh block that is taken is there
  taken_there : (place : ℕ) → place < PLACES → takes_place rewrite place ≡ true → slice_index fresh (rank (takes_place rewrite) place) ≢ 0
  taken_there place within takes =
      let less = (ranks_serve (takes_place rewrite)).below place PLACES takes within in
      some (slice_index fresh (rank (takes_place rewrite) place))
      (rank (takes_place rewrite) place, omega (arith, less, enough), same _ fresh (omega (arith, less, enough)))
    where
      same : (k : ℕ) (xs : List ℕ) → k < length xs → get_or xs k (slice_index xs k) ≡ slice_index xs k
      same k [] within = absurd (omega arith)
      same zero (x ∷ xs) within = refl
      same (suc k) (x ∷ xs) within = same k xs (omega arith)

  takes_own : (k : ℕ) → table_fate rewrite k ≡ IsWritten → takes_place rewrite (FILE_BLOCKS + k) ≡ true
  takes_own k fate =
      let back : FILE_BLOCKS + k - FILE_BLOCKS ≡ k = omega arith in
      cond-false (nat_lt (FILE_BLOCKS + k) FILE_BLOCKS) _ _ (le-ltb (FILE_BLOCKS + k) FILE_BLOCKS (omega arith))
      ∙ ap (takes_table rewrite) back ∙ written_takes (rewrites_table rewrite k) (table_has_pointer rewrite k) fate

  -- so each indirect block that is kept afterwards has its pointer in the record
  at_place : (k : ℕ) → k < 16 → (table : Table) → table_remapped rewrite fresh tables k ≡ Some table → slice_index after.indirect k ≢ 0
  at_place k low table is = by (table_fate rewrite k) refl is
    where
      by : (fate : TableFate) → table_fate rewrite k ≡ fate → table_by_fate fate rewrite fresh tables k ≡ Some table → slice_index after.indirect k ≢ 0
      by Stays fate is hole =
          let at : table.place ≡ k = eqb-true table.place k (found_passes (λ t. nat_eq t.place k) tables table is) in
          well table (found_is_in (λ t. nat_eq t.place k) tables table is)
          (ap (slice_index inode.indirect) at
          ∙ sym (ap (λ f. own_pointer f (slice_index inode.indirect k) (slice_index fresh (rank (takes_place rewrite) (FILE_BLOCKS + k)))) fate)
          ∙ sym (own_after k low) ∙ hole)
      by Goes fate is hole = none_some is
      by IsWritten fate is hole =
          taken_there (FILE_BLOCKS + k) (omega (arith, low)) (takes_own k fate)
          (sym (ap (λ f. own_pointer f (slice_index inode.indirect k) (slice_index fresh (rank (takes_place rewrite) (FILE_BLOCKS + k)))) fate)
          ∙ sym (own_after k low) ∙ hole)

  pub tables_well : (table : Table) → Contains (tables_remapped rewrite fresh tables) table → slice_index after.indirect table.place ≢ 0
  tables_well table there =
      let from = given_by (table_remapped rewrite fresh tables) (range_with_len 0 16) table there in
      subst (λ (k : ℕ). slice_index after.indirect k ≢ 0) (sym (remapped_at_place rewrite fresh tables from.0 table from.2))
      (at_place from.0 (low_place 16 from.0 from.1) table from.2)

module _ (old : List OldEntry) (nets : List DirectoryNet) (files : List FileChange) (enter : List Enter) (leave : List NodeId) (grant : GrantedNumbers)
    (well : AreWellKept old) (some : (block : ℕ) → Contains grant.blocks block → block ≢ 0) where
  abbrev change : Planned
  change = planned old nets files enter leave

  of_seat : (begun : Begun) → BeginsWell begun → (seat : Seated) → IsSeatOf begun seat → (fresh : List ℕ) → blocks_taken seat ≤ length fresh
      → ((block : ℕ) → Contains fresh block → block ≢ 0)
      → IsWellKept (entry_after (built_by change.changes (numbers_with change grant.inodes) fresh seat)).old.kept
  of_seat begun begins seat is fresh enough each = record {
    used = λ free. kind_used begun.kind (sym is.kind ∙ free);
    tables = tables_well seat.meta seat.tables seat.changed fresh
        (λ table has.
        subst (λ (pointers : List ℕ). slice_index pointers table.place ≢ 0) (sym is.indirect)
        (begins.well table (subst (λ (tables : List Table). Contains tables table) is.tables has)))
        enough each;
  }

  pub left_well : sum_by blocks_taken change.seats ≤ length grant.blocks → AreWellKept (after_commit change grant)
  left_well few entry there =
      let listed = ascending_is_in entry_node (map entry_after (nodes_with_grant change grant)) entry there in
      let of = mapped_is_in entry_after (nodes_with_grant change grant) entry listed in
      let one = built_of change.changes (numbers_with change grant.inodes) change.seats grant.blocks of.0 few of.1 in
      let has = has_begun old nets files enter leave well one.seat one.among in
      subst (λ (e : OldEntry). IsWellKept e.old.kept) (ap entry_after one.is ∙ of.2)
      (of_seat has.begun has.begins one.seat (subst (IsSeatOf has.begun) has.is (seat_is change.changes has.begun)) one.fresh one.enough
      (λ block own. some block (one.own block own)))

-- the blocks that the plan takes were granted
blocks_granted : (layout : Layout) (made : FlushMade) → WasGranted layout made → sum_by blocks_taken (change_of made).seats ≤ length made.grant.blocks
blocks_granted layout made granted =
    let need : min (sum_by blocks_taken (change_of made).seats) (2 ^ 32 - 1) ≡ length made.grant.blocks = ap (λ (n : Need). n.blocks) granted.grants.need in
    let few = granted.few in
    let most = granted.grants.blocks in omega (arith, need, few, most)

pub commits_leave_well : CommitsLeaveWell
commits_leave_well run layout made (of_notes core) well granted =
    let plans = core.plans in
    subst (λ (change : Planned). AreWellKept (after_commit change made.grant)) (sym plans.made)
    (left_well made.making.old _ _ plans.enter made.making.plan.leave.items made.grant well granted.some
    (subst (λ (change : Planned). sum_by blocks_taken change.seats ≤ length made.grant.blocks) plans.made (blocks_granted layout made granted)))
commits_leave_well run layout made (of_file own) well granted =
    subst (λ (change : Planned). AreWellKept (after_commit change made.grant)) (sym own.change_is)
    (left_well made.making.old [] own.own.files [] [] made.grant well granted.some
    (subst (λ (change : Planned). sum_by blocks_taken change.seats ≤ length made.grant.blocks) own.change_is (blocks_granted layout made granted)))
