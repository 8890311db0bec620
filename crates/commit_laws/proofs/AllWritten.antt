-- The fresh blocks that a commit writes are exactly those of its grant, in their order.
use Rattle.std.proofs.Common.{◌≡◌, ◌≢◌, ℕ, zero, suc, ◌+◌, ◌-◌, ◌<◌, ◌≤◌, true, false, cond, not, ◌&&◌, ◌||◌, List, [], ◌∷◌, ◌++◌, length, get_or, map, take, drop, filter_map, Option, Some, None, is_some, inl, inr, refl, sym, ap, subst, ◌∙◌, arith, nat_lt, nat_eq, sum_by, count_by}
use Rattle.std.specs.Prelude.{◌⊎◌, nat_le, slice_get, slice_index, option_to_list}
use Rattle.std.specs.List.{flat_map, range_with_len, find}
use Rattle.std.specs.Option.{unwrap_or, option_map_or}
use Rattle.std.proofs.lemmas.Bool.{cond-true, cond-false, cases_Bool, cases_lt, lt-ltb, le-ltb}
use Rattle.std.proofs.lemmas.Bool.Decides.{nat_tests}
use Rattle.std.proofs.lemmas.List.{append-nil, map-append, take_more, take_all, append_assoc, length-take-le, length-drop, get_or-take, get_or-drop, take-append-drop}
use Rattle.std.proofs.lemmas.List.Sums.{sum_by-cons}
use Rattle.std.proofs.lemmas.Option.{slice_get_within, get_or_from_slice_get}
use Rattle.sfs_base.proofs.BasicLists.{take_none}
use Rattle.sfs_base.proofs.BasicNumbers.{not_same, from_plus_zero}
use Rattle.sfs_base.proofs.BasicOptions.{none_some, some_same}
use Rattle.sfs_base.proofs.BasicTruth.{and_false, or_true}
use Rattle.sfs_image.specs.Inode.{pointers_bytes}
use Rattle.sfs_image.specs.Seen.{FILE_BLOCKS, PLACES}
use Rattle.sfs_image.proofs.Basics.{get_or-tabulate}
use Rattle.tree_laws.proofs.Joined.{count-cons}
use Rattle.fmt_journal.specs.declared.tx.TxBlock.{TxBlock}
use Rattle.absorb.specs.declared.nets.NetRow.{NetRow}
use Rattle.image_laws.specs.Need.{Rewrite, takes_place, rank, rewrites_table, table_has_pointer}
use Rattle.block_map.specs.Changed.{AscendByBlock}
use Rattle.block_map.specs.Kept.{pointer_kept}
use Rattle.block_map.specs.Remap.{takes_fresh, fresh_for, fresh_by_fate, table_fate}
use Rattle.block_map.specs.declared.changed.ChangedBlock.{ChangedBlock}
use Rattle.block_map.specs.declared.rewrite.TableFate.{TableFate}
use Rattle.block_map.specs.declared.rewrite.TableFate.TheVariants.{Stays, Goes, IsWritten}
use Rattle.block_map.proofs.Changes.{change_at}
use Rattle.block_map.proofs.Counts.{rank_of_change, rank_of_tables, rank_next_table, count_of_first}
use Rattle.block_map.proofs.Left.{remapped_pointers_stand}
use Rattle.block_map.proofs.Places.{own_place, one_more_given, one_more_none}
use Rattle.image_laws.proofs.Places.{le_true}
use Rattle.image_laws.proofs.Ranks.{rank_up}
use Rattle.disk_change.specs.AllBuilt.{nodes_built, built_by, fresh_of_node, pages_of_node, numbers_with}
use Rattle.disk_change.specs.Built.{Built, built, rewrite_in}
use Rattle.disk_change.specs.Fresh.{data_written, table_of_place, indirect_block_written, fresh_written, content_of, zero_bytes}
use Rattle.disk_change.specs.Planned.{blocks_taken}
use Rattle.disk_change.specs.Seated.{CommitChanges, Seated, net_of_node}
use Rattle.disk_change.specs.declared.files.FileChange.{FileChange}
use Rattle.disk_change.specs.declared.pages.Page.{Page}
use Rattle.disk_change.proofs.Directories.{filter_map_more, drop_twice}
use Rattle.disk_change.proofs.NumbersGiven.{first_in, further_in, drop_zero}
use Rattle.commit_laws.specs.Granted.{EachAscends, IsGrantFor, GrantedBlocksAreWritten}
use Rattle.commit_laws.specs.Ranked.{fresh_cut}
use Rattle.commit_laws.proofs.Granted.{fresh_if_written, pointer_built}

-- the number of a block that is written
abbrev pub written_block : TxBlock → ℕ
written_block one = one.block

le_false : (a b : ℕ) → b < a → nat_le a b ≡ false
le_false a b lt = grind (arith, nat_tests)

-- one more number of a list that is there
take_next : (fresh : List ℕ) (n : ℕ) → n < length fresh → take (n + 1) fresh ≡ take n fresh ++ slice_index fresh n ∷ []
take_next fresh n within = take_more fresh n 0 within

-- one more change counts where it takes a fresh block
count_last : (c : ChangedBlock) (xs : List ChangedBlock) → count_by takes_fresh (xs ++ c ∷ []) ≡ count_by takes_fresh xs + cond (takes_fresh c) 1 0
count_last c [] = let one = count-cons takes_fresh c [] in omega arith
count_last c (x ∷ xs) = let a = count-cons takes_fresh x (xs ++ c ∷ []) in let b = count-cons takes_fresh x xs in let rest = count_last c xs in omega arith

module _ (numbers : ℕ → Option ℕ) (net : List NetRow) (number : ℕ) (fresh : List ℕ) (seat : Seated) (pages : List Page) (up : AscendByBlock seat.changed)
    (enough : length fresh ≡ blocks_taken seat) (some : (k : ℕ) → k < length fresh → slice_index fresh k ≢ 0) where
  abbrev rewrite : Rewrite
  rewrite = rewrite_in seat

  abbrev one_built : Built
  one_built = built numbers net number fresh seat

  all_data : count_by takes_fresh seat.changed ≤ length fresh
  all_data = let tables = rank_of_tables seat.meta seat.tables seat.changed up in let more = rank_up (takes_place rewrite) FILE_BLOCKS 16 in
      omega (arith, tables, more, enough)

  -- the pointer of a rewritten block that is not all zeros
  data_pointer : (i : ℕ) (d : ChangedBlock) → i < length seat.changed → (get_or seat.changed i d).is_zero ≡ false
      → (get_or seat.changed i d).block < FILE_BLOCKS
      → pointer_built one_built (get_or seat.changed i d).block ≡ slice_index fresh (count_by takes_fresh (take i seat.changed))
  data_pointer i d within full low =
      let c : ChangedBlock = get_or seat.changed i d in
      let found = change_at seat.changed up i d within in
      remapped_pointers_stand seat.meta seat.tables seat.changed fresh c.block (omega arith)
      ∙ cond-true (nat_lt c.block FILE_BLOCKS) _ _ (lt-ltb c.block FILE_BLOCKS low)
      ∙ ap (λ (o : Option ChangedBlock). cond (is_some o) (cond (option_map_or (λ one. one.is_zero) o false) 0 (fresh_for rewrite fresh c.block))
      (rewrite.pointers c.block))
      found
      ∙ ap (λ b. cond b 0 (fresh_for rewrite fresh c.block)) full
      ∙ ap (slice_index fresh) (sym (rank_of_change seat.meta seat.tables seat.changed up i d within low))

  -- the block of a rewritten block that is not all zeros
  abbrev pub written_data : ChangedBlock → TxBlock
  written_data c = record { block = pointer_built one_built c.block; bytes = content_of one_built pages c.block }

  pub data_given : (i : ℕ) (c : ChangedBlock) → slice_get seat.changed i ≡ Some c → c.is_zero ≡ false → c.block < FILE_BLOCKS
      → (pointer_built one_built c.block ≢ 0) × (data_written one_built pages c ≡ Some (written_data c))
  data_given i c at full low =
      let within = slice_get_within seat.changed i c at in
      let here = get_or_from_slice_get seat.changed i c c at in
      let before : ℕ = count_by takes_fresh (take i seat.changed) in
      let pointer_at : pointer_built one_built c.block ≡ slice_index fresh before =
      subst (λ x. x.is_zero ≡ false → x.block < FILE_BLOCKS → pointer_built one_built x.block ≡ slice_index fresh before) here
      (data_pointer i c within) full low in
      let next : count_by takes_fresh (take (i + 1) seat.changed) ≡ before + cond (takes_fresh c) 1 0 =
      ap (count_by takes_fresh) (take_more seat.changed i c within) ∙ count_last (get_or seat.changed i c) (take i seat.changed)
      ∙ ap (λ x. before + cond (takes_fresh x) 1 0) here in
      let takes : takes_fresh c ≡ true = (λ j. not (full j) && lt-ltb c.block FILE_BLOCKS low j) in
      let below : before < length fresh =
      (let one = next ∙ ap (λ b. before + cond b 1 0) takes in omega (arith, count_of_first seat.changed (i + 1), one, all_data)) in
      let there : pointer_built one_built c.block ≢ 0 = λ hole. some before below (sym pointer_at ∙ hole) in (
        there,
        cond-false _ None (Some (written_data c)) (λ j. full j || (le_false FILE_BLOCKS c.block low j || not_same (pointer_built one_built c.block) 0 there j)),
      )

  -- the first of them have the first blocks
  data_first : (i : ℕ) → i ≤ length seat.changed
      → map written_block (filter_map (data_written one_built pages) (take i seat.changed)) ≡ take (count_by takes_fresh (take i seat.changed)) fresh
  data_first zero low =
      ap (λ (those : List ChangedBlock). map written_block (filter_map (data_written one_built pages) those)) (take_none seat.changed)
      ∙ sym (ap (λ (those : List ChangedBlock). take (count_by takes_fresh those) fresh) (take_none seat.changed) ∙ take_none fresh)
  data_first (suc i) low = next (get_or seat.changed i NO_CHANGE) refl (data_first i (omega arith))
    where
      NO_CHANGE : ChangedBlock
      NO_CHANGE = record { block = 0; is_zero = false }

      within : i < length seat.changed
      within = omega arith

      next : (c : ChangedBlock) → get_or seat.changed i NO_CHANGE ≡ c
          → map written_block (filter_map (data_written one_built pages) (take i seat.changed)) ≡ take (count_by takes_fresh (take i seat.changed)) fresh
          → map written_block (filter_map (data_written one_built pages) (take (suc i) seat.changed))
          ≡ take (count_by takes_fresh (take (suc i) seat.changed)) fresh
      next c is rest =
          ap (λ n. map written_block (filter_map (data_written one_built pages) (take n seat.changed))) one_more
          ∙ ap (map written_block) (filter_map_more (data_written one_built pages) seat.changed i NO_CHANGE within)
          ∙ map-append written_block (filter_map (data_written one_built pages) (take i seat.changed))
          (option_to_list (data_written one_built pages (get_or seat.changed i NO_CHANGE)))
          ∙ (λ j. rest j ++ map written_block (option_to_list (data_written one_built pages (is j))))
          ∙ by (cases_Bool c.is_zero) (cases_lt c.block FILE_BLOCKS)
          ∙ ap (λ n. take n fresh) (sym counted)
        where
          one_more : suc i ≡ i + 1
          one_more = omega arith

          before : ℕ
          before = count_by takes_fresh (take i seat.changed)

          counted : count_by takes_fresh (take (suc i) seat.changed) ≡ before + cond (takes_fresh c) 1 0
          counted =
              ap (λ n. count_by takes_fresh (take n seat.changed)) one_more ∙ ap (count_by takes_fresh) (take_more seat.changed i NO_CHANGE within)
              ∙ count_last (get_or seat.changed i NO_CHANGE) (take i seat.changed) ∙ ap (λ x. before + cond (takes_fresh x) 1 0) is

          none : takes_fresh c ≡ false → data_written one_built pages c ≡ None
              → take before fresh ++ map written_block (option_to_list (data_written one_built pages c)) ≡ take (before + cond (takes_fresh c) 1 0) fresh
          none fails nothing =
              ap (λ o. take before fresh ++ map written_block (option_to_list o)) nothing ∙ append-nil (take before fresh)
              ∙ ap (λ n. take n fresh) (from_plus_zero before ∙ ap (λ b. before + cond b 1 0) (sym fails))

          by : (c.is_zero ≡ true) ⊎ (c.is_zero ≡ false) → (c.block < FILE_BLOCKS) ⊎ (FILE_BLOCKS ≤ c.block)
              → take before fresh ++ map written_block (option_to_list (data_written one_built pages c)) ≡ take (before + cond (takes_fresh c) 1 0) fresh
          by (inl empty) any =
              none (ap (λ b. not b && nat_lt c.block FILE_BLOCKS) empty)
              (cond-true _ None _ (ap (λ b. b || (nat_le FILE_BLOCKS c.block || nat_eq (pointer_built one_built c.block) 0)) empty))
          by (inr full) (inr high) = none (ap (λ b. not c.is_zero && b) (le-ltb c.block FILE_BLOCKS high) ∙ and_false (not c.is_zero))
              (cond-true _ None _
              (ap (λ b. c.is_zero || (b || nat_eq (pointer_built one_built c.block) 0)) (le_true FILE_BLOCKS c.block high) ∙ or_true c.is_zero))
          by (inr full) (inl low) =
              let at : pointer_built one_built c.block ≡ slice_index fresh before =
              subst (λ x. x.is_zero ≡ false → x.block < FILE_BLOCKS → pointer_built one_built x.block ≡ slice_index fresh before) is
              (data_pointer i NO_CHANGE within) full low in
              let first = count_of_first seat.changed (suc i) in
              let takes : takes_fresh c ≡ true = (λ j. not (full j) && lt-ltb c.block FILE_BLOCKS low j) in
              let below : before < length fresh = (let one = counted ∙ ap (λ b. before + cond b 1 0) takes in omega (arith, first, one, all_data)) in
              let there : nat_eq (pointer_built one_built c.block) 0 ≡ false =
              not_same (pointer_built one_built c.block) 0 (λ hole. some before below (sym at ∙ hole)) in
              ap (λ o. take before fresh ++ map written_block (option_to_list o))
              (cond-false _ None (Some (record { block = pointer_built one_built c.block; bytes = content_of one_built pages c.block }))
              (λ j. full j || (le_false FILE_BLOCKS c.block low j || there j)))
              ∙ ap (λ p. take before fresh ++ p ∷ []) at ∙ sym (take_next fresh before below) ∙ ap (λ b. take (before + cond b 1 0) fresh) (sym takes)

  -- the pointer of an indirect block that is written
  table_pointer : (k : ℕ) → k < 16 → table_fate rewrite k ≡ IsWritten
      → slice_index one_built.meta.indirect k ≡ slice_index fresh (rank (takes_place rewrite) (FILE_BLOCKS + k))
  table_pointer k low fate =
      let back : FILE_BLOCKS + k - FILE_BLOCKS ≡ k = omega arith in
      sym (own_place one_built.meta one_built.tables k)
      ∙ remapped_pointers_stand seat.meta seat.tables seat.changed fresh (FILE_BLOCKS + k) (omega arith)
      ∙ cond-false (nat_lt (FILE_BLOCKS + k) FILE_BLOCKS) _ _ (le-ltb (FILE_BLOCKS + k) FILE_BLOCKS (omega arith))
      ∙ fresh_if_written (rewrites_table rewrite (FILE_BLOCKS + k - FILE_BLOCKS)) (table_has_pointer rewrite (FILE_BLOCKS + k - FILE_BLOCKS))
      (ap (table_fate rewrite) back ∙ fate) (fresh_for rewrite fresh (FILE_BLOCKS + k)) (rewrite.pointers (FILE_BLOCKS + k))

  -- what is written of an indirect block, by its fate
  table_is : (k : ℕ) → k < 16
      → table_of_place one_built k
      ≡ indirect_block_written (table_fate rewrite k) (slice_index one_built.meta.indirect k) (find (λ t. nat_eq t.place k) one_built.tables)
  table_is k low =
      ap (λ fate. indirect_block_written fate (slice_index one_built.meta.indirect k) (find (λ t. nat_eq t.place k) one_built.tables))
      (get_or-tabulate 16 (table_fate rewrite) k Stays low)

  -- the block of an indirect block that is written
  abbrev pub written_table : ℕ → TxBlock
  written_table k =
      record {
        block = slice_index one_built.meta.indirect k;
        bytes = option_map_or (λ t. pointers_bytes t.pointers) (find (λ t. nat_eq t.place k) one_built.tables) zero_bytes;
      }

  table_below : (k : ℕ) → k < 16 → table_fate rewrite k ≡ IsWritten → rank (takes_place rewrite) (FILE_BLOCKS + k) < length fresh
  table_below k low is =
      let up = rank_up (takes_place rewrite) (FILE_BLOCKS + suc k) (16 - suc k) in
      let whole : FILE_BLOCKS + suc k + (16 - suc k) ≡ PLACES = omega arith in
      let one_more : suc k ≡ k + 1 = omega arith in
      let more =
      ap (λ n. rank (takes_place rewrite) (FILE_BLOCKS + n)) one_more ∙ rank_next_table rewrite k
      ∙ ap (λ f. rank (takes_place rewrite) (FILE_BLOCKS + k) + fresh_by_fate f) is in
      let all = ap (rank (takes_place rewrite)) whole in
      omega (arith, up, more, all, enough)

  pub table_given : (k : ℕ) → k < 16 → table_fate rewrite k ≡ IsWritten
      → (slice_index one_built.meta.indirect k ≢ 0) × (table_of_place one_built k ≡ Some (written_table k))
  table_given k low is =
      let there : slice_index one_built.meta.indirect k ≢ 0 =
      λ hole. some (rank (takes_place rewrite) (FILE_BLOCKS + k)) (table_below k low is) (sym (table_pointer k low is) ∙ hole) in (
        there,
        table_is k low ∙ ap (λ fate. indirect_block_written fate (slice_index one_built.meta.indirect k) (find (λ t. nat_eq t.place k) one_built.tables)) is
            ∙ cond-false (nat_eq (slice_index one_built.meta.indirect k) 0) None (Some (written_table k))
            (not_same (slice_index one_built.meta.indirect k) 0 there),
      )

  -- all data, and the first of the indirect blocks, have the first blocks
  tables_first : (k : ℕ) → k ≤ 16
      → map written_block (filter_map (data_written one_built pages) seat.changed ++ filter_map (table_of_place one_built) (range_with_len 0 k))
      ≡ take (rank (takes_place rewrite) (FILE_BLOCKS + k)) fresh
  tables_first zero low =
      ap (map written_block) (append-nil (filter_map (data_written one_built pages) seat.changed))
      ∙ ap (λ (those : List ChangedBlock). map written_block (filter_map (data_written one_built pages) those))
      (sym (take_all (length seat.changed) seat.changed (omega arith)))
      ∙ data_first (length seat.changed) (omega arith)
      ∙ ap (λ (those : List ChangedBlock). take (count_by takes_fresh those) fresh) (take_all (length seat.changed) seat.changed (omega arith))
      ∙ ap (λ n. take n fresh) (sym (rank_of_tables seat.meta seat.tables seat.changed up) ∙ ap (rank (takes_place rewrite)) first)
    where
      first : FILE_BLOCKS ≡ FILE_BLOCKS + 0
      first = omega arith
  tables_first (suc k) low = next (table_fate rewrite k) refl (tables_first k (omega arith))
    where
      Those : ℕ → List TxBlock
      Those n = filter_map (data_written one_built pages) seat.changed ++ filter_map (table_of_place one_built) (range_with_len 0 n)

      before : ℕ
      before = rank (takes_place rewrite) (FILE_BLOCKS + k)

      one_more : suc k ≡ k + 1
      one_more = omega arith

      ranked : (fate : TableFate) → table_fate rewrite k ≡ fate → rank (takes_place rewrite) (FILE_BLOCKS + suc k) ≡ before + fresh_by_fate fate
      ranked fate is = ap (λ n. rank (takes_place rewrite) (FILE_BLOCKS + n)) one_more ∙ rank_next_table rewrite k ∙ ap (λ f. before + fresh_by_fate f) is

      stays : (fate : TableFate) → table_fate rewrite k ≡ fate → fresh_by_fate fate ≡ 0 → table_of_place one_built k ≡ None
          → map written_block (Those k) ≡ take before fresh → map written_block (Those (suc k)) ≡ take (rank (takes_place rewrite) (FILE_BLOCKS + suc k)) fresh
      stays fate is zero_more none rest =
          ap (λ n. map written_block (Those n)) one_more
          ∙ ap (λ those. map written_block (filter_map (data_written one_built pages) seat.changed ++ those))
          (one_more_none (table_of_place one_built) k none)
          ∙ rest ∙ ap (λ n. take n fresh) (from_plus_zero before ∙ ap (λ n. before + n) (sym zero_more) ∙ sym (ranked fate is))

      next : (fate : TableFate) → table_fate rewrite k ≡ fate → map written_block (Those k) ≡ take before fresh
          → map written_block (Those (suc k)) ≡ take (rank (takes_place rewrite) (FILE_BLOCKS + suc k)) fresh
      next Stays is rest =
          stays Stays is refl
          (table_is k (omega arith)
          ∙ ap (λ fate. indirect_block_written fate (slice_index one_built.meta.indirect k) (find (λ t. nat_eq t.place k) one_built.tables)) is)
          rest
      next Goes is rest =
          stays Goes is refl
          (table_is k (omega arith)
          ∙ ap (λ fate. indirect_block_written fate (slice_index one_built.meta.indirect k) (find (λ t. nat_eq t.place k) one_built.tables)) is)
          rest
      next IsWritten is rest =
          let at = table_pointer k (omega arith) is in
          let below = table_below k (omega arith) is in
          let given = (table_given k (omega arith) is).1 in
          ap (λ n. map written_block (Those n)) one_more
          ∙ ap (λ those. map written_block (filter_map (data_written one_built pages) seat.changed ++ those))
          (one_more_given (table_of_place one_built) k _ given)
          ∙ ap (map written_block)
          (sym
          (append_assoc (filter_map (data_written one_built pages) seat.changed) (filter_map (table_of_place one_built) (range_with_len 0 k))
          (written_table k ∷ [])))
          ∙ map-append written_block (Those k) (written_table k ∷ [])
          ∙ (λ j. rest j ++ at j ∷ [])
          ∙ sym (take_next fresh before below)
          ∙ ap (λ n. take n fresh) (sym (ranked IsWritten is))

  -- so all blocks of a node are written
  pub node_written : map written_block (fresh_written one_built pages) ≡ fresh
  node_written = tables_first 16 (omega arith) ∙ ap (λ n. take n fresh) (sym enough) ∙ take_all (length fresh) fresh (omega arith)

-- the blocks that a node has of a grant: as many as it takes, none of them 0
pub record IsCutFor (seat : Seated) (own : List ℕ) : Type 0 where
  pub enough : length own ≡ blocks_taken seat
  pub some : (k : ℕ) → k < length own → slice_index own k ≢ 0

module _ (seat : Seated) (seats : List Seated) (fresh : List ℕ) (grant : IsGrantFor (seat ∷ seats) fresh) where
  counted : sum_by blocks_taken (seat ∷ seats) ≡ blocks_taken seat + sum_by blocks_taken seats
  counted = sum_by-cons blocks_taken seat seats

  -- the first node has the first of them
  pub first_cut : IsCutFor seat (take (blocks_taken seat) fresh)
  first_cut = record {
    enough = own_long;
    some =
        λ k within hole. grant.some k (let long = grant.enough in omega (arith, counted, long, own_long))
        (sym (get_or-take (blocks_taken seat) fresh k 0 (omega (arith, own_long))) ∙ hole);
  }
    where
      own_long : length (take (blocks_taken seat) fresh) ≡ blocks_taken seat
      own_long = length-take-le (blocks_taken seat) fresh (let long = grant.enough in omega (arith, counted, long))

  -- and the others have the rest
  pub rest_cut : IsGrantFor seats (drop (blocks_taken seat) fresh)
  rest_cut = record {
    enough = rest_long;
    some =
        λ k within hole. grant.some (blocks_taken seat + k) (let long = grant.enough in omega (arith, counted, long, rest_long))
        (sym (get_or-drop (blocks_taken seat) fresh k 0) ∙ hole);
  }
    where
      rest_long : length (drop (blocks_taken seat) fresh) ≡ sum_by blocks_taken seats
      rest_long = let long = grant.enough in omega (arith, counted, long, length-drop (blocks_taken seat) fresh)

-- so each has its own
pub cut_of : (seats : List Seated) (fresh : List ℕ) (m : ℕ) (seat : Seated) → slice_get seats m ≡ Some seat → IsGrantFor seats fresh
    → IsCutFor seat (fresh_cut seats fresh m seat)
cut_of [] fresh m seat at grant = absurd (none_some at)
cut_of (first ∷ seats) fresh zero seat at grant =
    subst (λ those. IsCutFor seat (take (blocks_taken seat) those)) (sym (drop_zero fresh))
    (subst (λ (s : Seated). IsCutFor s (take (blocks_taken s) fresh)) (some_same at) (first_cut first seats fresh grant))
cut_of (first ∷ seats) fresh (suc m) seat at grant =
    subst (λ those. IsCutFor seat (take (blocks_taken seat) those))
    (drop_twice (sum_by blocks_taken (take m seats)) (blocks_taken first) fresh ∙ ap (λ n. drop n fresh) (sym (sum_by-cons blocks_taken first (take m seats))))
    (cut_of seats (drop (blocks_taken first) fresh) m seat at (rest_cut first seats fresh grant))

all_written : (changes : CommitChanges) (numbers : ℕ → Option ℕ) (files : List FileChange) (seats : List Seated) (fresh : List ℕ) → EachAscends seats
    → IsGrantFor seats fresh
    → map written_block (flat_map (fresh_of_node files) (nodes_built changes numbers seats fresh)) ≡ fresh
all_written changes numbers files [] [] each grant = refl
all_written changes numbers files [] (block ∷ fresh) each grant = absurd (let long = grant.enough in omega arith)
all_written changes numbers files (seat ∷ seats) fresh each grant =
    let own : List ℕ = take (blocks_taken seat) fresh in
    let cut = first_cut seat seats fresh grant in
    map-append written_block (fresh_of_node files (built_by changes numbers own seat))
    (flat_map (fresh_of_node files) (nodes_built changes numbers seats (drop (blocks_taken seat) fresh)))
    ∙ (λ i. node_written numbers (net_of_node changes.nets seat.node) (unwrap_or (numbers seat.node) 0) own seat (pages_of_node files seat.node)
    (each seat (first_in seat seats)) cut.enough cut.some i
    ++ all_written changes numbers files seats (drop (blocks_taken seat) fresh) (λ other there. each other (further_in seat other seats there))
    (rest_cut seat seats fresh grant) i)
    ∙ take-append-drop (blocks_taken seat) fresh

pub granted_blocks_are_written : GrantedBlocksAreWritten
granted_blocks_are_written change grant each enough =
    all_written change.changes (numbers_with change grant.inodes) change.changes.files change.seats grant.blocks each enough
