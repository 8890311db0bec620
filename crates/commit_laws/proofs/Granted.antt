-- The fresh blocks that a commit writes are those of its grant.
use Rattle.std.proofs.Common.{◌≡◌, ◌≢◌, ℕ, zero, suc, ◌+◌, ◌-◌, ◌<◌, Bool, true, false, cond, ◌||◌, List, [], ◌∷◌, get_or, take, drop, filter_map, Option, Some, None, is_some, inl, inr, refl, sym, ap, subst, ◌∙◌, arith, nat_lt, nat_eq, Contains}
use Rattle.std.specs.Prelude.{nat_le, slice_index}
use Rattle.std.specs.List.{flat_map, cons_option, range_with_len, find}
use Rattle.std.specs.Option.{unwrap_or}
use Rattle.std.proofs.lemmas.Bool.{cond-true, cond-false, cases_Bool, eqb-false, lt-ltb, le-ltb}
use Rattle.std.proofs.lemmas.List.{get_or_past}
use Rattle.std.proofs.lemmas.List.Elements.{Contains-append_cases}
use Rattle.std.proofs.lemmas.List.FromFn.{length-range_with_len, get_or-range_with_len}
use borrow.Author.Tests.{leb-false}
use Rattle.sfs_base.proofs.BasicNumbers.{same_number}
use Rattle.sfs_base.proofs.BasicOptions.{none_some, some_same}
use Rattle.sfs_base.proofs.BasicTruth.{or_first, or_second}
use Rattle.sfs_image.specs.Seen.{FILE_BLOCKS, PLACES}
use Rattle.sfs_image.proofs.Basics.{get_or-tabulate}
use Rattle.fmt_journal.specs.declared.tx.TxBlock.{TxBlock}
use Rattle.image_laws.specs.Need.{Rewrite, pointer_after, rewrites_table, table_has_pointer}
use Rattle.block_map.specs.Changed.{change_of}
use Rattle.block_map.specs.Kept.{pointer_kept}
use Rattle.block_map.specs.Remap.{fresh_for, table_fate, TABLES}
use Rattle.block_map.specs.declared.changed.ChangedBlock.{ChangedBlock}
use Rattle.block_map.specs.declared.rewrite.TableFate.{TableFate}
use Rattle.block_map.specs.declared.rewrite.TableFate.TheVariants.{Stays, Goes, IsWritten}
use Rattle.block_map.proofs.Left.{remapped_pointers_stand}
use Rattle.block_map.proofs.Places.{own_place}
use Rattle.absorb.specs.declared.nets.NetRow.{NetRow}
use Rattle.disk_change.specs.AllBuilt.{nodes_built, built_by, fresh_of_node, pages_of_node, numbers_with}
use Rattle.disk_change.specs.Built.{Built, built, rewrite_in}
use Rattle.disk_change.specs.Fresh.{data_written, table_of_place, indirect_block_written, fresh_written}
use Rattle.disk_change.specs.Planned.{blocks_taken}
use Rattle.disk_change.specs.Seated.{CommitChanges, Seated, net_of_node}
use Rattle.disk_change.specs.declared.files.FileChange.{FileChange}
use Rattle.disk_change.specs.declared.pages.Page.{Page}
use Rattle.disk_change.proofs.NumbersGiven.{first_in, further_in}
use Rattle.commit_laws.specs.Granted.{FreshBlocksAreGranted}

-- what is not 0 in a list of numbers is in it
pub is_in : (xs : List ℕ) (i : ℕ) → get_or xs i 0 ≢ 0 → Contains xs (get_or xs i 0)
is_in [] i some = absurd (some (get_or_past [] i 0 (omega arith)))
is_in (x ∷ xs) zero some = first_in x xs
is_in (x ∷ xs) (suc i) some = further_in x _ xs (is_in xs i some)

-- what is in a part of a list is in the list
in_taken : (n : ℕ) (xs : List ℕ) (x : ℕ) → Contains (take n xs) x → Contains xs x
in_taken zero [] x has = has
in_taken zero (y ∷ xs) x (k, within, is) = absurd (omega arith)
in_taken (suc n) [] x has = has
in_taken (suc n) (y ∷ xs) x (zero, within, is) = (0, omega arith, is)
in_taken (suc n) (y ∷ xs) x (suc k, within, is) = further_in y x xs (in_taken n xs x (k, omega arith, is))

pub in_dropped : {X : Type 0} (n : ℕ) (xs : List X) (x : X) → Contains (drop n xs) x → Contains xs x
in_dropped zero [] x has = has
in_dropped zero (y ∷ xs) x has = has
in_dropped (suc n) [] x has = has
in_dropped (suc n) (y ∷ xs) x has = further_in y x xs (in_dropped n xs x has)

-- what a function gives of a list with a first item comes from this one or from a later one
given_first : {X Y : Type 0} (f : X → Option Y) (x : X) (xs : List X) (y : Y) (o : Option Y) → f x ≡ o → Contains (cons_option o (filter_map f xs)) y
    → (Contains (filter_map f xs) y → (z : X) × Contains xs z × (f z ≡ Some y)) → (z : X) × Contains (x ∷ xs) z × (f z ≡ Some y)
given_first f x xs y None e has later = let rest = later has in (rest.0, further_in x rest.0 xs rest.1, rest.2)
given_first f x xs y (Some w) e (zero, within, is) later = (x, first_in x xs, e ∙ ap Some is)
given_first f x xs y (Some w) e (suc k, within, is) later = let rest = later (k, omega arith, is) in (rest.0, further_in x rest.0 xs rest.1, rest.2)

-- the places of a block are below their count
pub low_place : (count k : ℕ) → Contains (range_with_len 0 count) k → k < count
low_place count k (i, within, is) =
    let low = length-range_with_len 0 count in let at = get_or-range_with_len 0 count i k (omega (arith, within, low)) in omega (arith, is, at, within, low)

-- what a function gives of a list comes from one of its items
pub given_by : {X Y : Type 0} (f : X → Option Y) (xs : List X) (y : Y) → Contains (filter_map f xs) y → (x : X) × Contains xs x × (f x ≡ Some y)
given_by f [] y (k, within, is) = absurd (omega arith)
given_by f (x ∷ xs) y has = given_first f x xs y (f x) refl has (λ rest. given_by f xs y rest)

-- a block that is rewritten is said to be
is_said : (changed : List ChangedBlock) (one : ChangedBlock) → Contains changed one → is_some (change_of changed one.block) ≡ true
is_said [] one (k, within, is) = absurd (omega arith)
is_said (first ∷ changed) one (zero, within, is) =
    ap is_some
    (cond-true (nat_eq first.block one.block) (Some first) (change_of changed one.block)
    (ap (λ (c : ChangedBlock). nat_eq c.block one.block) is ∙ same_number one.block))
is_said (first ∷ changed) one (suc k, within, is) = by (nat_eq first.block one.block) (is_said changed one (k, omega arith, is))
  where
    by : (b : Bool) → is_some (change_of changed one.block) ≡ true → is_some (cond b (Some first) (change_of changed one.block)) ≡ true
    by true t = refl
    by false t = t

-- an indirect block that is written stands in a fresh block
pub fresh_if_written : (table some : Bool) → cond table (cond some IsWritten Goes) Stays ≡ IsWritten → (a stays : ℕ) → cond table (cond some a 0) stays ≡ a
fresh_if_written true true e a stays = refl
fresh_if_written true false e a stays = absurd (cc)
fresh_if_written false some e a stays = absurd (cc)

-- the pointer at a place of what is built
abbrev pub pointer_built : Built → ℕ → ℕ
pointer_built one place = pointer_kept one.meta one.tables place

module _ (numbers : ℕ → Option ℕ) (net : List NetRow) (number : ℕ) (fresh : List ℕ) (seat : Seated) (pages : List Page) where
  abbrev rewrite : Rewrite
  rewrite = rewrite_in seat

  abbrev one_built : Built
  one_built = built numbers net number fresh seat

  stands : (place : ℕ) → place < PLACES → pointer_built one_built place ≡ pointer_after rewrite (fresh_for rewrite fresh) place
  stands place within = remapped_pointers_stand seat.meta seat.tables seat.changed fresh place within

  fresh_there : (place : ℕ) → pointer_built one_built place ≡ fresh_for rewrite fresh place → pointer_built one_built place ≢ 0
      → Contains fresh (pointer_built one_built place)
  fresh_there place is some = subst (λ b. Contains fresh b) (sym is) (is_in fresh _ (λ e. some (is ∙ e)))

  -- a block of data that is written
  data_granted : (one : ChangedBlock) → Contains seat.changed one → (written : TxBlock) → data_written one_built pages one ≡ Some written
      → Contains fresh written.block
  data_granted one there written e = by (one.is_zero || (nat_le FILE_BLOCKS one.block || nat_eq (pointer_built one_built one.block) 0)) refl e
    where
      granted : nat_le FILE_BLOCKS one.block ≡ false → nat_eq (pointer_built one_built one.block) 0 ≡ false → Contains fresh (pointer_built one_built one.block)
      granted low some =
          let not_above = leb-false FILE_BLOCKS one.block low in
          let below : one.block < FILE_BLOCKS = omega arith in
          let not_hole = eqb-false (pointer_built one_built one.block) 0 some in
          let at : pointer_built one_built one.block ≡ cond (rewrite.is_zero one.block) 0 (fresh_for rewrite fresh one.block) =
          stands one.block (omega arith) ∙ cond-true (nat_lt one.block FILE_BLOCKS) _ _ (lt-ltb one.block FILE_BLOCKS below)
          ∙ cond-true (rewrite.is_rewritten one.block) (cond (rewrite.is_zero one.block) 0 (fresh_for rewrite fresh one.block)) (rewrite.pointers one.block)
          (is_said seat.changed one there) in
          elim (cases_Bool (rewrite.is_zero one.block)) [
            | inl t ↦ absurd (not_hole (at ∙ cond-true (rewrite.is_zero one.block) 0 _ t))
            | inr f ↦ fresh_there one.block (at ∙ cond-false (rewrite.is_zero one.block) 0 (fresh_for rewrite fresh one.block) f) not_hole
          ]

      by : (b : Bool) → (one.is_zero || (nat_le FILE_BLOCKS one.block || nat_eq (pointer_built one_built one.block) 0)) ≡ b
          → data_written one_built pages one ≡ Some written → Contains fresh written.block
      by true t e = absurd (none_some (sym (cond-true _ None _ t) ∙ e))
      by false f e =
          let rest = or_second one.is_zero _ f in
          subst (λ (w : TxBlock). Contains fresh w.block) (some_same (sym (cond-false _ None _ f) ∙ e))
          (granted (or_first (nat_le FILE_BLOCKS one.block) _ rest) (or_second (nat_le FILE_BLOCKS one.block) _ rest))

  -- an indirect block that is written
  table_granted : (k : ℕ) → k < 16 → (written : TxBlock) → table_of_place one_built k ≡ Some written → Contains fresh written.block
  table_granted k within written e =
      by (table_fate rewrite k) refl
      (ap (λ fate. indirect_block_written fate (slice_index one_built.meta.indirect k) (find (λ t. nat_eq t.place k) one_built.tables))
      (sym (get_or-tabulate 16 (table_fate rewrite) k Stays within))
      ∙ e)
    where
      own : slice_index one_built.meta.indirect k ≡ pointer_built one_built (FILE_BLOCKS + k)
      own = sym (own_place one_built.meta one_built.tables k)

      is_fresh : table_fate rewrite k ≡ IsWritten → pointer_built one_built (FILE_BLOCKS + k) ≡ fresh_for rewrite fresh (FILE_BLOCKS + k)
      is_fresh fate =
          let back : FILE_BLOCKS + k - FILE_BLOCKS ≡ k = omega arith in
          stands (FILE_BLOCKS + k) (omega arith) ∙ cond-false (nat_lt (FILE_BLOCKS + k) FILE_BLOCKS) _ _ (le-ltb (FILE_BLOCKS + k) FILE_BLOCKS (omega arith))
          ∙ fresh_if_written (rewrites_table rewrite (FILE_BLOCKS + k - FILE_BLOCKS)) (table_has_pointer rewrite (FILE_BLOCKS + k - FILE_BLOCKS))
          (ap (table_fate rewrite) back ∙ fate) (fresh_for rewrite fresh (FILE_BLOCKS + k)) (rewrite.pointers (FILE_BLOCKS + k))

      by : (fate : TableFate) → table_fate rewrite k ≡ fate
          → indirect_block_written fate (slice_index one_built.meta.indirect k) (find (λ t. nat_eq t.place k) one_built.tables) ≡ Some written
          → Contains fresh written.block
      by Stays is e = absurd (none_some e)
      by Goes is e = absurd (none_some e)
      by IsWritten is e = elim (cases_Bool (nat_eq (slice_index one_built.meta.indirect k) 0)) [
        | inl t ↦ absurd (none_some (sym (cond-true (nat_eq (slice_index one_built.meta.indirect k) 0) None _ t) ∙ e))
        | inr f ↦
            let some : pointer_built one_built (FILE_BLOCKS + k) ≢ 0 = λ hole. eqb-false (slice_index one_built.meta.indirect k) 0 f (own ∙ hole) in
            subst (λ (w : TxBlock). Contains fresh w.block) (some_same (sym (cond-false (nat_eq (slice_index one_built.meta.indirect k) 0) None _ f) ∙ e))
            (subst (λ b. Contains fresh b) (sym own) (fresh_there (FILE_BLOCKS + k) (is_fresh is) some))
      ]

  -- all fresh blocks of a node
  node_granted : (written : TxBlock) → Contains (fresh_written one_built pages) written → Contains fresh written.block
  node_granted written has =
      elim (Contains-append_cases (filter_map (data_written one_built pages) seat.changed)
      (filter_map (table_of_place one_built) (range_with_len 0 TABLES)) written has) [
        | inl data_ ↦ let one = given_by (data_written one_built pages) seat.changed written data_ in data_granted one.0 one.1 written one.2
        | inr table ↦ let one = given_by (table_of_place one_built) (range_with_len 0 TABLES) written table in
            table_granted one.0 (low_place TABLES one.0 one.1) written one.2
      ]

all_granted : (changes : CommitChanges) (numbers : ℕ → Option ℕ) (files : List FileChange) (seats : List Seated) (fresh : List ℕ) (written : TxBlock)
    → Contains (flat_map (fresh_of_node files) (nodes_built changes numbers seats fresh)) written → Contains fresh written.block
all_granted changes numbers files [] fresh written (k, within, is) = absurd (omega arith)
all_granted changes numbers files (seat ∷ seats) fresh written has =
    elim (Contains-append_cases (fresh_of_node files (first_built))
    (flat_map (fresh_of_node files) (nodes_built changes numbers seats (drop (blocks_taken seat) fresh))) written has) [
      | inl own ↦
          in_taken (blocks_taken seat) fresh written.block
          (node_granted numbers (net_of_node changes.nets seat.node) (unwrap_or (numbers seat.node) 0) (take (blocks_taken seat) fresh) seat
          (pages_of_node files seat.node) written own)
      | inr later ↦ in_dropped (blocks_taken seat) fresh written.block (all_granted changes numbers files seats (drop (blocks_taken seat) fresh) written later)
    ]
  where
    first_built : Built
    first_built = built_by changes numbers (take (blocks_taken seat) fresh) seat

pub fresh_blocks_are_granted : FreshBlocksAreGranted
fresh_blocks_are_granted change grant written has =
    all_granted change.changes (numbers_with change grant.inodes) change.changes.files change.seats grant.blocks written has
