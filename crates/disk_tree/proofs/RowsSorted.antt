-- The rows of a directory may be put into a tree in any order.
use Rattle.std.proofs.Common.{◌≡◌, ◌≢◌, ◌⊎◌, ℕ, zero, suc, ◌+◌, ◌<◌, ◌≤◌, true, false, cond, List, [], ◌∷◌, ◌++◌, length, map, set, nat_eq, None, Some, IsSome, refl, sym, ap, subst, ◌∙◌, arith, inl, inr}
use Rattle.std.specs.Prelude.{bytes_eq}
use Rattle.std.specs.FinMap.{FinMap, find, get, from_entries, get-from_entries, same_map}
use Rattle.std.specs.List.Sorted.{IsPermutation}
use Rattle.std.specs.Option.{option_or}
use Rattle.std.proofs.lemmas.Bool.{cases_Bool, cases_eq, cond-true, eq-eqb}
use Rattle.std.proofs.lemmas.List.{get_or_default, get_or-set_same, get_or-set_other}
use Rattle.std.proofs.lemmas.List.Elements.{All-from_get_or}
use Rattle.std.proofs.lemmas.List.Sorted.{All-permutation, Contains-permutation, IsPermutation-refl, IsPermutation-sym, length_permutation, sum_by-IsPermutation}
use Rattle.sfs_base.specs.Lists.{Roomy}
use Rattle.sfs_base.proofs.BasicLists.{bytes_same, same_bytes}
use Rattle.sfs_base.proofs.BasicTruth.{not_both_of}
use Rattle.sfs_image.specs.Slot.{Row}
use Rattle.tree_laws.specs.Order.{Key, key_cmp}
use Rattle.tree_laws.specs.Tree.{TreeState}
use Rattle.tree_laws.proofs.Joined.{find-append, key_cmp_total, key_cmp-IsAntisymmetric}
use Rattle.disk_tree.specs.Built.{entry_of_row, entries_at, row_entries, MayPut}
use Rattle.disk_tree.specs.Reached.{row_at}
use Rattle.disk_tree.specs.Rows.{NO_ROW, rows_of_inode, rows_in_bucket, HaveOwnNames}
use Rattle.disk_tree.proofs.Entries.{key_is, other_directory, other_name, more_entries, no_entries}
use Rattle.disk_tree.proofs.NamesSorted.{own_names_moved}

-- One of the rows has a key, or none has it.
data Keyed (i : ℕ) (q : Key) (own : List Row) : Type 0 where
  one : (k : ℕ) → k < length own → q.0 ≡ i → q.1 ≡ (row_at own k).name → Keyed i q own
  nothing : ((k : ℕ) → k < length own → q.0 ≡ i → q.1 ≢ (row_at own k).name) → Keyed i q own

module _ (i : ℕ) (q : Key) where
  keyed : (own : List Row) → Keyed i q own
  keyed [] = nothing (λ k less. absurd (omega arith))
  keyed (row ∷ own) = by (cases_eq q.0 i) (cases_Bool (bytes_eq q.1 row.name)) (keyed own)
    where
      by : (q.0 ≡ i) ⊎ (q.0 ≢ i) → (bytes_eq q.1 row.name ≡ true) ⊎ (bytes_eq q.1 row.name ≡ false) → Keyed i q own → Keyed i q (row ∷ own)
      by (inr apart) named rest = nothing (λ k less same. absurd (apart same))
      by (inl here) (inl named) rest = one 0 (omega arith) here (bytes_same q.1 row.name named)
      by (inl here) (inr other) (one k less same name) = one (suc k) (omega arith) same name
      by (inl here) (inr other) (nothing none) = nothing all
        where
          all : (k : ℕ) → k < length (row ∷ own) → q.0 ≡ i → q.1 ≢ (row_at (row ∷ own) k).name
          all zero less same name = not_both_of (bytes_eq q.1 row.name) (ap (bytes_eq q.1) (sym name) ∙ same_bytes q.1) other
          all (suc k) less same name = none k (omega arith) same name

  -- what is found under a key that a row has, where names are the rows' own, and under one that none has
  found_one : (own : List Row) (k : ℕ) → k < length own → ((earlier : ℕ) → earlier < k → (row_at own earlier).name ≢ (row_at own k).name) → q.0 ≡ i
      → q.1 ≡ (row_at own k).name → find key_cmp q (map (entry_of_row i) own) ≡ Some (row_at own k).inode
  found_one [] k less own here name = absurd (omega arith)
  found_one (row ∷ rows) zero less own here name =
      cond-true _ (Some row.inode) (find key_cmp q (map (entry_of_row i) rows))
      (key_is q.0 i q.1 row.name ∙ cond-true (nat_eq q.0 i) (bytes_eq q.1 row.name) false (eq-eqb q.0 i here) ∙ ap (bytes_eq q.1) (sym name) ∙ same_bytes q.1)
  found_one (row ∷ rows) (suc k) less own here name =
      ap (λ b. cond b (Some row.inode) (find key_cmp q (map (entry_of_row i) rows)))
      (other_name q.0 i q.1 row.name (λ same. own 0 (omega arith) (sym same ∙ name)))
      ∙ found_one rows k (omega arith) (λ earlier lower. own (suc earlier) (omega arith)) here name

  found_none : (own : List Row) → ((k : ℕ) → k < length own → q.0 ≡ i → q.1 ≢ (row_at own k).name) → find key_cmp q (map (entry_of_row i) own) ≡ None
  found_none [] none = refl
  found_none (row ∷ own) none =
      ap (λ b. cond b (Some row.inode) (find key_cmp q (map (entry_of_row i) own))) (by (cases_eq q.0 i))
      ∙ found_none own (λ k less. none (suc k) (omega arith))
    where
      by : (q.0 ≡ i) ⊎ (q.0 ≢ i) → Rattle.std.specs.Ordering.eq_by_cmp key_cmp q (i, row.name) ≡ false
      by (inl here) = other_name q.0 i q.1 row.name (none 0 (omega arith) here)
      by (inr apart) = other_directory q.0 i q.1 row.name apart

  -- in another order the same is found
  found_moved : (rows sorted : List Row) → IsPermutation rows sorted → HaveOwnNames rows (length rows)
      → find key_cmp q (map (entry_of_row i) sorted) ≡ find key_cmp q (map (entry_of_row i) rows)
  found_moved rows sorted moved own = by (keyed rows)
    where
      at_place : (xs ys : List Row) → IsPermutation xs ys → (k : ℕ) → k < length xs → (j : ℕ) × (j < length ys) × (row_at ys j ≡ row_at xs k)
      at_place xs ys moved k less =
          let found = Contains-permutation xs ys (row_at xs k) moved (k, less, get_or_default xs k (row_at xs k) NO_ROW less) in
          (found.0, found.1, get_or_default ys found.0 NO_ROW (row_at xs k) found.1 ∙ found.2)

      by : Keyed i q rows → find key_cmp q (map (entry_of_row i) sorted) ≡ find key_cmp q (map (entry_of_row i) rows)
      by (nothing none) =
          found_none sorted (λ k less here name.
          let back = at_place sorted rows (IsPermutation-sym rows sorted moved) k less in
          none back.0 back.1 here (name ∙ ap (λ (row : Row). row.name) (sym back.2)))
          ∙ sym (found_none rows none)
      by (one k less here name) =
          (let there = at_place rows sorted moved k less in
          found_one sorted there.0 there.1 (λ earlier lower. own_names_moved rows sorted moved own there.0 earlier there.1 lower) here
          (name ∙ ap (λ (row : Row). row.name) (sym there.2))
          ∙ ap (λ (row : Row). Some row.inode) there.2 ∙ sym (found_one rows k less (λ earlier lower. own k earlier less lower) here name))

-- the rows of all directories, those of one in another order
abbrev pub reordered : List (Roomy Row) → ℕ → List Row → List (Roomy Row)
reordered rows i sorted = set rows i (record { items = sorted; spare = 0 })

module _ (rows : List (Roomy Row)) (i : ℕ) (sorted : List Row) (within : i < length rows) (moved : IsPermutation (rows_of_inode rows i) sorted) where
  pub own_reordered : rows_of_inode (reordered rows i sorted) i ≡ sorted
  own_reordered = ap (λ (r : Roomy Row). r.items) (get_or-set_same rows i (record { items = sorted; spare = 0 }) (record { items = []; spare = 0 }) within)

  others_stay : (j : ℕ) → j ≢ i → rows_of_inode (reordered rows i sorted) j ≡ rows_of_inode rows j
  others_stay j other =
      ap (λ (r : Roomy Row). r.items) (get_or-set_other rows i j (record { items = sorted; spare = 0 }) (record { items = []; spare = 0 }) other)

  each_moved : (j : ℕ) → IsPermutation (rows_of_inode rows j) (rows_of_inode (reordered rows i sorted) j)
  each_moved j = elim (cases_eq j i) [
    | inr other ↦ subst (IsPermutation (rows_of_inode rows j)) (sym (others_stay j other)) (IsPermutation-refl (rows_of_inode rows j))
    | inl same ↦ subst (λ (k : ℕ). IsPermutation (rows_of_inode rows k) (rows_of_inode (reordered rows i sorted) k)) (sym same)
        (subst (IsPermutation (rows_of_inode rows i)) (sym own_reordered) moved)
  ]

  as_many : (j : ℕ) → length (rows_of_inode (reordered rows i sorted) j) ≡ length (rows_of_inode rows j)
  as_many j = length_permutation (rows_of_inode rows j) (rows_of_inode (reordered rows i sorted) j) (each_moved j)

  -- they may be put where the rows may
  pub reordered_may : (start : TreeState) → MayPut start rows → MayPut start (reordered rows i sorted)
  reordered_may start may = record {
    directories = λ j k less. may.directories j k (let n = as_many j in omega arith);
    children = λ j k less.
        All-permutation (λ (row : Row). IsSome (get start.nodes row.inode)) (rows_of_inode rows j) (rows_of_inode (reordered rows i sorted) j) (each_moved j)
        (All-from_get_or (λ (row : Row). IsSome (get start.nodes row.inode)) (rows_of_inode rows j) NO_ROW (λ m inside. may.children j m inside)) k NO_ROW less;
    own = λ j. own_names_moved (rows_of_inode rows j) (rows_of_inode (reordered rows i sorted) j) (each_moved j) (may.own j);
    room = λ j number.
        (let same : rows_in_bucket (rows_of_inode (reordered rows i sorted) j) number ≡ rows_in_bucket (rows_of_inode rows j) number =
        sum_by-IsPermutation _ (rows_of_inode rows j) (rows_of_inode (reordered rows i sorted) j) (each_moved j) in
        let few = may.room j number in
        omega (arith, same, few));
  }

  -- the rows of the directories before it stay
  below_stay : (n : ℕ) → n ≤ i → row_entries (reordered rows i sorted) n ≡ row_entries rows n
  below_stay zero le = no_entries (reordered rows i sorted) ∙ sym (no_entries rows)
  below_stay (suc n) le =
      (let e : suc n ≡ n + 1 = omega arith in
      ap (row_entries (reordered rows i sorted)) e ∙ more_entries (reordered rows i sorted) n
      ∙ (λ k. below_stay n (omega arith) k ++ map (entry_of_row n) (others_stay n (omega arith) k)) ∙ sym (more_entries rows n) ∙ ap (row_entries rows) (sym e))

  pub first_stay : row_entries rows i ≡ row_entries (reordered rows i sorted) i
  first_stay = sym (below_stay i (omega arith))

  -- and put together they are the same rows
  pub whole_reordered : HaveOwnNames (rows_of_inode rows i) (length (rows_of_inode rows i))
      → from_entries {R = key_cmp} (row_entries (reordered rows i sorted) (i + 1)) ≡ from_entries (row_entries rows (i + 1))
  whole_reordered own = same_map key_cmp_total key_cmp-IsAntisymmetric _ _ (λ q. looked (reordered rows i sorted) q ∙ same q ∙ sym (looked rows q))
    where
      looked : (all : List (Roomy Row)) (q : Key) → get (from_entries {R = key_cmp} (row_entries all (i + 1))) q
          ≡ option_or (find key_cmp q (row_entries all i)) (find key_cmp q (entries_at all i))
      looked all q =
          get-from_entries key_cmp_total (row_entries all (i + 1)) q ∙ ap (find key_cmp q) (more_entries all i)
          ∙ find-append key_cmp q (row_entries all i) (entries_at all i)

      here : (q : Key) → find key_cmp q (entries_at (reordered rows i sorted) i) ≡ find key_cmp q (entries_at rows i)
      here q = ap (λ (own : List Row). find key_cmp q (map (entry_of_row i) own)) own_reordered ∙ found_moved i q (rows_of_inode rows i) sorted moved own

      same : (q : Key) → option_or (find key_cmp q (row_entries (reordered rows i sorted) i)) (find key_cmp q (entries_at (reordered rows i sorted) i))
          ≡ option_or (find key_cmp q (row_entries rows i)) (find key_cmp q (entries_at rows i))
      same q = λ k. option_or (find key_cmp q (below_stay i (omega arith) k)) (here q k)
