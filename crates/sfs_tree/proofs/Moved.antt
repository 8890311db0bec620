-- A row that moves, and the holder of a directory.
use Rattle.std.proofs.Common.{◌≡◌, ◌≢◌, ℕ, ◌+◌, ◌<◌, ◌≤◌, Bool, true, false, cond, List, Option, Some, None, IsSome, option_map, refl, sym, ap, subst, ◌∙◌, arith, nat_eq, slice_index}
use borrow.Author.Tests.{eqb-true}
use Rattle.std.specs.List as list
use Rattle.std.specs.Ordering.{eq_by_cmp, nat_cmp}
use Rattle.std.specs.FinMap.{FinMap, get, insert, remove, entries, get-insert, get-remove}
use Rattle.sfs_tree.specs.declared.counts.Counts.{Counts}
use Rattle.tree_laws.specs.Order.{Key, key_cmp}
use Rattle.tree_laws.specs.Tree.{Node, count_of, names_it}
use Rattle.sfs_tree.specs.NodesState.{NodesState}
use Rattle.sfs_tree.specs.RowsState.{RowsState}
use Rattle.sfs_tree.specs.Counts.{is_directory_in, IsCounted, IsWide, MayRise}
use Rattle.sfs_tree.specs.Store.{IsStored}
use Rattle.tree_laws.proofs.Joined.{key_cmp_total, key_cmp-IsAntisymmetric, is_equal, other_key}
use Rattle.sfs_tree.proofs.Counted.{MayRise-counted}
use Rattle.tree_laws.proofs.Counting.{same_rows, get_other-insert, count-remove, len_less, found, Found, found_none}
use Rattle.sfs_tree.proofs.StoreKept.{IsStored-removed, rows_small}
use Rattle.sfs_base.proofs.BasicOptions.{none_some, some_same}

-- a row that is there and one that is not are two
pub apart : (rows : FinMap key_cmp ℕ) (k to : Key) (x : ℕ) → get rows k ≡ Some x → get rows to ≡ None → k ≢ to
apart rows k to x some none same = absurd (none_some (sym none ∙ ap (get rows) (sym same) ∙ some))

-- rows of two children are two
pub apart_by_child : (rows : FinMap key_cmp ℕ) (k to : Key) (x y : ℕ) → get rows k ≡ Some x → get rows to ≡ Some y → x ≢ y → k ≢ to
apart_by_child rows k to x y some there differ same = absurd (differ (some_same (sym some ∙ ap (get rows) same ∙ there)))

pub still_some : (rows : FinMap key_cmp ℕ) (k to : Key) (x y : ℕ) → get rows k ≡ Some x → k ≢ to → IsSome (get (insert rows to y) k)
still_some rows k to x y some differ = subst IsSome (sym (get_other-insert rows to k y differ ∙ some)) refl

-- a directory that one row names is named by it still once a row of another goes
pub once_still : (rows : FinMap key_cmp ℕ) (to : Key) (x y : ℕ) → get rows to ≡ Some y → x ≢ y → count_of rows x ≡ 1 → count_of (remove rows to) x ≡ 1
once_still rows to x y there differ one =
    let e : count_of rows x ≡ count_of (remove rows to) x + 0 =
    count-remove rows to y (names_it x) there ∙ ap (λ b. count_of (remove rows to) x + cond b 1 0) (other (nat_eq y x) refl) in
    omega arith
  where
    other : (b : Bool) → nat_eq y x ≡ b → nat_eq y x ≡ false
    other true e = absurd (differ (sym (eqb-true _ _ e)))
    other false e = e

module _ (n : NodesState) (c : Counts) (r : RowsState) (h : IsStored n c r) (directory : ℕ) (name : List ℕ) (child : ℕ)
    (some : get r.rows (directory, name) ≡ Some child) where
  -- the rows without that row
  abbrev pub without : RowsState
  without = record { rows = remove r.rows (directory, name); places = r.places }

  pub IsStored-without : (d : Counts) → IsCounted (remove r.rows (directory, name)) n.nodes d → IsWide d n.places → IsStored n d without
  IsStored-without d counted wide =
      let l = len_less r.rows (directory, name) child some in
      let m = h.most in
      IsStored-removed n c r h directory name child d without refl refl (omega arith) counted wide

  -- with that row gone there is room in the counts for one more
  pub may_rise_again : (d : Counts) → IsCounted (remove r.rows (directory, name)) n.nodes d → IsWide d n.places → (to_directory : ℕ) → to_directory < n.places
      → MayRise d to_directory child
  may_rise_again d counted wide to_directory lt =
      let l = len_less r.rows (directory, name) child some in
      let s = rows_small n c r h in
      MayRise-counted (remove r.rows (directory, name)) n.nodes d counted to_directory child n.places wide lt
      (h.within child (h.children directory name child some)) (omega arith)

module _ (rows : FinMap key_cmp ℕ) (nodes : FinMap nat_cmp Node) (counts : Counts) (h : IsCounted rows nodes counts) (x : ℕ) where
  -- what no row names has no holder
  pub holder_none : slice_index counts.named.items x ≡ 0
      → ◌≡◌ {A = Option ℕ} None (option_map (λ (row : Key × ℕ). row.0.0) (list.find (names_it x) (entries rows)))
  holder_none none = sym (ap (option_map (λ (row : Key × ℕ). row.0.0)) (found_none (names_it x) (entries rows) (sym (h.naming x) ∙ none)))

  -- a directory that one row names has that row's directory
  pub holder_some : is_directory_in nodes x ≡ true → count_of rows x ≤ 1 → slice_index counts.named.items x ≢ 0
      → Some (slice_index counts.holders.items x) ≡ option_map (λ (row : Key × ℕ). row.0.0) (list.find (names_it x) (entries rows))
  holder_some dir few some =
      let a : slice_index counts.named.items x ≡ count_of rows x = h.naming x in
      let f : Found (names_it x) rows = found (names_it x) rows (omega arith) in
      let is : f.row.1 ≡ x = eqb-true _ _ f.passes in
      let held : slice_index counts.holders.items x ≡ f.row.0.0 = h.holders f.row.0.0 f.row.0.1 x (f.there ∙ ap Some is) dir (omega arith) in
      ap Some held ∙ sym (ap (option_map (λ (row : Key × ℕ). row.0.0)) f.is)
