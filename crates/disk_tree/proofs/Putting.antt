-- How rows are put into a tree one after another.
use Rattle.std.proofs.Common.{◌≡◌, ℕ, ◌+◌, ◌<◌, ◌≤◌, Bool, true, List, length, take, drop, count_by, nat_eq, None, IsSome, refl, sym, ap, ◌∙◌, arith}
use Rattle.std.specs.Prelude.{slice_index_or}
use Rattle.std.specs.FinMap.{FinMap, get, insert, len, from_entries, from_entries_push, get-from_entries}
use Rattle.std.proofs.lemmas.List.{take-append-drop}
use Rattle.std.proofs.lemmas.List.Sums.{count_by_more_yes}
use Rattle.std.proofs.lemmas.Bool.{eq-eqb}
use Rattle.sfs_base.specs.Lists.{Roomy}
use Rattle.sfs_base.specs.Name.{bucket}
use Rattle.sfs_image.specs.Slot.{Row}
use Rattle.tree_laws.specs.Build.{with_row}
use Rattle.tree_laws.specs.Order.{Key}
use Rattle.tree_laws.specs.Tree.{TreeState, row_of, is_directory, bucket_rows}
use Rattle.tree_laws.proofs.Joined.{key_cmp_total, key_cmp-IsAntisymmetric}
use Rattle.disk_tree.specs.Built.{entries_to, MayPut, with_entries}
use Rattle.disk_tree.specs.Reached.{row_at}
use Rattle.disk_tree.specs.Rows.{NO_ROW, rows_of_inode}
use Rattle.disk_tree.proofs.Entries.{fresh_entry, entry_more, own_entries_to, counted_from, len-names_where, entries_of_to, count_append}

pub count_take : {X : Type 0} (p : X → Bool) (xs : List X) (k : ℕ) → count_by p (take k xs) ≤ count_by p xs
count_take p xs k = (let a = count_append p (take k xs) (drop k xs) in let b = ap (count_by p) (take-append-drop k xs) in omega arith)

module _ (start : TreeState) (rows : List (Roomy Row)) (may : MayPut start rows) (i k : ℕ) (less : k < length (rows_of_inode rows i)) where
  abbrev row : Row
  row = row_at (rows_of_inode rows i) k

  pub put_directory : is_directory (with_entries start (entries_to rows i k)) i ≡ true
  put_directory = may.directories i k less

  pub put_child : IsSome (get (with_entries start (entries_to rows i k)).nodes row.inode)
  put_child = may.children i k less

  pub put_absent : row_of (with_entries start (entries_to rows i k)) i row.name ≡ None
  put_absent = get-from_entries key_cmp_total (entries_to rows i k) (i, row.name) ∙ fresh_entry rows may.own i k less

  in_bucket : Row → Bool
  in_bucket own = nat_eq (bucket own.name) (bucket row.name)

  pub put_room : len (bucket_rows i (bucket row.name) (with_entries start (entries_to rows i k)).rows) < 4096
  unfolding in_bucket
  put_room =
      let all = len-names_where i (λ name. nat_eq (bucket name) (bucket row.name)) (from_entries (entries_to rows i k)) in
      let from =
      counted_from (λ e. Rattle.std.specs.Prelude.◌&&◌ (nat_eq e.0.0 i) (nat_eq (bucket e.0.1) (bucket row.name))) (entries_to rows i k)
      (own_entries_to rows may.own i k (omega arith)) in
      let own = entries_of_to rows (λ e. nat_eq (bucket e.0.1) (bucket row.name)) i k in
      let one = count_by_more_yes in_bucket (rows_of_inode rows i) k NO_ROW less (eq-eqb (bucket row.name) (bucket row.name) refl) in
      let few = count_take in_bucket (rows_of_inode rows i) (k + 1) in
      let room = may.room i (bucket row.name) in
      omega (arith, all, from, own, one, few, room)

  pub put_more : with_row (with_entries start (entries_to rows i k)) i row.name row.inode ≡ with_entries start (entries_to rows i (k + 1))
  put_more =
      let here : insert (from_entries (entries_to rows i k)) (i, row.name) row.inode ≡ from_entries (entries_to rows i (k + 1)) =
      sym (from_entries_push key_cmp_total key_cmp-IsAntisymmetric (entries_to rows i k) (i, row.name) row.inode (fresh_entry rows may.own i k less))
      ∙ ap from_entries (sym (entry_more rows i k less)) in
      λ j. record { rows = here j; nodes = start.nodes; first = start.first; share = start.share; made = start.made }

-- a tree that has other rows may have the same put
pub may_put_again : (start : TreeState) (es : List (Key × ℕ)) (rows : List (Roomy Row)) → MayPut start rows → MayPut (with_entries start es) rows
may_put_again start es rows may = record { directories = may.directories; children = may.children; own = may.own; room = may.room }
