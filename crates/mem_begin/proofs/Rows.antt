-- The rows of a bucket, one after another.
use Rattle.std.proofs.Common.{◌≡◌, ℕ, suc, zero, ◌+◌, ◌≤◌, Bool, true, false, cond, T, ◌&&◌, List, [], ◌∷◌, ◌++◌, length, take, Some, None, refl, sym, ap, subst, ◌∙◌, arith, nat_eq}
use Rattle.std.specs.Prelude.{filter_map, slice_get}
use Rattle.std.specs.List.{cons_option}
use Rattle.std.specs.Ordering.{eq_by_cmp, is_lt, is_eq, ordering_reverse}
use Rattle.std.specs.declared.cmp.Ordering.{Ordering}
use Rattle.std.specs.declared.cmp.Ordering.TheVariants.{Less, Equal, Greater}
use Rattle.std.specs.Cmp.Lexicographic.{nat_list_cmp_total}
use Rattle.std.specs.FinMap.{FinMap, find, entries, from_entries, get, insert, len, is_sorted, entries_sorted, get-insert, get-from_entries, get-entries, len-entries, same_map, from_entries_push}
use Rattle.std.specs.FinMap.Entries.{below_all}
use Rattle.std.proofs.lemmas.Option.{slice_get_within, get_or_from_slice_get}
use Rattle.std.proofs.lemmas.List.{take_more, take_all}
use Rattle.sfs_base.specs.Name.{bucket}
use Rattle.sfs_base.proofs.BasicTruth.{both_first, both_second}
use Rattle.tree_laws.specs.Order.{name_cmp, Key, key_cmp}
use Rattle.tree_laws.specs.Tree.{TreeState, is_directory, name_row, names_of, bucket_rows}
use Rattle.tree_laws.proofs.Joined.{name_cmp-IsAntisymmetric, is_equal}
use Rattle.tree_laws.proofs.Names.{entries-names_where}
use Rattle.mem_values.specs.Stands.{if_directory}

-- the names of one kind of row are at most all names of the directory
fewer_names : (d : ℕ) (test : List ℕ → Bool) (rows : List (Key × ℕ))
    → length (filter_map (name_row d test) rows) ≤ length (filter_map (name_row d (λ _. true)) rows)
fewer_names d test [] = omega arith
fewer_names d test (row ∷ rows) = one (nat_eq row.0.0 d) (test row.0.1) (row.0.1, row.1) (filter_map (name_row d test) rows)
    (filter_map (name_row d (λ _. true)) rows) (fewer_names d test rows)
  where
    one : (here passes : Bool) (name : List ℕ × ℕ) (some all : List (List ℕ × ℕ)) → length some ≤ length all
        → length (cons_option (cond (here && passes) (Some name) None) some) ≤ length (cons_option (cond (here && true) (Some name) None) all)
    one true true name some all le = omega arith
    one true false name some all le = omega arith
    one false true name some all le = le
    one false false name some all le = le

-- a bucket of a directory has at most the directory's rows
pub bucket_fits : (d number : ℕ) (rows : FinMap key_cmp ℕ) → length (entries (bucket_rows d number rows)) ≤ len (names_of d rows)
bucket_fits d number rows =
    let small = fewer_names d (λ name. nat_eq (bucket name) number) (entries rows) in
    let here = ap length (entries-names_where d (λ name. nat_eq (bucket name) number) rows) in
    let all = len-entries (names_of d rows) ∙ ap length (entries-names_where d (λ _. true) rows) in
    omega (arith, small, here, all)

-- a name below each name of some rows is below that at a place
below_at : (name : List ℕ) (rows : List (List ℕ × ℕ)) (place : ℕ) (row : List ℕ × ℕ) → T (below_all name_cmp name rows) → slice_get rows place ≡ Some row
    → T (is_lt (name_cmp name row.0))
below_at name [] place row below is = absurd (cc)
below_at name (first ∷ rows) zero row below is = let same : first ≡ row = cc in
    subst (λ (r : List ℕ × ℕ). T (is_lt (name_cmp name r.0))) same (both_first _ _ below)
below_at name (first ∷ rows) (suc place) row below is = below_at name rows place row (both_second _ _ below) is

-- what is above a name does not tie with it
not_tied : (name other : List ℕ) → T (is_lt (name_cmp name other)) → eq_by_cmp name_cmp other name ≡ false
not_tied name other less = by_order (name_cmp name other) refl less
  where
    by_order : (o : Ordering) → name_cmp name other ≡ o → T (is_lt o) → eq_by_cmp name_cmp other name ≡ false
    by_order Less is lt = ap is_eq (nat_list_cmp_total.antisymm other name ∙ ap ordering_reverse is)
    by_order Equal is lt = absurd lt
    by_order Greater is lt = absurd lt

-- the name at a place is none of those before it
new_in : (rows : List (List ℕ × ℕ)) (place : ℕ) (name : List ℕ) (child : ℕ) → T (is_sorted name_cmp rows) → slice_get rows place ≡ Some (name, child)
    → find name_cmp name (take place rows) ≡ None
new_in [] place name child sorted is = absurd (cc)
new_in (first ∷ rows) zero name child sorted is = refl
new_in (first ∷ rows) (suc place) name child sorted is =
    ap (λ b. cond b (Some first.1) (find name_cmp name (take place rows)))
    (not_tied first.0 name (below_at first.0 rows place (name, child) (both_first _ _ sorted) is))
    ∙ new_in rows place name child (both_second _ _ sorted) is

-- the rows before a place do not have the name at it
pub new_name : (rows : FinMap name_cmp ℕ) (place : ℕ) (name : List ℕ) (child : ℕ) → slice_get (entries rows) place ≡ Some (name, child)
    → get (from_entries {R = name_cmp} (take place (entries rows))) name ≡ None
new_name rows place name child is = get-from_entries nat_list_cmp_total (take place (entries rows)) name
    ∙ new_in (entries rows) place name child (entries_sorted rows) is

-- with it they are those before the next place
pub one_more_row : (rows : FinMap name_cmp ℕ) (place : ℕ) (name : List ℕ) (child : ℕ) → slice_get (entries rows) place ≡ Some (name, child)
    → insert (from_entries {R = name_cmp} (take place (entries rows))) name child ≡ from_entries (take (place + 1) (entries rows))
one_more_row rows place name child is =
    sym (from_entries_push nat_list_cmp_total name_cmp-IsAntisymmetric (take place (entries rows)) name child
    (new_in (entries rows) place name child (entries_sorted rows) is))
    ∙ ap (from_entries {R = name_cmp})
    (ap (λ (e : List ℕ × ℕ). take place (entries rows) ++ e ∷ []) (sym (get_or_from_slice_get (entries rows) place (name, child) (name, child) is))
    ∙ sym (take_more (entries rows) place (name, child) (slice_get_within (entries rows) place (name, child) is)))

-- past the last place they are all
pub all_rows : (rows : FinMap name_cmp ℕ) (place : ℕ) → length (entries rows) ≤ place → from_entries {R = name_cmp} (take place (entries rows)) ≡ rows
all_rows rows place past =
    ap (from_entries {R = name_cmp}) (take_all place (entries rows) past)
    ∙ same_map nat_list_cmp_total name_cmp-IsAntisymmetric _ _ (λ name. get-from_entries nat_list_cmp_total (entries rows) name ∙ sym (get-entries rows name))

-- where there is none, it is past the last place
pub past_last : (rows : List (List ℕ × ℕ)) (place : ℕ) → slice_get rows place ≡ None → length rows ≤ place
past_last [] place none = omega arith
past_last (row ∷ rows) zero none = absurd (cc)
past_last (row ∷ rows) (suc place) none = let less = past_last rows place none in omega (arith, less)

-- a row more that names a directory
pub directory_more : (tree : TreeState) (rows directories : FinMap name_cmp ℕ) (name : List ℕ) (child : ℕ) → is_directory tree child ≡ true
    → ((other : List ℕ) → get directories other ≡ if_directory tree (get rows other))
    → (other : List ℕ) → get (insert directories name child) other ≡ if_directory tree (get (insert rows name child) other)
directory_more tree rows directories name child is shows other =
    get-insert nat_list_cmp_total directories name child other
    ∙ ap (cond (eq_by_cmp name_cmp other name) (Some child)) (shows other)
    ∙ by_test (eq_by_cmp name_cmp other name)
    ∙ ap (if_directory tree) (sym (get-insert nat_list_cmp_total rows name child other))
  where
    by_test : (same : Bool) → cond same (Some child) (if_directory tree (get rows other)) ≡ if_directory tree (cond same (Some child) (get rows other))
    by_test true = sym (ap (λ b. cond b (Some child) None) is)
    by_test false = refl

-- a new row that names no directory
pub file_more : (tree : TreeState) (rows directories : FinMap name_cmp ℕ) (name : List ℕ) (child : ℕ) → is_directory tree child ≡ false → get rows name ≡ None
    → ((other : List ℕ) → get directories other ≡ if_directory tree (get rows other))
    → (other : List ℕ) → get directories other ≡ if_directory tree (get (insert rows name child) other)
file_more tree rows directories name child is new shows other =
    shows other
    ∙ by_test (eq_by_cmp name_cmp other name) refl
    ∙ ap (if_directory tree) (sym (get-insert nat_list_cmp_total rows name child other))
  where
    by_test : (same : Bool) → eq_by_cmp name_cmp other name ≡ same
        → if_directory tree (get rows other) ≡ if_directory tree (cond same (Some child) (get rows other))
    by_test true same = ap (if_directory tree) (ap (get rows) (name_cmp-IsAntisymmetric other name (is_equal (name_cmp other name) same)) ∙ new)
        ∙ sym (ap (λ b. cond b (Some child) None) is)
    by_test false same = refl
