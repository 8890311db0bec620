-- The rows of a tree as a list of entries, each under a key of its own.
use Rattle.std.proofs.Common.{◌≡◌, ◌≢◌, ◌⊎◌, ℕ, zero, suc, ◌+◌, ◌<◌, ◌≤◌, Bool, true, false, cond, ◌&&◌, List, [], ◌∷◌, ◌++◌, length, map, take, count_by, nat_eq, None, Some, refl, sym, ap, subst, ◌∙◌, arith, inl, inr}
use Rattle.std.specs.Prelude.{bytes_eq, slice_index_or, filter_map}
use Rattle.std.specs.List.{range_with_len, flat_map, cons_option}
use Rattle.std.specs.Option.{option_or}
use Rattle.std.specs.Ordering.{eq_by_cmp}
use Rattle.std.specs.FinMap.{FinMap, find, entries, len, from_entries, get-from_entries, len-entries, len-empty}
use Rattle.std.proofs.lemmas.Bool.{cases_lt, cases_Bool, cond-true, cond-false, eq-eqb, ne_eqb, eqb-true}
use Rattle.std.proofs.lemmas.List.{append_assoc, append-nil, take_more, take_all, map-append}
use Rattle.std.proofs.lemmas.Grind.{flat_map-append}
use Rattle.std.proofs.lemmas.Map.Text.{is_eq-slice_cmp}
use Rattle.sfs_base.proofs.BasicLists.{bytes_same, take_none}
use Rattle.sfs_base.proofs.BasicTruth.{not_both_of}
use Rattle.sfs_base.specs.Lists.{Roomy}
use Rattle.sfs_image.specs.Slot.{Row}
use Rattle.tree_laws.specs.Order.{Key, key_cmp}
use Rattle.tree_laws.specs.Tree.{names_where, name_row, names_it}
use Rattle.tree_laws.proofs.Joined.{key_cmp_total, same_key, find-append, count-insert, count-cons}
use Rattle.tree_laws.proofs.Counting.{count-le-len}
use Rattle.sfs_base.proofs.BasicOptions.{some_not_none}
use Rattle.tree_laws.proofs.Names.{entries-names_where}
use Rattle.disk_tree.specs.Built.{entry_of_row, entries_at, row_entries, entries_to}
use Rattle.disk_tree.specs.Rows.{NO_ROW, rows_of_inode, naming, naming_below, HaveOwnNames}
use Rattle.block_map.proofs.Places.{range_more}

-- keys are the same where directory and name are
pub key_is : (d e : ℕ) (n m : List ℕ) → eq_by_cmp key_cmp (d, n) (e, m) ≡ cond (nat_eq d e) (bytes_eq n m) false
key_is d e n m = same_key d e n m ∙ ap (λ b. cond (nat_eq d e) b false) (is_eq-slice_cmp n m)

pub other_directory : (d e : ℕ) (n m : List ℕ) → d ≢ e → eq_by_cmp key_cmp (d, n) (e, m) ≡ false
other_directory d e n m other = key_is d e n m ∙ cond-false (nat_eq d e) (bytes_eq n m) false (ne_eqb d e other)

pub other_name : (d e : ℕ) (n m : List ℕ) → n ≢ m → eq_by_cmp key_cmp (d, n) (e, m) ≡ false
other_name d e n m other = key_is d e n m ∙ by (nat_eq d e) (cases_Bool (bytes_eq n m))
  where
    by : (b : Bool) → (bytes_eq n m ≡ true) ⊎ (bytes_eq n m ≡ false) → cond b (bytes_eq n m) false ≡ false
    by false o = refl
    by true (inl same) = absurd (other (bytes_same n m same))
    by true (inr apart) = apart

-- what passes a test in two lists
pub count_append : {X : Type 0} (p : X → Bool) (xs ys : List X) → count_by p (xs ++ ys) ≡ count_by p xs + count_by p ys
count_append p [] ys = omega arith
count_append p (x ∷ xs) ys = (let a = count-cons p x (xs ++ ys) in let b = count-cons p x xs in let h = count_append p xs ys in omega arith)

-- each key is a new one
abbrev pub HaveOwnKeys : List (Key × ℕ) → Type 0
HaveOwnKeys [] = Unit {0}
HaveOwnKeys (e ∷ es) = (find key_cmp e.0 es ≡ None) × HaveOwnKeys es

-- where keys are tied either way round
tied : (a b : Key) → eq_by_cmp key_cmp a b ≡ false → eq_by_cmp key_cmp b a ≡ false
tied a b apart = key_is b.0 a.0 b.1 a.1 ∙ by (cases_Bool (nat_eq b.0 a.0)) (cases_Bool (bytes_eq b.1 a.1))
  where
    by : (nat_eq b.0 a.0 ≡ true) ⊎ (nat_eq b.0 a.0 ≡ false) → (bytes_eq b.1 a.1 ≡ true) ⊎ (bytes_eq b.1 a.1 ≡ false)
        → cond (nat_eq b.0 a.0) (bytes_eq b.1 a.1) false ≡ false
    by (inr other) o = cond-false (nat_eq b.0 a.0) (bytes_eq b.1 a.1) false other
    by (inl same) (inr other) = cond-true (nat_eq b.0 a.0) (bytes_eq b.1 a.1) false same ∙ other
    by (inl same) (inl equal) =
        absurd
        (not_both_of (eq_by_cmp key_cmp a b)
        (key_is a.0 b.0 a.1 b.1 ∙ cond-true (nat_eq a.0 b.0) (bytes_eq a.1 b.1) false (eq-eqb _ _ (sym (eqb-true _ _ same)))
        ∙ ap (λ (n : List ℕ). bytes_eq n b.1) (sym (bytes_same b.1 a.1 equal)) ∙ Rattle.sfs_base.proofs.BasicLists.same_bytes b.1) apart)

-- one more entry under a new key
pub own_more : (es : List (Key × ℕ)) (e : Key × ℕ) → HaveOwnKeys es → find key_cmp e.0 es ≡ None → HaveOwnKeys (es ++ e ∷ [])
own_more [] e own none = (refl, tt)
own_more (x ∷ es) e own none = by (cases_Bool (eq_by_cmp key_cmp e.0 x.0)) (own_more es e own.1)
  where
    by : (eq_by_cmp key_cmp e.0 x.0 ≡ true) ⊎ (eq_by_cmp key_cmp e.0 x.0 ≡ false) → (find key_cmp e.0 es ≡ None → HaveOwnKeys (es ++ e ∷ []))
        → HaveOwnKeys ((x ∷ es) ++ e ∷ [])
    by (inl same) rest = absurd (some_not_none (sym (cond-true (eq_by_cmp key_cmp e.0 x.0) (Some x.1) (find key_cmp e.0 es) same) ∙ none))
    by (inr other) rest = (
      find-append key_cmp x.0 es (e ∷ []) ∙ ap (λ o. option_or o (find key_cmp x.0 (e ∷ []))) own.0
          ∙ cond-false (eq_by_cmp key_cmp x.0 e.0) (Some e.1) None (tied e.0 x.0 other),
      rest (sym (cond-false (eq_by_cmp key_cmp e.0 x.0) (Some x.1) (find key_cmp e.0 es) other) ∙ none),
    )

-- as many rows of a tree pass a test as entries under keys of their own
pub counted_from : (p : Key × ℕ → Bool) (es : List (Key × ℕ)) → HaveOwnKeys es → count_by p (entries (from_entries {R = key_cmp} es)) ≡ count_by p es
counted_from p [] own =
    (let a = count-le-len (from_entries {R = key_cmp} []) p in let z : len (from_entries {X = ℕ} {R = key_cmp} []) ≡ 0 = len-empty key_cmp ℕ in omega arith)
counted_from p (e ∷ es) own =
    let none = get-from_entries key_cmp_total es e.0 ∙ own.0 in
    let more = count-insert (from_entries es) e.0 e.1 p none in
    let rest = counted_from p es own.1 in
    let here = count-cons p e es in
    omega arith

-- how many rows of a directory pass a test on their names
pub len-names_where : (d : ℕ) (test : List ℕ → Bool) (rows : FinMap key_cmp ℕ)
    → len (names_where d test rows) ≡ count_by (λ row. nat_eq row.0.0 d && test row.0.1) (entries rows)
len-names_where d test rows = len-entries _ ∙ ap length (entries-names_where d test rows) ∙ counted (entries rows)
  where
    counted : (es : List (Key × ℕ)) → length (filter_map (name_row d test) es) ≡ count_by (λ row. nat_eq row.0.0 d && test row.0.1) es
    counted [] = refl
    counted (e ∷ es) =
        let rest = counted es in
        let here = count-cons (λ row. nat_eq row.0.0 d && test row.0.1) e es in
        by (nat_eq e.0.0 d && test e.0.1) rest ∙ sym here
      where
        by : (b : Bool) → length (filter_map (name_row d test) es) ≡ count_by (λ row. nat_eq row.0.0 d && test row.0.1) es →
            length (cons_option (cond b (Some (e.0.1, e.1)) None) (filter_map (name_row d test) es))
            ≡ cond b 1 0 + count_by (λ row. nat_eq row.0.0 d && test row.0.1) es
        by true rest = omega arith
        by false rest = omega arith

module _ (rows : List (Roomy Row)) where
  pub no_entries : row_entries rows 0 ≡ []
  unfolding row_entries
  no_entries = refl

  pub more_entries : (n : ℕ) → row_entries rows (n + 1) ≡ row_entries rows n ++ entries_at rows n
  unfolding row_entries
  more_entries n =
      ap (flat_map (entries_at rows)) (range_more 0 n ∙ (let e : 0 + n ≡ n = omega arith in ap (λ (k : ℕ). range_with_len 0 n ++ k ∷ []) e))
      ∙ flat_map-append (entries_at rows) (range_with_len 0 n) (n ∷ [])
      ∙ ap (λ (xs : List (Key × ℕ)). row_entries rows n ++ xs) (append-nil (entries_at rows n))

  pub whole_entries : (i : ℕ) → entries_to rows i (length (rows_of_inode rows i)) ≡ row_entries rows (i + 1)
  whole_entries i =
      ap (λ (xs : List Row). row_entries rows i ++ map (entry_of_row i) xs) (take_all (length (rows_of_inode rows i)) (rows_of_inode rows i) (omega arith))
      ∙ sym (more_entries i)

  pub entry_more : (i k : ℕ) → k < length (rows_of_inode rows i)
      → entries_to rows i (k + 1) ≡ entries_to rows i k ++ entry_of_row i (slice_index_or (rows_of_inode rows i) k NO_ROW) ∷ []
  entry_more i k less =
      ap (λ (xs : List Row). row_entries rows i ++ map (entry_of_row i) xs) (take_more (rows_of_inode rows i) k NO_ROW less)
      ∙ ap (λ (xs : List (Key × ℕ)). row_entries rows i ++ xs)
      (map-append (entry_of_row i) (take k (rows_of_inode rows i)) (slice_index_or (rows_of_inode rows i) k NO_ROW ∷ []))
      ∙ sym
      (append_assoc (row_entries rows i) (map (entry_of_row i) (take k (rows_of_inode rows i)))
      (entry_of_row i (slice_index_or (rows_of_inode rows i) k NO_ROW) ∷ []))

  pub first_entries : (i : ℕ) → entries_to rows i 0 ≡ row_entries rows i
  first_entries i = ap (λ (xs : List Row). row_entries rows i ++ map (entry_of_row i) xs) (take_none (rows_of_inode rows i)) ∙ append-nil (row_entries rows i)

  -- no entry of an inode below stands in another directory
  none_below : (q : Key) (n : ℕ) → n ≤ q.0 → find key_cmp q (row_entries rows n) ≡ None
  none_below q zero le = ap (find key_cmp q) no_entries
  none_below q (suc n) le =
      (let e : suc n ≡ n + 1 = omega arith in ap (λ (k : ℕ). find key_cmp q (row_entries rows k)) e)
      ∙ ap (find key_cmp q) (more_entries n) ∙ find-append key_cmp q (row_entries rows n) (entries_at rows n)
      ∙ ap (λ o. option_or o (find key_cmp q (entries_at rows n))) (none_below q n (omega arith))
      ∙ others (rows_of_inode rows n)
    where
      others : (own : List Row) → find key_cmp q (map (entry_of_row n) own) ≡ None
      others [] = refl
      others (row ∷ own) =
          ap (λ b. cond b (Some row.inode) (find key_cmp q (map (entry_of_row n) own))) (other_directory q.0 n q.1 row.name (λ same. omega arith)) ∙ others own

  -- nor does one of the first rows have the name of a later one
  none_before : (i : ℕ) (own : List Row) (name : List ℕ) → ((k : ℕ) → k < length own → name ≢ (slice_index_or own k NO_ROW).name)
      → find key_cmp (i, name) (map (entry_of_row i) own) ≡ None
  none_before i [] name apart = refl
  none_before i (row ∷ own) name apart =
      ap (λ b. cond b (Some row.inode) (find key_cmp (i, name) (map (entry_of_row i) own))) (other_name i i name row.name (apart 0 (omega arith)))
      ∙ none_before i own name (λ k less. apart (suc k) (omega arith))

  module _ (own : (i : ℕ) → HaveOwnNames (rows_of_inode rows i) (length (rows_of_inode rows i))) where
    pub fresh_entry : (i k : ℕ) → k < length (rows_of_inode rows i)
        → find key_cmp (i, (slice_index_or (rows_of_inode rows i) k NO_ROW).name) (entries_to rows i k) ≡ None
    fresh_entry i k less =
        find-append key_cmp (i, (slice_index_or (rows_of_inode rows i) k NO_ROW).name) (row_entries rows i)
        (map (entry_of_row i) (take k (rows_of_inode rows i)))
        ∙ ap (λ o. option_or o (find key_cmp (i, (slice_index_or (rows_of_inode rows i) k NO_ROW).name) (map (entry_of_row i) (take k (rows_of_inode rows i)))))
        (none_below (i, (slice_index_or (rows_of_inode rows i) k NO_ROW).name) i (omega arith))
        ∙ none_before i (take k (rows_of_inode rows i)) (slice_index_or (rows_of_inode rows i) k NO_ROW).name
        (λ j within same.
        let before : j < k = omega (arith, Rattle.std.proofs.lemmas.List.length-take-le k (rows_of_inode rows i) (omega arith)) in
        own i k j less before (sym (same ∙ ap (λ (row : Row). row.name) (Rattle.std.proofs.lemmas.List.get_or-take k (rows_of_inode rows i) j NO_ROW before))))

    own_to : (i k : ℕ) → HaveOwnKeys (row_entries rows i) → k ≤ length (rows_of_inode rows i) → HaveOwnKeys (entries_to rows i k)
    own_to i zero start le = subst HaveOwnKeys (sym (first_entries i)) start
    own_to i (suc k) start le =
        (let e : k + 1 ≡ suc k = omega arith in
        subst (λ (n : ℕ). HaveOwnKeys (entries_to rows i n)) e
        (subst HaveOwnKeys (sym (entry_more i k (omega arith)))
        (own_more (entries_to rows i k) (entry_of_row i (slice_index_or (rows_of_inode rows i) k NO_ROW)) (own_to i k start (omega arith))
        (fresh_entry i k (omega arith)))))

    pub own_entries : (n : ℕ) → HaveOwnKeys (row_entries rows n)
    own_entries zero = subst HaveOwnKeys (sym no_entries) tt
    own_entries (suc n) =
        (let e : n + 1 ≡ suc n = omega arith in
        subst (λ (k : ℕ). HaveOwnKeys (row_entries rows k)) e
        (subst HaveOwnKeys (whole_entries n) (own_to n (length (rows_of_inode rows n)) (own_entries n) (omega arith))))

    pub own_entries_to : (i k : ℕ) → k ≤ length (rows_of_inode rows i) → HaveOwnKeys (entries_to rows i k)
    own_entries_to i k le = own_to i k (own_entries i) le

  -- as many entries name an inode as were counted
  pub entries_naming : (n x : ℕ) → count_by (names_it x) (row_entries rows n) ≡ naming_below rows n x
  entries_naming zero x = ap (count_by (names_it x)) no_entries
  entries_naming (suc n) x =
      (let e : suc n ≡ n + 1 = omega arith in ap (λ (k : ℕ). count_by (names_it x) (row_entries rows k)) e)
      ∙ ap (count_by (names_it x)) (more_entries n) ∙ count_append (names_it x) (row_entries rows n) (entries_at rows n)
      ∙ (let a = entries_naming n x in let b = own_naming (rows_of_inode rows n) in omega arith)
    where
      own_naming : (own : List Row) → count_by (names_it x) (map (entry_of_row n) own) ≡ naming x own
      own_naming [] = refl
      own_naming (row ∷ own) =
          count-cons (names_it x) (entry_of_row n row) (map (entry_of_row n) own) ∙ ap (λ (k : ℕ). cond (nat_eq row.inode x) 1 0 + k) (own_naming own)
          ∙ sym (count-cons (λ (row : Row). nat_eq row.inode x) row own)

  module _ (q : Key × ℕ → Bool) (i : ℕ) where
    abbrev own_test : Key × ℕ → Bool
    own_test e = nat_eq e.0.0 i && q e

    pub other_rows : (j : ℕ) → (j ≡ i → ⊥) → (own : List Row) → count_by own_test (map (entry_of_row j) own) ≡ 0
    other_rows j other [] = refl
    other_rows j other (row ∷ own) =
        (let c = count-cons own_test (entry_of_row j row) (map (entry_of_row j) own)
        ∙ ap (λ b. cond (b && q (entry_of_row j row)) 1 0 + count_by own_test (map (entry_of_row j) own)) (ne_eqb j i other) in
        let h = other_rows j other own in
        omega arith)

    pub none_in : (m : ℕ) → m ≤ i → count_by own_test (row_entries rows m) ≡ 0
    none_in zero le = ap (count_by own_test) no_entries
    none_in (suc m) le =
        (let e : suc m ≡ m + 1 = omega arith in ap (λ (k : ℕ). count_by own_test (row_entries rows k)) e)
        ∙ ap (count_by own_test) (more_entries m) ∙ count_append own_test (row_entries rows m) (entries_at rows m)
        ∙ (let a = none_in m (omega arith) in let b = other_rows m (λ same. omega arith) (rows_of_inode rows m) in omega arith)

    pub own_rows : (own : List Row) → count_by own_test (map (entry_of_row i) own) ≡ count_by (λ row. q (entry_of_row i row)) own
    own_rows [] = refl
    own_rows (row ∷ own) =
        count-cons own_test (entry_of_row i row) (map (entry_of_row i) own)
        ∙ ap (λ b. cond (b && q (entry_of_row i row)) 1 0 + count_by own_test (map (entry_of_row i) own)) (eq-eqb i i refl)
        ∙ ap (λ (k : ℕ). cond (q (entry_of_row i row)) 1 0 + k) (own_rows own) ∙ sym (count-cons (λ row. q (entry_of_row i row)) row own)

    -- the same, of the first k of its rows
    pub entries_of_to : (k : ℕ) → count_by own_test (entries_to rows i k) ≡ count_by (λ row. q (entry_of_row i row)) (take k (rows_of_inode rows i))
    entries_of_to k =
        count_append own_test (row_entries rows i) (map (entry_of_row i) (take k (rows_of_inode rows i)))
        ∙ (let a = none_in i (omega arith) in let b = own_rows (take k (rows_of_inode rows i)) in omega arith)

    -- the entries of one directory that pass a test are its own rows that do
    pub entries_of : (n : ℕ) → i < n → count_by own_test (row_entries rows n) ≡ count_by (λ row. q (entry_of_row i row)) (rows_of_inode rows i)
    entries_of zero less = absurd (omega arith)
    entries_of (suc n) less =
        (let e : suc n ≡ n + 1 = omega arith in ap (λ (k : ℕ). count_by own_test (row_entries rows k)) e)
        ∙ ap (count_by own_test) (more_entries n) ∙ count_append own_test (row_entries rows n) (entries_at rows n)
        ∙ elim (cases_lt i n) [
          | inl below ↦ (let a = entries_of n below in let b = other_rows n (λ same. omega arith) (rows_of_inode rows n) in omega arith)
          | inr last ↦ (let e : n ≡ i = omega arith in
              let a = none_in n (omega arith) in
              let b : count_by own_test (entries_at rows n) ≡ count_by (λ row. q (entry_of_row i row)) (rows_of_inode rows i) =
              ap (λ (j : ℕ). count_by own_test (entries_at rows j)) e ∙ own_rows (rows_of_inode rows i) in
              omega arith)
        ]
