-- The rows of a directory, counted bucket by bucket.
use Rattle.std.proofs.Common.{◌≡◌, ◌<◌, ◌≤◌, ◌+◌, ℕ, zero, suc, Bool, true, false, cond, ◌&&◌, ◌==◌, nat_eq, List, [], ◌∷◌, length, Option, Some, None, refl, sym, ap, subst, ◌∙◌, add-one, arith, ⊎_elim}
use borrow.Author.Tests.{eqb-true}
use Rattle.std.specs.Prelude.{count_by, is_some, filter_map, if◌then◌else◌}
use Rattle.std.specs.Cmp.Lexicographic.{nat_list_cmp_total}
use Rattle.std.specs.FinMap.{FinMap, get, len, entries, len-entries, same_map}
use Rattle.std.proofs.lemmas.Bool.{cases_Bool}
use Rattle.std.proofs.lemmas.Bool.Decides.{nat_tests}
use Rattle.sfs_base.specs.Name.{bucket}
use Rattle.tree_laws.specs.Order.{Key, key_cmp}
use Rattle.tree_laws.specs.Tree.{TreeState, row_of, is_directory, name_row, names_where, bucket_rows, row_count, holds_directory}
use Rattle.tree_laws.specs.Buckets.{stands_in}
use Rattle.tree_laws.proofs.Joined.{name_cmp-IsAntisymmetric, count-cons, bucket_small}
use Rattle.tree_laws.proofs.Names.{get-names_where, entries-names_where, len-names_of}
use Rattle.tree_laws.proofs.Counting.{count_agree}
use Rattle.mem_values.specs.declared.bucket.Bucket.{Bucket}
use Rattle.mem_values.specs.Stands.{ShowsBucket, if_directory}
use Rattle.mem_calls.specs.Sums.{sum_until}

pub sum_more : (n : ℕ) (f : ℕ → ℕ) → sum_until (n + 1) f ≡ sum_until n f + f n
sum_more n f = ap (λ k. sum_until k f) (add-one n)

pub sum_same : (n : ℕ) (f g : ℕ → ℕ) → ((b : ℕ) → b < n → f b ≡ g b) → sum_until n f ≡ sum_until n g
sum_same zero f g same = refl
sum_same (suc n) f g same = let rest = sum_same n f g (λ b lt. same b (omega (arith, lt))) in let last = same n (omega arith) in omega (arith, rest, last)

sum_zero : (n : ℕ) (f : ℕ → ℕ) → ((b : ℕ) → f b ≡ 0) → sum_until n f ≡ 0
sum_zero zero f none = refl
sum_zero (suc n) f none = let rest = sum_zero n f none in let last = none n in omega (arith, rest, last)

sum_add : (n : ℕ) (f g : ℕ → ℕ) → sum_until n (λ b. f b + g b) ≡ sum_until n f + sum_until n g
sum_add zero f g = refl
sum_add (suc n) f g = let rest = sum_add n f g in omega (arith, rest)

below_other : (k n : ℕ) → k < suc n → nat_eq k n ≡ false → k < n
below_other k n lt other = grind (arith, nat_tests)

none_at : (n k : ℕ) → n ≤ k → sum_until n (λ b. cond (k == b) 1 0) ≡ 0
none_at zero k le = refl
none_at (suc n) k le = let rest = none_at n k (omega (arith, le)) in
    ⊎_elim (λ (here : (k == n) ≡ true). let same = eqb-true k n here in absurd (omega (arith, same, le)))
    (λ (other : (k == n) ≡ false). let last : ◌≡◌ {A = ℕ} (cond (k == n) 1 0) 0 = ap (λ x. cond x 1 0) other in omega (arith, rest, last))
    (cases_Bool (k == n))

one_at : (n k : ℕ) → k < n → sum_until n (λ b. cond (k == b) 1 0) ≡ 1
one_at zero k lt = absurd (omega (arith, lt))
one_at (suc n) k lt = ⊎_elim
    (λ (here : (k == n) ≡ true). let same = eqb-true k n here in let rest = none_at n k (omega (arith, same)) in
    let last : ◌≡◌ {A = ℕ} (cond (k == n) 1 0) 1 = ap (λ x. cond x 1 0) here in omega (arith, rest, last))
    (λ (other : (k == n) ≡ false). let rest = one_at n k (below_other k n lt other) in
    let last : ◌≡◌ {A = ℕ} (cond (k == n) 1 0) 0 = ap (λ x. cond x 1 0) other in omega (arith, rest, last))
    (cases_Bool (k == n))

one_bucket : (n k : ℕ) (p : Bool) → k < n → sum_until n (λ b. cond (p && (k == b)) 1 0) ≡ cond p 1 0
one_bucket n k true lt = one_at n k lt
one_bucket n k false lt = sum_zero n (λ b. 0) (λ b. refl)

-- what is counted of rows is counted bucket by bucket
pub split : (n : ℕ) (P : Key × ℕ → Bool) (es : List (Key × ℕ)) → ((name : List ℕ) → bucket name < n)
    → count_by P es ≡ sum_until n (λ b. count_by (λ row. P row && (bucket row.0.1 == b)) es)
split n P [] small = sym (sum_zero n (λ b. 0) (λ b. refl))
split n P (e ∷ es) small =
    let rest = split n P es small in
    let here = one_bucket n (bucket e.0.1) (P e) (small e.0.1) in
    let first = count-cons P e es in
    let each = sum_same n (λ b. count_by (λ row. P row && (bucket row.0.1 == b)) (e ∷ es))
    (λ b. cond (P e && (bucket e.0.1 == b)) 1 0 + count_by (λ row. P row && (bucket row.0.1 == b)) es)
    (λ b lt. count-cons (λ row. P row && (bucket row.0.1 == b)) e es) in
    let both = sum_add n (λ b. cond (P e && (bucket e.0.1 == b)) 1 0) (λ b. count_by (λ row. P row && (bucket row.0.1 == b)) es) in
    omega (arith, rest, here, both, first, each)

count_le : (p q : Key × ℕ → Bool) (es : List (Key × ℕ)) → ((row : Key × ℕ) → p row ≡ true → q row ≡ true) → count_by p es ≤ count_by q es
count_le p q [] less = omega arith
count_le p q (e ∷ es) less = let rest = count_le p q es less in let one = count-cons p e es in let two = count-cons q e es in ⊎_elim
    (λ (yes : p e ≡ true). let a : ◌≡◌ {A = ℕ} (cond (p e) 1 0) 1 = ap (λ x. cond x 1 0) yes in
    let b : ◌≡◌ {A = ℕ} (cond (q e) 1 0) 1 = ap (λ x. cond x 1 0) (less e yes) in omega (arith, rest, one, two, a, b))
    (λ (no : p e ≡ false). let a : ◌≡◌ {A = ℕ} (cond (p e) 1 0) 0 = ap (λ x. cond x 1 0) no in omega (arith, rest, one, two, a))
    (cases_Bool (p e))

-- how many rows a part of a directory has
len_part : (d : ℕ) (test : List ℕ → Bool) (rows : FinMap key_cmp ℕ)
    → len (names_where d test rows) ≡ count_by (λ row. (row.0.0 == d) && test row.0.1) (entries rows)
len_part d test rows = len-entries (names_where d test rows) ∙ (ap length (entries-names_where d test rows) ∙ counted (entries rows))
  where
    counted : (es : List (Key × ℕ)) → length (filter_map (name_row d test) es) ≡ count_by (λ row. (row.0.0 == d) && test row.0.1) es
    counted [] = refl
    counted (e ∷ es) = by ((e.0.0 == d) && test e.0.1) (counted es) ∙ sym (count-cons (λ row. (row.0.0 == d) && test row.0.1) e es)
      where
        by : (x : Bool) → length (filter_map (name_row d test) es) ≡ count_by (λ row. (row.0.0 == d) && test row.0.1) es
            → length (Rattle.std.specs.List.cons_option (if x then Some (e.0.1, e.1) else None) (filter_map (name_row d test) es)) ≡ cond x 1 0 + count_by
            (λ row. (row.0.0 == d) && test row.0.1) es
        by true rest = omega (arith, rest)
        by false rest = omega (arith, rest)

module _ (tree : TreeState) (d : ℕ) where
  pub rows_summed : row_count tree d ≡ sum_until 8 (λ b. len (bucket_rows d b tree.rows))
  rows_summed = len-names_of d tree.rows
      ∙ (split 8 (stands_in d) (entries tree.rows) bucket_small
      ∙ sum_same 8 _ (λ b. len (bucket_rows d b tree.rows)) (λ b lt. sym (len_part d (λ name. bucket name == b) tree.rows)))

  module _ (number : ℕ) (B : Bucket) (shows : ShowsBucket tree d number B) where
    is_one : List ℕ → Bool
    is_one n = (bucket n == number) && is_some (if_directory tree (row_of tree d n))

    if_some : (row : Option ℕ) → if_directory tree row ≡ cond (is_some (if_directory tree row)) row None
    if_some None = refl
    if_some (Some child) = by (is_directory tree child)
      where
        by : (x : Bool) → (if x then Some child else None) ≡ cond (is_some (if x then Some child else None)) (Some child) None
        by true = refl
        by false = refl

    directories_are : B.directories ≡ names_where d (λ n. (bucket n == number) && is_some (if_directory tree (row_of tree d n))) tree.rows
    directories_are = same_map nat_list_cmp_total name_cmp-IsAntisymmetric _ _ (λ n.
        shows.directories n
        ∙ (ap (if_directory tree) (get-names_where d (λ name. bucket name == number) tree.rows n)
        ∙ (by n (bucket n == number) ∙ sym (get-names_where d (λ m. (bucket m == number) && is_some (if_directory tree (row_of tree d m))) tree.rows n))))
      where
        by : (n : List ℕ) (x : Bool) → if_directory tree (cond x (row_of tree d n) None) ≡ cond (x && is_some (if_directory tree (row_of tree d n)))
            (row_of tree d n) None
        by n true = if_some (row_of tree d n)
        by n false = refl

    agree : (k : Key) (x : ℕ) → get tree.rows k ≡ Some x
        → ((k.0 == d) && ((bucket k.1 == number) && is_some (if_directory tree (row_of tree d k.1)))) ≡
        (((k.0 == d) && is_directory tree x) && (bucket k.1 == number))
    agree k x row = ⊎_elim
        (λ (here : (k.0 == d) ≡ true).
        let there : row_of tree d k.1 ≡ Some x = subst (λ y. get tree.rows (y, k.1) ≡ Some x) (eqb-true k.0 d here) row in
        rw here (ap (λ r. (bucket k.1 == number) && is_some (if_directory tree r)) there ∙ by (bucket k.1 == number) (is_directory tree x)))
        (λ (other : (k.0 == d) ≡ false). rw other refl)
        (cases_Bool (k.0 == d))
      where
        by : (a b : Bool) → (a && is_some (if b then Some x else None)) ≡ (b && a)
        by true true = refl
        by true false = refl
        by false true = refl
        by false false = refl

    pub directories_counted : len B.directories ≡ count_by (λ row. holds_directory tree d row && (bucket row.0.1 == number)) (entries tree.rows)
    directories_counted = ap len directories_are
        ∙ (len_part d (λ n. (bucket n == number) && is_some (if_directory tree (row_of tree d n))) tree.rows ∙ count_agree _ _ tree.rows agree)

    pub fewer_directories : len B.directories ≤ len B.rows
    fewer_directories =
        let one = directories_counted in
        let two = ap len shows.rows ∙ len_part d (λ n. bucket n == number) tree.rows in
        let le = count_le (λ row. holds_directory tree d row && (bucket row.0.1 == number)) (λ row. (row.0.0 == d) && (bucket row.0.1 == number))
        (entries tree.rows) (λ row. by (row.0.0 == d) (is_directory tree row.1) (bucket row.0.1 == number)) in
        omega (arith, one, two, le)
      where
        by : (a b c : Bool) → ((a && b) && c) ≡ true → (a && c) ≡ true
        by true true c is = is
        by true false c is = absurd (cc (is))
        by false b c is = is

  pub directories_summed : (f : ℕ → ℕ) → ((b : ℕ) → b < 8 → f b ≡ count_by (λ row. holds_directory tree d row && (bucket row.0.1 == b)) (entries tree.rows))
      → count_by (holds_directory tree d) (entries tree.rows) ≡ sum_until 8 f
  directories_summed f each = split 8 (holds_directory tree d) (entries tree.rows) bucket_small ∙ sum_same 8 _ f (λ b lt. sym (each b lt))
