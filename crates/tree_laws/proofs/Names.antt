-- The rows of one directory, taken from all rows.
use Rattle.std.proofs.Common.{◌≡◌, ◌≢◌, ℕ, suc, ◌+◌, ◌*◌, ◌<◌, Bool, true, false, cond, T, ◌&&◌, List, [], ◌∷◌, length, Option, Some, None, IsSome, refl, sym, ap, subst, ◌∙◌, arith, count_by, nat_eq, nat_lt}
use borrow.Author.Tests.{eqb-true, eq-eqb, eqb-false, ltb-true, ltb-false, lt-ltb}
use Rattle.std.specs.Prelude.{filter_map}
use Rattle.std.specs.List.{cons_option}
use Rattle.std.specs.Ordering.{eq_by_cmp, is_lt, ordering_then}
use Rattle.std.specs.Cmp.{tied_itself, nat_cmp_total}
use Rattle.std.specs.Cmp.Lexicographic.{nat_list_cmp_total}
use Rattle.std.specs.FinMap.{FinMap, find, entries, get, len, is_sorted, get-from_sorted, entries-from_sorted, get-entries, len-entries, entries_sorted, same_map}
use Rattle.std.specs.FinMap.Entries.{below_all}
use Rattle.sfs_base.specs.Name.{bucket}
use Rattle.tree_laws.specs.Order.{name_cmp, Key, key_cmp}
use Rattle.std.specs.Option.{option_or}
use Rattle.tree_laws.specs.Tree.{name_row, names_where, names_of, bucket_rows}
use Rattle.tree_laws.specs.Buckets.{Bucket, bucket_at, joined, stands_in, IsPlaced}
use Rattle.tree_laws.proofs.Joined.{same_key, name_cmp-IsAntisymmetric, is_equal, get-joined, bucket_small, count-cons}
use Rattle.sfs_base.proofs.BasicOptions.{none_there}
use Rattle.sfs_base.proofs.BasicTruth.{both_first, both_second, both_of, and_first, true_not_false}
use Rattle.sfs_base.proofs.BasicNumbers.{not_below, less_not_same}

-- in one directory, rows go by their names
less_in_directory : (d : ℕ) (n m : List ℕ) → T (is_lt (key_cmp (d, n) (d, m))) → T (is_lt (name_cmp n m))
less_in_directory d n m h = subst (λ o. T (is_lt (ordering_then o (name_cmp n m)))) (tied_itself nat_cmp_total d) h

names_below : (d : ℕ) (n : List ℕ) (test : List ℕ → Bool) (es : List (Key × ℕ)) → T (below_all key_cmp (d, n) es)
    → T (below_all name_cmp n (filter_map (name_row d test) es))
names_below d n test [] h = tt
names_below d n test (e ∷ es) h =
    let rest = names_below d n test es (both_second _ _ h) in
    elim (nat_eq e.0.0 d && test e.0.1) as (λ b. (nat_eq e.0.0 d && test e.0.1) ≡ b
    → T (below_all name_cmp n (cons_option (cond b (Some (e.0.1, e.1)) None) (filter_map (name_row d test) es)))) [
      | true ↦
          λ t. both_of _ _
          (less_in_directory d n e.0.1 (subst (λ x. T (is_lt (key_cmp (d, n) (x, e.0.1)))) (eqb-true _ _ (and_first _ _ t)) (both_first _ _ h))) rest
      | false ↦ λ t. rest
    ] refl

-- the rows of a directory ascend by their names
pub names_sorted : (d : ℕ) (test : List ℕ → Bool) (es : List (Key × ℕ)) → T (is_sorted key_cmp es) → T (is_sorted name_cmp (filter_map (name_row d test) es))
names_sorted d test [] h = tt
names_sorted d test (e ∷ es) h =
    let rest = names_sorted d test es (both_second _ _ h) in
    elim (nat_eq e.0.0 d && test e.0.1) as (λ b. (nat_eq e.0.0 d && test e.0.1) ≡ b
    → T (is_sorted name_cmp (cons_option (cond b (Some (e.0.1, e.1)) None) (filter_map (name_row d test) es)))) [
      | true ↦
          λ t. both_of _ _
          (names_below d e.0.1 test es (subst (λ x. T (below_all key_cmp (x, e.0.1) es)) (eqb-true _ _ (and_first _ _ t)) (both_first _ _ h))) rest
      | false ↦ λ t. rest
    ] refl

pub not_same : (x y : ℕ) → nat_eq x y ≡ false → nat_eq y x ≡ false
not_same x y e = elim (nat_eq y x) as (λ b. nat_eq y x ≡ b → b ≡ false) [ true ↦ λ t. absurd (eqb-false _ _ e (sym (eqb-true _ _ t))) | false ↦ λ _. refl ] refl

-- what is found once a row is looked at: its name passes or not, and it is the one or not
looked : (same te tn : Bool) (v : ℕ) (names rows : Option ℕ) → (same ≡ true → tn ≡ te) → names ≡ cond tn rows None
    → cond te (cond same (Some v) names) names ≡ cond tn (cond same (Some v) rows) None
looked true true tn v names rows h e = sym (ap (λ b. cond b (Some v) None) (h refl))
looked true false tn v names rows h e = e ∙ ap (λ b. cond b rows None) (h refl) ∙ sym (ap (λ b. cond b (Some v) None) (h refl))
looked false true tn v names rows h e = e
looked false false tn v names rows h e = e

-- a row of the directory that is looked for
find_cons : (te : Bool) (n m : List ℕ) (v : ℕ) (rest : List (List ℕ × ℕ))
    → find name_cmp n (cons_option (cond te (Some (m, v)) None) rest)
    ≡ cond te (cond (eq_by_cmp name_cmp n m) (Some v) (find name_cmp n rest)) (find name_cmp n rest)
find_cons true n m v rest = refl
find_cons false n m v rest = refl

find_names : (d : ℕ) (test : List ℕ → Bool) (n : List ℕ) (es : List (Key × ℕ))
    → find name_cmp n (filter_map (name_row d test) es) ≡ cond (test n) (find key_cmp (d, n) es) None
find_names d test n [] = elim (test n) as (λ b. ◌≡◌ {A = Option ℕ} None (cond b None None)) [ true ↦ refl | false ↦ refl ]
find_names d test n (e ∷ es) =
    let rest = find_names d test n es in
    elim (nat_eq e.0.0 d) as (λ b. nat_eq e.0.0 d ≡ b
    → find name_cmp n (cons_option (cond (b && test e.0.1) (Some (e.0.1, e.1)) None) (filter_map (name_row d test) es))
    ≡ cond (test n) (cond (eq_by_cmp key_cmp (d, n) e.0) (Some e.1) (find key_cmp (d, n) es)) None) [
      | false ↦
          λ t. rest
          ∙ ap (λ b. cond (test n) (cond b (Some e.1) (find key_cmp (d, n) es)) None)
          (sym (same_key d e.0.0 n e.0.1 ∙ ap (λ b. cond b (eq_by_cmp name_cmp n e.0.1) false) (not_same _ _ t)))
      | true ↦ λ t.
          find_cons (test e.0.1) n e.0.1 e.1 (filter_map (name_row d test) es)
          ∙ looked (eq_by_cmp name_cmp n e.0.1) (test e.0.1) (test n) e.1 _ (find key_cmp (d, n) es)
          (λ same. ap test (name_cmp-IsAntisymmetric n e.0.1 (is_equal _ same))) rest
          ∙ ap (λ b. cond (test n) (cond b (Some e.1) (find key_cmp (d, n) es)) None)
          (sym (same_key d e.0.0 n e.0.1 ∙ ap (λ b. cond b (eq_by_cmp name_cmp n e.0.1) false) (eq-eqb d e.0.0 (sym (eqb-true _ _ t)))))
    ] refl

-- the rows of a directory have what all rows have there
pub get-names_where : (d : ℕ) (test : List ℕ → Bool) (rows : FinMap key_cmp ℕ) (n : List ℕ)
    → get (names_where d test rows) n ≡ cond (test n) (get rows (d, n)) None
get-names_where d test rows n =
    get-from_sorted name_cmp _ n (names_sorted d test (entries rows) (entries_sorted rows))
    ∙ find_names d test n (entries rows)
    ∙ ap (λ o. cond (test n) o None) (sym (get-entries rows (d, n)))

pub entries-names_where : (d : ℕ) (test : List ℕ → Bool) (rows : FinMap key_cmp ℕ)
    → entries (names_where d test rows) ≡ filter_map (name_row d test) (entries rows)
entries-names_where d test rows = entries-from_sorted name_cmp _ (names_sorted d test (entries rows) (entries_sorted rows))

-- a bucket of the joined rows is the bucket
pub bucket_rows-joined : (ms : List Bucket) (d b : ℕ) → b < 8 → IsPlaced ms → bucket_rows d b (joined ms) ≡ bucket_at ms (8 * d + b)
bucket_rows-joined ms d b small h =
    same_map nat_list_cmp_total name_cmp-IsAntisymmetric _ _ (λ n.
    get-names_where d (λ name. nat_eq (bucket name) b) (joined ms) n
    ∙ elim (nat_eq (bucket n) b) as (λ t. nat_eq (bucket n) b ≡ t → cond t (get (joined ms) (d, n)) None ≡ get (bucket_at ms (8 * d + b)) n) [
      | true ↦ λ t. get-joined ms d n h ∙ ap (λ k. get (bucket_at ms (8 * d + k)) n) (eqb-true _ _ t)
      | false ↦ λ t. sym (none_there _ (λ some. let p = h.placed (8 * d + b) n some in eqb-false _ _ t (omega arith)))
    ] refl)

-- how many rows a directory has
pub len-names_of : (d : ℕ) (rows : FinMap key_cmp ℕ) → len (names_of d rows) ≡ count_by (stands_in d) (entries rows)
len-names_of d rows = len-entries _ ∙ ap length (entries-names_where d (λ _. true) rows) ∙ counted (entries rows)
  where
    counted : (es : List (Key × ℕ)) → length (filter_map (name_row d (λ _. true)) es) ≡ count_by (stands_in d) es
    counted [] = refl
    counted (e ∷ es) =
        elim (nat_eq e.0.0 d) as (λ b. length (cons_option (cond (b && true) (Some (e.0.1, e.1)) None) (filter_map (name_row d (λ _. true)) es))
        ≡ cond b 1 0 + count_by (stands_in d) es) [
          | true ↦ one (counted es)
          | false ↦ none (counted es)
        ] ∙ sym (count-cons (stands_in d) e es)
      where
        one : {a b : ℕ} → a ≡ b → suc a ≡ 1 + b
        one e = omega arith

        none : {a b : ℕ} → a ≡ b → a ≡ 0 + b
        none e = omega arith

-- a row is in the bucket of its name
pub get-own_bucket : (d : ℕ) (n : List ℕ) (rows : FinMap key_cmp ℕ) → get (bucket_rows d (bucket n) rows) n ≡ get rows (d, n)
get-own_bucket d n rows =
    get-names_where d (λ name. nat_eq (bucket name) (bucket n)) rows n
    ∙ ap (λ b. cond b (get rows (d, n)) None) (eq-eqb (bucket n) (bucket n) refl)

-- what the buckets up to one have, and what it has, is what the buckets up to the next have
pub next_bucket : (d number : ℕ) (n : List ℕ) (rows : FinMap key_cmp ℕ)
    → option_or (get (bucket_rows d number rows) n) (cond (nat_lt (bucket n) number) (get rows (d, n)) None)
    ≡ cond (nat_lt (bucket n) (number + 1)) (get rows (d, n)) None
next_bucket d number n rows =
    ap (λ o. option_or o (cond (nat_lt (bucket n) number) (get rows (d, n)) None)) (get-names_where d (λ name. nat_eq (bucket name) number) rows n)
    ∙ by_place (bucket n) number (get rows (d, n))
  where
    by_place : (b number : ℕ) (o : Option ℕ) → option_or (cond (nat_eq b number) o None) (cond (nat_lt b number) o None) ≡ cond (nat_lt b (number + 1)) o None
    by_place b number o =
        elim (nat_eq b number) as (λ t. nat_eq b number ≡ t → option_or (cond t o None) (cond (nat_lt b number) o None) ≡ cond (nat_lt b (number + 1)) o None) [
          | true ↦ λ t.
              let same = eqb-true _ _ t in
              ap (λ u. option_or o (cond u o None)) (not_below b number (omega arith)) ∙ either_itself o
              ∙ sym (ap (λ u. cond u o None) (is_below b (number + 1) (omega arith)))
          | false ↦ λ t. ap (λ u. cond u o None) (as_far b number (eqb-false _ _ t))
        ] refl
      where
        is_below : (a c : ℕ) → a < c → nat_lt a c ≡ true
        is_below a c lt = lt-ltb a c lt

        either_itself : (o : Option ℕ) → option_or o None ≡ o
        either_itself (Some x) = refl
        either_itself None = refl

        as_far : (a c : ℕ) → a ≢ c → nat_lt a c ≡ nat_lt a (c + 1)
        as_far a c other =
            elim (nat_lt a c) as (λ t. nat_lt a c ≡ t → t ≡ nat_lt a (c + 1)) [
              | true ↦ λ e. sym (is_below a (c + 1) (let lt = ltb-true _ _ e in omega arith))
              | false ↦ λ e. sym (not_below a (c + 1) (let ge = ltb-false _ _ e in omega arith))
            ] refl

-- a name of a bucket is in none before it
pub bucket_apart : (d number : ℕ) (n : List ℕ) (rows : FinMap key_cmp ℕ) → IsSome (get (bucket_rows d number rows) n)
    → cond (nat_lt (bucket n) number) (get rows (d, n)) None ≡ None
bucket_apart d number n rows some =
    elim (nat_lt (bucket n) number) as (λ t. nat_lt (bucket n) number ≡ t → cond t (get rows (d, n)) None ≡ None) [
      | true ↦
          λ e. absurd
          (not_some (nat_eq (bucket n) number) (get rows (d, n)) (less_not_same (bucket n) number (ltb-true _ _ e))
          (subst IsSome (get-names_where d (λ name. nat_eq (bucket name) number) rows n) some))
      | false ↦ λ _. refl
    ] refl
  where
    not_some : (t : Bool) (o : Option ℕ) → t ≡ false → IsSome (cond t o None) → ⊥
    not_some true o e some = absurd (true_not_false e)
    not_some false o e some = none_some some
      where
        none_some : IsSome {T = ℕ} None → ⊥
        none_some e = cc

-- all buckets of a directory have its rows
pub all_buckets : (d : ℕ) (m : FinMap name_cmp ℕ) (rows : FinMap key_cmp ℕ) → ((n : List ℕ) → get m n ≡ cond (nat_lt (bucket n) 8) (get rows (d, n)) None)
    → m ≡ names_of d rows
all_buckets d m rows h =
    same_map nat_list_cmp_total name_cmp-IsAntisymmetric _ _
    (λ n. h n ∙ ap (λ t. cond t (get rows (d, n)) None) (lt-ltb (bucket n) 8 (bucket_small n)) ∙ sym (get-names_where d (λ _. true) rows n))

-- no bucket is before the first
pub none_below : (b : ℕ) (o : Option ℕ) → cond (nat_lt b 0) o None ≡ None
none_below b o =
    elim (nat_lt b 0) as (λ t. nat_lt b 0 ≡ t → cond t o None ≡ None) [ true ↦ λ e. absurd (let lt = ltb-true _ _ e in omega arith) | false ↦ λ _. refl ] refl
