-- The rows of all buckets, joined.
use Rattle.std.proofs.Common.{◌≡◌, ◌≢◌, ℕ, zero, suc, ◌+◌, ◌*◌, ◌/◌, ◌%◌, ◌<◌, ◌≤◌, Bool, true, false, cond, ◌&&◌, List, [], ◌∷◌, ◌++◌, length, map, set, Option, Some, None, is_some, IsSome, ◌⊎◌, inl, inr, refl, sym, ap, subst, ◌∙◌, arith, count_by, nat_eq}
use Rattle.std.specs.Ordering.{nat_cmp, eq_by_cmp, is_eq, ordering_then}
use Rattle.std.specs.declared.cmp.Ordering.{Ordering}
use Rattle.std.specs.declared.cmp.Ordering.TheVariants.{Less, Equal, Greater}
use Rattle.std.specs.Cmp.{IsTotalOrder, then_total, on_total, nat_cmp_total, tied_then, unsigned_ties}
use Rattle.std.specs.Cmp.Lexicographic.{nat_list_cmp_total}
use Rattle.std.specs.FinMap.{FinMap, find, put, entries, from_entries, empty, get, insert, len, IsAntisymmetric, nat_cmp-IsAntisymmetric, slice_cmp-IsAntisymmetric, same_map, get-from_entries, get-insert, get-empty, get-entries, len-insert, len-entries, len-empty, entries-insert, contains_key}
use Rattle.std.specs.FinMap.Entries.{by_order}
use borrow.Author.Tests.{eqb-true, eq-eqb, eqb-false}
use Rattle.std.proofs.lemmas.List.Sums.{sum_by-cons, count_by-le-length}
use Rattle.std.proofs.lemmas.List.{get_or-set_same, get_or-set_other, length-map, length-append}
use Rattle.sfs_base.specs.Name.{bucket}
use Rattle.tree_laws.specs.Order.{name_cmp, Key, key_cmp}
use Rattle.std.specs.Option.{option_or}
use Rattle.tree_laws.specs.Buckets.{Bucket, bucket_at, in_directory, rows_from, joined, IsPlaced}
use Rattle.sfs_base.proofs.BasicOptions.{none_there, or_none}

pub key_cmp_total : IsTotalOrder key_cmp
key_cmp_total = then_total (on_total (λ (k : Key). k.0) nat_cmp_total) (on_total (λ (k : Key). k.1) nat_list_cmp_total)

pub name_cmp-IsAntisymmetric : IsAntisymmetric name_cmp
name_cmp-IsAntisymmetric = slice_cmp-IsAntisymmetric nat_cmp-IsAntisymmetric

pub is_equal : (o : Ordering) → is_eq o ≡ true → o ≡ Equal
is_equal Less e = cc
is_equal Equal e = refl
is_equal Greater e = cc

then_equal : (a b : Ordering) → ordering_then a b ≡ Equal → (a ≡ Equal) × (b ≡ Equal)
then_equal Less b e = (e, absurd (less_is_not e))
  where
    less_is_not : Less ≡ Equal → ⊥
    less_is_not e = cc
then_equal Equal b e = (refl, e)
then_equal Greater b e = (e, absurd (greater_is_not e))
  where
    greater_is_not : Greater ≡ Equal → ⊥
    greater_is_not e = cc

pub key_cmp-IsAntisymmetric : IsAntisymmetric key_cmp
key_cmp-IsAntisymmetric x y e =
    let both = then_equal (nat_cmp x.0 y.0) (name_cmp x.1 y.1) e in
    let directories : x.0 ≡ y.0 = nat_cmp-IsAntisymmetric x.0 y.0 both.0 in
    let names : x.1 ≡ y.1 = name_cmp-IsAntisymmetric x.1 y.1 both.1 in
    λ i. (directories i, names i)

-- whether two rows have one key
pub same_key : (d e : ℕ) (n m : List ℕ) → eq_by_cmp key_cmp (d, n) (e, m) ≡ cond (nat_eq d e) (eq_by_cmp name_cmp n m) false
same_key d e n m =
    sym (tied_then (nat_cmp d e) (name_cmp n m)) ∙ ap (λ b. b && eq_by_cmp name_cmp n m) (sym (unsigned_ties d e))
    ∙ elim (nat_eq d e) as (λ b. (b && eq_by_cmp name_cmp n m) ≡ cond b (eq_by_cmp name_cmp n m) false) [ true ↦ refl | false ↦ refl ]

one_before : (a b : ℕ) → a + b ≡ b + a
one_before a b = omega arith

one_behind : (a b c d : ℕ) → b ≡ c + d → a + b ≡ (a + c) + d
one_behind a b c d e = omega arith

pub count-cons : {X : Type 0} (p : X → Bool) (x : X) (xs : List X) → count_by p (x ∷ xs) ≡ cond (p x) 1 0 + count_by p xs
count-cons p x xs = sum_by-cons (λ x. cond (p x) 1 0) x xs

module _ {K X : Type 0} (R : K → K → Ordering) where
  pub find-append : (q : K) (es fs : List (K × X)) → find R q (es ++ fs) ≡ option_or (find R q es) (find R q fs)
  find-append q [] fs = refl
  find-append q (e ∷ es) fs =
      elim (eq_by_cmp R q e.0) as (λ b. cond b (Some e.1) (find R q (es ++ fs)) ≡ option_or (cond b (Some e.1) (find R q es)) (find R q fs)) [
        | true ↦
            refl
        | false ↦ find-append q es fs
      ]

  -- one more entry is counted where its key is new
  pub count-put : (p : K × X → Bool) (k : K) (v : X) (es : List (K × X)) → find R k es ≡ None → count_by p (put R k v es) ≡ count_by p es + cond (p (k, v)) 1 0
  count-put p k v [] none = count-cons p (k, v) [] ∙ one_before (cond (p (k, v)) 1 0) 0
  count-put p k v (e ∷ es) none =
      elim (R k e.0) as (λ r. cond (is_eq r) (Some e.1) (find R k es) ≡ None
      → count_by p (by_order r ((k, v) ∷ e ∷ es) ((e.0, v) ∷ es) (e ∷ put R k v es)) ≡ count_by p (e ∷ es) + cond (p (k, v)) 1 0) [
        | Less ↦ λ n. count-cons p (k, v) (e ∷ es) ∙ one_before (cond (p (k, v)) 1 0) (count_by p (e ∷ es))
        | Equal ↦ λ n. cc
        | Greater ↦
            λ n. count-cons p e (put R k v es) ∙ one_behind (cond (p e) 1 0) _ _ _ (count-put p k v es n)
            ∙ ap (λ c. c + cond (p (k, v)) 1 0) (sym (count-cons p e es))
      ] none

pub length-from_entries : {K X : Type 0} {R : K → K → Ordering} (o : IsTotalOrder R) (es : List (K × X)) → len (from_entries {R = R} es) ≤ length es
length-from_entries {K} {X} {R} o [] = omega (arith, len-empty R X)
length-from_entries o (e ∷ es) =
    one_more _ _ _ (contains_key (from_entries es) e.0) (len-insert o (from_entries es) e.0 e.1) (length-from_entries o es)
  where
    one_more : (a b n : ℕ) (new : Bool) → a ≡ cond new b (b + 1) → b ≤ n → a ≤ suc n
    one_more a b n true e le = omega arith
    one_more a b n false e le = omega arith

find-in_directory : (place d : ℕ) (n : List ℕ) (es : List (List ℕ × ℕ))
    → find key_cmp (d, n) (map (in_directory place) es) ≡ cond (nat_eq d place) (find name_cmp n es) None
find-in_directory place d n [] = elim (nat_eq d place) as (λ b. ◌≡◌ {A = Option ℕ} None (cond b None None)) [ true ↦ refl | false ↦ refl ]
find-in_directory place d n (e ∷ es) =
    ap (λ b. cond b (Some e.1) (find key_cmp (d, n) (map (in_directory place) es))) (same_key d place n e.0)
    ∙ ap (λ r. cond (cond (nat_eq d place) (eq_by_cmp name_cmp n e.0) false) (Some e.1) r) (find-in_directory place d n es)
    ∙ elim (nat_eq d place) as (λ b. cond (cond b (eq_by_cmp name_cmp n e.0) false) (Some e.1) (cond b (find name_cmp n es) None)
    ≡ cond b (cond (eq_by_cmp name_cmp n e.0) (Some e.1) (find name_cmp n es)) None) [
      | true ↦
          refl
      | false ↦ refl
    ]

-- a name is found in its own bucket alone
elsewhere : (m : Bucket) (place d : ℕ) (n : List ℕ) → (IsSome (get m n) → bucket n ≡ place % 8) → 8 * d + bucket n ≢ place
    → cond (nat_eq d (place / 8)) (find name_cmp n (entries m)) None ≡ None
elsewhere m place d n placed other =
    elim (nat_eq d (place / 8)) as (λ b. nat_eq d (place / 8) ≡ b → cond b (find name_cmp n (entries m)) None ≡ None) [
      | true ↦
          λ e. sym (get-entries m n) ∙ none_there (get m n) (λ some. let b = placed some in let d_is : d ≡ place / 8 = eqb-true _ _ e in other (omega arith))
      | false ↦ λ e. refl
    ] refl

here : (m : Bucket) (place d : ℕ) (n : List ℕ) → 8 * d + bucket n ≡ place → bucket n < 8
    → cond (nat_eq d (place / 8)) (find name_cmp n (entries m)) None ≡ get m n
here m place d n e small =
    let d_is : d ≡ place / 8 = omega arith in
    ap (λ b. cond b (find name_cmp n (entries m)) None) (eq-eqb d (place / 8) d_is) ∙ sym (get-entries m n)

pub bucket_small : (n : List ℕ) → bucket n < 8
bucket_small n = omega arith

Placed_from : ℕ → List Bucket → Type 0
Placed_from place ms = (k : ℕ) (name : List ℕ) → IsSome (get (bucket_at ms k) name) → bucket name ≡ (place + k) % 8

placed_tail : (place : ℕ) (m : Bucket) (ms : List Bucket) → Placed_from place (m ∷ ms) → Placed_from (suc place) ms
unfolding Placed_from
placed_tail place m ms h = λ k name some. let e = h (suc k) name some in omega arith

-- before the bucket of a name nothing is found
find_before : (place : ℕ) (ms : List Bucket) (d : ℕ) (n : List ℕ) → Placed_from place ms → 8 * d + bucket n < place
    → find key_cmp (d, n) (rows_from place ms) ≡ None
unfolding Placed_from
find_before place [] d n h lt = refl
find_before place (m ∷ ms) d n h lt =
    find-append key_cmp (d, n) (map (in_directory (place / 8)) (entries m)) (rows_from (suc place) ms)
    ∙ ap (λ o. option_or o (find key_cmp (d, n) (rows_from (suc place) ms)))
    (find-in_directory (place / 8) d n (entries m) ∙ elsewhere m place d n (λ some. let e = h zero n some in omega arith) (omega arith))
    ∙ find_before (suc place) ms d n (placed_tail place m ms h) (omega arith)

-- a row is found in the bucket of its name
find_from : (place : ℕ) (ms : List Bucket) (d : ℕ) (n : List ℕ) (k : ℕ) → Placed_from place ms → place + k ≡ 8 * d + bucket n
    → find key_cmp (d, n) (rows_from place ms) ≡ get (bucket_at ms k) n
unfolding Placed_from
find_from place [] d n k h e = sym (get-empty name_cmp n)
find_from place (m ∷ ms) d n zero h e =
    find-append key_cmp (d, n) (map (in_directory (place / 8)) (entries m)) (rows_from (suc place) ms)
    ∙ ap (λ o. option_or o (find key_cmp (d, n) (rows_from (suc place) ms)))
    (find-in_directory (place / 8) d n (entries m) ∙ here m place d n (omega arith) (bucket_small n))
    ∙ ap (option_or (get m n)) (find_before (suc place) ms d n (placed_tail place m ms h) (omega arith))
    ∙ or_none (get m n)
find_from place (m ∷ ms) d n (suc k) h e =
    find-append key_cmp (d, n) (map (in_directory (place / 8)) (entries m)) (rows_from (suc place) ms)
    ∙ ap (λ o. option_or o (find key_cmp (d, n) (rows_from (suc place) ms)))
    (find-in_directory (place / 8) d n (entries m) ∙ elsewhere m place d n (λ some. let b = h zero n some in omega arith) (omega arith))
    ∙ find_from (suc place) ms d n k (placed_tail place m ms h) (omega arith)

pub other_key : (k q : Key) → k ≢ q → eq_by_cmp key_cmp k q ≡ false
other_key k q h =
    elim (eq_by_cmp key_cmp k q) as (λ b. eq_by_cmp key_cmp k q ≡ b → b ≡ false) [
      | true ↦ λ e. absurd (h (key_cmp-IsAntisymmetric k q (is_equal _ e)))
      | false ↦
          λ e. refl
    ] refl

-- a row of the joined rows is in its bucket
pub get-joined : (ms : List Bucket) (d : ℕ) (n : List ℕ) → IsPlaced ms → get (joined ms) (d, n) ≡ get (bucket_at ms (8 * d + bucket n)) n
unfolding Placed_from
get-joined ms d n h =
    get-from_entries key_cmp_total (rows_from 0 ms) (d, n)
    ∙ find_from 0 ms d n (8 * d + bucket n) (λ k name some. let e = h.placed k name some in omega arith) (omega arith)

-- two pairs of joined rows and a bucket's rows that find alike are equal
same_rows : (m n : FinMap key_cmp ℕ) → ((d : ℕ) (name : List ℕ) → get m (d, name) ≡ get n (d, name)) → m ≡ n
same_rows m n h = same_map key_cmp_total key_cmp-IsAntisymmetric m n (λ q. h q.0 q.1)

pub bucket_at_set : (ms : List Bucket) (i j : ℕ) (m : Bucket) → i < length ms → bucket_at (set ms i m) j ≡ cond (nat_eq j i) m (bucket_at ms j)
bucket_at_set ms i j m lt =
    elim (nat_eq j i) as (λ b. nat_eq j i ≡ b → bucket_at (set ms i m) j ≡ cond b m (bucket_at ms j)) [
      | true ↦ λ e. ap (bucket_at (set ms i m)) (eqb-true _ _ e) ∙ get_or-set_same ms i m empty lt
      | false ↦ λ e. get_or-set_other ms i j m empty (eqb-false _ _ e)
    ] refl

some_of : {X : Type 0} (o p : Option X) → o ≡ p → IsSome o → IsSome p
some_of o p e h = subst IsSome e h

-- the rows of a bucket with one more name are that name's and the old ones
inserted_some : (m : Bucket) (name other : List ℕ) (x : ℕ) → IsSome (get (insert m name x) other) → (name ≡ other) ⊎ IsSome (get m other)
inserted_some m name other x some =
    elim (eq_by_cmp name_cmp other name) as (λ b. eq_by_cmp name_cmp other name ≡ b → IsSome (cond b (Some x) (get m other))
    → (name ≡ other) ⊎ IsSome (get m other)) [
      | true ↦ λ e h. inl (sym (name_cmp-IsAntisymmetric other name (is_equal _ e)))
      | false ↦ λ e h. inr h
    ] refl (some_of _ _ (get-insert nat_list_cmp_total m name x other) some)

-- one more row in the bucket of its name keeps the names in their buckets
pub IsPlaced-insert : (ms : List Bucket) (i : ℕ) (name : List ℕ) (x : ℕ) → IsPlaced ms → i < length ms → bucket name ≡ i % 8 → get (bucket_at ms i) name ≡ None
    → len (bucket_at ms i) < 4096 → IsPlaced (set ms i (insert (bucket_at ms i) name x))
IsPlaced-insert ms i name x h lt e none room =
    let new = insert (bucket_at ms i) name x in
    let at : (place : ℕ) → bucket_at (set ms i new) place ≡ cond (nat_eq place i) new (bucket_at ms place) = λ place. bucket_at_set ms i place new lt in
    let longer : len new ≡ len (bucket_at ms i) + 1 =
    len-insert nat_list_cmp_total (bucket_at ms i) name x
    ∙ ap (λ (o : Option ℕ). cond (is_some o) (len (bucket_at ms i)) (len (bucket_at ms i) + 1)) none in
    record {
      placed =
          λ place other some. elim (nat_eq place i) as (λ b. nat_eq place i ≡ b → IsSome (get (cond b new (bucket_at ms place)) other)
          → bucket other ≡ place % 8) [
            | true ↦ λ t g. elim (inserted_some (bucket_at ms i) name other x g) [
              | inl same ↦ ap bucket (sym same) ∙ e ∙ ap (λ p. p % 8) (sym (eqb-true _ _ t))
              | inr old ↦ h.placed i other old ∙ ap (λ p. p % 8) (sym (eqb-true _ _ t))
            ]
            | false ↦ λ t g. h.placed place other g
          ] refl (some_of _ _ (ap (λ m. get m other) (at place)) some);
      full =
          λ place. elim (nat_eq place i) as (λ b. len (bucket_at (set ms i new) place) ≡ len (cond b new (bucket_at ms place))
          → len (bucket_at (set ms i new) place) ≤ 4096) [
            | true ↦ λ t. omega arith
            | false ↦ λ t. let f = h.full place in omega arith
          ] (ap len (at place));
    }

-- to put a row into its bucket is to put it among all rows
pub joined-insert : (ms : List Bucket) (d : ℕ) (name : List ℕ) (x : ℕ) → IsPlaced ms → 8 * d + bucket name < length ms
    → get (bucket_at ms (8 * d + bucket name)) name ≡ None → len (bucket_at ms (8 * d + bucket name)) < 4096
    → joined (set ms (8 * d + bucket name) (insert (bucket_at ms (8 * d + bucket name)) name x)) ≡ insert (joined ms) (d, name) x
joined-insert ms d name x h lt none room =
    let i = 8 * d + bucket name in
    let new = insert (bucket_at ms i) name x in
    let small = bucket_small name in
    let placed = IsPlaced-insert ms i name x h lt (omega arith) none room in
    same_rows _ _ (λ e other.
    get-joined (set ms i new) e other placed
    ∙ ap (λ m. get m other) (bucket_at_set ms i (8 * e + bucket other) new lt)
    ∙ found e other (bucket_small other)
    ∙ sym (get-insert key_cmp_total (joined ms) (d, name) x (e, other)))
  where
    found : (e : ℕ) (other : List ℕ) → bucket other < 8
        → get
        (cond (nat_eq (8 * e + bucket other) (8 * d + bucket name)) (insert (bucket_at ms (8 * d + bucket name)) name x)
        (bucket_at ms (8 * e + bucket other)))
        other
        ≡ cond (eq_by_cmp key_cmp (e, other) (d, name)) (Some x) (get (joined ms) (e, other))
    found e other small =
        let i = 8 * d + bucket name in
        let new = insert (bucket_at ms i) name x in
        let old = get-joined ms e other h in
        elim (nat_eq (8 * e + bucket other) i) as (λ t. nat_eq (8 * e + bucket other) i ≡ t
        → get (cond t new (bucket_at ms (8 * e + bucket other))) other
        ≡ cond (eq_by_cmp key_cmp (e, other) (d, name)) (Some x) (get (joined ms) (e, other))) [
          | true ↦ λ t.
              let there : 8 * e + bucket other ≡ 8 * d + bucket name = eqb-true _ _ t in
              let b = bucket_small name in
              let d_is : e ≡ d = omega arith in
              get-insert nat_list_cmp_total (bucket_at ms i) name x other
              ∙ ap (λ b. cond b (Some x) (get (bucket_at ms i) other))
              (sym (same_key e d other name ∙ ap (λ b. cond b (eq_by_cmp name_cmp other name) false) (eq-eqb e d d_is)))
              ∙ ap (cond (eq_by_cmp key_cmp (e, other) (d, name)) (Some x)) (ap (λ j. get (bucket_at ms j) other) (sym there) ∙ sym old)
          | false ↦
              λ t. sym old
              ∙ ap (λ b. cond b (Some x) (get (joined ms) (e, other)))
              (sym (other_key (e, other) (d, name) (λ same. eqb-false _ _ t (ap (λ (k : Key). 8 * k.0 + bucket k.1) same))))
        ] refl

sum_of : (a b n m : ℕ) → a ≤ 4096 → b ≤ 4096 * n → m ≡ a + b → m ≤ 4096 * suc n
sum_of a b n m x y e = omega arith

length-rows_from : (place : ℕ) (ms : List Bucket) → ((k : ℕ) → len (bucket_at ms k) ≤ 4096) → length (rows_from place ms) ≤ 4096 * length ms
length-rows_from place [] h = omega arith
length-rows_from place (m ∷ ms) h =
    sum_of (len m) (length (rows_from (suc place) ms)) (length ms) _ (h zero) (length-rows_from (suc place) ms (λ k. h (suc k)))
    (length-append (map (in_directory (place / 8)) (entries m)) (rows_from (suc place) ms)
    ∙ ap (λ l. l + length (rows_from (suc place) ms)) (length-map (entries m) (in_directory (place / 8)) ∙ sym (len-entries m)))

-- no more rows than the buckets can hold
pub len-joined : (ms : List Bucket) → IsPlaced ms → len (joined ms) ≤ 4096 * length ms
len-joined ms h =
    let a = length-from_entries key_cmp_total (rows_from 0 ms) in
    let b = length-rows_from 0 ms h.full in
    omega arith

-- an empty bucket behind the last
bucket_at-push : (ms : List Bucket) (k : ℕ) → bucket_at (ms ++ empty ∷ []) k ≡ bucket_at ms k
bucket_at-push [] zero = refl
bucket_at-push [] (suc k) = refl
bucket_at-push (m ∷ ms) zero = refl
bucket_at-push (m ∷ ms) (suc k) = bucket_at-push ms k

pub IsPlaced-push : (ms : List Bucket) → IsPlaced ms → IsPlaced (ms ++ empty ∷ [])
IsPlaced-push ms h = record {
  placed = λ place name some. h.placed place name (some_of _ _ (ap (λ m. get m name) (bucket_at-push ms place)) some);
  full = λ place. subst (λ m. len m ≤ 4096) (sym (bucket_at-push ms place)) (h.full place);
}

-- changes nothing
pub joined-push : (ms : List Bucket) → IsPlaced ms → joined (ms ++ empty ∷ []) ≡ joined ms
joined-push ms h =
    same_rows _ _
    (λ d name. get-joined _ d name (IsPlaced-push ms h) ∙ ap (λ m. get m name) (bucket_at-push ms (8 * d + bucket name)) ∙ sym (get-joined ms d name h))

-- how many rows pass a test, once there is one more
pub count-insert : (rows : FinMap key_cmp ℕ) (k : Key) (x : ℕ) (p : Key × ℕ → Bool) → get rows k ≡ None
    → count_by p (entries (insert rows k x)) ≡ count_by p (entries rows) + cond (p (k, x)) 1 0
count-insert rows k x p none =
    ap (count_by p) (entries-insert key_cmp_total rows k x) ∙ count-put key_cmp p k x (entries rows) (sym (get-entries rows k) ∙ none)

-- no more rows pass a test than there are
pub count-joined : (ms : List Bucket) (p : Key × ℕ → Bool) → IsPlaced ms → count_by p (entries (joined ms)) ≤ 4096 * length ms
count-joined ms p h =
    let a = count_by-le-length p (entries (joined ms)) in
    let b = len-joined ms h in
    let c = len-entries (joined ms) in
    omega arith
