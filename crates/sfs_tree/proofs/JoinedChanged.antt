-- A row that goes from its bucket, or gets another child there.
use Rattle.std.proofs.Common.{◌≡◌, ℕ, ◌+◌, ◌-◌, ◌*◌, ◌/◌, ◌%◌, ◌<◌, ◌≤◌, Bool, true, false, cond, List, length, set, Option, Some, None, IsSome, ltb, refl, sym, ap, subst, ◌∙◌, arith, nat_eq}
use Rattle.std.specs.Ordering.{eq_by_cmp}
use Rattle.std.specs.Cmp.Lexicographic.{nat_list_cmp_total}
use Rattle.std.specs.FinMap.{empty, get, insert, remove, len, get-insert, get-remove, get-empty, len-insert, len-remove, contains_key}
use borrow.Author.Tests.{eqb-true, eq-eqb, eqb-false, ltb-true, ltb-false}
use Rattle.std.proofs.lemmas.List.{get_or_past, length-set}
use Rattle.sfs_base.specs.Name.{bucket}
use Rattle.tree_laws.specs.Order.{name_cmp, Key, key_cmp}
use Rattle.sfs_tree.specs.RowsState.{RowsState}
use Rattle.tree_laws.specs.Buckets.{Bucket, bucket_at, joined, IsPlaced, IsBuilt}
use Rattle.tree_laws.proofs.Joined.{key_cmp_total, name_cmp-IsAntisymmetric, is_equal, same_key, other_key, bucket_small, bucket_at_set, get-joined, len-joined}
use Rattle.tree_laws.proofs.Counting.{same_rows}
use Rattle.sfs_base.proofs.BasicOptions.{none_not_some, some_true}

module _ (ms : List Bucket) (d : ℕ) (name : List ℕ) (v : Option ℕ) (new : Bucket) (h : IsPlaced ms) (lt : 8 * d + bucket name < length ms)
    (is : (other : List ℕ) → get new other ≡ cond (eq_by_cmp name_cmp other name) v (get (bucket_at ms (8 * d + bucket name)) other))
    (short : len new ≤ 4096) where
  -- names stay in their buckets where one bucket changes at a name of its own
  pub IsPlaced-changed : IsPlaced (set ms (8 * d + bucket name) new)
  IsPlaced-changed =
      let small = bucket_small name in
      let i = 8 * d + bucket name in
      let at : (place : ℕ) → bucket_at (set ms i new) place ≡ cond (nat_eq place i) new (bucket_at ms place) = λ place. bucket_at_set ms i place new lt in
      record {
        placed =
            λ place other some. elim (nat_eq place i) as (λ b. nat_eq place i ≡ b → IsSome (get (cond b new (bucket_at ms place)) other)
            → bucket other ≡ place % 8) [
              | true ↦ λ t g. own other g ∙ ap (λ p. p % 8) (sym (eqb-true _ _ t))
              | false ↦ λ t g. h.placed place other g
            ] refl (subst IsSome (ap (λ m. get m other) (at place)) some);
        full =
            λ place. elim (nat_eq place i) as (λ b. len (bucket_at (set ms i new) place) ≡ len (cond b new (bucket_at ms place))
            → len (bucket_at (set ms i new) place) ≤ 4096) [
              | true ↦ λ t. omega arith
              | false ↦ λ t. let f = h.full place in omega arith
            ] (ap len (at place));
      }
    where
      own : (other : List ℕ) → IsSome (get new other) → bucket other ≡ (8 * d + bucket name) % 8
      own other some =
          let small = bucket_small name in
          elim (eq_by_cmp name_cmp other name) as (λ b. eq_by_cmp name_cmp other name ≡ b → IsSome (cond b v (get (bucket_at ms (8 * d + bucket name)) other))
          → bucket other ≡ (8 * d + bucket name) % 8) [
            | true ↦ λ t g. let same : bucket other ≡ bucket name = ap bucket (name_cmp-IsAntisymmetric other name (is_equal _ t)) in omega arith
            | false ↦ λ t g. h.placed (8 * d + bucket name) other g
          ] refl (subst IsSome (is other) some)

  -- and all rows change at that row alone
  pub get-changed : (q : Key) → get (joined (set ms (8 * d + bucket name) new)) q ≡ cond (eq_by_cmp key_cmp q (d, name)) v (get (joined ms) q)
  get-changed q =
      get-joined (set ms (8 * d + bucket name) new) q.0 q.1 IsPlaced-changed
      ∙ ap (λ m. get m q.1) (bucket_at_set ms (8 * d + bucket name) (8 * q.0 + bucket q.1) new lt)
      ∙ found q.0 q.1 (bucket_small q.1)
    where
      found : (e : ℕ) (other : List ℕ) → bucket other < 8
          → get (cond (nat_eq (8 * e + bucket other) (8 * d + bucket name)) new (bucket_at ms (8 * e + bucket other))) other
          ≡ cond (eq_by_cmp key_cmp (e, other) (d, name)) v (get (joined ms) (e, other))
      found e other small =
          let i = 8 * d + bucket name in
          let old = get-joined ms e other h in
          elim (nat_eq (8 * e + bucket other) i) as (λ t. nat_eq (8 * e + bucket other) i ≡ t
          → get (cond t new (bucket_at ms (8 * e + bucket other))) other ≡ cond (eq_by_cmp key_cmp (e, other) (d, name)) v (get (joined ms) (e, other))) [
            | true ↦ λ t.
                let there : 8 * e + bucket other ≡ 8 * d + bucket name = eqb-true _ _ t in
                let b = bucket_small name in
                let d_is : e ≡ d = omega arith in
                is other
                ∙ ap (λ b. cond b v (get (bucket_at ms i) other))
                (sym (same_key e d other name ∙ ap (λ b. cond b (eq_by_cmp name_cmp other name) false) (eq-eqb e d d_is)))
                ∙ ap (cond (eq_by_cmp key_cmp (e, other) (d, name)) v) (ap (λ j. get (bucket_at ms j) other) (sym there) ∙ sym old)
            | false ↦
                λ t. sym old
                ∙ ap (λ b. cond b v (get (joined ms) (e, other)))
                (sym (other_key (e, other) (d, name) (λ same. eqb-false _ _ t (ap (λ (k : Key). 8 * k.0 + bucket k.1) same))))
          ] refl

-- a row of what is shown stands
pub row_stands : {shown : RowsState} (now : RowsState) (k : Key) → shown ≡ now → IsSome (get now.rows k) → IsSome (get shown.rows k)
row_stands now k same = subst (λ (s : RowsState). IsSome (get s.rows k)) (sym same)

module _ (ms : List Bucket) (d : ℕ) (name : List ℕ) (h : IsPlaced ms) (some : IsSome (get (joined ms) (d, name))) where
  -- a row that is some_true lies in a bucket that is some_true
  pub row_within : 8 * d + bucket name < length ms
  row_within =
      elim (ltb (8 * d + bucket name) (length ms)) as (λ b. ltb (8 * d + bucket name) (length ms) ≡ b → 8 * d + bucket name < length ms) [
        | true ↦ λ t. ltb-true _ _ t
        | false ↦
            λ t. absurd
            (none_not_some _
            (get-joined ms d name h ∙ ap (λ m. get m name) (get_or_past ms (8 * d + bucket name) empty (ltb-false _ _ t)) ∙ get-empty name_cmp name)
            some)
      ] refl

  pub row_there : IsSome (get (bucket_at ms (8 * d + bucket name)) name)
  row_there = subst IsSome (get-joined ms d name h) some

  short_removed : len (remove (bucket_at ms (8 * d + bucket name)) name) ≤ 4096
  short_removed =
      less (contains_key (bucket_at ms (8 * d + bucket name)) name) _ _ (len-remove nat_list_cmp_total (bucket_at ms (8 * d + bucket name)) name)
      (h.full (8 * d + bucket name))
    where
      less : (b : Bool) (a n : ℕ) → a ≡ cond b (n - 1) n → n ≤ 4096 → a ≤ 4096
      less true a n e le = omega arith
      less false a n e le = omega arith

  pub IsPlaced-removed : IsPlaced (set ms (8 * d + bucket name) (remove (bucket_at ms (8 * d + bucket name)) name))
  IsPlaced-removed = IsPlaced-changed ms d name None _ h row_within (get-remove nat_list_cmp_total (bucket_at ms (8 * d + bucket name)) name) short_removed

  -- to take a row out of its bucket is to take it from all rows
  pub joined-removed : joined (set ms (8 * d + bucket name) (remove (bucket_at ms (8 * d + bucket name)) name)) ≡ remove (joined ms) (d, name)
  joined-removed =
      same_rows _ _ (λ q.
      get-changed ms d name None _ h row_within (get-remove nat_list_cmp_total (bucket_at ms (8 * d + bucket name)) name) short_removed q
      ∙ sym (get-remove key_cmp_total (joined ms) (d, name) q))

  module _ (x : ℕ) where
    short_replaced : len (insert (bucket_at ms (8 * d + bucket name)) name x) ≤ 4096
    short_replaced =
        subst (λ n. n ≤ 4096)
        (sym
        (len-insert nat_list_cmp_total (bucket_at ms (8 * d + bucket name)) name x
        ∙ ap (λ b. cond b (len (bucket_at ms (8 * d + bucket name))) (len (bucket_at ms (8 * d + bucket name)) + 1)) (some_true _ row_there)))
        (h.full (8 * d + bucket name))

    pub IsPlaced-replaced : IsPlaced (set ms (8 * d + bucket name) (insert (bucket_at ms (8 * d + bucket name)) name x))
    IsPlaced-replaced =
        IsPlaced-changed ms d name (Some x) _ h row_within (get-insert nat_list_cmp_total (bucket_at ms (8 * d + bucket name)) name x) short_replaced

    -- to give a row another child in its bucket is to give it that among all rows
    pub joined-replaced : joined (set ms (8 * d + bucket name) (insert (bucket_at ms (8 * d + bucket name)) name x)) ≡ insert (joined ms) (d, name) x
    joined-replaced =
        same_rows _ _ (λ q.
        get-changed ms d name (Some x) _ h row_within (get-insert nat_list_cmp_total (bucket_at ms (8 * d + bucket name)) name x) short_replaced q
        ∙ sym (get-insert key_cmp_total (joined ms) (d, name) x q))

-- no more rows than the directories can have
pub len-built : (ms : List Bucket) → IsBuilt ms → len (joined ms) ≤ 32768 * (length ms / 8)
len-built ms h = let a = len-joined ms h.rows in let b = h.eight in omega arith

pub IsBuilt-set : (ms : List Bucket) (i : ℕ) (m : Bucket) → IsBuilt ms → IsPlaced (set ms i m) → IsBuilt (set ms i m)
IsBuilt-set ms i m h p = record { eight = length-set ms i m ∙ h.eight ∙ ap (λ n. 8 * (n / 8)) (sym (length-set ms i m)); rows = p }

pub places-set : (ms : List Bucket) (i : ℕ) (m : Bucket) → length (set ms i m) / 8 ≡ length ms / 8
places-set ms i m = ap (λ n. n / 8) (length-set ms i m)
