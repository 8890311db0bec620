-- Eight buckets tell whether a directory has a row.
use Rattle.std.proofs.Common.{◌≡◌, ◌≢◌, ℕ, ◌+◌, ◌<◌, ◌≤◌, Bool, true, false, cond, List, [], ◌∷◌, Option, None, inl, inr, refl, sym, ap, subst, ◌∙◌, arith, nat_eq}
use borrow.Author.Tests.{eqb-true, eqb-false, eq-eqb}
use Rattle.std.specs.Cmp.Lexicographic.{nat_list_cmp_total}
use Rattle.std.specs.FinMap.{FinMap, get, len, empty, empty_of_len, get-empty, len-empty, same_map}
use Rattle.std.proofs.lemmas.Bool.{false_from_ne_true, and_from}
use Rattle.sfs_base.specs.Name.{bucket as name_bucket}
use Rattle.sfs_base.proofs.BasicTruth.{and_first, and_second, true_or_false}
use Rattle.tree_laws.specs.Order.{name_cmp}
use Rattle.tree_laws.specs.Tree.{TreeState, row_count, bucket_rows}
use Rattle.tree_laws.proofs.Joined.{name_cmp-IsAntisymmetric, bucket_small}
use Rattle.tree_laws.proofs.Names.{get-own_bucket, get-names_where}
use Rattle.tree_laws.proofs.RowFacts.{no_rows, has_row, some_not_none}
use Rattle.mem_values.specs.declared.bucket.Bucket.{Bucket}
use Rattle.mem_rename.specs.Sights.{are_bare, ShowBucketsFrom}

no_either : (b : Bool) → ◌≡◌ {A = Option ℕ} (cond b None None) None
no_either true = refl
no_either false = refl

module _ (tree : TreeState) (directory : ℕ) where
  abbrev rows_in : ℕ → FinMap name_cmp ℕ
  rows_in number = bucket_rows directory number tree.rows

  -- a bucket of a directory without rows has none
  bare_bucket : row_count tree directory ≡ 0 → (number : ℕ) → len (rows_in number) ≡ 0
  bare_bucket none number =
      ap len (same_map nat_list_cmp_total name_cmp-IsAntisymmetric (rows_in number) empty (λ n.
      get-names_where directory (λ name. nat_eq (name_bucket name) number) tree.rows n
      ∙ (ap (λ o. cond (nat_eq (name_bucket n) number) o None) (no_rows tree directory none n)
      ∙ (no_either (nat_eq (name_bucket n) number) ∙ sym (get-empty name_cmp n)))))
      ∙ len-empty name_cmp ℕ

  bare_shown : row_count tree directory ≡ 0 → (number : ℕ) (buckets : List Bucket) → ShowBucketsFrom tree directory number buckets → are_bare buckets ≡ true
  bare_shown none number [] show = refl
  bare_shown none number (b ∷ buckets) show =
      and_from _ _ (eq-eqb (len b.rows) 0 (ap len show.0.rows ∙ bare_bucket none number)) (bare_shown none (number + 1) buckets show.1)

  -- of bare buckets each one from the first on has no row
  each_bare : (number : ℕ) (buckets : List Bucket) → ShowBucketsFrom tree directory number buckets → are_bare buckets ≡ true → (k : ℕ) → number ≤ k → k < 8
      → len (rows_in k) ≡ 0
  each_bare number [] end bare k le lt = absurd (past end le lt)
    where
      past : {n k : ℕ} → n ≡ 8 → n ≤ k → k < 8 → ⊥
      past e le lt = omega (arith, e, le, lt)
  each_bare number (b ∷ buckets) show bare k le lt = elim (true_or_false (nat_eq number k)) [
    | inl here ↦ subst (λ (z : ℕ). len (rows_in z) ≡ 0) (eqb-true _ _ here) (sym (ap len show.0.rows) ∙ eqb-true _ _ (and_first _ _ bare))
    | inr later ↦ each_bare (number + 1) buckets show.1 (and_second _ _ bare) k (further (eqb-false _ _ later) le) lt
  ]
    where
      further : {n k : ℕ} → n ≢ k → n ≤ k → n + 1 ≤ k
      further other le = omega (arith, other, le)

  -- where all eight are bare, the directory has no row
  rows_counted : (buckets : List Bucket) → ShowBucketsFrom tree directory 0 buckets → are_bare buckets ≡ true → row_count tree directory ≢ 0 → ⊥
  rows_counted buckets show bare some =
      let row = has_row tree directory some in
      let none = each_bare 0 buckets show bare (name_bucket row.0) (omega arith) (bucket_small row.0) in
      some_not_none (get (rows_in (name_bucket row.0)) row.0) row.1 (get-own_bucket directory row.0 tree.rows ∙ row.2)
      (ap (λ m. get m row.0) (empty_of_len (rows_in (name_bucket row.0)) none) ∙ get-empty name_cmp row.0)

  -- So all eight buckets are bare exactly where the directory has no row.
  pub bare_told : (buckets : List Bucket) → ShowBucketsFrom tree directory 0 buckets → are_bare buckets ≡ nat_eq (row_count tree directory) 0
  bare_told buckets show = elim (true_or_false (nat_eq (row_count tree directory) 0)) [
    | inl none ↦ bare_shown (eqb-true _ _ none) 0 buckets show ∙ sym none
    | inr some ↦ false_from_ne_true (are_bare buckets) (λ bare. rows_counted buckets show bare (eqb-false _ _ some)) ∙ sym some
  ]
