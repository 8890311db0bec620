-- Rows of two maps that stand one to one are counted alike.
use Rattle.std.proofs.Common.{◌≡◌, ◌≢◌, ℕ, ◌+◌, Bool, true, false, cond, T, List, [], ◌∷◌, Option, Some, inl, inr, refl, sym, ap, ◌∙◌, arith, count_by}
use Rattle.std.specs.FinMap.{FinMap, find, entries, get, remove, is_sorted, get-entries, entries_sorted}
use Rattle.tree_laws.specs.Order.{Key, key_cmp}
use Rattle.tree_laws.proofs.Joined.{key_cmp_total, key_cmp-IsAntisymmetric, count-cons}
use Rattle.tree_laws.proofs.Counting.{count-remove, count_none, stayed, get_other-remove}
use Rattle.sfs_base.proofs.BasicTruth.{not_both}
use Rattle.sfs_base.proofs.BasicOptions.{none_some}
use Rattle.tree_laws.proofs.Found.{found_cases, found_first, found_behind, found_apart}
use Rattle.sfs_base.proofs.BasicNumbers.{zero_plus}

-- Entries that pass a test stand one to one with the rows of a map that pass another: each has its row, each row is an entry's, and no
-- two entries have one row.
pub record ArePaired (p q : Key × ℕ → Bool) (to : Key × ℕ → Key × ℕ) (found : Key → Option ℕ) (rows : FinMap key_cmp ℕ) : Type 0 where
  pub forth : (k : Key) (x : ℕ) → found k ≡ Some x → p (k, x) ≡ true → (get rows (to (k, x)).0 ≡ Some (to (k, x)).1) × (q (to (k, x)) ≡ true)
  pub back : (l : Key) (y : ℕ) → get rows l ≡ Some y → q (l, y) ≡ true → (k : Key) × (x : ℕ) × (found k ≡ Some x) × (p (k, x) ≡ true) × ((to (k, x)).0 ≡ l)
  pub once : (k l : Key) (x y : ℕ) → found k ≡ Some x → p (k, x) ≡ true → found l ≡ Some y → p (l, y) ≡ true → (to (k, x)).0 ≡ (to (l, y)).0 → k ≡ l

module _ (p q : Key × ℕ → Bool) (to : Key × ℕ → Key × ℕ) where
  abbrev found_in : List (Key × ℕ) → Key → Option ℕ
  found_in es k = find key_cmp k es

  same_entry : (k : Key) (x : ℕ) (e : Key × ℕ) → k ≡ e.0 → x ≡ e.1 → ◌≡◌ {A = Key × ℕ} (k, x) e
  same_entry k x e a b = λ i. (a i, b i)

  behind : (e : Key × ℕ) (es : List (Key × ℕ)) → T (is_sorted key_cmp (e ∷ es)) → (k : Key) (x : ℕ) → found_in es k ≡ Some x → found_in (e ∷ es) k ≡ Some x
  behind e es s k x is = found_behind key_cmp_total key_cmp-IsAntisymmetric k x e es s is

  fewer : (e : Key × ℕ) (es : List (Key × ℕ)) → T (is_sorted key_cmp (e ∷ es)) → p e ≡ false → (rows : FinMap key_cmp ℕ) →
      ArePaired p q to (found_in (e ∷ es)) rows → ArePaired p q to (found_in es) rows
  fewer e es s fails rows h = record {
    forth = λ k x is. h.forth k x (behind e es s k x is);
    back = λ l y is passes.
        let b = h.back l y is passes in
        elim (found_cases key_cmp_total key_cmp-IsAntisymmetric b.0 b.1 e es b.2) as (λ _. (k : Key) × (x : ℕ) × (found_in es k ≡ Some x) × (p (k, x) ≡ true)
        × ((to (k, x)).0 ≡ l)) [
          | inl same ↦ absurd (not_both (ap p (sym (same_entry b.0 b.1 e same.0 same.1)) ∙ b.3) fails)
          | inr found ↦ (b.0, b.1, found, b.3, b.4)
        ];
    once = λ k l x y a pa b pb. h.once k l x y (behind e es s k x a) pa (behind e es s l y b) pb;
  }

  without : (e : Key × ℕ) (es : List (Key × ℕ)) → T (is_sorted key_cmp (e ∷ es)) → p e ≡ true → (rows : FinMap key_cmp ℕ) →
      ArePaired p q to (found_in (e ∷ es)) rows → ArePaired p q to (found_in es) (remove rows (to e).0)
  without e es s passes rows h = record {
    forth = λ k x is pass.
        let f = h.forth k x (behind e es s k x is) pass in
        (get_other-remove rows (to e).0 (to (k, x)).0 (λ same. apart k x is (h.once k e.0 x e.1 (behind e es s k x is) pass first passes same)) ∙ f.0, f.1);
    back = λ l y is pass.
        let was = stayed rows (to e).0 l y is in
        let b = h.back l y was.1 pass in
        elim (found_cases key_cmp_total key_cmp-IsAntisymmetric b.0 b.1 e es b.2) as (λ _. (k : Key) × (x : ℕ) × (found_in es k ≡ Some x) × (p (k, x) ≡ true)
        × ((to (k, x)).0 ≡ l)) [
          | inl same ↦ absurd (was.0 (sym b.4 ∙ ap (λ (r : Key × ℕ). (to r).0) (same_entry b.0 b.1 e same.0 same.1)))
          | inr found ↦ (b.0, b.1, found, b.3, b.4)
        ];
    once = λ k l x y a pa b pb. h.once k l x y (behind e es s k x a) pa (behind e es s l y b) pb;
  }
    where
      first : find key_cmp e.0 (e ∷ es) ≡ Some e.1
      first = found_first key_cmp_total key_cmp-IsAntisymmetric e es

      apart : (k : Key) (x : ℕ) → find key_cmp k es ≡ Some x → k ≢ e.0
      apart k x is = found_apart key_cmp_total key_cmp-IsAntisymmetric k x e es s is

  paired_list : (es : List (Key × ℕ)) → T (is_sorted key_cmp es) → (rows : FinMap key_cmp ℕ) → ArePaired p q to (found_in es) rows →
      count_by p es ≡ count_by q (entries rows)
  paired_list [] s rows h = sym (count_none q rows (λ k x is. no k x is (q (k, x)) refl))
    where
      no : (k : Key) (x : ℕ) → get rows k ≡ Some x → (b : Bool) → q (k, x) ≡ b → q (k, x) ≡ false
      no k x is false e = e
      no k x is true e = absurd (none_some (h.back k x is e).2)
  paired_list (e ∷ es) s rows h =
      elim (p e) as (λ b. p e ≡ b → count_by p (e ∷ es) ≡ count_by q (entries rows)) [
        | true ↦ λ t.
            let f = h.forth e.0 e.1 (found_first key_cmp_total key_cmp-IsAntisymmetric e es) t in
            let rest = paired_list es (Rattle.sfs_base.proofs.BasicTruth.both_second _ _ s) (remove rows (to e).0) (without e es s t rows h) in
            let less = count-remove rows (to e).0 (to e).1 q f.0 in
            count-cons p e es ∙ ap (λ b. cond b 1 0 + count_by p es) t ∙ one_more _ _ _ (q (to e)) f.1 rest less
        | false ↦
            λ t. count-cons p e es ∙ ap (λ b. cond b 1 0 + count_by p es) t
            ∙ ap (λ n. 0 + n) (paired_list es (Rattle.sfs_base.proofs.BasicTruth.both_second _ _ s) rows (fewer e es s t rows h)) ∙ zero_plus _
      ] refl
    where
      one_more : (a b c : ℕ) (t : Bool) → t ≡ true → a ≡ b → c ≡ b + cond t 1 0 → 1 + a ≡ c
      one_more a b c true t e f = omega arith
      one_more a b c false t e f = absurd (cc)

-- so they are counted alike
pub count_paired : (p q : Key × ℕ → Bool) (to : Key × ℕ → Key × ℕ) (rows other : FinMap key_cmp ℕ) → ArePaired p q to (get rows) other →
    count_by p (entries rows) ≡ count_by q (entries other)
count_paired p q to rows other h =
    paired_list p q to (entries rows) (entries_sorted rows) other (record {
      forth = λ k x is. h.forth k x (get-entries rows k ∙ is);
      back = λ l y is pass. let b = h.back l y is pass in (b.0, b.1, sym (get-entries rows b.0) ∙ b.2, b.3, b.4);
      once = λ k l x y a pa b pb. h.once k l x y (get-entries rows k ∙ a) pa (get-entries rows l ∙ b) pb;
    })
