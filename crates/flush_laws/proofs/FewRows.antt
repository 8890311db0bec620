-- A tree whose directories have numbers of inodes has few rows, so a link count fits a record.
use Rattle.std.proofs.Common.{◌≡◌, ℕ, zero, suc, ◌+◌, ◌*◌, ◌<◌, ◌≤◌, ◌^◌, Bool, true, false, cond, List, [], ◌∷◌, length, Option, Some, inl, inr, refl, sym, ap, subst, ◌∙◌, arith, nat_eq, nat_lt}
use Rattle.std.specs.Prelude.{◌⊎◌, count_by}
use Rattle.std.specs.FinMap.{get, len, entries, len-entries}
use Rattle.std.specs.Option.{option_map_or}
use borrow.Author.Tests.{eqb-true, eq-eqb, lt-ltb}
use Rattle.std.proofs.lemmas.Bool.{cases_Bool, cases_lt, eqb-false, le-ltb}
use Rattle.sfs_base.proofs.BasicNumbers.{not_same}
use Rattle.sfs_base.proofs.BasicTruth.{true_not_false}
use Rattle.tree_laws.specs.Buckets.{stands_in}
use Rattle.tree_laws.specs.Order.{Key}
use Rattle.tree_laws.specs.Sound.{IsWithinLimits}
use Rattle.tree_laws.specs.Tree.{TreeState, BUCKET_ROWS, names_it, holds_directory, count_of, links_of, is_directory, row_of}
use Rattle.tree_laws.proofs.Counting.{count-le-len, count_agree, found, Found}
use Rattle.tree_laws.proofs.Joined.{count-cons}
use Rattle.tree_laws.proofs.Names.{len-names_of}
use Rattle.image_laws.specs.Renamed.{Numbering}
use Rattle.image_laws.proofs.Sizes.{rows-le}

-- what is below a number or is it
module _ {X : Type 0} (f : X → ℕ) where
  next_counted : (n : ℕ) (xs : List X) → count_by (λ x. nat_lt (f x) (suc n)) xs ≡ count_by (λ x. nat_lt (f x) n) xs + count_by (λ x. nat_eq (f x) n) xs
  next_counted n [] = refl
  next_counted n (x ∷ xs) =
      let rest = next_counted n xs in
      let all = count-cons (λ y. nat_lt (f y) (suc n)) x xs in
      let low = count-cons (λ y. nat_lt (f y) n) x xs in
      let own = count-cons (λ y. nat_eq (f y) n) x xs in
      let one = parts (f x) n in
      omega (arith, rest, all, low, own, one)
    where
      parts : (a n : ℕ) → cond (nat_lt a (suc n)) 1 0 ≡ cond (nat_lt a n) 1 0 + cond (nat_eq a n) 1 0
      parts a n = elim (cases_lt a n) [
        | inl low ↦
            (λ i. cond (lt-ltb a (suc n) (omega (arith, low)) i) 1 0)
            ∙ sym (λ i. cond (lt-ltb a n low i) 1 0 + cond (not_same a n (λ e. omega (arith, low, e)) i) 1 0)
        | inr high ↦ by_eq (cases_Bool (nat_eq a n)) high
      ]
        where
          by_eq : (nat_eq a n ≡ true) ⊎ (nat_eq a n ≡ false) → n ≤ a → cond (nat_lt a (suc n)) 1 0 ≡ cond (nat_lt a n) 1 0 + cond (nat_eq a n) 1 0
          by_eq (inl same) high =
              let is = eqb-true a n same in
              (λ i. cond (lt-ltb a (suc n) (omega (arith, is)) i) 1 0) ∙ sym (λ i. cond (le-ltb a n high i) 1 0 + cond (same i) 1 0)
          by_eq (inr other) high =
              let apart = eqb-false a n other in
              (λ i. cond (le-ltb a (suc n) (omega (arith, high, apart)) i) 1 0) ∙ sym (λ i. cond (le-ltb a n high i) 1 0 + cond (other i) 1 0)

  -- so there are no more than so many for each number
  few_below : (most n : ℕ) (xs : List X) → ((m : ℕ) → m < n → count_by (λ x. nat_eq (f x) m) xs ≤ most) → count_by (λ x. nat_lt (f x) n) xs ≤ n * most
  few_below most zero xs few = let low = none xs in omega (arith, low)
    where
      none : (xs : List X) → count_by (λ x. nat_lt (f x) 0) xs ≤ 0
      none [] = omega arith
      none (x ∷ xs) =
          let rest = none xs in
          let all = count-cons (λ y. nat_lt (f y) 0) x xs in
          let no : ◌≡◌ {A = ℕ} (cond (nat_lt (f x) 0) 1 0) 0 = ap (λ b. cond b 1 0) (le-ltb (f x) 0 (omega arith)) in
          omega (arith, rest, all, no)
  few_below most (suc n) xs few =
      let rest = few_below most n xs (λ m low. few m (omega arith)) in
      let own = few n (omega arith) in
      let all = next_counted n xs in
      omega (arith, rest, own, all)

module _ (num : Numbering) (tree : TreeState) (count : ℕ) (limits : IsWithinLimits tree)
    (once : (node twin i : ℕ) → num node ≡ Some i → num twin ≡ Some i → node ≡ twin)
    (holders : (directory : ℕ) (name : List ℕ) (child : ℕ) → row_of tree directory name ≡ Some child → (i : ℕ) × (num directory ≡ Some i) × (i < count)) where
  abbrev number : Key × ℕ → ℕ
  number e = option_map_or (λ i. i) (num e.0.0) 0

  abbrev most : ℕ
  most = 8 * BUCKET_ROWS

  of_number : (m : ℕ) → count_by (λ e. nat_eq (number e) m) (entries tree.rows) ≤ most
  of_number m = elim (cases_lt 0 (count_by (λ e. nat_eq (number e) m) (entries tree.rows))) [
    | inr none ↦ omega (arith, none)
    | inl some ↦ own (found (λ e. nat_eq (number e) m) tree.rows some)
  ]
    where
      own : Found (λ e. nat_eq (number e) m) tree.rows → count_by (λ e. nat_eq (number e) m) (entries tree.rows) ≤ most
      own one =
          let has = holders one.row.0.0 one.row.0.1 one.row.1 one.there in
          let is : has.0 ≡ m = ap (λ (o : Option ℕ). option_map_or (λ i. i) o 0) (sym has.1) ∙ eqb-true (number one.row) m one.passes in
          let same =
          count_agree (λ e. nat_eq (number e) m) (stands_in one.row.0.0) tree.rows (λ key child there. alike key child there one.row.0.0 has.0 has.1 is) in
          let rows = rows-le one.row.0.0 tree.rows (λ bucket low. limits.buckets one.row.0.0 bucket) in
          let all = len-names_of one.row.0.0 tree.rows in
          omega (arith, same, rows, all)
        where
          alike : (key : Key) (child : ℕ) → get tree.rows key ≡ Some child → (directory i : ℕ) → num directory ≡ Some i → i ≡ m
              → nat_eq (number (key, child)) m ≡ nat_eq key.0 directory
          alike key child there directory i at is = by (cases_Bool (nat_eq key.0 directory))
            where
              mine : (j : ℕ) × (num key.0 ≡ Some j) × (j < count)
              mine = holders key.0 key.1 child there

              by : (nat_eq key.0 directory ≡ true) ⊎ (nat_eq key.0 directory ≡ false) → nat_eq (number (key, child)) m ≡ nat_eq key.0 directory
              by (inl same) =
                  eq-eqb (number (key, child)) m
                  (ap (λ d. option_map_or (λ i. i) (num d) 0) (eqb-true key.0 directory same) ∙ ap (λ (o : Option ℕ). option_map_or (λ i. i) o 0) at ∙ is)
                  ∙ sym same
              by (inr other) = by_test (nat_eq (number (key, child)) m) refl ∙ sym other
                where
                  by_test : (b : Bool) → nat_eq (number (key, child)) m ≡ b → b ≡ false
                  by_test false e = refl
                  by_test true e =
                      let here : mine.0 ≡ i = ap (λ (o : Option ℕ). option_map_or (λ i. i) o 0) (sym mine.1) ∙ eqb-true (number (key, child)) m e ∙ sym is in
                      let same = once key.0 directory i (mine.1 ∙ ap Some here) at in
                      absurd (true_not_false (sym (eq-eqb key.0 directory same) ∙ other))

  pub few_rows : len tree.rows ≤ count * most
  few_rows =
      let below = few_below number most count (entries tree.rows) (λ m low. of_number m) in
      let all = count_agree (λ e. nat_lt (number e) count) (λ e. true) tree.rows (λ key child there.
      let has = holders key.0 key.1 child there in
      lt-ltb (number (key, child)) count (subst (λ n. n < count) (ap (λ (o : Option ℕ). option_map_or (λ i. i) o 0) (sym has.1)) has.2)) in
      let whole = every (entries tree.rows) in
      let long = len-entries tree.rows in
      omega (arith, below, all, whole, long)
    where
      every : (es : List (Key × ℕ)) → count_by (λ e. true) es ≡ length es
      every [] = refl
      every (e ∷ es) = let rest = every es in let one = count-cons (λ (x : Key × ℕ). true) e es in omega (arith, rest, one)

  -- so each link count fits a record
  pub links_fit : count ≤ 16384 → (node : ℕ) → links_of tree node < 2 ^ 32
  links_fit few node = by (is_directory tree node) refl
    where
      by : (b : Bool) → is_directory tree node ≡ b → cond b (2 + count_by (holds_directory tree node) (entries tree.rows)) (count_of tree.rows node) < 2 ^ 32
      by true e = let rows = few_rows in let own = count-le-len tree.rows (holds_directory tree node) in omega (arith, rows, own, few)
      by false e = let rows = few_rows in let own = count-le-len tree.rows (names_it node) in omega (arith, rows, own, few)
