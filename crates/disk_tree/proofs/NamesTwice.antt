-- When a name stands twice among rows.
use Rattle.std.proofs.Common.{◌≡◌, ℕ, zero, suc, ◌+◌, ◌<◌, ◌≤◌, Bool, true, false, cond, List, [], ◌∷◌, length, get_or, count_by, nat_lt, refl, sym, ap, ◌∙◌, arith, inl, inr}
use Rattle.std.specs.Prelude.{bytes_eq}
use Rattle.std.proofs.lemmas.Bool.{cases_Bool, lt-ltb, le-ltb}
use Rattle.std.proofs.lemmas.List.Folds.{list_any_at, list_any_none}
use Rattle.std.proofs.lemmas.List.Elements.{All-from_get_or}
use Rattle.sfs_base.proofs.BasicLists.{same_bytes, bytes_same}
use Rattle.tree_laws.proofs.Joined.{count-cons}
use Rattle.sfs_image.specs.Slot.{Row}
use Rattle.disk_tree.specs.Reached.{row_at}
use Rattle.disk_tree.specs.Rows.{NO_ROW, HaveOwnNames}
use Rattle.disk_tree.specs.Tests.{rows_named, has_twice}

module _ {X : Type 0} (p : X → Bool) (d : X) where
  one_counted : (xs : List X) (i : ℕ) → i < length xs → p (get_or xs i d) ≡ true → 0 < count_by p xs
  one_counted [] i within passes = absurd (omega arith)
  one_counted (x ∷ xs) zero within passes = (let c = count-cons p x xs ∙ ap (λ b. cond b 1 0 + count_by p xs) passes in omega arith)
  one_counted (x ∷ xs) (suc i) within passes = (let c = count-cons p x xs in let h = one_counted xs i (omega arith) passes in omega arith)

  pub two_counted : (xs : List X) (i j : ℕ) → i < j → j < length xs → p (get_or xs i d) ≡ true → p (get_or xs j d) ≡ true → 1 < count_by p xs
  two_counted [] i j less within first second = absurd (omega arith)
  two_counted (x ∷ xs) i zero less within first second = absurd (omega arith)
  two_counted (x ∷ xs) zero (suc j) less within first second =
      (let c = count-cons p x xs ∙ ap (λ b. cond b 1 0 + count_by p xs) first in let h = one_counted xs j (omega arith) second in omega arith)
  two_counted (x ∷ xs) (suc i) (suc j) less within first second =
      (let c = count-cons p x xs in let h = two_counted xs i j (omega arith) (omega arith) first second in omega arith)

  none_counted : (xs : List X) → ((i : ℕ) → i < length xs → p (get_or xs i d) ≡ true → ⊥) → count_by p xs ≡ 0
  none_counted [] never = refl
  none_counted (x ∷ xs) never = elim (cases_Bool (p x)) [
    | inl passes ↦ absurd (never 0 (omega arith) passes)
    | inr fails ↦
        (let c = count-cons p x xs ∙ ap (λ b. cond b 1 0 + count_by p xs) fails in let h = none_counted xs (λ i within. never (suc i) (omega arith)) in
        omega arith)
  ]

  pub few_counted : (xs : List X) → ((i j : ℕ) → i < j → j < length xs → p (get_or xs i d) ≡ true → p (get_or xs j d) ≡ true → ⊥) → count_by p xs ≤ 1
  few_counted [] never = omega arith
  few_counted (x ∷ xs) never = elim (cases_Bool (p x)) [
    | inl passes ↦ (let c = count-cons p x xs ∙ ap (λ b. cond b 1 0 + count_by p xs) passes in
        let h = none_counted xs (λ j within. never 0 (suc j) (omega arith) (omega arith) passes) in
        omega arith)
    | inr fails ↦ (let c = count-cons p x xs ∙ ap (λ b. cond b 1 0 + count_by p xs) fails in
        let h = few_counted xs (λ i j less within. never (suc i) (suc j) (omega arith) (omega arith)) in
        omega arith)
  ]

-- two rows of one name count
pub named_twice : (rows : List Row) (earlier at : ℕ) → earlier < at → at < length rows → (row_at rows earlier).name ≡ (row_at rows at).name
    → 1 < rows_named (row_at rows at).name rows
named_twice rows earlier at before within same =
    two_counted (λ (row : Row). bytes_eq (row_at rows at).name row.name) NO_ROW rows earlier at before within
    (ap (bytes_eq (row_at rows at).name) same ∙ same_bytes (row_at rows at).name) (same_bytes (row_at rows at).name)

-- rows with names of their own
pub own_names_counted : (rows : List Row) (name : List ℕ) → HaveOwnNames rows (length rows) → rows_named name rows ≤ 1
own_names_counted rows name own =
    few_counted (λ (row : Row). bytes_eq name row.name) NO_ROW rows
    (λ i j less within first second. own j i within less (sym (bytes_same name _ first) ∙ bytes_same name _ second))

-- two rows of one name are found
pub found_twice : (rows : List Row) (earlier at : ℕ) → earlier < at → at < length rows → (row_at rows earlier).name ≡ (row_at rows at).name
    → has_twice rows ≡ true
found_twice rows earlier at before within same =
    list_any_at (λ (row : Row). nat_lt 1 (rows_named row.name rows)) rows at NO_ROW within
    (lt-ltb 1 (rows_named (row_at rows at).name rows) (named_twice rows earlier at before within same))

-- and rows with names of their own are none such
pub none_twice : (rows : List Row) → HaveOwnNames rows (length rows) → has_twice rows ≡ false
none_twice rows own =
    list_any_none (λ (row : Row). nat_lt 1 (rows_named row.name rows)) rows
    (All-from_get_or (λ (row : Row). nat_lt 1 (rows_named row.name rows) ≡ false) rows NO_ROW
    (λ i within. le-ltb 1 (rows_named (row_at rows i).name rows) (own_names_counted rows (row_at rows i).name own)))
