-- A directory's blocks end with the last one that has a row.
use Rattle.std.proofs.Common.{◌≡◌, ◌≢◌, ℕ, zero, suc, ◌≤◌, true, false, cond, ◌&&◌, List, [], ◌∷◌, Option, Some, None, refl, sym, ap, ◌∙◌, arith, nat_eq}
use borrow.Author.Tests.{eqb-true}
use Rattle.std.specs.Prelude.{is_none, slice_get, slice_index_or}
use Rattle.sfs_image.specs.Slot.{Row}
use Rattle.image_laws.specs.Slots.{rows_end}
use Rattle.image_laws.specs.Laws.{BlocksEndWithRow}
use Rattle.sfs_base.proofs.BasicTruth.{and_first, and_second, false_not_true, and_false}

-- from the end of the rows on no slot has one
none_behind : (slots : List (Option Row)) (k : ℕ) → rows_end slots ≤ k → slice_index_or slots k None ≡ None
none_behind [] k le = refl
none_behind (slot ∷ slots) k le =
    elim (is_none slot && nat_eq (rows_end slots) 0) as (λ b. (is_none slot && nat_eq (rows_end slots) 0) ≡ b → cond b 0 (suc (rows_end slots)) ≤ k
    → slice_index_or (slot ∷ slots) k None ≡ None) [
      | true ↦
          λ t _. by_place k (empty slot (and_first (is_none slot) _ t))
          (λ j. none_behind slots j (let none = eqb-true _ _ (and_second (is_none slot) _ t) in omega arith))
      | false ↦ λ t h. behind k h (λ j less. none_behind slots j less)
    ] refl le
  where
    empty : (slot : Option Row) → is_none slot ≡ true → slot ≡ None
    empty None e = refl
    empty (Some row) e = absurd (cc)

    by_place : (k : ℕ) → slot ≡ None → ((j : ℕ) → slice_index_or slots j None ≡ None) → slice_index_or (slot ∷ slots) k None ≡ None
    by_place zero e rest = e
    by_place (suc j) e rest = rest j

    behind : (k : ℕ) → suc (rows_end slots) ≤ k → ((j : ℕ) → rows_end slots ≤ j → slice_index_or slots j None ≡ None) →
        slice_index_or (slot ∷ slots) k None ≡ None
    behind zero h rest = absurd (omega arith)
    behind (suc j) h rest = rest j (omega arith)

-- the slot before the end of the rows has one
record HasLast (slots : List (Option Row)) : Type 0 where
  place : ℕ
  row : Row
  is : rows_end slots ≡ suc place
  there : slice_get slots place ≡ Some (Some row)

last_of_rows : (slots : List (Option Row)) → rows_end slots ≢ 0 → HasLast slots
last_of_rows [] some = absurd (some refl)
last_of_rows (slot ∷ slots) some =
    elim (nat_eq (rows_end slots) 0) as (λ b. nat_eq (rows_end slots) 0 ≡ b → HasLast (slot ∷ slots)) [
      | true ↦ λ t. by_slot slot t some
      | false ↦ λ t. further t (last_of_rows slots (λ none. false_not_true (sym t ∙ ap (λ n. nat_eq n 0) none)))
    ] refl
  where
    by_slot : (slot : Option Row) → nat_eq (rows_end slots) 0 ≡ true → rows_end (slot ∷ slots) ≢ 0 → HasLast (slot ∷ slots)
    by_slot None t some = absurd (some (ap (λ b. cond b 0 (suc (rows_end slots))) t))
    by_slot (Some row) t some = record { place = 0; row = row; is = ap suc (eqb-true _ _ t); there = refl }

    further : nat_eq (rows_end slots) 0 ≡ false → HasLast slots → HasLast (slot ∷ slots)
    further t rest = record {
      place = suc rest.place;
      row = rest.row;
      is =
          ap (λ b. cond (is_none slot && b) 0 (suc (rows_end slots))) t ∙ ap (λ b. cond b 0 (suc (rows_end slots))) (and_false (is_none slot)) ∙ ap suc rest.is;
      there = rest.there;
    }

pub blocks_end_with_row : BlocksEndWithRow
blocks_end_with_row slots = record {
  rest = λ place le. none_behind slots place (omega arith);
  last = λ some.
      let l = last_of_rows slots (λ none. some (let a = none in omega arith)) in
      let end = l.is in
      (l.place, l.row, omega arith, omega arith, l.there);
}
