-- Slots after a net, filled up and cut: what is looked up in them, and how often a name stands there.
use Rattle.std.proofs.Common.{◌≡◌, ℕ, zero, suc, ◌+◌, ◌*◌, ◌≤◌, Bool, true, false, cond, ◌&&◌, List, [], ◌∷◌, ◌++◌, length, map, take, replicate, Option, Some, None, refl, sym, ap, ◌∙◌, arith, nat_eq}
use borrow.Author.Tests.{eqb-true}
use Rattle.std.specs.Prelude.{bytes_eq, is_none}
use Rattle.std.proofs.lemmas.List.{length-take-le, length-append, length-replicate}
use Rattle.sfs_image.specs.Slot.{Row}
use Rattle.image_laws.specs.Slots.{has_name, looked_up, name_count, rows_end, blocks_up_to_last, in_blocks, BLOCK_SLOTS}
use Rattle.image_laws.specs.Commit.{filled}
use Rattle.sfs_base.proofs.BasicOptions.{none_some}
use Rattle.image_laws.proofs.SlotRows.{count_slot, none_looked}
use Rattle.sfs_base.proofs.BasicNumbers.{from_zero_plus, from_plus_zero, none_below}

-- a name that is not found is counted nowhere
pub none_counted : (n : List ℕ) (slots : List (Option Row)) → looked_up n slots ≡ None → name_count n slots ≡ 0
none_counted n [] is = refl
none_counted n (None ∷ slots) is = let c = count_slot n None slots in let d = none_counted n slots is in omega arith
none_counted n (Some row ∷ slots) is =
    elim (bytes_eq n row.name) as (λ b. bytes_eq n row.name ≡ b → cond b (Some row) (looked_up n slots) ≡ None → name_count n (Some row ∷ slots) ≡ 0) [
      | true ↦ λ t e. absurd (none_some (sym e))
      | false ↦ λ t e. let c : name_count n (Some row ∷ slots) ≡ 0 + name_count n slots =
          count_slot n (Some row) slots ∙ ap (λ b. cond b 1 0 + name_count n slots) t in
          let d = none_counted n slots e in omega arith
    ] refl is

-- slots that are each changed or emptied, a row keeping its name
module _ (change : Option Row → Option Row) (empty : change None ≡ None) (named : (row made : Row) → change (Some row) ≡ Some made → made.name ≡ row.name) where
  -- a changed slot has a name only where the slot had it
  changed_name : (n : List ℕ) (slot o : Option Row) → change slot ≡ o → has_name n slot ≡ false → has_name n o ≡ false
  changed_name n slot None is other = refl
  changed_name n None (Some made) is other = absurd (none_some (sym empty ∙ is))
  changed_name n (Some row) (Some made) is other = ap (bytes_eq n) (named row made is) ∙ other

  pub count_changed : (n : List ℕ) (slots : List (Option Row)) → name_count n (map change slots) ≤ name_count n slots
  count_changed n [] = omega arith
  count_changed n (slot ∷ slots) =
      let rest = count_changed n slots in
      elim (has_name n slot) as (λ b. has_name n slot ≡ b → name_count n (change slot ∷ map change slots) ≤ name_count n (slot ∷ slots)) [
        | true ↦
            λ t. more (has_name n (change slot)) (count_slot n (change slot) (map change slots))
            (count_slot n slot slots ∙ ap (λ b. cond b 1 0 + name_count n slots) t) rest
        | false ↦
            λ t. same
            (count_slot n (change slot) (map change slots)
            ∙ ap (λ b. cond b 1 0 + name_count n (map change slots)) (changed_name n slot (change slot) refl t))
            (count_slot n slot slots ∙ ap (λ b. cond b 1 0 + name_count n slots) t) rest
      ] refl
    where
      more : {a b c d : ℕ} (t : Bool) → c ≡ cond t 1 0 + a → d ≡ 1 + b → a ≤ b → c ≤ d
      more true e f le = omega arith
      more false e f le = omega arith

      same : {a b c d : ℕ} → c ≡ 0 + a → d ≡ 0 + b → a ≤ b → c ≤ d
      same e f le = omega arith

  -- what is looked up is the slot that was, changed
  pub looked_changed : (n : List ℕ) (slots : List (Option Row)) → name_count n slots ≤ 1 → looked_up n (map change slots) ≡ change (looked_up n slots)
  looked_changed n [] once = sym empty
  looked_changed n (slot ∷ slots) once =
      elim (has_name n slot) as (λ b. has_name n slot ≡ b
      → cond (has_name n (change slot)) (change slot) (looked_up n (map change slots)) ≡ change (cond b slot (looked_up n slots))) [
        | false ↦
            λ t. ap (λ b. cond b (change slot) (looked_up n (map change slots))) (changed_name n slot (change slot) refl t)
            ∙ looked_changed n slots (fewer _ _ _ (count_slot n slot slots) once)
        | true ↦ λ t.
            let alone : name_count n slots ≡ 0 = none_more (count_slot n slot slots ∙ ap (λ b. cond b 1 0 + name_count n slots) t) once in
            let le = count_changed n slots in
            by_change slot (change slot) refl t (none_looked n (map change slots) (omega arith))
      ] refl
    where
      fewer : (a b c : ℕ) → a ≡ b + c → a ≤ 1 → c ≤ 1
      fewer a b c e le = omega arith

      none_more : {a c : ℕ} → a ≡ 1 + c → a ≤ 1 → c ≡ 0
      none_more e le = omega arith

      by_change : (slot o : Option Row) → change slot ≡ o → has_name n slot ≡ true → looked_up n (map change slots) ≡ None →
          cond (has_name n o) o (looked_up n (map change slots)) ≡ o
      by_change slot None is here none = none
      by_change None (Some made) is here none = absurd (none_some (sym empty ∙ is))
      by_change (Some row) (Some made) is here none = ap (λ b. cond b (Some made) (looked_up n (map change slots))) (ap (bytes_eq n) (named row made is) ∙ here)

-- further rows are counted beside what stands
pub count_filled : (n : List ℕ) (slots : List (Option Row)) (rows : List Row) →
    name_count n (filled slots rows) ≡ name_count n slots + name_count n (map Some rows)
count_filled n [] rows = from_zero_plus _
count_filled n (slot ∷ slots) [] = from_plus_zero _
count_filled n (None ∷ slots) (row ∷ rows) =
    let a = count_slot n (Some row) (filled slots rows) in
    let b = count_slot n (Some row) (map Some rows) in
    let c = count_slot n None slots in
    let d = count_filled n slots rows in
    omega arith
count_filled n (Some held ∷ slots) (row ∷ rows) =
    let a = count_slot n (Some held) (filled slots (row ∷ rows)) in
    let b = count_slot n (Some held) slots in
    let d = count_filled n slots (row ∷ rows) in
    omega arith

-- a name that no further row has is found as before
pub looked_filled_old : (n : List ℕ) (slots : List (Option Row)) (rows : List Row) → name_count n (map Some rows) ≡ 0 →
    looked_up n (filled slots rows) ≡ looked_up n slots
looked_filled_old n [] rows none = none_looked n (map Some rows) none
looked_filled_old n (slot ∷ slots) [] none = refl
looked_filled_old n (None ∷ slots) (row ∷ rows) none =
    elim (bytes_eq n row.name) as (λ b. bytes_eq n row.name ≡ b → cond b (Some row) (looked_up n (filled slots rows)) ≡ looked_up n slots) [
      | true ↦
          λ t. absurd
          (let c : name_count n (Some row ∷ map Some rows) ≡ 1 + name_count n (map Some rows) = count_slot n (Some row) (map Some rows)
          ∙ ap (λ b. cond b 1 0 + name_count n (map Some rows)) t in
          omega arith)
      | false ↦ λ t. looked_filled_old n slots rows (let c = count_slot n (Some row) (map Some rows) in omega arith)
    ] refl
looked_filled_old n (Some held ∷ slots) (row ∷ rows) none = ap (λ o. cond (bytes_eq n held.name) (Some held) o) (looked_filled_old n slots (row ∷ rows) none)

-- and a name that did not stand there as in the further rows
pub looked_filled_new : (n : List ℕ) (slots : List (Option Row)) (rows : List Row) → name_count n slots ≡ 0 →
    looked_up n (filled slots rows) ≡ looked_up n (map Some rows)
looked_filled_new n [] rows none = refl
looked_filled_new n (slot ∷ slots) [] none = none_looked n (slot ∷ slots) none
looked_filled_new n (None ∷ slots) (row ∷ rows) none =
    ap (λ o. cond (bytes_eq n row.name) (Some row) o) (looked_filled_new n slots rows (let c = count_slot n None slots in omega arith))
looked_filled_new n (Some held ∷ slots) (row ∷ rows) none =
    elim (bytes_eq n held.name) as (λ b. bytes_eq n held.name ≡ b
    → cond b (Some held) (looked_up n (filled slots (row ∷ rows))) ≡ looked_up n (Some row ∷ map Some rows)) [
      | true ↦
          λ t. absurd
          (let c : name_count n (Some held ∷ slots) ≡ 1 + name_count n slots = count_slot n (Some held) slots
          ∙ ap (λ b. cond b 1 0 + name_count n slots) t in
          omega arith)
      | false ↦ λ t. looked_filled_new n slots (row ∷ rows) (let c = count_slot n (Some held) slots in omega arith)
    ] refl

-- behind the last row there is none
rows_end_step : (slot : Option Row) (slots : List (Option Row)) (k : ℕ) → rows_end (slot ∷ slots) ≤ suc k → rows_end slots ≤ k
rows_end_step slot slots k le =
    elim (is_none slot && nat_eq (rows_end slots) 0) as (λ b. (is_none slot && nat_eq (rows_end slots) 0) ≡ b → cond b 0 (suc (rows_end slots)) ≤ suc k
    → rows_end slots ≤ k) [
      | true ↦ λ t _. let z : rows_end slots ≡ 0 = eqb-true _ _ (second (is_none slot) t) in omega arith
      | false ↦ λ t h. omega arith
    ] refl le
  where
    second : (a : Bool) {b : Bool} → (a && b) ≡ true → b ≡ true
    second true e = e
    second false e = absurd (cc)

no_rows_left : (n : List ℕ) (slots : List (Option Row)) → rows_end slots ≤ 0 → name_count n slots ≡ 0
no_rows_left n [] le = refl
no_rows_left n (Some row ∷ slots) le = absurd (none_below le)
no_rows_left n (None ∷ slots) le =
    let c = count_slot n None slots in
    let rest = no_rows_left n slots (within (rows_end slots) le) in
    omega arith
  where
    within : (k : ℕ) → cond (nat_eq k 0) 0 (suc k) ≤ 0 → k ≤ 0
    within k le =
        elim (nat_eq k 0) as (λ b. nat_eq k 0 ≡ b → cond b 0 (suc k) ≤ 0 → k ≤ 0) [
          | true ↦ λ t h. let z = eqb-true _ _ t in
              omega arith
          | false ↦ λ t h. omega arith
        ] refl le

padding : (n : List ℕ) (k m : ℕ) → name_count n (take k (replicate m None)) ≡ 0
padding n zero zero = refl
padding n zero (suc m) = refl
padding n (suc k) zero = refl
padding n (suc k) (suc m) = let c = count_slot n None (take k (replicate m None)) in let d = padding n k m in omega arith

-- slots that are cut behind the last row, or filled up with empty ones
pub count_at_length : (n : List ℕ) (k m : ℕ) (slots : List (Option Row)) → rows_end slots ≤ k
    → name_count n (take k (slots ++ replicate m None)) ≡ name_count n slots
count_at_length n k m [] le = padding n k m
count_at_length n zero m (slot ∷ slots) le = sym (no_rows_left n (slot ∷ slots) le)
count_at_length n (suc k) m (slot ∷ slots) le =
    let rest = count_at_length n k m slots (rows_end_step slot slots k le) in
    let a = count_slot n slot (take k (slots ++ replicate m None)) in
    let b = count_slot n slot slots in
    omega arith

pub looked_at_length : (n : List ℕ) (k m : ℕ) (slots : List (Option Row)) → rows_end slots ≤ k
    → looked_up n (take k (slots ++ replicate m None)) ≡ looked_up n slots
looked_at_length n k m [] le = none_looked n (take k (replicate m None)) (padding n k m)
looked_at_length n zero m (slot ∷ slots) le = sym (none_looked n (slot ∷ slots) (no_rows_left n (slot ∷ slots) le))
looked_at_length n (suc k) m (slot ∷ slots) le = ap (λ o. cond (has_name n slot) slot o) (looked_at_length n k m slots (rows_end_step slot slots k le))

enough : (slots : List (Option Row)) → rows_end slots ≤ BLOCK_SLOTS * blocks_up_to_last slots
enough slots = omega arith

pub looked_in_blocks : (n : List ℕ) (slots : List (Option Row)) → looked_up n (in_blocks slots) ≡ looked_up n slots
looked_in_blocks n slots = looked_at_length n (BLOCK_SLOTS * blocks_up_to_last slots) (BLOCK_SLOTS * blocks_up_to_last slots) slots (enough slots)

pub count_in_blocks : (n : List ℕ) (slots : List (Option Row)) → name_count n (in_blocks slots) ≡ name_count n slots
count_in_blocks n slots = count_at_length n (BLOCK_SLOTS * blocks_up_to_last slots) (BLOCK_SLOTS * blocks_up_to_last slots) slots (enough slots)

-- the slots of whole blocks
pub length_in_blocks : (slots : List (Option Row)) → length (in_blocks slots) ≡ BLOCK_SLOTS * blocks_up_to_last slots
length_in_blocks slots =
    let k = BLOCK_SLOTS * blocks_up_to_last slots in
    length-take-le (BLOCK_SLOTS * blocks_up_to_last slots) (slots ++ replicate (BLOCK_SLOTS * blocks_up_to_last slots) None)
    (let a = length-append slots (replicate (BLOCK_SLOTS * blocks_up_to_last slots) None) in
    let b = length-replicate {A = Option Row} (BLOCK_SLOTS * blocks_up_to_last slots) None in omega arith)
